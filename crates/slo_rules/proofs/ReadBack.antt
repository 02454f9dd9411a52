-- Reading what was printed of an allowed policy gives it.
use Rattle.std.proofs.Common.{◌≡◌, ℕ, ◌<◌, ◌≤◌, true, ◌&&◌, ◌==◌, List, [], ◌∷◌, ◌++◌, length, map, Option, Some, None, refl, sym, ap, ◌∙◌, append_assoc, nat_lt, arith}
use Rattle.std.specs.Prelude.{slice_get, option_map}
use Rattle.std.specs.List.{All, list_all}
use Rattle.std.specs.Cmp.Lexicographic.{same_text}
use Rattle.std.proofs.lemmas.Bool.{eqb-true, and_parts}
use Rattle.std.proofs.lemmas.Option.{slice_get_past}
use Rattle.std.proofs.lemmas.List.{length-map}
use Rattle.span_base.specs.declared.dc_set.DcSet.{DcSet}
use Rattle.span_base.specs.DcSet.{centres_of}
use Rattle.span_base.specs.declared.policy.Policy.{Policy}
use Rattle.span_base.specs.declared.policy.Policy.TheVariants.{Direct, Relay, Strong}
use Rattle.span_base.specs.declared.policy.Near.{Near}
use Rattle.span_base.specs.declared.policy.Hop.{Hop}
use Rattle.span_base.specs.declared.policy.Quorum.{Quorum}
use Rattle.span_base.specs.PolicyParts.{faults_of}
use Rattle.span_base.specs.Policy.{lane_of as lane}
use Rattle.workload.specs.World.{Lists, centre_count, rule_of, members_of, IsNamed, IsComplete}
use Rattle.workload.specs.declared.rules.Demand.{Demand}
use Rattle.workload.specs.declared.rules.SetRule.{SetRule}
use Rattle.workload.specs.declared.rules.Mode.{Mode}
use Rattle.workload.specs.declared.rules.Mode.TheVariants as mode
use Rattle.slo_rules.specs.Rules.{has_mode, has_hops, hops_due, lies_below, primaries_below, same_list, primary_members, quorum_members, centres_asking, code_of, mode_of}
use Rattle.slo_rules.specs.PolicyText.{policy_lines, primary_line, hop_line, quorum_line, replicas_line, NamesCentres, IsQuorumWithin}
use Rattle.slo_rules.specs.declared.turn.Due.{Due}
use Rattle.slo_rules.specs.declared.turn.Due.TheVariants as due
use Rattle.slo_rules.specs.PolicyReading.{Draft, blank, or_then, due_primary, due_quorum, due_hop, due_behind, due_in, finished, policy_of, policy_by}
use Rattle.slo_rules.specs.PolicyLaws.{policy_from, IsFitSet, IsPolicyOf, PrintedPoliciesAreRead}
use Rattle.slo_rules.proofs.AllowedPolicies.{Keeps, keeps, allowed_names, set_within, lanes_due}
use Rattle.slo_rules.proofs.Somewhere.{AreSome, direct_replicas, relay_replicas, strong_replicas, strong_quorums}
use Rattle.slo_rules.proofs.FormsRead.{IsListed}
use Rattle.slo_rules.proofs.PolicyReads.{draft, whole_now, primaries_read, quorums_read, hops_read, replicas_read}

same_mode : (a b : Mode) → code_of a ≡ code_of b → a ≡ b
same_mode mode.Direct mode.Direct e = refl
same_mode mode.Relay mode.Relay e = refl
same_mode mode.Strong mode.Strong e = refl
same_mode mode.Direct mode.Relay e = absurd (let f : 1 ≡ 2 = e in omega arith)
same_mode mode.Direct mode.Strong e = absurd (let f : 1 ≡ 3 = e in omega arith)
same_mode mode.Relay mode.Direct e = absurd (let f : 2 ≡ 1 = e in omega arith)
same_mode mode.Relay mode.Strong e = absurd (let f : 2 ≡ 3 = e in omega arith)
same_mode mode.Strong mode.Direct e = absurd (let f : 3 ≡ 1 = e in omega arith)
same_mode mode.Strong mode.Relay e = absurd (let f : 3 ≡ 2 = e in omega arith)

-- an allowed policy's mode and failures are its set's
record IsOfRule (r : SetRule) (p : Policy) : Type 0 where
  mode : r.mode ≡ mode_of p
  failures : r.f ≡ faults_of p

of_rule : (r : SetRule) (p : Policy) → has_mode r p ≡ true → IsOfRule r p
of_rule r p h =
    let parts = and_parts (code_of (mode_of p) == code_of r.mode) (faults_of p == r.f) h in
    record { mode = sym (same_mode (mode_of p) r.mode (eqb-true (code_of (mode_of p)) (code_of r.mode) parts.0)); failures = sym (eqb-true (faults_of p) r.f parts.1) }

-- a draft whose every line is read is the policy
whole : (w : Lists) (d : Draft) (rs : DcSet) (m : Mode) (f : ℕ) → d.replicas ≡ Some rs → (rule_of w d.set).mode ≡ m → (rule_of w d.set).f ≡ f → due_behind m (members_of w d.set) rs d ≡ None → policy_of w d ≡ Some (policy_by m f rs d)
whole w d rs m f has is fails none =
    ap (λ (o : Option DcSet). finished w d o (due_in w d o)) has
    ∙ ap (finished w d (Some rs)) (ap (λ m. due_behind m (members_of w d.set) rs d) is ∙ none)
    ∙ (λ i. Some (policy_by (is i) (fails i) rs d))

no_more_members : (members : List Demand) (n : ℕ) (make : Demand → Due) → length members ≤ n → option_map make (slice_get members n) ≡ None
no_more_members members n make past = ap (option_map make) (slice_get_past members n past)

-- as many as the members
as_many : {X : Type 0} (members : List Demand) (f : X → ℕ) (xs : List X) → map f xs ≡ centres_asking members → length members ≤ length xs
as_many members f xs same = omega (arith, length-map xs f, length-map members (λ (m : Demand). m.dc.0), ap length same)

shape_members : (xs : List ℕ) (members : List Demand) → same_list xs (centres_asking members) ≡ true → xs ≡ centres_asking members
shape_members xs members h = same_text xs (centres_asking members) (sym h)

direct_back : (w : Lists) (set : ℕ) (f : ℕ) (rs : DcSet) (ps : List Near) (more : List (List ℕ)) → IsComplete w → IsNamed w → IsPolicyOf w set (Direct f rs ps) → policy_from w (blank set) (policy_lines w (Direct f rs ps) ++ more) ≡ Some (Direct f rs ps, more)
direct_back w set f rs ps more complete named is =
    let p = Direct f rs ps in
    let k : Keeps w set p = keeps w set p is.allowed in
    let names : NamesCentres w p = allowed_names w set p complete is.there is.allowed in
    let of : IsOfRule (rule_of w set) p = of_rule (rule_of w set) p k.mode in
    let shape = and_parts (lies_below (centre_count w) rs && primaries_below (centre_count w) ps) (same_list (primary_members ps) (centres_asking (members_of w set))) k.shape in
    let same : primary_members ps ≡ centres_asking (members_of w set) = shape_members (primary_members ps) (members_of w set) shape.1 in
    let listed : IsListed w rs = record { bits = is.sets; some = direct_replicas w set f rs ps ((set_within w set complete is.there).some_member) k.rules; below = names.0 } in
    let none : due_primary (members_of w set) (length ps) ≡ None = no_more_members (members_of w set) (length ps) (λ m. due.Primary m.dc) (as_many (members_of w set) (λ (near : Near). near.member.0) ps same) in
    replicas_read w set rs (map (primary_line w) ps ++ more) named listed
    ∙ primaries_read w set rs [] ps more named (λ qs turn e. ap (λ m. due_behind m (members_of w set) rs (draft set rs qs [] [])) of.mode ∙ e) same names.1
    ∙ whole_now w (draft set rs ps [] []) p more (whole w (draft set rs ps [] []) rs mode.Direct f refl of.mode of.failures none)

relay_back : (w : Lists) (set : ℕ) (f : ℕ) (rs : DcSet) (ps : List Near) (hs : List Hop) (more : List (List ℕ)) → IsComplete w → IsNamed w → IsPolicyOf w set (Relay f rs ps hs) → policy_from w (blank set) (policy_lines w (Relay f rs ps hs) ++ more) ≡ Some (Relay f rs ps hs, more)
relay_back w set f rs ps hs more complete named is =
    let p = Relay f rs ps hs in
    let n = centre_count w in
    let members = members_of w set in
    let hops_due_here : List (ℕ × ℕ) = hops_due (centres_asking members) (centres_of rs) in
    let k : Keeps w set p = keeps w set p is.allowed in
    let names : NamesCentres w p = allowed_names w set p complete is.there is.allowed in
    let of : IsOfRule (rule_of w set) p = of_rule (rule_of w set) p k.mode in
    let a = and_parts (lies_below n rs && primaries_below n ps && list_all (λ (hop : Hop). nat_lt hop.parent.0 n) hs && same_list (primary_members ps) (centres_asking members)) (has_hops hs hops_due_here) k.shape in
    let b = and_parts (lies_below n rs && primaries_below n ps && list_all (λ (hop : Hop). nat_lt hop.parent.0 n) hs) (same_list (primary_members ps) (centres_asking members)) a.0 in
    let same : primary_members ps ≡ centres_asking members = shape_members (primary_members ps) members b.1 in
    let lanes : map lane hs ≡ hops_due_here = lanes_due hs hops_due_here a.1 in
    let full : length members ≤ length ps = as_many members (λ (near : Near). near.member.0) ps same in
    let listed : IsListed w rs = record { bits = is.sets; some = relay_replicas w set f rs ps hs ((set_within w set complete is.there).some_member) k.rules; below = names.0 } in
    let no_primary : due_primary members (length ps) ≡ None = no_more_members members (length ps) (λ m. due.Primary m.dc) full in
    let all_hops : length hops_due_here ≤ length hs = omega (arith, ap (length {A = ℕ × ℕ}) lanes, length-map {B = ℕ × ℕ} hs lane) in
    let no_hop : due_hop members rs (length hs) ≡ None = ap (option_map (λ (lane : ℕ × ℕ). due.Hop (record { 0 = lane.0 }) (record { 0 = lane.1 }))) (slice_get_past hops_due_here (length hs) all_hops) in
    let none : due_behind mode.Relay members rs (draft set rs ps hs []) ≡ None = ap (λ o. or_then o (due_hop members rs (length hs))) no_primary ∙ no_hop in
    ap (λ lines. policy_from w (blank set) (replicas_line w rs ∷ lines)) (append_assoc (map (primary_line w) ps) (map (hop_line w) hs) more)
    ∙ replicas_read w set rs (map (primary_line w) ps ++ (map (hop_line w) hs ++ more)) named listed
    ∙ primaries_read w set rs [] ps (map (hop_line w) hs ++ more) named
    (λ qs turn e. ap (λ m. due_behind m members rs (draft set rs qs [] [])) of.mode ∙ ap (λ o. or_then o (due_hop members rs 0)) e) same names.1
    ∙ hops_read w set rs ps [] hs more named of.mode full lanes names.2
    ∙ whole_now w (draft set rs ps hs []) p more (whole w (draft set rs ps hs []) rs mode.Relay f refl of.mode of.failures none)

-- the quorums of an allowed policy can be spelled
all_listed : (w : Lists) (qs : List Quorum) → All (λ q. IsFitSet q.read × IsFitSet q.write) qs → All AreSome qs → All (IsQuorumWithin (centre_count w)) qs → All (λ q. (q.dc.0 < centre_count w) × IsListed w q.read × IsListed w q.write) qs
all_listed w qs fit some low = λ k d inside.
    let f = fit k d inside in
    let s = some k d inside in
    let l = low k d inside in
    (l.dc, record { bits = f.0; some = s.read; below = l.read }, record { bits = f.1; some = s.write; below = l.write })

strong_back : (w : Lists) (set : ℕ) (f : ℕ) (rs : DcSet) (qs : List Quorum) (more : List (List ℕ)) → IsComplete w → IsNamed w → IsPolicyOf w set (Strong f rs qs) → policy_from w (blank set) (policy_lines w (Strong f rs qs) ++ more) ≡ Some (Strong f rs qs, more)
strong_back w set f rs qs more complete named is =
    let p = Strong f rs qs in
    let n = centre_count w in
    let members = members_of w set in
    let k : Keeps w set p = keeps w set p is.allowed in
    let names : NamesCentres w p = allowed_names w set p complete is.there is.allowed in
    let of : IsOfRule (rule_of w set) p = of_rule (rule_of w set) p k.mode in
    let shape = and_parts (lies_below n rs && list_all (λ (q : Quorum). lies_below n q.read && lies_below n q.write) qs) (same_list (quorum_members qs) (centres_asking members)) k.shape in
    let same : quorum_members qs ≡ centres_asking members = shape_members (quorum_members qs) members shape.1 in
    let full : length members ≤ length qs = as_many members (λ (q : Quorum). q.dc.0) qs same in
    let some : 1 ≤ length qs = let h = (set_within w set complete is.there).some_member in omega arith in
    let listed : IsListed w rs = record { bits = is.sets.0; some = strong_replicas w set f rs qs some k.rules; below = names.0 } in
    let quorums = all_listed w qs is.sets.1 (strong_quorums w set f rs qs k.rules) names.1 in
    let none : due_quorum members (length qs) ≡ None = no_more_members members (length qs) (λ m. due.Quorum m.dc) full in
    replicas_read w set rs (map (quorum_line w) qs ++ more) named listed
    ∙ quorums_read w set rs [] qs more named of.mode same quorums
    ∙ whole_now w (draft set rs [] [] qs) p more (whole w (draft set rs [] [] qs) rs mode.Strong f refl of.mode of.failures none)

pub reads_back : PrintedPoliciesAreRead
reads_back w complete named set (Direct f rs ps) is more = direct_back w set f rs ps more complete named is
reads_back w complete named set (Relay f rs ps hs) is more = relay_back w set f rs ps hs more complete named is
reads_back w complete named set (Strong f rs qs) is more = strong_back w set f rs qs more complete named is
