-- What the rules say of a strong policy, part by part.
use Rattle.std.proofs.Common.{◌≡◌, ℕ, zero, suc, ◌+◌, ◌*◌, ◌<◌, ◌≤◌, Bool, true, false, ◌&&◌, ◌==◌, nat_le, List, [], ◌∷◌, length, get_or, Option, Some, None, refl, sym, ap, ◌∙◌, arith}
use Rattle.std.specs.List.{list_all}
use Rattle.std.specs.Cmp.Lexicographic.{same_text}
use Rattle.std.proofs.lemmas.Bool.{eq-eqb, eqb-true, le-leb, leb-true, and_parts, and_from}
use Rattle.std.proofs.lemmas.List.{get_or-map, get_or_default, length-map}
use Rattle.std.proofs.lemmas.List.Sums.{AllPass-from_list_all, list_all-from_AllPass}
use Rattle.span_base.specs.declared.dc_set.DcSet.{DcSet}
use Rattle.span_base.specs.DcSet.{has, centres_of, meet}
use Rattle.span_base.specs.PolicyParts.{faults_of}
use Rattle.span_base.specs.declared.policy.Policy.{Policy}
use Rattle.span_base.specs.declared.policy.Policy.TheVariants.{Strong}
use Rattle.span_base.specs.declared.policy.Quorum.{Quorum}
use Rattle.workload.specs.World.{Lists, centre_count, rule_of, members_of}
use Rattle.workload.specs.declared.rules.Demand.{Demand}
use Rattle.workload.specs.declared.rules.Mode.TheVariants as mode
use Rattle.slo_rules.specs.declared.rules.Rule.{Rule}
use Rattle.slo_rules.specs.declared.rules.Rule.TheVariants as rule
use Rattle.slo_rules.specs.Rules.{or_else, unless, first_breach, is_read_near, is_write_near, has_mode, has_shape, lies_below, same_list, centres_asking, quorum_members, union_of, breach_of_read_set, breach_of_write_set, meets, breach_of_meeting, breach_of_write_meeting, breach_of_mode, breach_of_providers, providers_of, first_broken_rule, IsAllowed, code_of, mode_of}
use Rattle.placement_rows.specs.Centres.{nobody}
use Rattle.placement_rows.proofs.ProviderCounts.{same_list-refl}
use Rattle.placement_strong.specs.Variables.{member_count, member_at}
use Rattle.placement_strong.specs.Placed.{quorum_at, no_quorum}
use Rattle.placement_strong.proofs.SetTests.{all_pass, all_pass-from, below_all, below_from}

-- the quorums of a member: its own, in the world, near, and meeting those of each member
pub record IsServed (w : Lists) (set : ℕ) (quorums : List Quorum) (a : ℕ) : Type 0 where
  pub named : (quorum_at quorums a).dc.0 ≡ (member_at w set a).dc.0
  pub read_low : (d : ℕ) → has (quorum_at quorums a).read d ≡ true → d < centre_count w
  pub write_low : (d : ℕ) → has (quorum_at quorums a).write d ≡ true → d < centre_count w
  pub read_near : (d : ℕ) → has (quorum_at quorums a).read d ≡ true → is_read_near w (rule_of w set) (member_at w set a).dc.0 d ≡ true
  pub write_near : (d : ℕ) → has (quorum_at quorums a).write d ≡ true → is_write_near w (rule_of w set) (member_at w set a).dc.0 d ≡ true
  pub meets : (b : ℕ) → b < member_count w set → 2 * (rule_of w set).f + 1 ≤ length (centres_of (meet (quorum_at quorums a).read (quorum_at quorums b).write))
  pub writes_meet : (b : ℕ) → b < member_count w set → 2 * (rule_of w set).f + 1 ≤ length (centres_of (meet (quorum_at quorums a).write (quorum_at quorums b).write))

-- what an allowed strong policy is
pub record IsStrong (w : Lists) (set : ℕ) (f : ℕ) (replicas : DcSet) (quorums : List Quorum) : Type 0 where
  pub failures : f ≡ (rule_of w set).f
  pub many : length quorums ≡ member_count w set
  pub served : (a : ℕ) → a < member_count w set → IsServed w set quorums a
  pub union : centres_of replicas ≡ centres_of (union_of quorums)
  pub lies : lies_below (centre_count w) replicas ≡ true
  pub apart : (rule_of w set).providers ≤ length (providers_of w (centres_of replicas))

or_else-none : (a b : Option Rule) → or_else a b ≡ None → (a ≡ None) × (b ≡ None)
or_else-none None b e = (refl, e)
or_else-none (Some r) b e = cc

or_else-both : (a b : Option Rule) → a ≡ None → b ≡ None → or_else a b ≡ None
or_else-both None b e f = f
or_else-both (Some r) b e f = cc

unless-none : (t : Bool) (r : Rule) → unless t r ≡ None → t ≡ true
unless-none true r e = refl
unless-none false r e = cc

unless-true : (t : Bool) (r : Rule) → t ≡ true → unless t r ≡ None
unless-true t r e = ap (λ b. unless b r) e

-- no item is in breach where none of the list is
breach_at : {X : Type 0} (b : X → Option Rule) (d : X) (xs : List X) → first_breach b xs ≡ None → (i : ℕ) → i < length xs → b (get_or xs i d) ≡ None
breach_at b d [] e i low = absurd (omega arith)
breach_at b d (x ∷ xs) e zero low = (or_else-none (b x) (first_breach b xs) e).0
breach_at b d (x ∷ xs) e (suc i) low = breach_at b d xs (or_else-none (b x) (first_breach b xs) e).1 i (omega arith)

no_breach : {X : Type 0} (b : X → Option Rule) (d : X) (xs : List X) → ((i : ℕ) → i < length xs → b (get_or xs i d) ≡ None) → first_breach b xs ≡ None
no_breach b d [] each = refl
no_breach b d (x ∷ xs) each = or_else-both (b x) (first_breach b xs) (each 0 (omega arith)) (no_breach b d xs (λ i low. each (suc i) (omega arith)))

module _ (w : Lists) (set : ℕ) (f : ℕ) (replicas : DcSet) (quorums : List Quorum) where
  members_are : same_list (quorum_members quorums) (centres_asking (members_of w set)) ≡ true → (length quorums ≡ member_count w set) × ((a : ℕ) → a < member_count w set → (quorum_at quorums a).dc.0 ≡ (member_at w set a).dc.0)
  members_are same =
      let lists : quorum_members quorums ≡ centres_asking (members_of w set) = same_text (quorum_members quorums) (centres_asking (members_of w set)) (sym same) in
      let q_dc : Quorum → ℕ = λ q. q.dc.0 in
      let m_dc : Demand → ℕ = λ m. m.dc.0 in
      let many : length quorums ≡ member_count w set = omega (arith, ap length lists, length-map quorums q_dc, length-map (members_of w set) m_dc) in
      (many, λ a low. sym (get_or-map q_dc quorums a no_quorum 0 (omega (arith, many))) ∙ ap (λ ds. get_or ds a 0) lists ∙ get_or-map m_dc (members_of w set) a nobody 0 low)

  members_from : length quorums ≡ member_count w set → ((a : ℕ) → a < member_count w set → (quorum_at quorums a).dc.0 ≡ (member_at w set a).dc.0) → same_list (quorum_members quorums) (centres_asking (members_of w set)) ≡ true
  members_from many named =
      ap (λ ds. same_list ds (centres_asking (members_of w set))) (names quorums (members_of w set) many named) ∙ same_list-refl (centres_asking (members_of w set))
    where
      names : (qs : List Quorum) (ms : List Demand) → length qs ≡ length ms → ((a : ℕ) → a < length ms → (get_or qs a no_quorum).dc.0 ≡ (get_or ms a nobody).dc.0) → quorum_members qs ≡ centres_asking ms
      names [] [] long each = refl
      names [] (m ∷ ms) long each = absurd (omega arith)
      names (q ∷ qs) [] long each = absurd (omega arith)
      names (q ∷ qs) (m ∷ ms) long each = ap (λ d. d ∷ quorum_members qs) (each 0 (omega arith)) ∙ ap (λ ds. m.dc.0 ∷ ds) (names qs ms (omega arith) (λ a low. each (suc a) (omega arith)))

  pub from_allowed : IsAllowed w set (Strong f replicas quorums) → IsStrong w set f replicas quorums
  unfolding first_broken_rule
  from_allowed allowed =
      let r = rule_of w set in
      let n = centre_count w in
      let p = Strong f replicas quorums in
      let in_world : Quorum → Bool = λ q. lies_below n q.read && lies_below n q.write in
      let a = or_else-none (unless (has_mode r p) rule.Mode) (or_else (unless (has_shape w set p) rule.Shape) (or_else (breach_of_mode w set p) (breach_of_providers w set p))) allowed in
      let b = or_else-none (unless (has_shape w set p) rule.Shape) (or_else (breach_of_mode w set p) (breach_of_providers w set p)) a.1 in
      let c = or_else-none (breach_of_mode w set p) (breach_of_providers w set p) b.1 in
      let m = and_parts (code_of (mode_of p) == code_of r.mode) (f == r.f) (unless-none (has_mode r p) rule.Mode a.0) in
      let failures : f ≡ r.f = eqb-true f r.f m.1 in
      let s = and_parts (lies_below n replicas && list_all in_world quorums) (same_list (quorum_members quorums) (centres_asking (members_of w set))) (unless-none (has_shape w set p) rule.Shape b.0) in
      let t = and_parts (lies_below n replicas) (list_all in_world quorums) s.0 in
      let members = members_are s.1 in
      let union = unless (same_list (centres_of replicas) (centres_of (union_of quorums))) rule.Union in
      let reads = first_breach (breach_of_read_set w r) quorums in
      let writes = first_breach (breach_of_write_set w r) quorums in
      let meetings = first_breach (breach_of_meeting f quorums) quorums in
      let write_meetings = first_breach (breach_of_write_meeting f quorums) quorums in
      let u = or_else-none union (or_else reads (or_else writes (or_else meetings write_meetings))) c.0 in
      let v = or_else-none reads (or_else writes (or_else meetings write_meetings)) u.1 in
      let x = or_else-none writes (or_else meetings write_meetings) v.1 in
      let y = or_else-none meetings write_meetings x.1 in
      record {
        failures = failures;
        many = members.0;
        served = λ a low.
            let q = quorum_at quorums a in
            let in' : a < length quorums = omega (arith, members.0) in
            let named = members.1 a low in
            let world = and_parts (lies_below n q.read) (lies_below n q.write) (AllPass-from_list_all in_world quorums t.1 a no_quorum in') in
            let read = unless-none (list_all (is_read_near w r q.dc.0) (centres_of q.read)) (rule.ReadSlo q.dc) (breach_at (breach_of_read_set w r) no_quorum quorums v.0 a in') in
            let write = unless-none (list_all (is_write_near w r q.dc.0) (centres_of q.write)) (rule.WriteSlo q.dc) (breach_at (breach_of_write_set w r) no_quorum quorums x.0 a in') in
            record {
              named = named;
              read_low = below_all n q.read world.0;
              write_low = below_all n q.write world.1;
              read_near = λ d is. ap (λ e. is_read_near w r e d) (sym named) ∙ all_pass (is_read_near w r q.dc.0) q.read read d is;
              write_near = λ d is. ap (λ e. is_write_near w r e d) (sym named) ∙ all_pass (is_write_near w r q.dc.0) q.write write d is;
              meets = λ b low'.
                  let o = quorum_at quorums b in
                  let breach = breach_at (λ (o : Quorum). unless (meets f q.read o.write) (rule.Meet q.dc o.dc)) no_quorum quorums (breach_at (breach_of_meeting f quorums) no_quorum quorums y.0 a in') b (omega (arith, members.0)) in
                  omega (arith, failures, leb-true (2 * f + 1) (length (centres_of (meet q.read o.write))) (unless-none (meets f q.read o.write) (rule.Meet q.dc o.dc) breach));
              writes_meet = λ b low'.
                  let o = quorum_at quorums b in
                  let breach = breach_at (λ (o : Quorum). unless (meets f q.write o.write) (rule.MeetWrites q.dc o.dc)) no_quorum quorums (breach_at (breach_of_write_meeting f quorums) no_quorum quorums y.1 a in') b (omega (arith, members.0)) in
                  omega (arith, failures, leb-true (2 * f + 1) (length (centres_of (meet q.write o.write))) (unless-none (meets f q.write o.write) (rule.MeetWrites q.dc o.dc) breach));
            };
        union = same_text (centres_of replicas) (centres_of (union_of quorums)) (sym (unless-none (same_list (centres_of replicas) (centres_of (union_of quorums))) rule.Union u.0));
        lies = t.0;
        apart = leb-true r.providers (length (providers_of w (centres_of replicas))) (unless-none (nat_le r.providers (length (providers_of w (centres_of replicas)))) rule.Providers c.1);
      }

  pub to_allowed : (rule_of w set).mode ≡ mode.Strong → IsStrong w set f replicas quorums → IsAllowed w set (Strong f replicas quorums)
  unfolding first_broken_rule
  to_allowed is strong =
      let r = rule_of w set in
      let n = centre_count w in
      let p = Strong f replicas quorums in
      let in_world : Quorum → Bool = λ q. lies_below n q.read && lies_below n q.write in
      let same_mode : (code_of (mode_of p) == code_of r.mode) ≡ true = eq-eqb 3 (code_of r.mode) (ap code_of (sym is)) in
      let at : (a : ℕ) → a < length quorums → IsServed w set quorums a = λ a low. strong.served a (omega (arith, strong.many)) in
      let union = unless (same_list (centres_of replicas) (centres_of (union_of quorums))) rule.Union in
      let reads = first_breach (breach_of_read_set w r) quorums in
      let writes = first_breach (breach_of_write_set w r) quorums in
      let meetings = first_breach (breach_of_meeting f quorums) quorums in
      let write_meetings = first_breach (breach_of_write_meeting f quorums) quorums in
      or_else-both (unless (has_mode r p) rule.Mode) (or_else (unless (has_shape w set p) rule.Shape) (or_else (breach_of_mode w set p) (breach_of_providers w set p)))
      (unless-true (has_mode r p) rule.Mode (and_from (code_of (mode_of p) == code_of r.mode) (f == r.f) same_mode (eq-eqb f r.f strong.failures)))
      (or_else-both (unless (has_shape w set p) rule.Shape) (or_else (breach_of_mode w set p) (breach_of_providers w set p))
      (unless-true (has_shape w set p) rule.Shape
      (and_from (lies_below n replicas && list_all in_world quorums) (same_list (quorum_members quorums) (centres_asking (members_of w set)))
      (and_from (lies_below n replicas) (list_all in_world quorums) strong.lies
      (list_all-from_AllPass in_world quorums (each_in_world in_world (λ a low. and_from (lies_below n (quorum_at quorums a).read) (lies_below n (quorum_at quorums a).write) (below_from n (quorum_at quorums a).read (at a low).read_low) (below_from n (quorum_at quorums a).write (at a low).write_low)))))
      (members_from strong.many (λ a low. (strong.served a low).named))))
      (or_else-both (breach_of_mode w set p) (breach_of_providers w set p)
      (or_else-both union (or_else reads (or_else writes (or_else meetings write_meetings)))
      (unless-true (same_list (centres_of replicas) (centres_of (union_of quorums))) rule.Union (ap (λ ds. same_list ds (centres_of (union_of quorums))) strong.union ∙ same_list-refl (centres_of (union_of quorums))))
      (or_else-both reads (or_else writes (or_else meetings write_meetings))
      (no_breach (breach_of_read_set w r) no_quorum quorums (λ a low.
      let q = quorum_at quorums a in
      unless-true (list_all (is_read_near w r q.dc.0) (centres_of q.read)) (rule.ReadSlo q.dc) (all_pass-from (is_read_near w r q.dc.0) q.read (λ d is. ap (λ e. is_read_near w r e d) (at a low).named ∙ (at a low).read_near d is))))
      (or_else-both writes (or_else meetings write_meetings)
      (no_breach (breach_of_write_set w r) no_quorum quorums (λ a low.
      let q = quorum_at quorums a in
      unless-true (list_all (is_write_near w r q.dc.0) (centres_of q.write)) (rule.WriteSlo q.dc) (all_pass-from (is_write_near w r q.dc.0) q.write (λ d is. ap (λ e. is_write_near w r e d) (at a low).named ∙ (at a low).write_near d is))))
      (or_else-both meetings write_meetings
      (no_breach (breach_of_meeting f quorums) no_quorum quorums (λ a low.
      let q = quorum_at quorums a in
      no_breach (λ (o : Quorum). unless (meets f q.read o.write) (rule.Meet q.dc o.dc)) no_quorum quorums (λ b low'.
      let o = quorum_at quorums b in
      unless-true (meets f q.read o.write) (rule.Meet q.dc o.dc) (le-leb (2 * f + 1) (length (centres_of (meet q.read o.write))) (omega (arith, strong.failures, (at a low).meets b (omega (arith, strong.many))))))))
      (no_breach (breach_of_write_meeting f quorums) no_quorum quorums (λ a low.
      let q = quorum_at quorums a in
      no_breach (λ (o : Quorum). unless (meets f q.write o.write) (rule.MeetWrites q.dc o.dc)) no_quorum quorums (λ b low'.
      let o = quorum_at quorums b in
      unless-true (meets f q.write o.write) (rule.MeetWrites q.dc o.dc) (le-leb (2 * f + 1) (length (centres_of (meet q.write o.write))) (omega (arith, strong.failures, (at a low).writes_meet b (omega (arith, strong.many))))))))))))
      (unless-true (nat_le r.providers (length (providers_of w (centres_of replicas)))) rule.Providers
      (le-leb r.providers (length (providers_of w (centres_of replicas))) strong.apart))))
    where
      each_in_world : (test : Quorum → Bool) → ((a : ℕ) → a < length quorums → test (quorum_at quorums a) ≡ true) → (k : ℕ) (d : Quorum) → k < length quorums → test (get_or quorums k d) ≡ true
      each_in_world test each k d low = ap test (get_or_default quorums k d no_quorum low) ∙ each k low

-- an allowed policy is of the set's mode
pub same_mode : (w : Lists) (set : ℕ) (q : Policy) → IsAllowed w set q → code_of (mode_of q) ≡ code_of (rule_of w set).mode
unfolding first_broken_rule
same_mode w set q allowed =
    let a = or_else-none (unless (has_mode (rule_of w set) q) rule.Mode) (or_else (unless (has_shape w set q) rule.Shape) (or_else (breach_of_mode w set q) (breach_of_providers w set q))) allowed in
    let m = and_parts (code_of (mode_of q) == code_of (rule_of w set).mode) (faults_of q == (rule_of w set).f) (unless-none (has_mode (rule_of w set) q) rule.Mode a.0) in
    eqb-true (code_of (mode_of q)) (code_of (rule_of w set).mode) m.0
