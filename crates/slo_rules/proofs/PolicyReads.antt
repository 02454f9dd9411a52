-- The lines of an allowed policy are read back, one after another.
use Rattle.std.proofs.Common.{◌≡◌, ℕ, ◌-◌, ◌<◌, ◌≤◌, if◌then◌else◌, List, [], ◌∷◌, ◌++◌, length, map, Option, Some, None, Ok, Err, refl, sym, ap, ◌∙◌, append_assoc, append-nil, arith}
use Rattle.std.specs.Prelude.{slice_get, option_map, Result}
use Rattle.std.specs.List.{All}
use Rattle.std.proofs.lemmas.Bool.{eq-eqb}
use Rattle.std.proofs.lemmas.Option.{slice_get-map, slice_get_past}
use Rattle.std.proofs.lemmas.List.Elements.{All-head, All-tail}
use Rattle.span_base.specs.declared.ids.DcId.{DcId}
use Rattle.span_base.specs.declared.dc_set.DcSet.{DcSet}
use Rattle.span_base.specs.DcSet.{centres_of}
use Rattle.span_base.specs.declared.policy.Policy.{Policy}
use Rattle.span_base.specs.declared.policy.Near.{Near}
use Rattle.span_base.specs.declared.policy.Hop.{Hop}
use Rattle.span_base.specs.declared.policy.Quorum.{Quorum}
use Rattle.span_base.specs.Policy.{lane_of as lane}
use Rattle.workload.specs.World.{Lists, centre_count, rule_of, members_of, IsNamed}
use Rattle.workload.specs.declared.rules.Demand.{Demand}
use Rattle.workload.specs.declared.rules.Mode.TheVariants as mode
use Rattle.slo_rules.specs.Rules.{centres_asking, primary_members, quorum_members, hops_due}
use Rattle.slo_rules.specs.PolicyText.{primary_line, hop_line, quorum_line, replicas_line, IsNearWithin, IsHopWithin}
use Rattle.slo_rules.specs.declared.policy_line.PolicyFault.{PolicyFault}
use Rattle.slo_rules.specs.declared.policy_line.PolicyFault.TheVariants.{Member, Order}
use Rattle.slo_rules.specs.declared.policy_line.PolicyLine.{PolicyLine}
use Rattle.slo_rules.specs.declared.policy_line.PolicyLine.TheVariants as line
use Rattle.slo_rules.specs.declared.turn.Due.{Due}
use Rattle.slo_rules.specs.declared.turn.Due.TheVariants as due
use Rattle.slo_rules.specs.PolicyLines.{◌>>=◌, line_says}
use Rattle.slo_rules.specs.PolicyReading.{Draft, blank, or_then, due_primary, due_quorum, due_hop, due_behind, due_of, expected, filled, finished, step, policy_of}
use Rattle.slo_rules.specs.PolicyLaws.{whole_or, policy_from}
use Rattle.slo_rules.proofs.Turns.{get_behind}
use Rattle.slo_rules.proofs.FormsRead.{IsListed, replicas_reads, primary_reads, hop_reads, quorum_reads}

-- a draft behind the line of the replicas
abbrev pub draft : ℕ → DcSet → List Near → List Hop → List Quorum → Draft
draft set rs ps hs qs = record { set = set; replicas = Some rs; primary = ps; hops = hs; quorums = qs }

-- the item behind the first ones
seam : {X : Type 0} (xs ys : List X) (y : X) → slice_get (xs ++ y ∷ ys) (length xs) ≡ Some y
seam xs ys y =
    let none : length xs - length xs ≡ 0 = omega arith in
    get_behind xs (y ∷ ys) (length xs) (omega arith) ∙ ap (slice_get (y ∷ ys)) none

-- a line that is due leads on to what it says
pub line_leads : (w : Lists) (d next : Draft) (turn : Due) (text : List ℕ) (said : PolicyLine) (more : List (List ℕ))
    → due_of w d ≡ Some turn → line_says w text ≡ Ok said → filled d said (Some turn) ≡ Ok next → policy_from w d (text ∷ more) ≡ policy_from w next more
unfolding step
line_leads w d next turn text said more is says fills =
    let lacks : policy_of w d ≡ None = ap (finished w d d.replicas) is ∙ unfinished d.replicas in
    let leads : step w d text ≡ Ok next = ap (λ reading. reading >>= (λ said. filled d said (due_of w d))) says ∙ ap (filled d said) is ∙ fills in
    ap (λ o. whole_or o (text ∷ more) (elim (step w d text) [ Ok next ↦ policy_from w next more | Err fault ↦ None ])) lacks
    ∙ ap (λ (r : Result Draft PolicyFault). elim r [ Ok next ↦ policy_from w next more | Err fault ↦ None ]) leads
  where
    unfinished : (o : Option DcSet) → finished w d o (Some turn) ≡ None
    unfinished (Some rs) = refl
    unfinished None = refl

-- a whole policy is given, whatever follows
pub whole_now : (w : Lists) (d : Draft) (p : Policy) (more : List (List ℕ)) → policy_of w d ≡ Some p → policy_from w d more ≡ Some (p, more)
whole_now w d p [] is = ap (λ o. whole_or o [] None) is
whole_now w d p (text ∷ more) is = ap (λ o. whole_or o (text ∷ more) (elim (step w d text) [ Ok next ↦ policy_from w next more | Err fault ↦ None ])) is

-- the centre that is due
expects : (turn : DcId) (fault : PolicyFault) → expected turn fault (Some turn) ≡ Ok turn
expects turn fault = ap (λ b. if b then Ok turn else Err fault) (eq-eqb turn.0 turn.0 refl)

-- whose turn it is among the members
turn_of : (members : List Demand) (n : ℕ) (at : DcId) (make : DcId → Due) → option_map (λ m. m.dc.0) (slice_get members n) ≡ Some at.0 → option_map (λ m. make m.dc) (slice_get members n) ≡ Some (make at)
turn_of members n at make e = go (slice_get members n) e
  where
    go : (o : Option Demand) → option_map (λ m. m.dc.0) o ≡ Some at.0 → option_map (λ m. make m.dc) o ≡ Some (make at)
    go (Some m) e = let same : m.dc.0 ≡ at.0 = cc in λ i. Some (make (record { 0 = same i }))
    go None e = cc

-- the member of one who is listed at its place
member_at : {X : Type 0} (members : List Demand) (f : X → ℕ) (done left : List X) (x : X) → map f (done ++ x ∷ left) ≡ centres_asking members → option_map (λ m. m.dc.0) (slice_get members (length done)) ≡ Some (f x)
member_at members f done left x same =
    sym (slice_get-map (λ (m : Demand). m.dc.0) members (length done))
    ∙ ap (λ cs. slice_get cs (length done)) (sym same)
    ∙ slice_get-map f (done ++ x ∷ left) (length done)
    ∙ ap (option_map f) (seam done left x)

-- the primaries are read back, where they are due
pub primaries_read : (w : Lists) (set : ℕ) (rs : DcSet) (done left : List Near) (more : List (List ℕ)) → IsNamed w
    → ((ps : List Near) (turn : Due) → due_primary (members_of w set) (length ps) ≡ Some turn → due_of w (draft set rs ps [] []) ≡ Some turn)
    → primary_members (done ++ left) ≡ centres_asking (members_of w set) → All (IsNearWithin (centre_count w)) left
    → policy_from w (draft set rs done [] []) (map (primary_line w) left ++ more) ≡ policy_from w (draft set rs (done ++ left) [] []) more
primaries_read w set rs done [] more named due_now same low = ap (λ ps. policy_from w (draft set rs ps [] []) more) (sym (append-nil done))
primaries_read w set rs done (near ∷ left) more named due_now same low =
    let turn : due_primary (members_of w set) (length done) ≡ Some (due.Primary near.member) =
    turn_of (members_of w set) (length done) near.member due.Primary (member_at (members_of w set) (λ (near : Near). near.member.0) done left near same) in
    let fills : filled (draft set rs done [] []) (line.Primary (Some near.member) (Some near.at)) (Some (due.Primary near.member)) ≡ Ok (draft set rs (done ++ near ∷ []) [] []) =
    ap (λ (r : Result DcId PolicyFault). (r >>= (λ member. Ok (record { member = member; at = near.at }))) >>= (λ (near : Near). Ok (draft set rs (done ++ near ∷ []) [] []))) (expects near.member Member) in
    let again : (done ++ near ∷ []) ++ left ≡ done ++ near ∷ left = append_assoc done (near ∷ []) left in
    line_leads w (draft set rs done [] []) (draft set rs (done ++ near ∷ []) [] []) (due.Primary near.member) (primary_line w near) (line.Primary (Some near.member) (Some near.at)) (map (primary_line w) left ++ more)
    (due_now done (due.Primary near.member) turn) (primary_reads w near named (All-head (IsNearWithin (centre_count w)) near left low)) fills
    ∙ primaries_read w set rs (done ++ near ∷ []) left more named due_now (ap primary_members again ∙ same) (All-tail (IsNearWithin (centre_count w)) near left low)
    ∙ ap (λ ps. policy_from w (draft set rs ps [] []) more) again

-- the quorums are read back
pub quorums_read : (w : Lists) (set : ℕ) (rs : DcSet) (done left : List Quorum) (more : List (List ℕ)) → IsNamed w → (rule_of w set).mode ≡ mode.Strong
    → quorum_members (done ++ left) ≡ centres_asking (members_of w set) → All (λ q. (q.dc.0 < centre_count w) × IsListed w q.read × IsListed w q.write) left
    → policy_from w (draft set rs [] [] done) (map (quorum_line w) left ++ more) ≡ policy_from w (draft set rs [] [] (done ++ left)) more
quorums_read w set rs done [] more named is_mode same low = ap (λ qs. policy_from w (draft set rs [] [] qs) more) (sym (append-nil done))
quorums_read w set rs done (q ∷ left) more named is_mode same low =
    let In : Quorum → Type 0 = λ q. (q.dc.0 < centre_count w) × IsListed w q.read × IsListed w q.write in
    let here : In q = All-head In q left low in
    let turn : due_quorum (members_of w set) (length done) ≡ Some (due.Quorum q.dc) =
    turn_of (members_of w set) (length done) q.dc due.Quorum (member_at (members_of w set) (λ (q : Quorum). q.dc.0) done left q same) in
    let due_now : due_of w (draft set rs [] [] done) ≡ Some (due.Quorum q.dc) = ap (λ m. due_behind m (members_of w set) rs (draft set rs [] [] done)) is_mode ∙ turn in
    let fills : filled (draft set rs [] [] done) (line.Quorum (Some q.dc) (Ok q.read) (Ok q.write)) (Some (due.Quorum q.dc)) ≡ Ok (draft set rs [] [] (done ++ q ∷ [])) =
    ap (λ (r : Result DcId PolicyFault). (r >>= (λ member. Ok (record { dc = member; read = q.read; write = q.write }))) >>= (λ (q : Quorum). Ok (draft set rs [] [] (done ++ q ∷ [])))) (expects q.dc Member) in
    let again : (done ++ q ∷ []) ++ left ≡ done ++ q ∷ left = append_assoc done (q ∷ []) left in
    line_leads w (draft set rs [] [] done) (draft set rs [] [] (done ++ q ∷ [])) (due.Quorum q.dc) (quorum_line w q) (line.Quorum (Some q.dc) (Ok q.read) (Ok q.write)) (map (quorum_line w) left ++ more)
    due_now (quorum_reads w q named here.0 here.1 here.2) fills
    ∙ quorums_read w set rs (done ++ q ∷ []) left more named is_mode (ap quorum_members again ∙ same) (All-tail In q left low)
    ∙ ap (λ qs. policy_from w (draft set rs [] [] qs) more) again

-- with all primaries read, the hops are due
hop_turn : (w : Lists) (set : ℕ) (rs : DcSet) (ps : List Near) (done left : List Hop) (hop : Hop) → length (members_of w set) ≤ length ps
    → map lane (done ++ hop ∷ left) ≡ hops_due (centres_asking (members_of w set)) (centres_of rs)
    → due_behind mode.Relay (members_of w set) rs (draft set rs ps done []) ≡ Some (due.Hop hop.member hop.child)
hop_turn w set rs ps done left hop full same =
    let members = members_of w set in
    let make : ℕ × ℕ → Due = λ lane. due.Hop (record { 0 = lane.0 }) (record { 0 = lane.1 }) in
    let none : due_primary members (length ps) ≡ None = ap (option_map (λ (m : Demand). due.Primary m.dc)) (slice_get_past members (length ps) full) in
    ap (λ o. or_then o (due_hop members rs (length done))) none
    ∙ ap (λ (lanes : List (ℕ × ℕ)). option_map make (slice_get lanes (length done))) (sym same)
    ∙ ap (option_map make) (slice_get-map lane (done ++ hop ∷ left) (length done) ∙ ap (option_map lane) (seam done left hop))

-- the hops are read back
pub hops_read : (w : Lists) (set : ℕ) (rs : DcSet) (ps : List Near) (done left : List Hop) (more : List (List ℕ)) → IsNamed w → (rule_of w set).mode ≡ mode.Relay → length (members_of w set) ≤ length ps
    → map lane (done ++ left) ≡ hops_due (centres_asking (members_of w set)) (centres_of rs) → All (IsHopWithin (centre_count w)) left
    → policy_from w (draft set rs ps done []) (map (hop_line w) left ++ more) ≡ policy_from w (draft set rs ps (done ++ left) []) more
hops_read w set rs ps done [] more named is_mode full same low = ap (λ hs. policy_from w (draft set rs ps hs []) more) (sym (append-nil done))
hops_read w set rs ps done (hop ∷ left) more named is_mode full same low =
    let due_now : due_of w (draft set rs ps done []) ≡ Some (due.Hop hop.member hop.child) =
    ap (λ m. due_behind m (members_of w set) rs (draft set rs ps done [])) is_mode ∙ hop_turn w set rs ps done left hop full same in
    let fills : filled (draft set rs ps done []) (line.Parent (Some hop.member) (Some hop.child) (Some hop.parent)) (Some (due.Hop hop.member hop.child)) ≡ Ok (draft set rs ps (done ++ hop ∷ []) []) =
    ap (λ (r : Result DcId PolicyFault). (r >>= (λ member. expected hop.child Order (Some hop.child) >>= (λ child. Ok (record { member = member; child = child; parent = hop.parent })))) >>= (λ (hop : Hop). Ok (draft set rs ps (done ++ hop ∷ []) []))) (expects hop.member Member)
    ∙ ap (λ (r : Result DcId PolicyFault). (r >>= (λ child. Ok (record { member = hop.member; child = child; parent = hop.parent }))) >>= (λ (hop : Hop). Ok (draft set rs ps (done ++ hop ∷ []) []))) (expects hop.child Order) in
    let again : (done ++ hop ∷ []) ++ left ≡ done ++ hop ∷ left = append_assoc done (hop ∷ []) left in
    line_leads w (draft set rs ps done []) (draft set rs ps (done ++ hop ∷ []) []) (due.Hop hop.member hop.child) (hop_line w hop) (line.Parent (Some hop.member) (Some hop.child) (Some hop.parent)) (map (hop_line w) left ++ more)
    due_now (hop_reads w hop named (All-head (IsHopWithin (centre_count w)) hop left low)) fills
    ∙ hops_read w set rs ps (done ++ hop ∷ []) left more named is_mode full (ap (map lane) again ∙ same) (All-tail (IsHopWithin (centre_count w)) hop left low)
    ∙ ap (λ hs. policy_from w (draft set rs ps hs []) more) again

-- the line of the replicas is read back
pub replicas_read : (w : Lists) (set : ℕ) (rs : DcSet) (more : List (List ℕ)) → IsNamed w → IsListed w rs → policy_from w (blank set) (replicas_line w rs ∷ more) ≡ policy_from w (draft set rs [] [] []) more
replicas_read w set rs more named is =
    line_leads w (blank set) (draft set rs [] [] []) due.Replicas (replicas_line w rs) (line.Replicas (Ok rs)) more refl (replicas_reads w rs named is) refl
