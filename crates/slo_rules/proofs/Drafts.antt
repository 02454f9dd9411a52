-- The lines of which a draft was read, and what one line more adds to it.
use Rattle.std.proofs.Common.{◌≡◌, ℕ, ◌≤◌, ◌⊎◌, Bool, true, false, if◌then◌else◌, ◌==◌, List, [], ◌∷◌, ◌++◌, length, map, Option, Some, None, Ok, Err, ap, subst, ◌∙◌}
use Rattle.std.specs.Prelude.{Result}
use Rattle.span_base.specs.declared.ids.DcId.{DcId}
use Rattle.span_base.specs.declared.dc_set.DcSet.{DcSet}
use Rattle.span_base.specs.declared.policy.Policy.{Policy}
use Rattle.span_base.specs.declared.policy.Near.{Near}
use Rattle.span_base.specs.declared.policy.Hop.{Hop}
use Rattle.span_base.specs.declared.policy.Quorum.{Quorum}
use Rattle.workload.specs.World.{Lists, rule_of, members_of}
use Rattle.workload.specs.declared.rules.Demand.{Demand}
use Rattle.workload.specs.declared.rules.Mode.{Mode}
use Rattle.workload.specs.declared.rules.Mode.TheVariants as mode
use Rattle.slo_rules.specs.PolicyText.{replicas_line, primary_line, hop_line, quorum_line}
use Rattle.slo_rules.specs.declared.policy_line.PolicyFault.{PolicyFault}
use Rattle.slo_rules.specs.declared.policy_line.PolicyFault.TheVariants.{Member, Order}
use Rattle.slo_rules.specs.declared.policy_line.PolicyLine.{PolicyLine}
use Rattle.slo_rules.specs.declared.policy_line.PolicyLine.TheVariants as line
use Rattle.slo_rules.specs.PolicyLines.{◌>>=◌}
use Rattle.slo_rules.specs.PolicyReading.{Draft, known, expected, replicas_in, primary_in, hop_in, quorum_in}
use Rattle.slo_rules.proofs.LinesSpell.{bind_ok, Spells}

-- the line of the replicas, where it was read
abbrev pub first : Lists → Option DcSet → List (List ℕ)
first w None = []
first w (Some rs) = replicas_line w rs ∷ []

-- the lines of what was read so far
abbrev pub printed : Lists → Draft → List (List ℕ)
printed w d = first w d.replicas ++ (map (primary_line w) d.primary ++ (map (hop_line w) d.hops ++ map (quorum_line w) d.quorums))

-- what a mode never reads was not read, and no hop before all primaries
abbrev pub IsSaneFor : Mode → List Demand → Draft → Type 0
IsSaneFor mode.Direct members d = (d.hops ≡ []) × (d.quorums ≡ [])
IsSaneFor mode.Relay members d = (d.quorums ≡ []) × ((d.hops ≡ []) ⊎ (length members ≤ length d.primary))
IsSaneFor mode.Strong members d = (d.primary ≡ []) × (d.hops ≡ [])

abbrev pub IsNothing : Draft → Type 0
IsNothing d = (d.primary ≡ []) × (d.hops ≡ []) × (d.quorums ≡ [])

abbrev pub IsSaneWith : Lists → Draft → Option DcSet → Type 0
IsSaneWith w d None = IsNothing d
IsSaneWith w d (Some rs) = IsSaneFor (rule_of w d.set).mode (members_of w d.set) d

pub record IsSane (w : Lists) (d : Draft) : Type 0 where
  pub sane : IsSaneWith w d d.replicas

-- a draft that one line more was read into
pub record Adds (w : Lists) (d : Draft) (text : List ℕ) (next : Draft) : Type 0 where
  pub lines : printed w next ≡ printed w d ++ text ∷ []
  pub sane : IsSane w next
  pub set : next.set ≡ d.set

-- the parts of an answer
abbrev pub draft_of : Draft → Result Draft PolicyFault → Draft
draft_of other (Ok d) = d
draft_of other (Err fault) = other

abbrev pub policy_in : Policy → Option (Policy × List (List ℕ)) → Policy
policy_in other (Some pair) = pair.0
policy_in other None = other

abbrev pub lines_in : List (List ℕ) → Option (Policy × List (List ℕ)) → List (List ℕ)
lines_in other (Some pair) = pair.1
lines_in other None = other

-- what was said of a centre
was_known : (o : Option DcId) (dc : DcId) → known o ≡ Ok dc → o ≡ Some dc
was_known (Some c) dc e = let same : c ≡ dc = cc in ap Some same
was_known None dc e = cc

was_expected : (turn : DcId) (fault : PolicyFault) (o : Option DcId) (dc : DcId) → expected turn fault o ≡ Ok dc → o ≡ Some dc
was_expected turn fault None dc e = cc
was_expected turn fault (Some c) dc e = go (c.0 == turn.0) e
  where
    go : (b : Bool) → (if b then Ok c else Err fault) ≡ Ok dc → Some c ≡ Some dc
    go true e = let same : c ≡ dc = cc in ap Some same
    go false e = cc

-- the replicas' line
pub replicas_added : (w : Lists) (text : List ℕ) (said : PolicyLine) (rs : DcSet) → Spells w text said → replicas_in said ≡ Ok rs → text ≡ replicas_line w rs
replicas_added w text (line.Replicas (Ok s)) rs spells e = let same : s ≡ rs = cc in spells ∙ ap (replicas_line w) same
replicas_added w text (line.Replicas (Err fault)) rs spells e = cc
replicas_added w text (line.Primary m a) rs spells e = cc
replicas_added w text (line.Parent m c p) rs spells e = cc
replicas_added w text (line.Quorum m r v) rs spells e = cc

pub primary_added : (w : Lists) (text : List ℕ) (turn : DcId) (said : PolicyLine) (near : Near) → Spells w text said → primary_in turn said ≡ Ok near → text ≡ primary_line w near
primary_added w text turn (line.Replicas list) near spells e = cc
primary_added w text turn (line.Parent m c p) near spells e = cc
primary_added w text turn (line.Quorum m r v) near spells e = cc
primary_added w text turn (line.Primary mo ao) near spells e =
    let x = bind_ok (expected turn Member mo) (λ member. known ao >>= (λ at. Ok (record { member = member; at = at }))) near e in
    let y = bind_ok (known ao) (λ at. Ok (record { member = x.0; at = at })) near x.2 in
    let same : record { member = x.0; at = y.0 } ≡ near = ap (near_of near) y.2 in
    let P : Option DcId → Type 0 = λ o. Spells w text (line.Primary o ao) in
    let Q : Option DcId → Type 0 = λ o. Spells w text (line.Primary (Some x.0) o) in
    subst Q (was_known ao y.0 y.1) (subst P (was_expected turn Member mo x.0 x.1) spells) ∙ ap (primary_line w) same
  where
    near_of : Near → Result Near PolicyFault → Near
    near_of other (Ok n) = n
    near_of other (Err fault) = other

pub hop_added : (w : Lists) (text : List ℕ) (turn replica : DcId) (said : PolicyLine) (hop : Hop) → Spells w text said → hop_in turn replica said ≡ Ok hop → text ≡ hop_line w hop
hop_added w text turn replica (line.Replicas list) hop spells e = cc
hop_added w text turn replica (line.Primary m a) hop spells e = cc
hop_added w text turn replica (line.Quorum m r v) hop spells e = cc
hop_added w text turn replica (line.Parent mo co po) hop spells e =
    let x = bind_ok (expected turn Member mo) (λ member. expected replica Order co >>= (λ child. known po >>= (λ parent. Ok (record { member = member; child = child; parent = parent })))) hop e in
    let y = bind_ok (expected replica Order co) (λ child. known po >>= (λ parent. Ok (record { member = x.0; child = child; parent = parent }))) hop x.2 in
    let z = bind_ok (known po) (λ parent. Ok (record { member = x.0; child = y.0; parent = parent })) hop y.2 in
    let same : record { member = x.0; child = y.0; parent = z.0 } ≡ hop = ap (hop_of hop) z.2 in
    let P : Option DcId → Type 0 = λ o. Spells w text (line.Parent o co po) in
    let Q : Option DcId → Type 0 = λ o. Spells w text (line.Parent (Some x.0) o po) in
    let R : Option DcId → Type 0 = λ o. Spells w text (line.Parent (Some x.0) (Some y.0) o) in
    subst R (was_known po z.0 z.1) (subst Q (was_expected replica Order co y.0 y.1) (subst P (was_expected turn Member mo x.0 x.1) spells)) ∙ ap (hop_line w) same
  where
    hop_of : Hop → Result Hop PolicyFault → Hop
    hop_of other (Ok h) = h
    hop_of other (Err fault) = other

pub quorum_added : (w : Lists) (text : List ℕ) (turn : DcId) (said : PolicyLine) (q : Quorum) → Spells w text said → quorum_in turn said ≡ Ok q → text ≡ quorum_line w q
quorum_added w text turn (line.Replicas list) q spells e = cc
quorum_added w text turn (line.Primary m a) q spells e = cc
quorum_added w text turn (line.Parent m c p) q spells e = cc
quorum_added w text turn (line.Quorum mo ro vo) q spells e =
    let x = bind_ok (expected turn Member mo) (λ member. ro >>= (λ read. vo >>= (λ write. Ok (record { dc = member; read = read; write = write })))) q e in
    let y = bind_ok ro (λ read. vo >>= (λ write. Ok (record { dc = x.0; read = read; write = write }))) q x.2 in
    let z = bind_ok vo (λ write. Ok (record { dc = x.0; read = y.0; write = write })) q y.2 in
    let same : record { dc = x.0; read = y.0; write = z.0 } ≡ q = ap (quorum_of q) z.2 in
    let P : Option DcId → Type 0 = λ o. Spells w text (line.Quorum o ro vo) in
    let Q : Result DcSet PolicyFault → Type 0 = λ o. Spells w text (line.Quorum (Some x.0) o vo) in
    let R : Result DcSet PolicyFault → Type 0 = λ o. Spells w text (line.Quorum (Some x.0) (Ok y.0) o) in
    subst R z.1 (subst Q y.1 (subst P (was_expected turn Member mo x.0 x.1) spells)) ∙ ap (quorum_line w) same
  where
    quorum_of : Quorum → Result Quorum PolicyFault → Quorum
    quorum_of other (Ok h) = h
    quorum_of other (Err fault) = other
