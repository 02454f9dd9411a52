-- How the lines of a policy are read, one after another.
use Rattle.std.specs.Prelude.{◌≡◌, ℕ, ◌==◌, if◌then◌else◌, List, [], ◌∷◌, ◌++◌, length, option_map, Option, Some, None, Result, Ok, Err, slice_get}
use Rattle.span_base.specs.declared.ids.DcId.{DcId}
use Rattle.span_base.specs.declared.dc_set.DcSet.{DcSet}
use Rattle.span_base.specs.DcSet.{centres_of}
use Rattle.span_base.specs.declared.policy.Policy.{Policy}
use Rattle.span_base.specs.declared.policy.Policy.TheVariants as policy
use Rattle.span_base.specs.declared.policy.Near.{Near}
use Rattle.span_base.specs.declared.policy.Hop.{Hop}
use Rattle.span_base.specs.declared.policy.Quorum.{Quorum}
use Rattle.workload.specs.World.{Lists, rule_of, members_of}
use Rattle.workload.specs.declared.rules.Demand.{Demand}
use Rattle.workload.specs.declared.rules.Mode.{Mode}
use Rattle.workload.specs.declared.rules.Mode.TheVariants as mode
use Rattle.slo_rules.specs.Rules.{centres_asking, hops_due}
use Rattle.slo_rules.specs.PolicyLines.{◌>>=◌, line_says}
use Rattle.slo_rules.specs.declared.policy_line.PolicyFault.{PolicyFault}
use Rattle.slo_rules.specs.declared.policy_line.PolicyFault.TheVariants.{Kind, Unknown, Member, Order}
use Rattle.slo_rules.specs.declared.policy_line.PolicyLine.{PolicyLine}
use Rattle.slo_rules.specs.declared.policy_line.PolicyLine.TheVariants as line
use Rattle.slo_rules.specs.declared.turn.Due.{Due}
use Rattle.slo_rules.specs.declared.turn.Due.TheVariants as due
use Rattle.slo_rules.specs.declared.policy_reader.Next.{Next}
use Rattle.slo_rules.specs.declared.policy_reader.Next.TheVariants.{More, Done}

-- what the lines so far say of the policy of a set
pub record Draft : Type 0 where
  pub set : ℕ
  pub replicas : Option DcSet
  pub primary : List Near
  pub hops : List Hop
  pub quorums : List Quorum

-- no line read
abbrev pub blank : ℕ → Draft
blank set = record { set = set; replicas = None; primary = []; hops = []; quorums = [] }

-- the first of two, where there is one
abbrev pub or_then : Option Due → Option Due → Option Due
or_then None second = second
or_then (Some first) second = Some first

-- the line of the member whose primary, whose quorums come next
abbrev pub due_primary : List Demand → ℕ → Option Due
due_primary members count = option_map (λ m. due.Primary m.dc) (slice_get members count)

abbrev pub due_quorum : List Demand → ℕ → Option Due
due_quorum members count = option_map (λ m. due.Quorum m.dc) (slice_get members count)

-- the line of the hop that comes next: each member's in turn, one for every replica
abbrev pub due_hop : List Demand → DcSet → ℕ → Option Due
due_hop members replicas count =
    option_map (λ lane. due.Hop (record { 0 = lane.0 }) (record { 0 = lane.1 }))
    (slice_get (hops_due (centres_asking members) (centres_of replicas)) count)

-- the line that comes next behind that of the replicas
abbrev pub due_behind : Mode → List Demand → DcSet → Draft → Option Due
due_behind mode.Direct members replicas d = due_primary members (length d.primary)
due_behind mode.Relay members replicas d = or_then (due_primary members (length d.primary)) (due_hop members replicas (length d.hops))
due_behind mode.Strong members replicas d = due_quorum members (length d.quorums)

-- the line that comes next; none where the policy is whole
abbrev pub due_in : Lists → Draft → Option DcSet → Option Due
due_in w d None = Some due.Replicas
due_in w d (Some replicas) = due_behind (rule_of w d.set).mode (members_of w d.set) replicas d

abbrev pub due_of : Lists → Draft → Option Due
due_of w d = due_in w d d.replicas

-- a centre that the world has
abbrev pub known : Option DcId → Result DcId PolicyFault
known None = Err Unknown
known (Some dc) = Ok dc

-- the centre that is due
abbrev pub expected : DcId → PolicyFault → Option DcId → Result DcId PolicyFault
expected turn fault None = Err Unknown
expected turn fault (Some dc) = if dc.0 == turn.0 then Ok dc else Err fault

-- what a line says where one of the replicas is due, a member's primary, a hop, a member's quorums
abbrev pub replicas_in : PolicyLine → Result DcSet PolicyFault
replicas_in (line.Replicas list) = list
replicas_in _ = Err Kind

abbrev pub primary_in : DcId → PolicyLine → Result Near PolicyFault
primary_in turn (line.Primary member at) = do
  member ← expected turn Member member
  at ← known at
  Ok (record { member = member; at = at })
primary_in turn _ = Err Kind

abbrev pub hop_in : DcId → DcId → PolicyLine → Result Hop PolicyFault
hop_in turn replica (line.Parent member child parent) = do
  member ← expected turn Member member
  child ← expected replica Order child
  parent ← known parent
  Ok (record { member = member; child = child; parent = parent })
hop_in turn replica _ = Err Kind

abbrev pub quorum_in : DcId → PolicyLine → Result Quorum PolicyFault
quorum_in turn (line.Quorum member read write) = do
  member ← expected turn Member member
  read ← read
  write ← write
  Ok (record { dc = member; read = read; write = write })
quorum_in turn _ = Err Kind

-- a draft with what a line says, by the line that is due
abbrev pub filled : Draft → PolicyLine → Option Due → Result Draft PolicyFault
filled d said None = Err Kind
filled d said (Some due.Replicas) = do
  replicas ← replicas_in said
  Ok (record d { replicas = Some replicas })
filled d said (Some (due.Primary turn)) = do
  near ← primary_in turn said
  Ok (record d { primary = d.primary ++ near ∷ [] })
filled d said (Some (due.Hop turn replica)) = do
  hop ← hop_in turn replica said
  Ok (record d { hops = d.hops ++ hop ∷ [] })
filled d said (Some (due.Quorum turn)) = do
  quorum ← quorum_in turn said
  Ok (record d { quorums = d.quorums ++ quorum ∷ [] })

-- what filling in answers; after a fault the draft is as it was
abbrev pub FillsIn : Draft → Draft → Result (Unit {0}) PolicyFault → Result Draft PolicyFault → Type 0
FillsIn new old (Ok u) filling = filling ≡ Ok new
FillsIn new old (Err fault) filling = (filling ≡ Err fault) × (new ≡ old)

-- the draft after one more line, or the line's first fault: its form, then what it says from left to right
unfoldable pub step : Lists → Draft → List ℕ → Result Draft PolicyFault
step w d text = do
  said ← line_says w text
  filled d said (due_of w d)

-- whether more lines are due
abbrev pub next_of : Option Due → Next
next_of None = Done
next_of (Some due) = More

-- what taking a line answers; after a fault the draft is as it was
abbrev pub TakesLine : Lists → Draft → List ℕ → Draft → Result Next PolicyFault → Type 0
TakesLine w old text new (Ok next) = (step w old text ≡ Ok new) × (next ≡ next_of (due_of w new))
TakesLine w old text new (Err fault) = (step w old text ≡ Err fault) × (new ≡ old)

-- the policy of a mode, which stands so many failures
abbrev pub policy_by : Mode → ℕ → DcSet → Draft → Policy
policy_by mode.Direct f replicas d = policy.Direct f replicas d.primary
policy_by mode.Relay f replicas d = policy.Relay f replicas d.primary d.hops
policy_by mode.Strong f replicas d = policy.Strong f replicas d.quorums

-- the policy of a draft, where no line is due any more
abbrev pub finished : Lists → Draft → Option DcSet → Option Due → Option Policy
finished w d None due = None
finished w d (Some replicas) None = Some (policy_by (rule_of w d.set).mode (rule_of w d.set).f replicas d)
finished w d (Some replicas) (Some due) = None

abbrev pub policy_of : Lists → Draft → Option Policy
policy_of w d = finished w d d.replicas (due_of w d)
