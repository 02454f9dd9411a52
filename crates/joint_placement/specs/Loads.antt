-- What the policy of a set loads on a centre, in units of so many requests.
use Rattle.std.specs.Prelude.{ℕ, ◌+◌, ◌-◌, ◌*◌, ◌/◌, ◌==◌, if◌then◌else◌, List, sum_by, zip}
use Rattle.span_base.specs.declared.dc_set.DcSet.{DcSet}
use Rattle.span_base.specs.DcSet.{has}
use Rattle.span_base.specs.declared.policy.Policy.{Policy}
use Rattle.span_base.specs.declared.policy.Policy.TheVariants.{Direct, Relay, Strong}
use Rattle.span_base.specs.declared.policy.Near.{Near}
use Rattle.span_base.specs.declared.policy.Quorum.{Quorum}
use Rattle.workload.specs.World.{Lists, members_of}
use Rattle.workload.specs.declared.rules.Demand.{Demand}

-- how many units so many requests make: a started unit counts as one
abbrev pub units : ℕ → ℕ → ℕ
units unit requests = (requests + (unit - 1)) / unit

-- the gets of a member load its primary, and its puts each replica
abbrev pub get_load : ℕ → ℕ → Demand → Near → ℕ
get_load unit d m near = if near.at.0 == d then units unit m.gets else 0

abbrev pub put_load : ℕ → ℕ → DcSet → Demand → ℕ
put_load unit d replicas m = if has replicas d then units unit m.puts else 0

-- its gets load each centre of its read set, and its puts each of its write set twice, which they
-- read and write
abbrev pub quorum_load : ℕ → ℕ → Demand → Quorum → ℕ
quorum_load unit d m q = (if has q.read d then units unit m.gets else 0) + (if has q.write d then 2 * units unit m.puts else 0)

-- what a direct or relay policy loads on a centre
abbrev pub eventual_load : ℕ → ℕ → List Demand → DcSet → List Near → ℕ
eventual_load unit d members replicas primary =
    sum_by (λ pair. get_load unit d pair.0 pair.1) (zip members primary) + sum_by (put_load unit d replicas) members

-- what the policy of a set loads on a centre
abbrev pub policy_load : Lists → ℕ → ℕ → ℕ → Policy → ℕ
policy_load w unit d set (Direct f replicas primary) = eventual_load unit d (members_of w set) replicas primary
policy_load w unit d set (Relay f replicas primary parent) = eventual_load unit d (members_of w set) replicas primary
policy_load w unit d set (Strong f replicas quorums) = sum_by (λ pair. quorum_load unit d pair.0 pair.1) (zip (members_of w set) quorums)
