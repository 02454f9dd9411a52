-- How a member's write of an eventual key comes to each replica.
use Rattle.std.specs.Prelude.{ℕ, zero, suc, Bool, ◌&&◌, not, ◌==◌, if◌then◌else◌, find, List}
use Rattle.std.specs.List.{filter, range_with_len}
use Rattle.std.specs.Option.{option_map_or}
use Rattle.span_base.specs.declared.dc_set.DcSet.{DcSet}
use Rattle.span_base.specs.DcSet.{has, no_centre, insert}
use Rattle.span_base.specs.declared.policy.Policy.{Policy}
use Rattle.span_base.specs.declared.policy.Policy.TheVariants.{Direct, Relay, Strong}
use Rattle.span_base.specs.PolicyParts.{replicas_of}

-- the set of the centres below n that pass the test
unfoldable pub set_below : (ℕ → Bool) → ℕ → DcSet
set_below test zero = no_centre
set_below test (suc n) = if test n then insert (set_below test n) n else set_below test n

-- the set of the centres that pass the test
unfoldable pub set_of : (ℕ → Bool) → DcSet
set_of test = set_below test 16

-- where the member's write to the replica child comes from: child itself where it comes from the clients
abbrev pub parent_of : Policy → ℕ → ℕ → ℕ
parent_of (Direct f replicas primary) member child = child
parent_of (Relay f replicas primary parent) member child =
    option_map_or (λ h. h.parent.0) (find (λ h. (h.member.0 == member) && (h.child.0 == child)) parent) child
parent_of (Strong f replicas members) member child = child

-- d is a replica that the member's clients write to themselves
abbrev pub is_direct : Policy → ℕ → ℕ → Bool
is_direct policy member d = has (replicas_of policy) d && (parent_of policy member d == d)

-- the replicas below n that the member's clients write to themselves, in rising order
unfoldable pub directs_below : Policy → ℕ → ℕ → List ℕ
directs_below policy member n = filter (is_direct policy member) (range_with_len 0 n)

-- d is another replica than p, and has the member's writes from p
abbrev pub is_onward : Policy → ℕ → ℕ → ℕ → Bool
is_onward policy member p d = has (replicas_of policy) d && (parent_of policy member d == p) && not (d == p)

-- the replicas that the replica p passes the member's writes on to
abbrev pub onward_of : Policy → ℕ → ℕ → DcSet
onward_of policy member p = set_of (is_onward policy member p)
