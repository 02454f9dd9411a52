-- What a policy of a set costs for a billing period, in pico-dollars: a plain sum over its centres
-- and members.
use Rattle.std.specs.Prelude.{ℕ, ◌+◌, ◌*◌, ◌≤◌, List, [], ◌==◌, if◌then◌else◌}
use Rattle.std.specs.List.{sum_by, zip}
use Rattle.span_base.specs.declared.policy.Policy.{Policy}
use Rattle.span_base.specs.declared.policy.Policy.TheVariants.{Direct, Relay, Strong}
use Rattle.span_base.specs.declared.policy.Near.{Near}
use Rattle.span_base.specs.declared.policy.Hop.{Hop}
use Rattle.span_base.specs.declared.policy.Quorum.{Quorum}
use Rattle.span_base.specs.declared.dc_set.DcSet.{DcSet}
use Rattle.span_base.specs.DcSet.{centres_of}
use Rattle.span_base.specs.PolicyParts.{replicas_of}
use Rattle.workload.specs.World.{Lists, price_of, transfer_of, rule_of, members_of}
use Rattle.slo_rules.specs.Rules.{IsAllowed, is_direct_hop}
use Rattle.workload.specs.declared.rules.SetRule.{SetRule}
use Rattle.workload.specs.declared.rules.Demand.{Demand}

-- what it costs to keep a set's objects at a centre
abbrev pub stored_cost : Lists → SetRule → ℕ → ℕ
stored_cost w r dc = r.stored * (price_of w dc).store

-- what one get costs that a centre serves to a member
abbrev pub get_cost : Lists → SetRule → ℕ → ℕ → ℕ
get_cost w r dc member = (price_of w dc).get + r.object * transfer_of w dc member

-- what one put costs that reaches a centre from another
abbrev pub put_cost : Lists → SetRule → ℕ → ℕ → ℕ
put_cost w r from dc = (price_of w dc).put + r.object * transfer_of w from dc

-- what the gets of a member cost that a centre serves
abbrev pub gets_cost : Lists → SetRule → Demand → ℕ → ℕ
gets_cost w r m dc = m.gets * get_cost w r dc m.dc.0

-- what the puts of a member cost that reach a centre from another: from the member's own, or from a
-- replica that passes them on
abbrev pub puts_cost : Lists → SetRule → Demand → ℕ → ℕ → ℕ
puts_cost w r m from dc = m.puts * put_cost w r from dc

-- what the puts of a member cost at a centre of its write set, which each of them reads and writes
abbrev pub quorum_puts_cost : Lists → SetRule → Demand → ℕ → ℕ
quorum_puts_cost w r m dc = m.puts * ((price_of w dc).get + put_cost w r m.dc.0 dc)

-- what it costs to keep a set's objects at all replicas
abbrev pub storing_cost : Lists → SetRule → DcSet → ℕ
storing_cost w r replicas = sum_by (stored_cost w r) (centres_of replicas)

-- what the gets of the members cost, each at its primary
abbrev pub reading_cost : Lists → SetRule → List Demand → List Near → ℕ
reading_cost w r members primary = sum_by (λ pair. gets_cost w r pair.0 pair.1.at.0) (zip members primary)

-- what the puts of a member cost that writes to every replica itself
abbrev pub direct_cost : Lists → SetRule → DcSet → Demand → ℕ
direct_cost w r replicas m = sum_by (puts_cost w r m m.dc.0) (centres_of replicas)

-- where a hop's put comes from: the member itself, or the parent
abbrev pub source_of : Hop → ℕ
source_of hop = if is_direct_hop hop then hop.member.0 else hop.parent.0

-- what the puts of a member cost that go along a hop: nothing where it is another member's
abbrev pub hop_cost : Lists → SetRule → Demand → Hop → ℕ
hop_cost w r m hop = if hop.member.0 == m.dc.0 then puts_cost w r m (source_of hop) hop.child.0 else 0

-- what the puts of a member cost that go along its hops
abbrev pub hops_cost : Lists → SetRule → List Hop → Demand → ℕ
hops_cost w r hops m = sum_by (hop_cost w r m) hops

-- the hops that a policy lists
abbrev pub hops_of : Policy → List Hop
hops_of (Direct f replicas primary) = []
hops_of (Relay f replicas primary parent) = parent
hops_of (Strong f replicas members) = []

-- what the requests of a member cost that go to its quorums
abbrev pub quorum_cost : Lists → SetRule → Demand → Quorum → ℕ
quorum_cost w r m q =
    sum_by (gets_cost w r m) (centres_of q.read) + sum_by (quorum_puts_cost w r m) (centres_of q.write)

-- what the requests of the members cost that go to quorums
abbrev pub quorum_costs : Lists → SetRule → List Demand → List Quorum → ℕ
quorum_costs w r members quorums = sum_by (λ pair. quorum_cost w r pair.0 pair.1) (zip members quorums)

-- what the requests of a set cost under a policy
abbrev pub request_cost : Lists → SetRule → List Demand → Policy → ℕ
request_cost w r members (Direct f replicas primary) =
    reading_cost w r members primary + sum_by (direct_cost w r replicas) members
request_cost w r members (Relay f replicas primary parent) =
    reading_cost w r members primary + sum_by (hops_cost w r parent) members
request_cost w r members (Strong f replicas quorums) = quorum_costs w r members quorums

-- what a policy of a set costs: its storage and its requests
unfoldable pub policy_cost : Lists → ℕ → Policy → ℕ
policy_cost w set p =
    storing_cost w (rule_of w set) (replicas_of p) + request_cost w (rule_of w set) (members_of w set) p

-- a policy is least for a set: it is allowed, and every allowed one costs at least as much
pub record IsLeast (w : Lists) (set : ℕ) (p : Policy) : Type 0 where
  pub allowed : IsAllowed w set p
  pub least : (q : Policy) → IsAllowed w set q → policy_cost w set p ≤ policy_cost w set q

-- a set has no policy where none is allowed
abbrev pub HasNoPolicy : Lists → ℕ → Type 0
HasNoPolicy w set = (p : Policy) → ¬ (IsAllowed w set p)
