-- Policies as choices of a set's program, and back.
use Rattle.std.specs.Prelude.{ℕ, Bool, ◌&&◌, List, [], ◌++◌, map, ◌==◌, if◌then◌else◌, Option, Some, None}
use Rattle.std.specs.List.{flat_map, filter, find, fold, list_any}
use Rattle.span_base.specs.declared.dc_set.DcSet.{DcSet}
use Rattle.span_base.specs.DcSet.{has, insert, centres_of, no_centre as no_dc}
use Rattle.span_base.specs.PolicyParts.{replicas_of}
use Rattle.span_base.specs.declared.policy.Policy.{Policy}
use Rattle.span_base.specs.declared.policy.Policy.TheVariants.{Direct, Relay, Strong}
use Rattle.span_base.specs.declared.policy.Near.{Near}
use Rattle.span_base.specs.declared.policy.Hop.{Hop}
use Rattle.workload.specs.World.{Lists, rule_of, members_of}
use Rattle.workload.specs.declared.rules.Demand.{Demand}
use Rattle.workload.specs.declared.rules.Mode.{Mode}
use Rattle.workload.specs.declared.rules.Mode.TheVariants as mode
use Rattle.zero_one.specs.Rows.{bit_of}
use Rattle.placement_rows.specs.Centres.{centres, numbered_members, read_near}
use Rattle.placement_rows.specs.Providers.{provider_bits}
use Rattle.placement_relay.specs.Reading.{h}
use Rattle.placement_relay.specs.Relay.{q}

-- where replicas are kept, and where each member reads
abbrev pub reading_bits : Lists → DcSet → List Near → List Bool
reading_bits w replicas primary =
    map (has replicas) (centres w) ++ flat_map (λ near. map (λ d. near.at.0 == d) (centres w)) primary

-- one of the hops is the member's to a centre from another
abbrev pub has_hop : List Hop → ℕ → ℕ → ℕ → Bool
has_hop hops member p d = list_any (λ hop. hop.member.0 == member && hop.child.0 == d && hop.parent.0 == p) hops

-- how the writes of a member come to the replicas
abbrev pub member_hop_bits : Lists → List Hop → ℕ → List Bool
member_hop_bits w hops member = flat_map (λ p. map (has_hop hops member p) (centres w)) (centres w)

-- how the writes of each member come to the replicas
abbrev pub hop_bits : Lists → ℕ → List Hop → List Bool
hop_bits w set hops = flat_map (λ m. member_hop_bits w hops m.dc.0) (members_of w set)

-- the bits of the mode's own variables: a policy's replicas, its primaries and its hops
abbrev pub mode_bits : Lists → ℕ → Policy → List Bool
mode_bits w set (Direct f replicas primary) = reading_bits w replicas primary
mode_bits w set (Relay f replicas primary parent) = reading_bits w replicas primary ++ hop_bits w set parent
mode_bits w set (Strong f replicas members) = []

-- the choice that a policy is: the bits of the mode's variables, then those of the providers
unfoldable pub placed : Lists → ℕ → Policy → List Bool
placed w set policy = mode_bits w set policy ++ provider_bits w set (centres_of (replicas_of policy))

-- the replicas that a choice keeps
abbrev pub chosen_replicas : Lists → List Bool → DcSet
chosen_replicas w x = fold insert no_dc (filter (bit_of x) (centres w))

-- a centre, or the first one where there is none
abbrev pub or_first : Option ℕ → ℕ
or_first None = 0
or_first (Some d) = d

-- the least of a member's read-near centres at which it reads by the choice
abbrev pub chosen_primary : Lists → ℕ → List Bool → ℕ × Demand → Near
chosen_primary w set x (a, m) =
    record { member = m.dc; at = record { 0 = or_first (find (λ d. bit_of x (h w a d)) (read_near w set m)) } }

abbrev pub chosen_primaries : Lists → ℕ → List Bool → List Near
chosen_primaries w set x = map (chosen_primary w set x) (numbered_members w set)

-- from where a member's writes come to a replica by the choice: from itself, or from the least
-- centre that passes them on
abbrev pub chosen_parent : Lists → ℕ → List Bool → ℕ → ℕ → ℕ
chosen_parent w set x a d =
    if bit_of x (q w set a d d) then d else or_first (find (λ p. bit_of x (q w set a p d)) (centres w))

abbrev pub chosen_hop : Lists → ℕ → List Bool → ℕ × Demand → ℕ → Hop
chosen_hop w set x (a, m) d =
    record { member = m.dc; child = record { 0 = d }; parent = record { 0 = chosen_parent w set x a d } }

abbrev pub chosen_hops : Lists → ℕ → List Bool → List Hop
chosen_hops w set x =
    flat_map (λ am. map (chosen_hop w set x am) (filter (bit_of x) (centres w))) (numbered_members w set)

-- the policy of a mode that a choice is
abbrev pub decoded_by : Mode → Lists → ℕ → List Bool → Policy
decoded_by mode.Direct w set x = Direct (rule_of w set).f (chosen_replicas w x) (chosen_primaries w set x)
decoded_by mode.Relay w set x = Relay (rule_of w set).f (chosen_replicas w x) (chosen_primaries w set x) (chosen_hops w set x)
decoded_by mode.Strong w set x = Strong (rule_of w set).f (chosen_replicas w x) []

-- the policy that a choice is
unfoldable pub decoded : Lists → ℕ → List Bool → Policy
decoded w set x = decoded_by (rule_of w set).mode w set x
