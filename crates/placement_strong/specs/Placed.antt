-- Policies as choices of a strong set's program, and back.
use Rattle.std.specs.Prelude.{ℕ, Bool, ◌&&◌, List, [], ◌++◌, length, map, slice_index_or}
use Rattle.std.specs.List.{flat_map, filter}
use Rattle.span_base.specs.declared.dc_set.DcSet.{DcSet}
use Rattle.span_base.specs.DcSet.{has, meet, centres_of, no_centre as no_dc}
use Rattle.span_base.specs.declared.policy.Policy.{Policy}
use Rattle.span_base.specs.declared.policy.Policy.TheVariants.{Direct, Relay, Strong}
use Rattle.span_base.specs.declared.policy.Quorum.{Quorum}
use Rattle.workload.specs.World.{Lists, rule_of}
use Rattle.zero_one.specs.Rows.{bit_of}
use Rattle.slo_rules.specs.Rules.{is_read_near, is_write_near, union_of}
use Rattle.placement_rows.specs.Centres.{centres, set_of_centres}
use Rattle.placement_rows.specs.Providers.{provider_bits}
use Rattle.placement_strong.specs.Variables.{members, member_at, pairs, g_var, w_var}

-- what a place past the last quorum stands for
abbrev pub no_quorum : Quorum
no_quorum = record { dc = record { 0 = 0 }; read = no_dc; write = no_dc }

-- the quorums of the member of a number
abbrev pub quorum_at : List Quorum → ℕ → Quorum
quorum_at quorums a = slice_index_or quorums a no_quorum

-- whether each centre is in a set
abbrev pub set_bits : Lists → DcSet → List Bool
set_bits w s = map (has s) (centres w)

-- in which centres two of the write sets meet
abbrev pub write_meeting_bits : Lists → List Quorum → ℕ × ℕ → List Bool
write_meeting_bits w quorums (a, b) = set_bits w (meet (quorum_at quorums a).write (quorum_at quorums b).write)

-- the replicas, the read sets, the write sets, and in which centres read and write sets meet, and
-- two write sets
abbrev pub strong_bits : Lists → DcSet → List Quorum → List Bool
strong_bits w replicas quorums =
    (((set_bits w replicas
    ++ flat_map (λ q. set_bits w q.read) quorums)
    ++ flat_map (λ q. set_bits w q.write) quorums)
    ++ flat_map (λ q. flat_map (λ p. set_bits w (meet q.read p.write)) quorums) quorums)
    ++ flat_map (write_meeting_bits w quorums) (pairs (length quorums))

-- the choice that a policy is: its sets, and its providers
unfoldable pub placed : Lists → ℕ → Policy → List Bool
placed w set (Direct f replicas primary) = []
placed w set (Relay f replicas primary parent) = []
placed w set (Strong f replicas quorums) = strong_bits w replicas quorums ++ provider_bits w set (centres_of replicas)

-- the quorums of a member by a choice: what of its sets is near enough
abbrev pub chosen_read : Lists → ℕ → List Bool → ℕ → DcSet
chosen_read w set x a =
    set_of_centres (filter (λ d. is_read_near w (rule_of w set) (member_at w set a).dc.0 d && bit_of x (g_var w a d)) (centres w))

abbrev pub chosen_write : Lists → ℕ → List Bool → ℕ → DcSet
chosen_write w set x a =
    set_of_centres (filter (λ d. is_write_near w (rule_of w set) (member_at w set a).dc.0 d && bit_of x (w_var w set a d)) (centres w))

abbrev pub chosen_quorum : Lists → ℕ → List Bool → ℕ → Quorum
chosen_quorum w set x a = record { dc = (member_at w set a).dc; read = chosen_read w set x a; write = chosen_write w set x a }

abbrev pub chosen_quorums : Lists → ℕ → List Bool → List Quorum
chosen_quorums w set x = map (chosen_quorum w set x) (members w set)

-- the policy that a choice is: the quorums, and a replica in each of their centres
unfoldable pub decoded : Lists → ℕ → List Bool → Policy
decoded w set x = Strong (rule_of w set).f (union_of (chosen_quorums w set x)) (chosen_quorums w set x)
