-- The rules that a policy of a set must keep.
use Rattle.std.specs.Prelude.{◌≡◌, ℕ, ◌+◌, ◌*◌, Bool, true, false, ◌&&◌, List, [], ◌∷◌, ◌++◌, length, map, Option, Some, None, nat_le, nat_lt, nat_eq, ◌==◌, count_by, if◌then◌else◌}
use Rattle.std.specs.List.{list_all, list_any, flat_map}
use Rattle.std.specs.Cmp.Lexicographic.{pointwise}
use Rattle.span_base.specs.declared.policy.Policy.{Policy}
use Rattle.span_base.specs.declared.policy.Policy.TheVariants.{Direct, Relay, Strong}
use Rattle.span_base.specs.declared.policy.Near.{Near}
use Rattle.span_base.specs.declared.policy.Hop.{Hop}
use Rattle.span_base.specs.declared.policy.Quorum.{Quorum}
use Rattle.span_base.specs.declared.dc_set.DcSet.{DcSet}
use Rattle.span_base.specs.PolicyParts.{faults_of, replicas_of}
use Rattle.span_base.specs.DcSet.{has, centres_of, meet, join, no_centre as no_dc}
use Rattle.workload.specs.World.{Lists, centre_count, centre_of, latency_of, rule_of, members_of}
use Rattle.workload.specs.declared.rules.SetRule.{SetRule}
use Rattle.workload.specs.declared.rules.Demand.{Demand}
use Rattle.workload.specs.declared.rules.Mode.{Mode}
use Rattle.workload.specs.declared.rules.Mode.TheVariants as mode
use Rattle.slo_rules.specs.declared.rules.Rule.{Rule}
use Rattle.slo_rules.specs.declared.rules.Rule.TheVariants as rule

-- the first breach of two
abbrev pub or_else : Option Rule → Option Rule → Option Rule
or_else None second = second
or_else (Some r) second = Some r

-- a rule that is broken unless the test holds
abbrev pub unless : Bool → Rule → Option Rule
unless true r = None
unless false r = Some r

-- the first breach among the items of a list, in their order
abbrev pub first_breach : {X : Type 0} → (X → Option Rule) → List X → Option Rule
first_breach breach [] = None
first_breach breach (x ∷ xs) = or_else (breach x) (first_breach breach xs)

-- a centre is read-near to a member: the round trip is within the goal of a read
abbrev pub is_read_near : Lists → SetRule → ℕ → ℕ → Bool
is_read_near w r member dc = nat_le (latency_of w member dc) r.read_slo

-- how many round trips a write waits for: two in strong mode, else one
abbrev pub write_trips : Mode → ℕ
write_trips mode.Direct = 1
write_trips mode.Relay = 1
write_trips mode.Strong = 2

-- a centre is write-near to a member: the round trips of a write are within its goal
abbrev pub is_write_near : Lists → SetRule → ℕ → ℕ → Bool
is_write_near w r member dc = nat_le (write_trips r.mode * latency_of w member dc) r.write_slo

-- how many centres of a set pass a test
abbrev pub count_in : (ℕ → Bool) → DcSet → ℕ
count_in test set = count_by test (centres_of set)

-- a mode as a number, to compare modes by
abbrev pub code_of : Mode → ℕ
code_of mode.Direct = 1
code_of mode.Relay = 2
code_of mode.Strong = 3

-- the mode that a policy is of
abbrev pub mode_of : Policy → Mode
mode_of (Direct f replicas primary) = mode.Direct
mode_of (Relay f replicas primary parent) = mode.Relay
mode_of (Strong f replicas members) = mode.Strong

-- the policy is of the set's mode and stands its number of failures
abbrev pub has_mode : SetRule → Policy → Bool
has_mode r p = (code_of (mode_of p) == code_of r.mode) && (faults_of p == r.f)

-- every centre of a set is one of the first `n`
abbrev pub lies_below : ℕ → DcSet → Bool
lies_below n set = list_all (λ dc. nat_lt dc n) (centres_of set)

-- two lists of numbers are the same
abbrev pub same_list : List ℕ → List ℕ → Bool
same_list xs ys = pointwise nat_eq xs ys

-- the members that a set has, and that a list of primaries, of quorums names, in order
abbrev pub centres_asking : List Demand → List ℕ
centres_asking members = map (λ m. m.dc.0) members

abbrev pub primary_members : List Near → List ℕ
primary_members primary = map (λ near. near.member.0) primary

abbrev pub quorum_members : List Quorum → List ℕ
quorum_members quorums = map (λ q. q.dc.0) quorums

-- each primary is one of the first `n` centres
abbrev pub primaries_below : ℕ → List Near → Bool
primaries_below n primary = list_all (λ near. nat_lt near.at.0 n) primary

-- the hops that a relay policy must list: every replica for every member, in order
abbrev pub hops_due : List ℕ → List ℕ → List (ℕ × ℕ)
hops_due members replicas = flat_map (λ member. map (λ dc. (member, dc)) replicas) members

-- the hops that are due for a member to some replicas, and then more
abbrev pub due_from : ℕ → List ℕ → List (ℕ × ℕ) → List (ℕ × ℕ)
due_from member replicas more = map (λ dc. (member, dc)) replicas ++ more

-- the members of hops, and their children
abbrev pub hop_members : List Hop → List ℕ
hop_members hops = map (λ hop. hop.member.0) hops

abbrev pub hop_children : List Hop → List ℕ
hop_children hops = map (λ hop. hop.child.0) hops

-- the hops are those due, one for one
abbrev pub has_hops : List Hop → List (ℕ × ℕ) → Bool
has_hops hops due =
    same_list (hop_members hops) (map (λ hop. hop.0) due) && same_list (hop_children hops) (map (λ hop. hop.1) due)

-- the centres and members that a policy names are the world's and the set's, each in its order
abbrev pub has_shape : Lists → ℕ → Policy → Bool
has_shape w set (Direct f replicas primary) =
    lies_below (centre_count w) replicas
    && primaries_below (centre_count w) primary
    && same_list (primary_members primary) (centres_asking (members_of w set))
has_shape w set (Relay f replicas primary parent) =
    let due = hops_due (centres_asking (members_of w set)) (centres_of replicas) in
    lies_below (centre_count w) replicas
    && primaries_below (centre_count w) primary
    && list_all (λ hop. nat_lt hop.parent.0 (centre_count w)) parent
    && same_list (primary_members primary) (centres_asking (members_of w set))
    && has_hops parent due
has_shape w set (Strong f replicas members) =
    lies_below (centre_count w) replicas
    && list_all (λ q. lies_below (centre_count w) q.read && lies_below (centre_count w) q.write) members
    && same_list (quorum_members members) (centres_asking (members_of w set))

-- a member's primary is a replica that is read-near to it
abbrev pub breach_of_primary : Lists → SetRule → DcSet → Near → Option Rule
breach_of_primary w r replicas near =
    unless (has replicas near.at.0 && is_read_near w r near.member.0 near.at.0) (rule.Primary near.member)

-- a member has at least f + 1 read-near replicas
abbrev pub breach_of_reading : Lists → SetRule → DcSet → Demand → Option Rule
breach_of_reading w r replicas m =
    unless (nat_lt r.f (count_in (is_read_near w r m.dc.0) replicas)) (rule.ReadSlo m.dc)

-- a hop is direct where the member writes to the child itself
abbrev pub is_direct_hop : Hop → Bool
is_direct_hop hop = hop.parent.0 == hop.child.0

-- a member writes to a centre itself
abbrev pub is_direct_for : List Hop → ℕ → ℕ → Bool
is_direct_for hops member dc = list_any (λ hop. (hop.member.0 == member) && (hop.child.0 == dc) && is_direct_hop hop) hops

-- the parent of a hop is a replica to which the member writes itself
abbrev pub breach_of_hop : DcSet → List Hop → Hop → Option Rule
breach_of_hop replicas hops hop =
    unless (has replicas hop.parent.0 && is_direct_for hops hop.member.0 hop.parent.0) (rule.Parent hop.member hop.child)

-- a member has at least f + 1 replicas that are write-near and that it writes to itself
abbrev pub breach_of_writing : Lists → SetRule → DcSet → (ℕ → ℕ → Bool) → Demand → Option Rule
breach_of_writing w r replicas direct m =
    unless (nat_lt r.f (count_in (λ dc. direct m.dc.0 dc && is_write_near w r m.dc.0 dc) replicas)) (rule.WriteSlo m.dc)

-- all centres of the quorums
abbrev pub union_of : List Quorum → DcSet
union_of [] = no_dc
union_of (q ∷ quorums) = join (join q.read q.write) (union_of quorums)

-- every centre of a member's read set is read-near, of its write set write-near
abbrev pub breach_of_read_set : Lists → SetRule → Quorum → Option Rule
breach_of_read_set w r q =
    unless (list_all (is_read_near w r q.dc.0) (centres_of q.read)) (rule.ReadSlo q.dc)

abbrev pub breach_of_write_set : Lists → SetRule → Quorum → Option Rule
breach_of_write_set w r q =
    unless (list_all (is_write_near w r q.dc.0) (centres_of q.write)) (rule.WriteSlo q.dc)

-- two sets meet in at least 2f + 1 centres
abbrev pub meets : ℕ → DcSet → DcSet → Bool
meets f a b = nat_le (2 * f + 1) (length (centres_of (meet a b)))

-- a read set meets every write set
abbrev pub breach_of_meeting : ℕ → List Quorum → Quorum → Option Rule
breach_of_meeting f quorums reader =
    first_breach (λ writer. unless (meets f reader.read writer.write) (rule.Meet reader.dc writer.dc)) quorums

-- a write set meets every write set, itself included
abbrev pub breach_of_write_meeting : ℕ → List Quorum → Quorum → Option Rule
breach_of_write_meeting f quorums first =
    first_breach (λ second. unless (meets f first.write second.write) (rule.MeetWrites first.dc second.dc)) quorums

-- the first rule of its mode that a policy of that mode and shape breaks
abbrev pub breach_of_mode : Lists → ℕ → Policy → Option Rule
breach_of_mode w set (Direct f replicas primary) =
    let r = rule_of w set in
    or_else (first_breach (breach_of_primary w r replicas) primary)
    (or_else (first_breach (breach_of_reading w r replicas) (members_of w set))
    (first_breach (breach_of_writing w r replicas (λ member dc. true)) (members_of w set)))
breach_of_mode w set (Relay f replicas primary parent) =
    let r = rule_of w set in
    or_else (first_breach (breach_of_primary w r replicas) primary)
    (or_else (first_breach (breach_of_reading w r replicas) (members_of w set))
    (or_else (first_breach (breach_of_hop replicas parent) parent)
    (first_breach (breach_of_writing w r replicas (is_direct_for parent)) (members_of w set))))
breach_of_mode w set (Strong f replicas members) =
    let r = rule_of w set in
    or_else (unless (same_list (centres_of replicas) (centres_of (union_of members))) rule.Union)
    (or_else (first_breach (breach_of_read_set w r) members)
    (or_else (first_breach (breach_of_write_set w r) members)
    (or_else (first_breach (breach_of_meeting f members) members)
    (first_breach (breach_of_write_meeting f members) members))))

-- the names of providers, each once
abbrev pub add_new : List ℕ → List (List ℕ) → List (List ℕ)
add_new name names = if list_any (same_list name) names then names else name ∷ names

-- the providers with which a set of centres lies, each once
abbrev pub providers_of : Lists → List ℕ → List (List ℕ)
providers_of w [] = []
providers_of w (dc ∷ rest) = add_new (centre_of w dc).provider (providers_of w rest)

-- two centres are of one provider
abbrev pub same_provider : Lists → ℕ → ℕ → Bool
same_provider w a b = same_list (centre_of w a).provider (centre_of w b).provider

-- the replicas lie with at least as many providers as the set asks
abbrev pub breach_of_providers : Lists → ℕ → Policy → Option Rule
breach_of_providers w set p =
    unless (nat_le (rule_of w set).providers (length (providers_of w (centres_of (replicas_of p))))) rule.Providers

-- the first rule that a policy of a set breaks
unfoldable pub first_broken_rule : Lists → ℕ → Policy → Option Rule
first_broken_rule w set p =
    or_else (unless (has_mode (rule_of w set) p) rule.Mode)
    (or_else (unless (has_shape w set p) rule.Shape)
    (or_else (breach_of_mode w set p)
    (breach_of_providers w set p)))

-- a policy is of the set's mode and has its shape, so that it has a cost
abbrev pub fits_set : Lists → ℕ → Policy → Bool
fits_set w set p = has_mode (rule_of w set) p && has_shape w set p

-- a policy is allowed where it breaks no rule
abbrev pub IsAllowed : Lists → ℕ → Policy → Type 0
IsAllowed w set p = first_broken_rule w set p ≡ None
