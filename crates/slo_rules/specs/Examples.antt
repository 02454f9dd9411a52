-- Small worlds whose policies can be priced by hand.
use Rattle.std.specs.Prelude.{ℕ, ◌^◌, List, [], ◌∷◌, ◌++◌, codes, Some}
use Rattle.span_base.specs.declared.dc_set.DcSet.{DcSet}
use Rattle.span_base.specs.DcSet.{no_centre as no_dc, insert}
use Rattle.span_base.specs.declared.policy.Policy.{Policy}
use Rattle.span_base.specs.declared.policy.Policy.TheVariants as policy
use Rattle.span_base.specs.declared.policy.Near.{Near}
use Rattle.span_base.specs.declared.policy.Hop.{Hop}
use Rattle.span_base.specs.declared.policy.Quorum.{Quorum}
use Rattle.workload.specs.World.{Lists}
use Rattle.price_tables.specs.declared.prices.Centre.{Centre}
use Rattle.price_tables.specs.declared.prices.Fare.{Fare}
use Rattle.workload.specs.declared.rules.Demand.{Demand}
use Rattle.span_base.specs.declared.ids.DcId.{DcId}
use Rattle.workload.specs.declared.rules.SetRule.{SetRule}
use Rattle.workload.specs.declared.rules.Mode.TheVariants as mode
use Rattle.slo_rules.specs.PolicyReading.{Draft}

-- a centre, a fare and a member of these numbers
abbrev pub centre : List ℕ → List ℕ → ℕ → ℕ → ℕ → Centre
centre name provider store get put = record { name = name; provider = provider; price = record { store = store; get = get; put = put } }

abbrev pub fare : ℕ → ℕ → Fare
fare transfer latency = record { transfer = transfer; latency = latency }

abbrev pub member : ℕ → ℕ → ℕ → Demand
member dc gets puts = record { dc = record { 0 = dc }; gets = gets; puts = puts }

-- the sets of one, two and three centres
abbrev pub only : ℕ → DcSet
only a = insert no_dc a

abbrev pub both : ℕ → ℕ → DcSet
both a b = insert (only a) b

abbrev pub all_of : ℕ → ℕ → ℕ → DcSet
all_of a b c = insert (both a b) c

abbrev pub near : ℕ → ℕ → Near
near a at = record { member = record { 0 = a }; at = record { 0 = at } }

abbrev pub hop : ℕ → ℕ → ℕ → Hop
hop a child parent = record { member = record { 0 = a }; child = record { 0 = child }; parent = record { 0 = parent } }

-- a dear centre `x` with one member, and a cheap one `y` 20 ms away
abbrev pub two_centres : Lists
two_centres = record {
  centres = centre (codes "x") (codes "north") 10 5 7 ∷ centre (codes "y") (codes "south") 1 5 7 ∷ [];
  fares = fare 0 1 ∷ fare 3 20 ∷ fare 3 20 ∷ fare 0 1 ∷ [];
  sets = record {
    name = codes "s";
    rule = record { mode = mode.Direct; f = 0; read_slo = 30; write_slo = 30; stored = 100; object = 2; providers = 1 };
    members = member 0 10 4 ∷ [];
  } ∷ [];
}

-- one replica in a centre, and both
abbrev pub at : ℕ → Policy
at dc = policy.Direct 0 (only dc) (near 0 dc ∷ [])

abbrev pub at_both : Policy
at_both = policy.Direct 0 (both 0 1) (near 0 0 ∷ [])

-- a writer `a`, and two cheap centres, of which `b` is near and passes writes on to `c`
abbrev pub one_writer : Lists
one_writer = record {
  centres = centre (codes "a") (codes "p") 1000 0 0 ∷ centre (codes "b") (codes "p") 1 0 0 ∷ centre (codes "c") (codes "p") 1 0 0 ∷ [];
  fares = fare 0 1 ∷ fare 9 5 ∷ fare 9 50 ∷ fare 0 50 ∷ fare 0 1 ∷ fare 1 50 ∷ fare 0 50 ∷ fare 5 50 ∷ fare 0 1 ∷ [];
  sets = record {
    name = codes "s";
    rule = record { mode = mode.Relay; f = 0; read_slo = 10; write_slo = 100; stored = 1; object = 1; providers = 1 };
    members = member 0 0 10 ∷ member 1 0 0 ∷ member 2 0 0 ∷ [];
  } ∷ [];
}

abbrev pub through_b : Policy
through_b = policy.Relay 0 (both 1 2) (near 0 1 ∷ near 1 1 ∷ near 2 2 ∷ [])
    (hop 0 1 1 ∷ hop 0 2 1 ∷ hop 1 1 1 ∷ hop 1 2 2 ∷ hop 2 1 1 ∷ hop 2 2 2 ∷ [])

-- three equal centres, and a member of a strong set in one of them
abbrev pub three_equal : Lists
three_equal = record {
  centres = centre (codes "x") (codes "p") 1 2 3 ∷ centre (codes "y") (codes "p") 1 2 3 ∷ centre (codes "z") (codes "p") 1 2 3 ∷ [];
  fares = fare 0 1 ∷ fare 1 20 ∷ fare 1 20 ∷ fare 1 20 ∷ fare 0 1 ∷ fare 1 20 ∷ fare 1 20 ∷ fare 1 20 ∷ fare 0 1 ∷ [];
  sets = record {
    name = codes "s";
    rule = record { mode = mode.Strong; f = 1; read_slo = 20; write_slo = 40; stored = 10; object = 1; providers = 1 };
    members = member 0 5 2 ∷ [];
  } ∷ [];
}

abbrev pub at_all : Policy
at_all = policy.Strong 1 (all_of 0 1 2) (record { dc = record { 0 = 0 }; read = all_of 0 1 2; write = all_of 0 1 2 } ∷ [])

-- the centre of a number
abbrev pub dc : ℕ → DcId
dc n = record { 0 = n }

-- the world where the one set asks this of its policy, for these members
abbrev pub asking : SetRule → List Demand → Lists → Lists
asking r members w = record w { sets = record { name = codes "s"; rule = r; members = members } ∷ [] }

-- the two centres, where the set stands `f` failures with these goals and so many providers
abbrev pub two_centres_with : ℕ → ℕ → ℕ → ℕ → Lists
two_centres_with f read write providers =
    asking (record { mode = mode.Direct; f = f; read_slo = read; write_slo = write; stored = 100; object = 2; providers = providers }) (member 0 10 4 ∷ []) two_centres

-- the two centres, where one replica is read at another centre
abbrev pub read_elsewhere : Policy
read_elsewhere = policy.Direct 0 (only 1) (near 0 0 ∷ [])

-- both centres, where one of them may fail
abbrev pub both_for_one : Policy
both_for_one = policy.Direct 1 (both 0 1) (near 0 0 ∷ [])

-- a third centre, which the world lacks
abbrev pub at_third : Policy
at_third = policy.Direct 0 (both 0 2) (near 0 0 ∷ [])

-- the writer and the two cheap centres, where the writer writes to both itself
abbrev pub one_direct_writer : Lists
one_direct_writer =
    asking (record { mode = mode.Direct; f = 0; read_slo = 10; write_slo = 100; stored = 1; object = 1; providers = 1 }) (member 0 0 10 ∷ member 1 0 0 ∷ member 2 0 0 ∷ []) one_writer

abbrev pub written_straight : Policy
written_straight = policy.Direct 0 (both 1 2) (near 0 1 ∷ near 1 1 ∷ near 2 2 ∷ [])

-- `through_b` with other hops of the writer
abbrev pub through : List Hop → Policy
through hops = policy.Relay 0 (both 1 2) (near 0 1 ∷ near 1 1 ∷ near 2 2 ∷ [])
    (hops ++ hop 1 1 1 ∷ hop 1 2 2 ∷ hop 2 1 1 ∷ hop 2 2 2 ∷ [])

-- `through_b` with the members in another order
abbrev pub out_of_order : Policy
out_of_order = policy.Relay 0 (both 1 2) (near 1 1 ∷ near 0 1 ∷ near 2 2 ∷ [])
    (hop 0 1 1 ∷ hop 0 2 1 ∷ hop 1 1 1 ∷ hop 1 2 2 ∷ hop 2 1 1 ∷ hop 2 2 2 ∷ [])

-- the three equal centres, where the set stands `f` failures with these goals and so many providers
abbrev pub three_equal_with : ℕ → ℕ → ℕ → ℕ → List Demand → Lists
three_equal_with f read write providers members =
    asking (record { mode = mode.Strong; f = f; read_slo = read; write_slo = write; stored = 10; object = 1; providers = providers }) members three_equal

-- the quorums of a member
abbrev pub quorum : ℕ → DcSet → DcSet → Quorum
quorum a read write = record { dc = dc a; read = read; write = write }

-- one member that reads and writes these sets, with replicas at all three
abbrev pub with_quorums : DcSet → DcSet → Policy
with_quorums read write = policy.Strong 1 (all_of 0 1 2) (quorum 0 read write ∷ [])

-- two members that write to one centre each
abbrev pub written_apart : Policy
written_apart = policy.Strong 0 (both 0 1) (quorum 0 (both 0 1) (only 0) ∷ quorum 1 (both 0 1) (only 1) ∷ [])

-- every number of one centre and of its set is the largest
abbrev pub largest : Lists
largest = record {
  centres = centre (codes "x") (codes "p") (10 ^ 9) (10 ^ 9) (10 ^ 9) ∷ [];
  fares = fare (10 ^ 9) 1 ∷ [];
  sets = record {
    name = codes "s";
    rule = record { mode = mode.Direct; f = 0; read_slo = 10; write_slo = 10; stored = 10 ^ 12; object = 10 ^ 5; providers = 1 };
    members = member 0 (10 ^ 9) (10 ^ 9) ∷ [];
  } ∷ [];
}

-- drafts of these policies: behind the replicas, behind the primaries and a hop, behind the replicas
abbrev pub at_begun : Draft
at_begun = record { set = 0; replicas = Some (only 1); primary = []; hops = []; quorums = [] }

abbrev pub hops_begun : Draft
hops_begun = record { set = 0; replicas = Some (both 1 2); primary = near 0 1 ∷ near 1 1 ∷ near 2 2 ∷ []; hops = hop 0 1 1 ∷ []; quorums = [] }

abbrev pub strong_begun : Draft
strong_begun = record { set = 0; replicas = Some (all_of 0 1 2); primary = []; hops = []; quorums = [] }
