-- Programs and choices of small worlds, written out.
use Rattle.std.specs.Prelude.{ℕ, pos, ◌+◌, ◌-◌, ◌*◌, ◌%◌, ◌==◌, if◌then◌else◌, Bool, true, false, List, [], ◌∷◌, ◌++◌, map, replicate, codes}
use Rattle.std.specs.List.{flat_map, range_with_len}
use Rattle.span_base.specs.declared.policy.Policy.{Policy}
use Rattle.span_base.specs.declared.policy.Policy.TheVariants as policy
use Rattle.span_base.specs.DcSet.{insert}
use Rattle.workload.specs.World.{Lists}
use Rattle.workload.specs.declared.rules.Mode.TheVariants as mode
use Rattle.zero_one.specs.Contents.{Contents}
use Rattle.zero_one.specs.declared.rows.Entry.{Entry}
use Rattle.zero_one.specs.declared.rows.Row.{Row}
use Rattle.slo_rules.specs.Examples.{two_centres, three_equal, asking, centre, fare, member, quorum, only, both, all_of}
use Rattle.placement_rows.specs.Rows.{plus, minus}

-- a row of these entries, and one of a variable that is 1 only where another is
abbrev pub row : List Entry → ℕ → Row
row entries bound = record { entries = entries; bound = pos bound }

abbrev pub under : ℕ → ℕ → Row
under up low = row (plus up ∷ minus low ∷ []) 0

-- the program of three equal centres with one member, which all its quorums need: variables 0 to 2
-- are the replicas, 3 to 5 the read set, 6 to 8 the write set, 9 to 11 where they meet
abbrev pub three_equal_program : Contents
three_equal_program = record {
  costs = 10 ∷ 10 ∷ 10 ∷ 10 ∷ 15 ∷ 15 ∷ 10 ∷ 12 ∷ 12 ∷ 0 ∷ 0 ∷ 0 ∷ [];
  rows = row (plus 9 ∷ plus 10 ∷ plus 11 ∷ []) 3
      ∷ under 3 9 ∷ under 6 9 ∷ under 4 10 ∷ under 7 10 ∷ under 5 11 ∷ under 8 11
      ∷ row (plus 6 ∷ plus 7 ∷ plus 8 ∷ []) 3
      ∷ under 0 3 ∷ under 1 4 ∷ under 2 5
      ∷ under 0 6 ∷ under 1 7 ∷ under 2 8 ∷ [];
}

-- the two centres, 20 ms apart, with a member in each that reads at home and writes to both
abbrev pub two_members : Lists
two_members = asking (record { mode = mode.Strong; f = 0; read_slo = 10; write_slo = 40; stored = 100; object = 2; providers = 1 }) (member 0 10 4 ∷ member 1 5 2 ∷ []) two_centres

-- its program: variables 0 and 1 are the replicas, 2 to 5 the read sets, 6 to 9 the write sets, 10
-- to 17 where a read set and a write set meet, 18 and 19 where the two write sets do
abbrev pub two_members_program : Contents
two_members_program = record {
  costs = 1000 ∷ 100 ∷ 50 ∷ 110 ∷ 55 ∷ 25 ∷ 48 ∷ 72 ∷ 36 ∷ 24 ∷ replicate 10 0;
  rows = row (plus 10 ∷ []) 1 ∷ row (plus 12 ∷ []) 1 ∷ row (plus 15 ∷ []) 1 ∷ row (plus 17 ∷ []) 1
      ∷ under 2 10 ∷ under 6 10 ∷ under 3 11 ∷ under 7 11
      ∷ under 2 12 ∷ under 8 12 ∷ under 3 13 ∷ under 9 13
      ∷ under 4 14 ∷ under 6 14 ∷ under 5 15 ∷ under 7 15
      ∷ under 4 16 ∷ under 8 16 ∷ under 5 17 ∷ under 9 17
      ∷ row (plus 6 ∷ plus 7 ∷ []) 1 ∷ row (plus 8 ∷ plus 9 ∷ []) 1
      ∷ row (plus 18 ∷ plus 19 ∷ []) 1
      ∷ under 6 18 ∷ under 8 18 ∷ under 7 19 ∷ under 9 19
      ∷ under 0 2 ∷ under 1 3 ∷ under 0 4 ∷ under 1 5
      ∷ under 0 6 ∷ under 1 7 ∷ under 0 8 ∷ under 1 9 ∷ [];
}

-- its one policy, and the choice that it is
abbrev pub written_to_both : Policy
written_to_both = policy.Strong 0 (both 0 1) (quorum 0 (only 0) (both 0 1) ∷ quorum 1 (only 1) (both 0 1) ∷ [])

abbrev pub written_to_both_choice : List Bool
written_to_both_choice =
    true ∷ true ∷ true ∷ false ∷ false ∷ true ∷ true ∷ true ∷ true ∷ true
    ∷ true ∷ false ∷ true ∷ false ∷ false ∷ true ∷ false ∷ true ∷ true ∷ true ∷ []

-- the three equal centres, a dear one of another provider, and two providers asked
abbrev pub one_apart : Lists
one_apart =
    let near = fare 0 1 in let far = fare 1 20 in
    asking (record { mode = mode.Strong; f = 1; read_slo = 20; write_slo = 40; stored = 10; object = 1; providers = 2 }) (member 0 5 2 ∷ [])
    (record three_equal {
      centres = three_equal.centres ++ centre (codes "t") (codes "q") 1 100 100 ∷ [];
      fares = near ∷ far ∷ far ∷ far ∷ far ∷ near ∷ far ∷ far ∷ far ∷ far ∷ near ∷ far ∷ far ∷ far ∷ far ∷ near ∷ [];
    })

-- the rows of its providers: what keeps a replica are the quorums, variables 4 to 11, so that no
-- replica counts that is in none
abbrev pub one_apart_provider_rows : List Row
one_apart_provider_rows =
    row (plus 4 ∷ plus 5 ∷ plus 6 ∷ plus 8 ∷ plus 9 ∷ plus 10 ∷ minus 16 ∷ []) 0
    ∷ row (plus 7 ∷ plus 11 ∷ minus 17 ∷ []) 0
    ∷ row (plus 16 ∷ plus 17 ∷ []) 2 ∷ []

-- its least policy
abbrev pub written_apart_too : Policy
written_apart_too = policy.Strong 1 (insert (all_of 0 1 2) 3) (quorum 0 (all_of 0 1 2) (insert (all_of 0 1 2) 3) ∷ [])

-- a choice that keeps a replica in the dear centre, and has it in no quorum
abbrev pub idle_replica : List Bool
idle_replica =
    true ∷ true ∷ true ∷ true ∷ true ∷ true ∷ true ∷ false ∷ true ∷ true ∷ true ∷ false
    ∷ true ∷ true ∷ true ∷ false ∷ true ∷ true ∷ []

-- eight centres in a row, 10 ms apart, with three members that read and write within 40 ms
abbrev pub eight_centres : Lists
eight_centres =
    asking (record { mode = mode.Strong; f = 1; read_slo = 41; write_slo = 82; stored = 1000; object = 4; providers = 1 }) (member 1 100 10 ∷ member 3 50 30 ∷ member 5 80 20 ∷ [])
    (record {
      centres = map (λ i. centre (codes "c") (codes "p") (100 + 10 * ((3 * i) % 8)) (5 + i) (7 + i)) (range_with_len 0 8);
      fares = flat_map (λ i. map (λ j. fare (if i == j then 0 else (2 + (i + 2 * j) % 5)) (1 + 10 * ((i - j) + (j - i)))) (range_with_len 0 8)) (range_with_len 0 8);
      sets = [];
    })

-- its least policy: three centres, in every quorum
abbrev pub in_three : Policy
in_three =
    let three = all_of 1 3 4 in
    policy.Strong 1 three (quorum 1 three three ∷ quorum 3 three three ∷ quorum 5 three three ∷ [])
