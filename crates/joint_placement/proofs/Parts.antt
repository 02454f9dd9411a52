-- A choice of the joint program, set by set and centre by centre: its value, its loads, and when it
-- meets the program.
use Rattle.std.proofs.Common.{◌≡◌, ℕ, ◌+◌, ◌*◌, ◌^◌, ◌<◌, ◌≤◌, Bool, cond, List, [], ◌++◌, length, take, drop, map, refl, sym, ap, subst, ◌∙◌, arith}
use Rattle.std.specs.List.{sum_by, flat_map, range_with_len, AllByRecursion}
use Rattle.std.proofs.lemmas.List.{append-nil, drop-drop, length-append, length-take-le, length-drop}
use Rattle.std.proofs.lemmas.List.FromFn.{length-map-range_with_len}
use Rattle.std.proofs.lemmas.List.Elements.{All-from_recursion, recursion_from_All}
use Rattle.zero_one.specs.Rows.{bit_of, Meets}
use Rattle.zero_one.specs.Program.{IsFeasible, value_of}
use Rattle.workload.specs.World.{Lists, IsComplete, IsNamed, centre_count}
use Rattle.placement.specs.Placement.{IsSet, program_of}
use Rattle.placement_rows.specs.Centres.{centres}
use Rattle.placement_rows.proofs.Each.{each-append, each-split, each-map, each-map_back, each-range, each-range_at}
use Rattle.placement_rows.proofs.Sums.{sum_by-agree, sum_by-range_agree}
use Rattle.placement_rows.proofs.Values.{value-append, value-block}
use Rattle.machine_text.specs.declared.machines.Machine.{Machine}
use Rattle.machine_text.specs.Machines.{Fleet, machine_of}
use Rattle.joint_placement.specs.JointPlans.{sets}
use Rattle.joint_placement.specs.Variables.{variables_of, first_of, first_digit, places, digit_costs, joint_costs}
use Rattle.joint_placement.specs.Capacity.{set_loads, joint_loads, capacity_row}
use Rattle.joint_placement.specs.Programs.{set_rows, joint_rows, joint_program}
use Rattle.joint_placement.specs.Placed.{part_of, number_at}
use Rattle.joint_placement.proofs.Stacks.{start, length-stack, value-stack, each-stack, each-stack_back, start-le}
use Rattle.joint_placement.proofs.Moved.{value-take, each-moved, each-moved_back}
use Rattle.joint_placement.proofs.Borne.{borne, borne-joint, each-machine, row-met, row-bears}
use Rattle.joint_placement.proofs.KnownRows.{known_rows}
use Rattle.joint_placement.proofs.KnownLoads.{borne-take, known_loads}

-- the costs of a set's own variables, and of a centre's digits
abbrev pub set_costs : Lists → ℕ → List ℕ
set_costs w set = (program_of w set).costs

abbrev pub machine_costs : Fleet → ℕ → List ℕ
machine_costs fleet d = digit_costs (machine_of fleet d)

-- the variables of a set begin behind those of the sets before it
pub first-start : (w : Lists) (set : ℕ) → first_of w set ≡ start (set_costs w) set
unfolding first_of variables_of
first-start w set = refl

pub variables-are : (w : Lists) (set : ℕ) → variables_of w set ≡ length (set_costs w set)
unfolding variables_of
variables-are w set = refl

pub digits-start : (w : Lists) (fleet : Fleet) (d : ℕ) → first_digit w fleet d ≡ first_of w (length w.sets) + start (machine_costs fleet) d
unfolding first_digit
digits-start w fleet d =
    ap (λ n. first_of w (length w.sets) + n)
    (sum_by-agree (λ e. (machine_of fleet e).digits) (λ e. length (machine_costs fleet e)) (λ e. sym (length-map-range_with_len (λ j. 2 ^ j * (machine_of fleet e).price) 0 (machine_of fleet e).digits)) (range_with_len 0 d))

pub part-is : (w : Lists) (x : List Bool) (set : ℕ) → part_of w x set ≡ take (length (set_costs w set)) (drop (first_of w set) x)
unfolding part_of variables_of
part-is w x set = refl

part-take : (w : Lists) (x : List Bool) (set : ℕ) → take (variables_of w set) (drop (first_of w set) x) ≡ part_of w x set
unfolding part_of
part-take w x set = refl

-- how many variables there are
pub all-variables : (w : Lists) (fleet : Fleet) → length (joint_costs w fleet) ≡ first_of w (length w.sets) + start (machine_costs fleet) (centre_count w)
unfolding joint_costs
all-variables w fleet =
    length-append (flat_map (set_costs w) (sets w)) (flat_map (machine_costs fleet) (centres w))
    ∙ ap (λ n. n + length (flat_map (machine_costs fleet) (centres w))) (length-stack (set_costs w) (length w.sets) ∙ sym (first-start w (length w.sets)))
    ∙ ap (λ n. first_of w (length w.sets) + n) (length-stack (machine_costs fleet) (centre_count w))

-- the value of digits from a variable on: so much for each machine
digits-value : (machine : Machine) (o : ℕ) (x : List Bool) → value_of (digit_costs machine) (drop o x) ≡ number_at x o machine * machine.price
unfolding number_at
digits-value machine o x =
    let cost : ℕ → ℕ = λ j. 2 ^ j * machine.price in
    let from : o ≡ o + 0 = omega arith in
    let block = value-block cost [] x o 0 machine.digits in
    let nothing : value_of [] (drop (o + (0 + machine.digits)) x) ≡ 0 = refl in
    ap (λ k. value_of (digit_costs machine) (drop k x)) from
    ∙ ap (λ cs. value_of cs (drop (o + 0) x)) (sym (append-nil (digit_costs machine)))
    ∙ block
    ∙ (let e : sum_by (λ j. cond (bit_of x (o + j)) (cost j) 0) (places machine) + value_of [] (drop (o + (0 + machine.digits)) x) ≡ sum_by (λ j. cond (bit_of x (o + j)) (cost j) 0) (places machine) = omega (arith, nothing) in e)
    ∙ each-machine o machine.price (places machine) x

module _ (w : Lists) (fleet : Fleet) (x : List Bool) where
  -- the value of a choice: that of each set's part, and so much for each machine
  pub joint-value : value_of (joint_program w fleet).costs x
      ≡ sum_by (λ set. value_of (set_costs w set) (part_of w x set)) (sets w) + sum_by (λ d. number_at x (first_digit w fleet d) (machine_of fleet d) * (machine_of fleet d).price) (centres w)
  unfolding joint_program joint_costs
  joint-value =
      let mine = flat_map (set_costs w) (sets w) in
      let theirs = flat_map (machine_costs fleet) (centres w) in
      let many : length mine ≡ first_of w (length w.sets) = length-stack (set_costs w) (length w.sets) ∙ sym (first-start w (length w.sets)) in
      let rest = drop (first_of w (length w.sets)) x in
      value-append mine theirs x
      ∙ ap (λ k. value_of mine x + value_of theirs (drop k x)) many
      ∙ ap (λ v. v + value_of theirs rest)
      (value-stack (set_costs w) x (length w.sets)
      ∙ sum_by-agree (λ set. value_of (set_costs w set) (drop (start (set_costs w) set) x)) (λ set. value_of (set_costs w set) (part_of w x set))
      (λ set. ap (λ k. value_of (set_costs w set) (drop k x)) (sym (first-start w set)) ∙ sym (value-take (set_costs w set) (drop (first_of w set) x)) ∙ ap (value_of (set_costs w set)) (sym (part-is w x set)))
      (sets w))
      ∙ ap (λ v. sum_by (λ set. value_of (set_costs w set) (part_of w x set)) (sets w) + v)
      (value-stack (machine_costs fleet) rest (centre_count w)
      ∙ sum_by-agree (λ d. value_of (machine_costs fleet d) (drop (start (machine_costs fleet) d) rest)) (λ d. number_at x (first_digit w fleet d) (machine_of fleet d) * (machine_of fleet d).price)
      (λ d. ap (value_of (machine_costs fleet d)) (drop-drop (start (machine_costs fleet) d) (first_of w (length w.sets)) x ∙ ap (λ k. drop k x) (sym (digits-start w fleet d)))
      ∙ digits-value (machine_of fleet d) (first_digit w fleet d) x)
      (centres w))

  module _ (complete : IsComplete w) (named : IsNamed w) where
    pub a-set : (set : ℕ) → set < length w.sets → IsSet w set
    a-set set low = record { complete = complete; named = named; there = low }

    -- what the choice loads: what each set's part does
    pub joint-borne : (unit d : ℕ) → d < centre_count w → borne (joint_loads w unit d) x ≡ sum_by (λ set. borne (set_loads w unit d set) (part_of w x set)) (sets w)
    joint-borne unit d low =
        borne-joint w unit d x
        ∙ sum_by-range_agree (λ set. borne (set_loads w unit d set) (drop (first_of w set) x)) (λ set. borne (set_loads w unit d set) (part_of w x set)) 0 (length w.sets)
        (λ set from to. sym (borne-take (variables_of w set) (set_loads w unit d set) (drop (first_of w set) x) (known_loads w unit d set (a-set set (omega arith)) low)) ∙ ap (borne (set_loads w unit d set)) (part-take w x set))

    -- the choice meets the program where each set's part meets the set's, and the machines bear the loads
    pub joint-feasible : length x ≡ length (joint_costs w fleet) → ((set : ℕ) → set < length w.sets → IsFeasible (program_of w set) (part_of w x set))
        → ((d : ℕ) → d < centre_count w → borne (joint_loads w fleet.unit d) x ≤ number_at x (first_digit w fleet d) (machine_of fleet d) * (machine_of fleet d).capacity)
        → IsFeasible (joint_program w fleet) x
    unfolding joint_program joint_rows
    joint-feasible long parts enough = record {
      bits = long;
      met = All-from_recursion (Meets x) (flat_map (set_rows w) (sets w) ++ map (capacity_row w fleet) (centres w))
          (each-append (Meets x) (flat_map (set_rows w) (sets w)) (map (capacity_row w fleet) (centres w))
          (each-stack (Meets x) (set_rows w) (length w.sets) (λ set low.
          each-moved (first_of w set) (length (set_costs w set)) (program_of w set).rows x (known_rows w set (a-set set low))
          (subst (λ y. AllByRecursion (Meets y) (program_of w set).rows) (part-is w x set) (recursion_from_All (Meets (part_of w x set)) (program_of w set).rows (parts set low).met))))
          (each-map (Meets x) (λ d. d < centre_count w) (capacity_row w fleet) (λ d low. row-met w fleet d x (enough d low)) (centres w) (each-range (λ d. d < centre_count w) 0 (centre_count w) (λ d from to. omega arith))));
    }

    module _ (feasible : IsFeasible (joint_program w fleet) x) where
      all-met : AllByRecursion (Meets x) (flat_map (set_rows w) (sets w) ++ map (capacity_row w fleet) (centres w))
      unfolding joint_program joint_rows
      all-met = recursion_from_All (Meets x) (flat_map (set_rows w) (sets w) ++ map (capacity_row w fleet) (centres w)) feasible.met

      long : length x ≡ length (joint_costs w fleet)
      unfolding joint_program
      long = feasible.bits

      pub part-feasible : (set : ℕ) → set < length w.sets → IsFeasible (program_of w set) (part_of w x set)
      part-feasible set low =
          let rows = (each-split (Meets x) (flat_map (set_rows w) (sets w)) (map (capacity_row w fleet) (centres w)) all-met).0 in
          let mine = each-stack_back (Meets x) (set_rows w) (length w.sets) rows set low in
          let met = each-moved_back (first_of w set) (length (set_costs w set)) (program_of w set).rows x (known_rows w set (a-set set low)) mine in
          let inside : length (set_costs w set) ≤ length (drop (first_of w set) x) =
          omega (arith, length-drop (first_of w set) x, long, all-variables w fleet, first-start w set, first-start w (length w.sets), start-le (set_costs w) (length w.sets) set low) in
          record {
            bits = ap length (part-is w x set) ∙ length-take-le (length (set_costs w set)) (drop (first_of w set) x) inside;
            met = All-from_recursion (Meets (part_of w x set)) (program_of w set).rows (subst (λ y. AllByRecursion (Meets y) (program_of w set).rows) (sym (part-is w x set)) met);
          }

      pub machines-bear : (d : ℕ) → d < centre_count w → borne (joint_loads w fleet.unit d) x ≤ number_at x (first_digit w fleet d) (machine_of fleet d) * (machine_of fleet d).capacity
      machines-bear d low =
          let rows = (each-split (Meets x) (flat_map (set_rows w) (sets w)) (map (capacity_row w fleet) (centres w)) all-met).1 in
          row-bears w fleet d x (each-range_at (λ d. Meets x (capacity_row w fleet d)) 0 (centre_count w) (each-map_back (Meets x) (λ d. Meets x (capacity_row w fleet d)) (capacity_row w fleet) (λ d h. h) (centres w) rows) d (omega arith) (omega arith))
