-- Joint plans are choices of the joint program, and choices are joint plans.
use Rattle.std.proofs.Common.{◌≡◌, ℕ, ◌+◌, ◌*◌, ◌^◌, ◌<◌, ◌≤◌, Bool, false, cond, List, [], ◌++◌, length, take, drop, get_or, map, sym, ap, subst, ◌∙◌, arith}
use Rattle.std.specs.List.{flat_map}
use Rattle.std.proofs.lemmas.List.{append-nil, length-append, get_or-append-add}
use Rattle.std.proofs.lemmas.List.FromFn.{length-map-range_with_len, get_or-map-range_with_len}
use Rattle.zero_one.specs.Rows.{bit_of}
use Rattle.zero_one.specs.Program.{IsFeasible, value_of}
use Rattle.span_base.specs.declared.policy.Policy.{Policy}
use Rattle.workload.specs.World.{Lists, IsComplete, IsNamed, centre_count}
use Rattle.slo_rules.specs.Rules.{IsAllowed}
use Rattle.slo_rules.specs.Cost.{policy_cost}
use Rattle.placement.specs.Placement as set_policy
use Rattle.placement.proofs.Modes as set_laws
use Rattle.placement_rows.specs.Centres.{centres}
use Rattle.placement_rows.proofs.Growing.{sum_by-range_le}
use Rattle.placement_rows.proofs.Sums.{sum_by-range_agree}
use Rattle.machine_text.specs.Machines.{Fleet, machine_of}
use Rattle.joint_placement.specs.Loads.{policy_load}
use Rattle.joint_placement.specs.JointPlans.{JointPlan, sets, no_policy, policy_of, machines_in, load_on, IsJointPlan, MeetsCapacity, joint_cost, IsLeastJoint, HasNoJointPlan}
use Rattle.joint_placement.specs.Variables.{first_of, first_digit, places, joint_costs}
use Rattle.joint_placement.specs.Capacity.{set_loads, joint_loads}
use Rattle.joint_placement.specs.Programs.{joint_program}
use Rattle.joint_placement.specs.Placed.{digit_of, placed, part_of, number_at, decoded}
use Rattle.joint_placement.specs.Laws.{IsPlaced, IsDecoded, IsLeastChoice}
use Rattle.joint_placement.proofs.Stacks.{start, length-stack, piece-at, stands-at}
use Rattle.joint_placement.proofs.Digits.{below-digits, all-digits}
use Rattle.joint_placement.proofs.Borne.{borne}
use Rattle.joint_placement.proofs.SetLoads.{placed-load, decoded-load}
use Rattle.joint_placement.proofs.Parts.{set_costs, machine_costs, first-start, digits-start, part-is, all-variables, joint-value, joint-borne, joint-feasible, part-feasible, machines-bear}

module _ (w : Lists) (fleet : Fleet) (complete : IsComplete w) (named : IsNamed w) where
  a_set : (set : ℕ) → set < length w.sets → set_policy.IsSet w set
  a_set set low = record { complete = complete; named = named; there = low }

  module _ (plan : JointPlan) (joint : IsJointPlan w fleet plan) where
    -- the bits of a set's policy, and of a centre's number of machines
    abbrev bits : ℕ → List Bool
    bits set = set_policy.placed w set (policy_of plan set)

    abbrev digits : ℕ → List Bool
    digits d = map (digit_of (machines_in plan d)) (places (machine_of fleet d))

    abbrev x : List Bool
    x = flat_map bits (sets w) ++ flat_map digits (centres w)

    law : (set : ℕ) → set < length w.sets → set_policy.IsPlaced w set (policy_of plan set)
    law set low = set_laws.placing w set (a_set set low) (policy_of plan set) (joint.allowed set low)

    long-bits : (set : ℕ) → set < length w.sets → length (bits set) ≡ length (set_costs w set)
    long-bits set low = (law set low).feasible.bits

    start-bits : (set : ℕ) → set ≤ length w.sets → start bits set ≡ first_of w set
    start-bits set low = sum_by-range_agree (λ s. length (bits s)) (λ s. length (set_costs w s)) 0 set (λ s from to. long-bits s (omega arith)) ∙ sym (first-start w set)

    long-digits : (d : ℕ) → length (digits d) ≡ length (machine_costs fleet d)
    long-digits d = length-map-range_with_len (digit_of (machines_in plan d)) 0 (machine_of fleet d).digits ∙ sym (length-map-range_with_len (λ j. 2 ^ j * (machine_of fleet d).price) 0 (machine_of fleet d).digits)

    start-digits : (d : ℕ) → start digits d ≡ start (machine_costs fleet) d
    start-digits d = sum_by-range_agree (λ e. length (digits e)) (λ e. length (machine_costs fleet e)) 0 d (λ e from to. long-digits e)

    -- a set's part is its policy's bits
    its-part : (set : ℕ) → set < length w.sets → part_of w x set ≡ bits set
    its-part set low =
        part-is w x set
        ∙ ap (λ k. take k (drop (first_of w set) x)) (sym (long-bits set low))
        ∙ ap (λ k. take (length (bits set)) (drop k x)) (sym (start-bits set (omega arith)))
        ∙ piece-at bits (length w.sets) set low (flat_map digits (centres w))

    -- a centre's digits are those of its number
    its-digit : (d j : ℕ) → d < centre_count w → j < (machine_of fleet d).digits → bit_of x (first_digit w fleet d + j) ≡ digit_of (machines_in plan d) j
    its-digit d j low inside =
        let before = flat_map bits (sets w) in
        let behind = flat_map digits (centres w) in
        let many : length before ≡ first_of w (length w.sets) = length-stack bits (length w.sets) ∙ start-bits (length w.sets) (omega arith) in
        let at : first_digit w fleet d + j ≡ length before + (start digits d + j) = omega (arith, digits-start w fleet d, start-digits d, many) in
        let long : length (digits d) ≡ (machine_of fleet d).digits = length-map-range_with_len (digit_of (machines_in plan d)) 0 (machine_of fleet d).digits in
        ap (λ v. get_or x v false) at
        ∙ get_or-append-add before behind (start digits d + j) false
        ∙ ap (λ ys. get_or ys (start digits d + j) false) (sym (append-nil behind))
        ∙ stands-at digits (centre_count w) d j false low (omega (arith, long)) []
        ∙ get_or-map-range_with_len (digit_of (machines_in plan d)) 0 (machine_of fleet d).digits j j false inside (omega arith)

    its-number : (d : ℕ) → d < centre_count w → number_at x (first_digit w fleet d) (machine_of fleet d) ≡ machines_in plan d
    unfolding number_at
    its-number d low =
        sum_by-range_agree (λ j. cond (bit_of x (first_digit w fleet d + j)) (2 ^ j) 0) (λ j. cond (digit_of (machines_in plan d) j) (2 ^ j) 0) 0 (machine_of fleet d).digits
        (λ j from to. ap (λ b. cond b (2 ^ j) 0) (its-digit d j low (omega arith)))
        ∙ all-digits (machines_in plan d) (machine_of fleet d).digits (joint.few d low)

    long : length x ≡ length (joint_costs w fleet)
    long =
        length-append (flat_map bits (sets w)) (flat_map digits (centres w))
        ∙ (let e : length (flat_map bits (sets w)) + length (flat_map digits (centres w)) ≡ length (joint_costs w fleet) =
        omega (arith, length-stack bits (length w.sets), start-bits (length w.sets) (omega arith), length-stack digits (centre_count w), start-digits (centre_count w), all-variables w fleet) in e)

    -- its loads are the plan's
    its-load : (d : ℕ) → d < centre_count w → borne (joint_loads w fleet.unit d) x ≡ load_on w fleet plan d
    its-load d low =
        joint-borne w fleet x complete named fleet.unit d low
        ∙ sum_by-range_agree (λ set. borne (set_loads w fleet.unit d set) (part_of w x set)) (λ set. policy_load w fleet.unit d set (policy_of plan set)) 0 (length w.sets)
        (λ set from to.
        let there : set < length w.sets = omega arith in
        ap (borne (set_loads w fleet.unit d set)) (its-part set there) ∙ placed-load w set (a_set set there) (policy_of plan set) (joint.allowed set there) fleet.unit d low)

    -- its value is the plan's cost
    its-value : value_of (joint_program w fleet).costs x ≡ joint_cost w fleet plan
    unfolding joint_cost
    its-value =
        let policies = sum_by-range_agree (λ set. value_of (set_costs w set) (part_of w x set)) (λ set. policy_cost w set (policy_of plan set)) 0 (length w.sets)
        (λ set from to. let there : set < length w.sets = omega arith in ap (value_of (set_costs w set)) (its-part set there) ∙ (law set there).value) in
        let numbers = sum_by-range_agree (λ d. number_at x (first_digit w fleet d) (machine_of fleet d) * (machine_of fleet d).price) (λ d. machines_in plan d * (machine_of fleet d).price) 0 (centre_count w)
        (λ d from to. ap (λ n. n * (machine_of fleet d).price) (its-number d (omega arith))) in
        omega (arith, joint-value w fleet x, policies, numbers)

    pub placing : MeetsCapacity w fleet plan → IsPlaced w fleet plan
    unfolding placed
    placing meets = record {
      feasible = joint-feasible w fleet x complete named long
          (λ set low. subst (IsFeasible (set_policy.program_of w set)) (sym (its-part set low)) (law set low).feasible)
          (λ d low. subst (λ n. borne (joint_loads w fleet.unit d) x ≤ n * (machine_of fleet d).capacity) (sym (its-number d low)) (subst (λ n. n ≤ machines_in plan d * (machine_of fleet d).capacity) (sym (its-load d low)) (meets d low)));
      value = its-value;
    }

  module _ (x : List Bool) (feasible : IsFeasible (joint_program w fleet) x) where
    policy_is : (set : ℕ) → set < length w.sets → policy_of (decoded w fleet x) set ≡ set_policy.decoded w set (part_of w x set)
    unfolding decoded
    policy_is set low = get_or-map-range_with_len (λ s. set_policy.decoded w s (part_of w x s)) 0 (length w.sets) set set no_policy low (omega arith)

    number_is : (d : ℕ) → d < centre_count w → machines_in (decoded w fleet x) d ≡ number_at x (first_digit w fleet d) (machine_of fleet d)
    unfolding decoded
    number_is d low = get_or-map-range_with_len (λ e. number_at x (first_digit w fleet e) (machine_of fleet e)) 0 (centre_count w) d d 0 low (omega arith)

    its_law : (set : ℕ) → set < length w.sets → set_policy.IsDecoded w set (part_of w x set)
    its_law set low = set_laws.decoding w set (a_set set low) (part_of w x set) (part-feasible w fleet x complete named feasible set low)

    number-low : (d : ℕ) → number_at x (first_digit w fleet d) (machine_of fleet d) < 2 ^ (machine_of fleet d).digits
    unfolding number_at
    number-low d = below-digits (λ j. bit_of x (first_digit w fleet d + j)) (machine_of fleet d).digits

    many-policies : length (decoded w fleet x).policies ≡ length w.sets
    unfolding decoded
    many-policies = length-map-range_with_len (λ s. set_policy.decoded w s (part_of w x s)) 0 (length w.sets)

    many-machines : length (decoded w fleet x).machines ≡ centre_count w
    unfolding decoded
    many-machines = length-map-range_with_len (λ e. number_at x (first_digit w fleet e) (machine_of fleet e)) 0 (centre_count w)

    -- the plan loads at most what the choice does
    load-low : (d : ℕ) → d < centre_count w → load_on w fleet (decoded w fleet x) d ≤ borne (joint_loads w fleet.unit d) x
    load-low d low =
        let less = sum_by-range_le (λ set. policy_load w fleet.unit d set (policy_of (decoded w fleet x) set)) (λ set. borne (set_loads w fleet.unit d set) (part_of w x set)) 0 (length w.sets)
        (λ set from to.
        let there : set < length w.sets = omega arith in
        subst (λ (q : Policy). policy_load w fleet.unit d set q ≤ borne (set_loads w fleet.unit d set) (part_of w x set)) (sym (policy_is set there))
        (decoded-load w set (a_set set there) (part_of w x set) (part-feasible w fleet x complete named feasible set there) fleet.unit d low)) in
        omega (arith, less, joint-borne w fleet x complete named fleet.unit d low)

    cost-low : joint_cost w fleet (decoded w fleet x) ≤ value_of (joint_program w fleet).costs x
    unfolding joint_cost
    cost-low =
        let policies = sum_by-range_le (λ set. policy_cost w set (policy_of (decoded w fleet x) set)) (λ set. value_of (set_costs w set) (part_of w x set)) 0 (length w.sets)
        (λ set from to.
        let there : set < length w.sets = omega arith in
        subst (λ (q : Policy). policy_cost w set q ≤ value_of (set_costs w set) (part_of w x set)) (sym (policy_is set there)) (its_law set there).cost) in
        let numbers = sum_by-range_agree (λ d. machines_in (decoded w fleet x) d * (machine_of fleet d).price) (λ d. number_at x (first_digit w fleet d) (machine_of fleet d) * (machine_of fleet d).price) 0 (centre_count w)
        (λ d from to. ap (λ n. n * (machine_of fleet d).price) (number_is d (omega arith))) in
        omega (arith, policies, numbers, joint-value w fleet x)

    pub decoding : IsDecoded w fleet x
    decoding = record {
      plan = record {
        policies = many-policies;
        machines = many-machines;
        allowed = λ set low. subst (IsAllowed w set) (sym (policy_is set low)) (its_law set low).allowed;
        few = λ d low. subst (λ n. n < 2 ^ (machine_of fleet d).digits) (sym (number_is d low)) (number-low d);
      };
      capacity = λ d low.
          let bear = machines-bear w fleet x complete named feasible d low in
          let same = ap (λ n. n * (machine_of fleet d).capacity) (number_is d low) in
          omega (arith, load-low d low, bear, same);
      cost = cost-low;
    }

  pub least : (x : List Bool) → IsLeastChoice w fleet x → IsLeastJoint w fleet (decoded w fleet x)
  least x choice =
      let d = decoding x choice.feasible in
      record {
        joint = d.plan;
        capacity = d.capacity;
        least = λ other joint meets. let p = placing other joint meets in omega (arith, d.cost, p.value, choice.least _ p.feasible);
      }

  pub none : ((x : List Bool) → ¬ (IsFeasible (joint_program w fleet) x)) → HasNoJointPlan w fleet
  none not plan joint meets = not _ (placing plan joint meets).feasible
