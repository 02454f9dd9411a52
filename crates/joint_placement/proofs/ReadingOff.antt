-- Steps of the loops that read a joint plan off a choice.
use Rattle.std.proofs.Common.{◌≡◌, ℕ, ◌+◌, ◌-◌, ◌<◌, ◌≤◌, Bool, List, length, map, take, drop, refl, ap, ◌∙◌, arith}
use Rattle.zero_one.specs.Program.{IsFeasible}
use Rattle.workload.specs.World.{Lists, centre_count}
use Rattle.span_base.specs.declared.policy.Policy.{Policy}
use Rattle.placement.specs.Placement as set_policy
use Rattle.placement_rows.specs.Centres.{centres}
use Rattle.placement_rows.proofs.Loops.{map_next}
use Rattle.machine_text.specs.Machines.{Fleet, machine_of}
use Rattle.joint_placement.specs.JointPlans.{JointPlan, sets}
use Rattle.joint_placement.specs.Variables.{variables_of, first_of, first_digit, joint_costs}
use Rattle.joint_placement.specs.Programs.{joint_program}
use Rattle.joint_placement.specs.Placed.{part_of, number_at, decoded}
use Rattle.joint_placement.proofs.Counting.{first-next, first-none, first-up, digit-next, digit-none, digit-up, all-counted, sets-counted}

-- the slice that is a set's part
pub slice-part : (w : Lists) (x : List Bool) (set first many : ℕ) → first ≡ first_of w set → many ≡ variables_of w set → take ((first + many) - first) (drop first x) ≡ part_of w x set
unfolding part_of
slice-part w x set first many is is' =
    let size : (first + many) - first ≡ variables_of w set = omega (arith, is') in
    ap (λ n. take n (drop first x)) size ∙ ap (λ n. take (variables_of w set) (drop n x)) is

-- a choice that meets the program has a bit for each variable
pub all-bits : (w : Lists) (fleet : Fleet) (x : List Bool) → IsFeasible (joint_program w fleet) x → length x ≡ length (joint_costs w fleet)
unfolding joint_program
all-bits w fleet x feasible = feasible.bits

pub joint-costs : (w : Lists) (fleet : Fleet) → (joint_program w fleet).costs ≡ joint_costs w fleet
unfolding joint_program
joint-costs w fleet = refl

-- there is room for a set's part, and for a centre's digits
pub part-room : (w : Lists) (fleet : Fleet) (set first : ℕ) → set < length w.sets → first ≡ first_of w set → first + variables_of w set ≤ length (joint_costs w fleet)
part-room w fleet set first low is = omega (arith, first-next w set, first-up w (length w.sets) (set + 1) (omega arith), sets-counted w fleet)

pub digits-room : (w : Lists) (fleet : Fleet) (d first : ℕ) → d < centre_count w → first ≡ first_digit w fleet d → first + (machine_of fleet d).digits ≤ length (joint_costs w fleet)
digits-room w fleet d first low is = omega (arith, digit-next w fleet d, digit-up w fleet (centre_count w) (d + 1) (omega arith), all-counted w fleet)

-- the plan of all policies and numbers
pub whole-plan : (w : Lists) (fleet : Fleet) (x y : List Bool) (policies : List Policy) (machines : List ℕ) (plan : JointPlan) → plan ≡ record { policies = policies; machines = machines } → y ≡ x
    → policies ≡ map (λ set. set_policy.decoded w set (part_of w y set)) (sets w) → machines ≡ map (λ d. number_at y (first_digit w fleet d) (machine_of fleet d)) (centres w) → plan ≡ decoded w fleet x
unfolding decoded
whole-plan w fleet x y policies machines plan made same ps ns =
    made
    ∙ ap (λ ps. let p : JointPlan = record { policies = ps; machines = machines } in p) (ps ∙ ap (λ z. map (λ set. set_policy.decoded w set (part_of w z set)) (sets w)) same)
    ∙ ap (λ ns. let p : JointPlan = record { policies = map (λ set. set_policy.decoded w set (part_of w x set)) (sets w); machines = ns } in p) (ns ∙ ap (λ z. map (λ d. number_at z (first_digit w fleet d) (machine_of fleet d)) (centres w)) same)

pub ruleset policies = (map_next, first-next, first-none)

pub ruleset numbers = (map_next, digit-next, digit-none)
