-- The limits of the joint program.
use Rattle.std.proofs.Common.{◌≡◌, ℕ, ◌+◌, ◌^◌, ◌<◌, ◌≤◌, inl, inr, List, ◌++◌, length, map, refl, sym, ap, subst, ◌∙◌, arith}
use Rattle.std.specs.List.{sum_by, flat_map}
use Rattle.span_base.specs.declared.words.What.TheVariants.{Variables, Rows, Weight}
use Rattle.zero_one.specs.declared.rows.Row.{Row}
use Rattle.zero_one.specs.Contents.{Contents}
use Rattle.zero_one.specs.Rows.{row_weight, weight_of}
use Rattle.workload.specs.World.{Lists, centre_count}
use Rattle.placement.specs.Placement.{program_of}
use Rattle.placement_rows.specs.Centres.{centres}
use Rattle.machine_text.specs.Machines.{Fleet, machine_of}
use Rattle.joint_placement.specs.declared.encoding.JointFault.{JointFault}
use Rattle.joint_placement.specs.declared.encoding.JointFault.TheVariants.{Limit}
use Rattle.joint_placement.specs.JointPlans.{sets}
use Rattle.joint_placement.specs.Variables.{digit_costs, joint_costs}
use Rattle.joint_placement.specs.Capacity.{capacity_row}
use Rattle.joint_placement.specs.Programs.{set_rows, joint_rows, joint_program}
use Rattle.joint_placement.specs.Faults.{IsRefused}
use Rattle.joint_placement.proofs.JointFits.{row-count, whole-weight}

pub past-variables : (w : Lists) (fleet : Fleet) (fault : JointFault) (n : ℕ) → fault ≡ Limit Variables n → n ≡ length (joint_costs w fleet) → 4096 < n → IsRefused w fleet fault
past-variables w fleet fault n is same past = subst (IsRefused w fleet) (sym is) (inl (refl, same, past))

pub past-rows : (w : Lists) (fleet : Fleet) (fault : JointFault) (n : ℕ) → fault ≡ Limit Rows n → n ≡ length (flat_map (set_rows w) (sets w)) + centre_count w → length (joint_costs w fleet) ≤ 4096 → 16384 < n → IsRefused w fleet fault
past-rows w fleet fault n is same few past = subst (IsRefused w fleet) (sym is) (inr (inl (refl, same ∙ sym (row-count w fleet), few, past)))

pub past-weight : (w : Lists) (fleet : Fleet) (fault : JointFault) (n : ℕ) → fault ≡ Limit Weight n → n ≡ weight_of (flat_map (set_rows w) (sets w)) + sum_by (λ d. row_weight (capacity_row w fleet d)) (centres w)
    → length (joint_costs w fleet) ≤ 4096 → length (flat_map (set_rows w) (sets w)) + centre_count w ≤ 16384 → 10 ^ 7 < n → IsRefused w fleet fault
past-weight w fleet fault n is same few short past = subst (IsRefused w fleet) (sym is) (inr (inr (refl, same ∙ sym (whole-weight w fleet), few, omega (arith, row-count w fleet), past)))

-- the whole program's costs and rows
pub whole-costs : (w : Lists) (fleet : Fleet) (sets_first all : List ℕ) → sets_first ≡ flat_map (λ set. (program_of w set).costs) (sets w) → all ≡ sets_first ++ flat_map (λ d. digit_costs (machine_of fleet d)) (centres w) → all ≡ joint_costs w fleet
unfolding joint_costs
whole-costs w fleet sets_first all is more = more ∙ ap (λ cs. cs ++ flat_map (λ d. digit_costs (machine_of fleet d)) (centres w)) is

pub whole-rows : (w : Lists) (fleet : Fleet) (sets_first all : List Row) → sets_first ≡ flat_map (set_rows w) (sets w) → all ≡ sets_first ++ map (capacity_row w fleet) (centres w) → all ≡ joint_rows w fleet
unfolding joint_rows
whole-rows w fleet sets_first all is more = more ∙ ap (λ rs. rs ++ map (capacity_row w fleet) (centres w)) is

pub whole-program : (w : Lists) (fleet : Fleet) (costs : List ℕ) (rows : List Row) (p : Contents) → p ≡ record { costs = costs; rows = rows } → costs ≡ joint_costs w fleet → rows ≡ joint_rows w fleet → p ≡ joint_program w fleet
unfolding joint_program
whole-program w fleet costs rows p made is is' =
    made
    ∙ ap (λ costs. let r : Contents = record { costs = costs; rows = rows } in r) is
    ∙ ap (λ rows. let r : Contents = record { costs = joint_costs w fleet; rows = rows } in r) is'
