use Rattle.std.proofs.Common.{◌≡◌, ◌+◌, ◌^◌, ◌<◌, ◌≤◌, All, length, ◌∙◌, sym, ap, subst, arith}
use Rattle.std.proofs.lemmas.Result.{err_from_is_err_and}
use Rattle.std.specs.List.{flat_map}
use Rattle.zero_one.specs.Rows.{weight_of}
use Rattle.workload.specs.World.{centre_count}
use Rattle.joint_placement.specs.JointPlans.{sets}
use Rattle.joint_placement.specs.Variables.{joint_costs}
use Rattle.joint_placement.specs.Programs.{set_rows}
use Rattle.joint_placement.proofs.Counting.{sets-counted}
use Rattle.joint_placement.proofs.JointFits.{no-fault, row-count, whole-weight}
use Rattle.joint_placement.proofs.Parts.{set_costs, first-start}
use Rattle.joint_placement.proofs.Refused.{past-rows, past-weight, whole-costs, whole-rows, whole-program}
use Rattle.joint_placement.proofs.SmallCosts.{small-costs, machine-within}
use Rattle.joint_placement.proofs.Stacks.{length-stack}
use Rattle.joint_placement.proofs.encoding.encode_joint.Goals as goal

pub push_sets-requires-clause-room : goal.push_sets-requires-clause-room
push_sets-requires-clause-room c = omega (arith, sets-counted c.args.world.now c.args.machines.now, c.variable_count-count.ensures.count, c.in_ok-_variables.ensures.within)

pub returns-in_err-_rows-clause-fault : goal.returns-in_err-_rows-clause-fault
returns-in_err-_rows-clause-fault c =
    let w = c.args.world.now in
    let fleet = c.args.machines.now in
    let few : length (joint_costs w fleet) ≤ 4096 = omega (arith, c.variable_count-count.ensures.count, c.in_ok-_variables.ensures.within) in
    let same : c.len.result + c.from.result ≡ length (flat_map (set_rows w) (sets w)) + centre_count w =
    omega (arith, c.len.ensures, c.push_sets.new.rows.ok.0, ap length c.in_ok-push_sets.ensures.rows, c.from.ensures, c.centre_count.ensures.count) in
    let p = err_from_is_err_and c.from_residual-in_err-_rows.result c.from_residual-in_err-_rows.ensures.1 in
    rw (p.1, p.2) (past-rows w fleet c.in_err-_rows.field-0.0 (c.len.result + c.from.result) c.in_err-_rows.ensures.past.0 same few c.in_err-_rows.ensures.past.1)

pub capacities_weight-requires : goal.capacities_weight-requires
capacities_weight-requires c = omega (arith, sets-counted c.args.world.now c.args.machines.now, c.variable_count-count.ensures.count, c.in_ok-_variables.ensures.within)

pub returns-in_err-_weight-clause-fault : goal.returns-in_err-_weight-clause-fault
returns-in_err-_weight-clause-fault c =
    let w = c.args.world.now in
    let fleet = c.args.machines.now in
    let few : length (joint_costs w fleet) ≤ 4096 = omega (arith, c.variable_count-count.ensures.count, c.in_ok-_variables.ensures.within) in
    let short : length (flat_map (set_rows w) (sets w)) + centre_count w ≤ 16384 =
    omega (arith, c.len.ensures, c.push_sets.new.rows.ok.0, ap length c.in_ok-push_sets.ensures.rows, c.from.ensures, c.centre_count.ensures.count, c.in_ok-_rows.ensures.within) in
    let number = c.rows_weight.result + c.in_ok-weight.field-0 in
    let weight = ap weight_of (c.as_slice.ensures.value ∙ c.in_ok-push_sets.ensures.rows) in
    let p = err_from_is_err_and c.from_residual-in_err-_weight.result c.from_residual-in_err-_weight.ensures.1 in
    rw (p.1, p.2)
    (past-weight w fleet c.in_err-_weight.field-0.0 number c.in_err-_weight.ensures.past.0 (omega (arith, c.rows_weight.ensures.weight, weight, c.in_ok-weight.ensures.weight)) few short
    (omega (arith, c.in_err-_weight.ensures.past.1, c.from-2.ensures)))

pub push_capacity_rows-requires-clause-first : goal.push_capacity_rows-requires-clause-first
push_capacity_rows-requires-clause-first c =
    let w = c.args.world.now in
    omega (arith, c.len-2.ensures, c.push_sets.new.costs.ok.0, ap length c.in_ok-push_sets.ensures.costs, length-stack (set_costs w) (length w.sets), first-start w (length w.sets))

pub make-requires : goal.make-requires
make-requires c =
    let w = c.args.world.now in
    let fleet = c.args.machines.now in
    let costs = whole-costs w fleet c.push_sets.new.costs.items c.push_machine_costs.new.costs.items c.in_ok-push_sets.ensures.costs c.in_ok-push_machine_costs.ensures in
    subst (All (λ cost. cost < 10 ^ 24)) (sym costs) (small-costs w fleet c.centre_count-centres.ensures.complete c.centre_count-centres.ensures.named (λ d low. machine-within fleet c.unit-unit.ensures.all d))

pub unreachable-requires : goal.unreachable-requires
unreachable-requires c =
    let w = c.args.world.now in
    let fleet = c.args.machines.now in
    let all_costs = c.push_machine_costs.new.costs.items in
    let all_rows = c.push_capacity_rows.new.rows.items in
    let costs = whole-costs w fleet c.push_sets.new.costs.items all_costs c.in_ok-push_sets.ensures.costs c.in_ok-push_machine_costs.ensures in
    let rows = whole-rows w fleet c.push_sets.new.rows.items all_rows c.in_ok-push_sets.ensures.rows c.in_ok-push_capacity_rows.ensures in
    let few : length all_costs ≤ 4096 = omega (arith, ap length costs, c.variable_count-count.ensures.count, c.in_ok-_variables.ensures.within) in
    let short : length all_rows ≤ 16384 =
    omega (arith, ap length rows, row-count w fleet, c.len.ensures, c.push_sets.new.rows.ok.0, ap length c.in_ok-push_sets.ensures.rows, c.from.ensures, c.centre_count.ensures.count, c.in_ok-_rows.ensures.within) in
    let light : weight_of all_rows ≤ 10 ^ 7 =
    omega (
      arith,
      ap weight_of rows,
      whole-weight w fleet,
      c.rows_weight.ensures.weight,
      ap weight_of (c.as_slice.ensures.value ∙ c.in_ok-push_sets.ensures.rows),
      c.in_ok-weight.ensures.weight,
      c.in_ok-_weight.ensures.within,
      c.from-2.ensures,
    ) in
    no-fault w fleet c.centre_count-centres.ensures.complete c.centre_count-centres.ensures.named all_costs all_rows costs rows few short light c.in_default.field-0 c.in_default.ensures.fault

pub returns-clause-program : goal.returns-clause-program
returns-clause-program c =
    let w = c.args.world.now in
    let fleet = c.args.machines.now in
    let all_costs = c.push_machine_costs.new.costs.items in
    let all_rows = c.push_capacity_rows.new.rows.items in
    let costs = whole-costs w fleet c.push_sets.new.costs.items all_costs c.in_ok-push_sets.ensures.costs c.in_ok-push_machine_costs.ensures in
    let rows = whole-rows w fleet c.push_sets.new.rows.items all_rows c.in_ok-push_sets.ensures.rows c.in_ok-push_capacity_rows.ensures in
    whole-program w fleet all_costs all_rows _ c.in-Ok.ensures.made costs rows
