use Rattle.std.proofs.Common.{ℕ, ◌≤◌, ◌++◌, List, [], ◌∷◌, map, ◌∙◌, sym, ap, arith, append_assoc}
use Rattle.std.specs.List.{range_with_len}
use Rattle.zero_one.specs.declared.rows.Row.{Row}
use Rattle.zero_one.specs.Rows.{row_weight}
use Rattle.workload.specs.World.{centre_count}
use Rattle.std.proofs.lemmas.List.{append-nil}
use Rattle.machine_text.specs.declared.machines.Machine.{Machine}
use Rattle.placement_rows.proofs.Loops.{map_next}
use Rattle.placement_rows.proofs.Sums.{le-sum_by-range}
use Rattle.joint_placement.specs.Capacity.{capacity_row}
use Rattle.joint_placement.proofs.Counting.{digit-next, digit-none, digit-up, all-counted, sets-counted}
use Rattle.joint_placement.proofs.encoding.push_capacity_rows.Goals as goal

pub overflow_cast-digit : goal.overflow_cast-digit
overflow_cast-digit c =
    let w = c.args.world.now in
    let fleet = c.args.machines.now in
    let low : c.loop-d.d ≤ centre_count w = omega (arith, c.loop-d-test.true, c.centre_count-d-end.ensures.count) in
    omega (arith, c.loop-d.invariant.next, digit-up w fleet (centre_count w) c.loop-d.d low, all-counted w fleet, c.requires.variables)

pub capacity_row-requires-clause-variables : goal.capacity_row-requires-clause-variables
capacity_row-requires-clause-variables c = omega (arith, sets-counted c.args.world.now c.args.machines.now, c.requires.variables)

pub capacity_row-requires-clause-low : goal.capacity_row-requires-clause-low
capacity_row-requires-clause-low c =
    let w = c.args.world.now in
    let fleet = c.args.machines.now in
    let low : c.loop-d.d ≤ centre_count w = omega (arith, c.loop-d-test.true, c.centre_count-d-end.ensures.count) in
    omega (arith, c.loop-d.invariant.next, digit-up w fleet (centre_count w) c.loop-d.d low, all-counted w fleet, c.requires.variables)

pub capacity_row-requires-clause-light : goal.capacity_row-requires-clause-light
capacity_row-requires-clause-light c =
    let w = c.args.world.now in
    let fleet = c.args.machines.now in
    let weight : ℕ → ℕ = λ d. row_weight (capacity_row w fleet d) in
    omega (arith, c.requires.light, le-sum_by-range weight c.loop-d.d 0 (centre_count w) (omega arith) (omega (arith, c.loop-d-test.true, c.centre_count-d-end.ensures.count)))

pub overflow_add-digit : goal.overflow_add-digit
overflow_add-digit c =
    let w = c.args.world.now in
    let fleet = c.args.machines.now in
    let low : c.loop-d.d ≤ centre_count w = omega (arith, c.loop-d-test.true, c.centre_count-d-end.ensures.count) in
    omega (arith, c.loop-d.invariant.next, digit-up w fleet (centre_count w) c.loop-d.d low, all-counted w fleet, c.requires.variables)

pub loop-d-init : goal.loop-d-init
loop-d-init c = record { made = sym (append-nil c.args.rows.now.items); next = c.requires.first ∙ sym (digit-none c.args.world.now c.args.machines.now) }

pub loop-d-preserved : goal.loop-d-preserved
loop-d-preserved c =
    let w = c.args.world.now in
    let fleet = c.args.machines.now in
    let d = c.loop-d.d in
    let inv = c.loop-d.invariant in
    let old = c.args.rows.now.items in
    let row = c.in_ok-capacity_row.field-0 in
    let before : List Row = map (capacity_row w fleet) (range_with_len 0 d) in
    record {
      made = c.in_ok-push.ensures.items
          ∙ ap (λ rs. rs ++ row ∷ []) inv.made
          ∙ append_assoc old before (row ∷ [])
          ∙ ap (λ r. old ++ (before ++ r ∷ [])) c.in_ok-capacity_row.ensures
          ∙ ap (λ rs. old ++ rs) (sym (map_next (capacity_row w fleet) d));
      next = omega (arith, inv.next, digit-next w fleet d, ap (λ (m : Machine). m.digits) c.machine.ensures.machine, c.from.ensures);
    }
