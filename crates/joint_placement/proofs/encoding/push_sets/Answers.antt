use Rattle.std.proofs.Common.{◌≡◌, ◌+◌, ◌++◌, length, ◌∙◌, sym, ap, arith}
use Rattle.std.specs.List.{flat_map, range_with_len}
use Rattle.std.proofs.lemmas.List.{length-append}
use Rattle.placement_rows.proofs.Loops.{pieces_next}
use Rattle.joint_placement.specs.Programs.{set_rows}
use Rattle.joint_placement.proofs.Counting.{first-next, first-none, first-up}
use Rattle.joint_placement.proofs.Parts.{set_costs, variables-are}
use Rattle.joint_placement.proofs.encoding.push_sets.Goals as goal

pub loop-set-init : goal.loop-set-init
loop-set-init c = record { costs = c.requires.no_costs; rows = c.requires.no_rows; many = ap length c.requires.no_costs ∙ sym (first-none c.args.world.now) }

pub push_set-requires-clause-room : goal.push_set-requires-clause-room
push_set-requires-clause-room c =
    let w = c.args.world.now in
    let up = first-up w (length w.sets) (c.loop-set.set + 1) (omega (arith, c.loop-set-test.true, c.sets-set-end.ensures)) in
    omega (arith, c.loop-set.invariant.many, first-next w c.loop-set.set, up, c.requires.room)

pub loop-set-preserved : goal.loop-set-preserved
loop-set-preserved c =
    let w = c.args.world.now in
    let set = c.loop-set.set in
    let inv = c.loop-set.invariant in
    let pushed = c.in_ok-push_set.ensures in
    let longer = length-append c.loop-set.costs.items (set_costs w set) in
    record {
      costs = pushed.costs ∙ ap (λ cs. cs ++ set_costs w set) inv.costs ∙ sym (pieces_next (set_costs w) set);
      rows = pushed.rows ∙ ap (λ rs. rs ++ set_rows w set) inv.rows ∙ sym (pieces_next (set_rows w) set);
      many = omega (arith, ap length pushed.costs, longer, inv.many, first-next w set, variables-are w set);
    }

pub returns-clause-costs : goal.returns-clause-costs
returns-clause-costs c =
    let w = c.args.world.now in
    let end : c.loop-set.set ≡ length w.sets = omega (arith, c.loop-set-test.false, c.loop-set.auto.set-end, c.sets-set-end.ensures) in
    c.loop-set.invariant.costs ∙ ap (λ n. flat_map (set_costs w) (range_with_len 0 n)) end

pub returns-clause-rows : goal.returns-clause-rows
returns-clause-rows c =
    let w = c.args.world.now in
    let end : c.loop-set.set ≡ length w.sets = omega (arith, c.loop-set-test.false, c.loop-set.auto.set-end, c.sets-set-end.ensures) in
    c.loop-set.invariant.rows ∙ ap (λ n. flat_map (set_rows w) (range_with_len 0 n)) end
