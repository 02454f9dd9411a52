use Rattle.std.proofs.Common.{◌≡◌, ◌+◌, [], None, replicate, rules}
use Rattle.slot_pool.specs.Slots.{new_slot}
use Rattle.branch_solver.proofs.Stacking.{holds_new, holds_read}
use Rattle.branch_solver.proofs.frames.Frames.make.Goals as goal

pub invariant_of-result : goal.invariant_of-result
invariant_of-result c =
    let items : c.in_ok-vec.field-0.items ≡ replicate c.args.variables None = search rules in
    rw (c.in_ok-make.ensures, c.from_vec.ensures, items) (holds_read (replicate (c.args.variables + 1) (new_slot 1)) None (replicate c.args.variables None) [] (holds_new c.args.variables))
