use Rattle.std.proofs.Common.{arith, get_or, FitsSigned, rules}
use Rattle.std.specs.Int.{w32}
use Rattle.std.proofs.lemmas.Int.{ints, to_z-of_z}
use Rattle.bound_cert.proofs.Scratch.{no_entry}
use Rattle.dual_ascent.proofs.Changes.{EntryStep, entry_step}
use Rattle.dual_ascent.proofs.short_leaf.change_by_row.Goals as goal

step : (c : goal.After-change_by_entry-change) → EntryStep c.args.entries.now c.args.costs.now c.args.fixed.now c.args.s c.args.mult c.loop-entry.entry-index c.change_by_entry-change.result
step c =
    let coef_fits : FitsSigned w32 (get_or c.args.entries.now c.loop-entry.entry-index no_entry).coef = search rules in
    entry_step c.args.entries.now c.args.costs.now c.args.fixed.now c.args.s c.args.mult c.loop-entry.entry-index c.scaled.result c.change_by_entry-change.result c.loop-entry-test.true c.requires.range c.requires.light
    (rw c.from-var.ensures at c.scaled.ensures.exact)
    (rw c.from-var.ensures at (simp to_z-of_z at c.change_by_entry-change.ensures.exact))
    (simp to_z-of_z at c.change_by_entry-change.ensures.small)

pub overflow_add-change : goal.overflow_add-change
overflow_add-change c =
    let s = step c in omega (arith, ints, s.size, s.bounded, s.small, c.loop-entry.invariant.1)

pub loop-entry-preserved : goal.loop-entry-preserved
loop-entry-preserved c =
    let s = step c in
    (omega (arith, ints, s.more, s.size, s.bounded, s.small, c.loop-entry.invariant.0, c.loop-entry.invariant.1), omega (arith, ints, s.size, s.bounded, s.small, c.loop-entry.invariant.1))
