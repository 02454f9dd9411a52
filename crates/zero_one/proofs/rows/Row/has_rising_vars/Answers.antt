use Rattle.std.proofs.Common.{◌-◌, arith, refl}
use Rattle.zero_one.specs.declared.rows.Entry.{Entry}
use Rattle.zero_one.proofs.RowSums.{no_entry}
use Rattle.zero_one.proofs.Risings.{rises_more, rises_not, rises_all}
use Rattle.zero_one.proofs.rows.Row.has_rising_vars.Goals as goal

pub returns-then-entries-i : goal.returns-then-entries-i
returns-then-entries-i c = (
  λ t. cc,
  λ rising. absurd (rises_not (λ (entry : Entry). entry.var) c.as_slice-entries.result.now c.loop-i.i (c.loop-i.i - 1) no_entry (omega arith) c.loop-i-test.true c.if-entries-i.true (rw c.as_slice-entries.ensures rising)),
)

pub loop-i-preserved : goal.loop-i-preserved
loop-i-preserved c =
    rises_more (λ (entry : Entry). entry.var) c.as_slice-entries.result.now c.loop-i.i (c.loop-i.i - 1) no_entry (omega arith) c.loop-i-test.true c.loop-i.invariant c.if-entries-i.false

pub returns : goal.returns
returns c = (
  λ _. rw (← c.as_slice-entries.ensures) (rises_all (λ (entry : Entry). entry.var) c.as_slice-entries.result.now c.loop-i.i c.loop-i-test.false c.loop-i.invariant),
  λ _. refl,
)
