use Rattle.std.proofs.Common.{arith, length, ◌≤◌, ap}
use Rattle.std.proofs.lemmas.Int.{ints}
use Rattle.std.proofs.lemmas.List.Elements.{All-more}
use Rattle.std.proofs.lemmas.List.{take_all}
use Rattle.zero_one.specs.Contents.{Contents}
use Rattle.zero_one.specs.Rows.{Meets}
use Rattle.zero_one.proofs.programs.Program.broken_row.Goals as goal

pub loop-i-preserved : goal.loop-i-preserved
loop-i-preserved c =
    let met : Meets c.as_slice-x.result.now c.row-item.result = omega (arith, ints, c.sum.ensures) in
    All-more (Meets c.as_slice-x.result.now) c.deref-row-items.result.now c.loop-i.i c.row-item.result c.loop-i-test.true c.loop-i.invariant (rw (← c.row-item.is) met)

pub returns-clause-feasible : goal.returns-clause-feasible
returns-clause-feasible c =
    let past : length c.deref-row-items.result.now ≤ c.loop-i.i = c.loop-i-test.false in
    let all = rw (take_all, c.deref-row-items.ensures.value, c.as_slice-x.ensures) at c.loop-i.invariant in
    record { bits = c.requires; met = rw (← ap (λ (p : Contents). p.rows) c.self.view_is) all }
