use Rattle.std.proofs.Common.{◌≤◌, All, length}
use Rattle.message_wire.specs.Framed.{IsSpare}
use Rattle.message_wire.proofs.spares.fill.Given as goal

abbrev pub invariant-loop : goal.invariant-loop
invariant-loop l = record {
  spares : All IsSpare l.spares.items;
  none_lost : length l.fn.spares.items ≤ length l.spares.items;
  so_many : l.counter ≤ length l.spares.items;
}
