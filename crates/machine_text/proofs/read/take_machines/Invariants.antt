use Rattle.std.proofs.Common.{◌≡◌, ◌+◌, length, drop, All}
use Rattle.machine_text.specs.Machines.{IsMachineWithin}
use Rattle.machine_text.specs.ReadMachines.{machines_at}
use Rattle.machine_text.specs.Rows.{IsReading, records_left}
use Rattle.machine_text.proofs.Joined.{joined}
use Rattle.machine_text.proofs.read.take_machines.Given as goal

abbrev pub invariant-loop-d : goal.invariant-loop-d
invariant-loop-d l = record {
  so_far : machines_at l.fn.line l.world.centres (records_left l.fn.rows) ≡ joined l.machines.items (machines_at (l.fn.line + l.d) (drop l.d l.world.centres) (records_left l.rows));
  reading : IsReading l.rows;
  within : All IsMachineWithin l.machines.items;
  many : length l.machines.items ≡ l.d;
}
