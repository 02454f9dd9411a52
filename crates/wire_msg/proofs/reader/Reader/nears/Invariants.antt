use Rattle.std.proofs.Common.{◌≡◌, ◌-◌}
use Rattle.wire_msg.specs.Faults.{many_at, near_at}
use Rattle.wire_msg.proofs.Loops.{behind}
use Rattle.wire_msg.proofs.reader.Reader.nears.Given as goal

abbrev pub invariant-loop : goal.invariant-loop
invariant-loop l = behind l.nears (many_at near_at (l.count - l.counter) l.self.rest.now) ≡ many_at near_at l.count l.fn.self.rest.now
