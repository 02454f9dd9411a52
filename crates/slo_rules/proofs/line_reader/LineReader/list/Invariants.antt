use Rattle.std.proofs.Common.{◌≤◌, length}
use Rattle.slo_rules.specs.PolicyLines.{list_at}
use Rattle.slo_rules.proofs.CentreLists.{GoesOn}
use Rattle.slo_rules.proofs.line_reader.LineReader.list.Given as goal

abbrev pub invariant-loop-centre : goal.invariant-loop-centre
invariant-loop-centre l = record {
  rest : GoesOn l.world l.closed (list_at l.world l.closed l.fn.self.rest.now) l.so_far l.self.rest.now;
  within : length l.self.rest.now ≤ length l.fn.self.rest.now;
}

abbrev pub decreases-loop-centre : goal.decreases-loop-centre
decreases-loop-centre l = length l.self.rest.now
