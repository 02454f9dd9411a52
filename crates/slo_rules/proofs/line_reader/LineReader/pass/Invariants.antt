use Rattle.std.proofs.Common.{◌≡◌, ◌≤◌, length, drop}
use Rattle.slo_rules.specs.PolicyLines.{behind}
use Rattle.slo_rules.proofs.line_reader.LineReader.pass.Given as goal

abbrev pub invariant-loop-byte : goal.invariant-loop-byte
invariant-loop-byte l = record {
  same : behind l.word l.fn.self.rest.now ≡ behind (drop l.byte-index l.word) l.self.rest.now;
  within : length l.self.rest.now ≤ length l.fn.self.rest.now;
}
