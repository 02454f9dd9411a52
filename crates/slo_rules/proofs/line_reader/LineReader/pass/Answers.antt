use Rattle.std.proofs.Common.{◌∙◌, rules, arith}
use Rattle.slo_rules.proofs.Behind.{behind_none}
use Rattle.slo_rules.proofs.line_reader.LineReader.pass.Goals as goal

pub returns-in_default-clause-passes : goal.returns-in_default-clause-passes
returns-in_default-clause-passes c = c.loop-byte.invariant.same ∙ behind_none c.args.word.now c.loop-byte.byte-index c.loop-byte.self.rest.now (omega arith) (search rules)
