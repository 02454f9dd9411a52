use Rattle.std.proofs.Common.{length}
use Rattle.history_audit.specs.Texts.{lines_of, lines_say}
use Rattle.history_audit.specs.Audited.{HasRead}
use Rattle.history_audit.proofs.whole_log.audit.Given as goal

abbrev pub invariant-loop-auditor : goal.invariant-loop-auditor
invariant-loop-auditor l = HasRead l.fn.text l.auditor l.lines.line (lines_say l.lines.line (lines_of l.lines.rest.now))

abbrev pub decreases-loop-auditor : goal.decreases-loop-auditor
decreases-loop-auditor l = length l.lines.rest.now
