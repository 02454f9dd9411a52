use Rattle.span_top.proofs.ReplayLaws.{unbroken_logs}
use Rattle.span_top.proofs.replay_laws.unbroken_logs_are_audited.Goals as goal

pub returns : goal.returns
returns c = unbroken_logs c.audits_answer_alike.ensures c.unbroken_logs_are_registers.ensures.register
