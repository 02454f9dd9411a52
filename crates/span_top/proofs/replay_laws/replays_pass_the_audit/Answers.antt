use Rattle.span_top.proofs.ReplayLaws.{replays_pass}
use Rattle.span_top.proofs.replay_laws.replays_pass_the_audit.Goals as goal

pub returns : goal.returns
returns c =
    replays_pass c.audits_answer_alike.ensures c.unbroken_logs_are_registers.ensures.register c.replayed_logs_are_read_back.ensures.says c.replayed_logs_are_read_back.ensures.kept
