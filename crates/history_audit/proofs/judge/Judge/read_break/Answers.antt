use Rattle.std.proofs.Common.{refl}
use Rattle.history_audit.specs.Calls.{look}
use Rattle.history_audit.proofs.Writers.{zero_read, unwritten_read, written_read}
use Rattle.history_audit.proofs.judge.Judge.read_break.Goals as goal

pub returns-then-is_zero : goal.returns-then-is_zero
returns-then-is_zero c = λ marks h. zero_read marks (look c.args.self.now.calls) c.args.key c.args.floor c.args.stamp c.args.value.now (c.if-is_zero.ensures.0 refl) c.zero_break.result c.zero_break.ensures

pub returns-in_default : goal.returns-in_default
returns-in_default c = λ marks h given.
    unwritten_read marks c.args.key c.args.stamp c.args.value.now (λ e. let no_ = c.if-is_zero.ensures.1 e in cc no_) (c.in_default.ensures marks h) given

pub returns : goal.returns
returns c = λ marks h.
    written_read marks (look c.args.self.now.calls) c.args.key c.args.floor c.args.stamp c.args.value.now c.in-Some.writer.now (λ e. let no_ = c.if-is_zero.ensures.1 e in cc no_) (c.in-Some.ensures marks h) c.writer_break.result
    c.writer_break.ensures
