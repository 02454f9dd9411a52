use Rattle.std.proofs.Common.{sym}
use Rattle.history_audit.proofs.Cuts.{cut_none, cut_at}
use Rattle.history_audit.proofs.words.cut.Goals as goal

pub returns-in_err-at : goal.returns-in_err-at
returns-in_err-at c = rw c.from_residual.ensures (sym (cut_none c.args.byte c.args.text.now c.in_err-at.ensures))

pub returns : goal.returns
returns c = cut_at c.args.byte c.args.text.now c.in_ok-at.at c.in_ok-at.ensures.0 c.in_ok-at.ensures.1
