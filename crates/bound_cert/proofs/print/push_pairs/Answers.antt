use Rattle.bound_cert.proofs.Texts.{text_more, pairs_text_split}
use Rattle.bound_cert.proofs.Pieces.{where_error, front_put}
use Rattle.bound_cert.proofs.print.push_pairs.Goals as goal

pub loop-pair-preserved : goal.loop-pair-preserved
loop-pair-preserved c = text_more c.args.pairs.now c.loop-pair.pair-index _ _ _ c.loop-pair-test.true c.loop-pair.invariant c.in_ok-push_pair.ensures.whole

pub returns-in_err-push_pair-clause-front : goal.returns-in_err-push_pair-clause-front
returns-in_err-push_pair-clause-front c =
    where_error c.from_residual.result (front_put _ _ _ _ _ _ _ c.loop-pair.invariant (pairs_text_split c.args.pairs.now c.loop-pair.pair-index c.loop-pair-test.true) c.in_err-push_pair.ensures.front)
