use Rattle.std.proofs.Common.{sym, ◌∙◌}
use Rattle.std.proofs.lemmas.Result.{MatchResult-from_err}
use Rattle.planner.proofs.Endings.{cut_front, cut_front_without}
use Rattle.planner.proofs.part.write_cut.Goals as goal

pub returns-in_err-put_cut-in-Some-clause-tells : goal.returns-in_err-put_cut-in-Some-clause-tells
returns-in_err-put_cut-in-Some-clause-tells g c from text said =
    MatchResult-from_err _ _ _ c.from_residual-in_err-put_cut-in-Some.ensures.0
    (λ fault. cut_front c.args.world.now c.args.set.0 c.args.lines _ c.args.search.now.best c.in-Some.policy _ _ text (sym c.in-Some.is ∙ c.in_ok-policy.ensures.policy) c.cost-cost.ensures (c.in_err-put_cut-in-Some.ensures.tells from text said))

pub returns-in_err-put_cut_without-in-None-clause-tells : goal.returns-in_err-put_cut_without-in-None-clause-tells
returns-in_err-put_cut_without-in-None-clause-tells g c from text said =
    MatchResult-from_err _ _ _ c.from_residual-in_err-put_cut_without-in-None.ensures.0
    (λ fault. cut_front_without c.args.world.now c.args.set.0 c.args.lines c.args.search.now.best _ _ text (sym c.in-None.is ∙ c.in_ok-policy.ensures.policy) (c.in_err-put_cut_without-in-None.ensures.tells from text said))
