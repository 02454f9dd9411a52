use Rattle.std.proofs.Common.{sym, ◌∙◌}
use Rattle.std.proofs.lemmas.Result.{MatchResult-from_err}
use Rattle.planner.proofs.Endings.{complete_front}
use Rattle.planner.proofs.part.write_complete.Goals as goal

pub returns-in_err-put_complete-clause-tells : goal.returns-in_err-put_complete-clause-tells
returns-in_err-put_complete-clause-tells g c from text said best is lines =
    MatchResult-from_err _ _ _ c.from_residual-in_err-put_complete.ensures.0
    (λ fault. complete_front c.args.world.now c.args.set.0 lines c.args.cost c.args.search.now.best best c.in-Some.policy _ _ text (sym c.in-Some.is ∙ c.in_ok-policy.ensures.policy) is (c.in_err-put_complete.ensures.tells from text said))
