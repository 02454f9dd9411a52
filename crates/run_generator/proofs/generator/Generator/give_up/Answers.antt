use Rattle.run_generator.proofs.Standing.{on_ok}
use Rattle.run_generator.proofs.Choices.{not_late, late}
use Rattle.run_generator.proofs.generator.Generator.give_up.Goals as goal

pub returns-in-None-clause-stands : goal.returns-in-None-clause-stands
returns-in-None-clause-stands c = λ d is. not_late c.args.self.now d c.args.proxy c.in-None.ensures is

pub returns-in-Some-clause-stands : goal.returns-in-Some-clause-stands
returns-in-Some-clause-stands c =
    on_ok c.happen.result (λ stands d is. late c.args.self.now c.happen.new.self d c.args.proxy c.in-Some.seq c.in-Some.ensures (stands d) is) c.happen.ensures.stands
