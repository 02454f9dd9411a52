use Rattle.run_generator.proofs.Standing.{on_ok}
use Rattle.run_generator.proofs.Choices.{begun}
use Rattle.run_generator.proofs.generator.Generator.start.Goals as goal

pub returns-clause-stands : goal.returns-clause-stands
returns-clause-stands c =
    on_ok c.happen.result (λ stands d is. begun c.args.self.now c.happen.new.self d c.args.k c.args.proxy c.next-self.result c.below-key.result c.in_ok-work.state c.in_ok-work.work c.next-self.ensures c.below-key.ensures.value c.in_ok-work.ensures stands is) c.happen.ensures.stands
