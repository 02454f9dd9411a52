use Rattle.run_generator.specs.Chosen.{draws, gives_up}
use Rattle.run_generator.proofs.Standing.{on_ok}
use Rattle.run_generator.proofs.Choices.{called}
use Rattle.run_generator.proofs.generator.Generator.call.Goals as goal

pub returns-clause-stands : goal.returns-clause-stands
returns-clause-stands c =
    on_ok c.start.result (λ stands d is. called c.args.self.now c.start.new.self d c.args.k c.below-proxy.result c.next-self.result c.next-self.ensures c.below-proxy.ensures.value
    (λ s. stands (gives_up c.below-proxy.result (draws d)) (c.in_ok-give_up.ensures.stands (draws d) s)) is) c.start.ensures.stands
