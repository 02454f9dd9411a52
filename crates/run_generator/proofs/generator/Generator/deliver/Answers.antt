use Rattle.std.proofs.Common.{◌-◌, length, ap, ◌∙◌}
use Rattle.run_generator.specs.Chosen.{below}
use Rattle.run_generator.proofs.Standing.{on_ok}
use Rattle.run_generator.proofs.Choices.{none_sent, some_sent}
use Rattle.run_generator.proofs.generator.Generator.deliver.Goals as goal

pub returns-then-sent-eq0-clause-stands : goal.returns-then-sent-eq0-clause-stands
returns-then-sent-eq0-clause-stands c = λ d is. none_sent c.args.self.now d c.sent-sent.result (c.sent-sent.ensures ∙ ap length c.wire.ensures) c.if-sent-eq0.true is

pub returns-clause-stands : goal.returns-clause-stands
returns-clause-stands c =
    on_ok c.happen.result (λ stands d is. some_sent c.args.self.now c.happen.new.self d c.next-self.result c.sent-sent.result (c.sent-sent.result - 1 - c.below.result) c.next-self.ensures (c.sent-sent.ensures ∙ ap length c.wire.ensures) c.if-sent-eq0.false
    (ap (λ x. c.sent-sent.result - 1 - x) (c.below.ensures.value ∙ ap (λ m. below m c.next-self.result) c.min.ensures)) stands is) c.happen.ensures.stands
