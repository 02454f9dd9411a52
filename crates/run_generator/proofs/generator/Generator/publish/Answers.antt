use Rattle.std.proofs.Common.{sym, ◌∙◌, subst, List}
use Rattle.epoch_directory.specs.declared.table.SetPolicy.{SetPolicy}
use Rattle.world_core.specs.declared.event.Event.TheVariants.{Publish}
use Rattle.run_generator.specs.Chosen.{chooses}
use Rattle.run_generator.specs.Standing.{StandsFor}
use Rattle.run_generator.proofs.Standing.{on_ok}
use Rattle.run_generator.proofs.Choices.{unpublished, published}
use Rattle.run_generator.proofs.generator.Generator.publish.Goals as goal

pub returns-then-not-is_500th-clause-stands : goal.returns-then-not-is_500th-clause-stands
returns-then-not-is_500th-clause-stands c = λ d is. unpublished c.args.self.now d c.args.k (sym c.is_500th.ensures ∙ c.if-not-is_500th.true) is

pub returns-clause-stands : goal.returns-clause-stands
returns-clause-stands c =
    on_ok c.happen.result (λ stands d is. published c.happen.new.self d c.args.k (sym c.is_500th.ensures ∙ c.if-not-is_500th.false)
    (subst (λ (t : List SetPolicy). StandsFor c.happen.new.self (chooses d (Publish t))) c.in_ok-table.ensures (stands d is))) c.happen.ensures.stands
