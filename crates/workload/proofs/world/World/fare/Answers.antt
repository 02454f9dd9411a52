use Rattle.std.proofs.Common.{◌∙◌, ap, sym, subst}
use Rattle.price_tables.specs.Limits.{IsFareWithin}
use Rattle.workload.specs.World.{fare_of, fare_or_none}
use Rattle.workload.proofs.Worlds.{fare_is, fare_within}
use Rattle.workload.proofs.world.World.fare.Goals as goal

pub returns-clause-fare : goal.returns-clause-fare
returns-clause-fare c =
    c.fare_or_none.ensures
    ∙ ap fare_or_none c.link.ensures
    ∙ sym (fare_is c.self.inside.tables c.self.inside.load c.args.from.0 c.args.to.0)
    ∙ ap (λ w. fare_of w c.args.from.0 c.args.to.0) c.self.view_is

pub returns-clause-within : goal.returns-clause-within
returns-clause-within c =
    subst IsFareWithin (ap (λ w. fare_of w c.args.from.0 c.args.to.0) c.self.view_is ∙ sym (returns-clause-fare c)) (fare_within _ c.self.invariant.1 c.args.from.0 c.args.to.0)
