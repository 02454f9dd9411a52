use Rattle.std.proofs.Common.{◌∙◌, ap}
use Rattle.price_tables.specs.Tables.{number_of}
use Rattle.price_tables.proofs.Names.{number_is}
use Rattle.price_tables.proofs.tables.Tables.find.Goals as goal

pub returns-in-Some-clause-number : goal.returns-in-Some-clause-number
returns-in-Some-clause-number c =
    c.in-Some.ensures.index
    ∙ number_is c.args.name.now c.self.inside.centres.entries c.self.invariant.keys
    ∙ ap (λ t. number_of t c.args.name.now) c.self.view_is

pub returns-in-None-clause-number : goal.returns-in-None-clause-number
returns-in-None-clause-number c =
    c.in-None.ensures.index
    ∙ number_is c.args.name.now c.self.inside.centres.entries c.self.invariant.keys
    ∙ ap (λ t. number_of t c.args.name.now) c.self.view_is
