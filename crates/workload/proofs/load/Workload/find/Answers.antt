use Rattle.std.proofs.Common.{◌∙◌, ap}
use Rattle.workload.specs.Load.{set_number}
use Rattle.workload.proofs.Names.{number_is}
use Rattle.workload.proofs.load.Workload.find.Goals as goal

pub returns-in-Some-clause-number : goal.returns-in-Some-clause-number
returns-in-Some-clause-number c =
    c.in-Some.ensures.index
    ∙ number_is c.args.name.now c.self.inside.names.keys c.self.inside.sets.items c.self.invariant.0
    ∙ ap (λ w. set_number w c.args.name.now) c.self.view_is

pub returns-in-None-clause-number : goal.returns-in-None-clause-number
returns-in-None-clause-number c =
    c.in-None.ensures.index
    ∙ number_is c.args.name.now c.self.inside.names.keys c.self.inside.sets.items c.self.invariant.0
    ∙ ap (λ w. set_number w c.args.name.now) c.self.view_is
