use Rattle.std.proofs.Common.{◌∙◌, ◌++◌}
use Rattle.std.proofs.lemmas.Result.{err_from_is_err_and}
use Rattle.joint_plan.specs.Stops.{sets_text, in_fleet}
use Rattle.joint_plan.proofs.Judged.{made_judged, whole_made}
use Rattle.joint_plan.proofs.check.read_plan.Goals as goal

pub returns-in_err-numbers-clause-reads : goal.returns-in_err-numbers-clause-reads
returns-in_err-numbers-clause-reads g c files is front first =
    let w = c.args.world.now in
    let p = err_from_is_err_and c.from_residual-in_err-numbers.result c.from_residual-in_err-numbers.ensures.1 in
    let policies = c.in_ok-policies.policies.items in
    let sets = c.in_ok-policies.ensures.reads files is front first in
    rw (p.1, p.2) (in_fleet policies sets.all (c.in_err-numbers.ensures.reads files (c.in_ok-policies.ensures.files_stay ∙ is) (front ++ sets_text w policies) sets.read))

pub judge-requires-clause-whole : goal.judge-requires-clause-whole
judge-requires-clause-whole g c =
    whole_made c.args.world.now c.in_ok-policies.policies.items c.in_ok-numbers.numbers.items c.make-plan.result c.make-plan.ensures c.in_ok-policies.ensures.many c.in_ok-numbers.ensures.many

pub returns-clause-reads : goal.returns-clause-reads
returns-clause-reads g c files is front first =
    let w = c.args.world.now in
    let policies = c.in_ok-policies.policies.items in
    let sets = c.in_ok-policies.ensures.reads files is front first in
    let fleet = c.in_ok-numbers.ensures.reads files (c.in_ok-policies.ensures.files_stay ∙ is) (front ++ sets_text w policies) sets.read in
    made_judged w c.args.machines.now files c.args.name.now front c.args.claim.cost c.args.claim.line policies c.in_ok-numbers.numbers.items c.make-plan.result c.read_fleet.new.lines c.judge.result
    c.make-plan.ensures sets.all fleet.all c.judge.ensures fleet.read
