use Rattle.std.proofs.Common.{◌∙◌, subst}
use Rattle.std.specs.Prelude.{Option, Ok, Err}
use Rattle.std.proofs.lemmas.Result.{err_from_is_err_and}
use Rattle.joint_placement.specs.Programs.{joint_program}
use Rattle.plan_check.specs.declared.tree.Claim.{Claim}
use Rattle.plan_check.specs.Parts.{ReadsLines}
use Rattle.joint_plan.specs.Checks.{opening_of, plan_front, in_tree}
use Rattle.joint_plan.proofs.Judged.{tree_shift, body_stops, body_complete, body_none}
use Rattle.joint_plan.proofs.check.read_body.Goals as goal

pub returns-in_err-found-clause-reads : goal.returns-in_err-found-clause-reads
returns-in_err-found-clause-reads g c files is first =
    let w = c.args.world.now in
    let fleet = c.args.machines.now in
    let p = err_from_is_err_and c.from_residual.result c.from_residual.ensures.1 in
    let tree = tree_shift w fleet c.args.program.now files _ c.args.name.now c.args.lines.now c.read_tree.new.lines (Err c.in_err-found.field-0.0) is c.requires.program c.in_err-found.ensures.reads (opening_of w fleet) first in
    rw (p.1, p.2) (in_tree tree.0 tree.1)

pub returns-in_err-read_plan-in-Some-clause-reads : goal.returns-in_err-read_plan-in-Some-clause-reads
returns-in_err-read_plan-in-Some-clause-reads g c files is first =
    let w = c.args.world.now in
    let fleet = c.args.machines.now in
    let name = c.args.name.now in
    let p = err_from_is_err_and c.from_residual-in_err-read_plan-in-Some.result c.from_residual-in_err-read_plan-in-Some.ensures.1 in
    let middle = c.read_tree.new.lines in
    let found = tree_shift w fleet c.args.program.now files _ name c.args.lines.now middle (Ok c.in_ok-found.found) is c.requires.program c.in_ok-found.ensures.reads (opening_of w fleet) first in
    let tree = subst (λ (o : Option Claim). ReadsLines (joint_program w fleet) files name (opening_of w fleet) middle (Ok o)) c.in-Some.is found in
    rw (p.1, p.2) (body_stops w fleet files name c.in-Some.claim middle c.in_err-read_plan-in-Some.field-0.0 c.read_plan.new.lines tree
    (c.in_err-read_plan-in-Some.ensures.reads files (c.in_ok-found.ensures.files_stay ∙ is) (plan_front w fleet tree.0 c.in-Some.claim.cost) tree.4))

pub returns-in_ok-read_plan-in-Some-clause-reads : goal.returns-in_ok-read_plan-in-Some-clause-reads
returns-in_ok-read_plan-in-Some-clause-reads g c files is first =
    let w = c.args.world.now in
    let fleet = c.args.machines.now in
    let name = c.args.name.now in
    let middle = c.read_tree.new.lines in
    let found = tree_shift w fleet c.args.program.now files _ name c.args.lines.now middle (Ok c.in_ok-found.found) is c.requires.program c.in_ok-found.ensures.reads (opening_of w fleet) first in
    let tree = subst (λ (o : Option Claim). ReadsLines (joint_program w fleet) files name (opening_of w fleet) middle (Ok o)) c.in-Some.is found in
    body_complete w fleet files name c.in-Some.claim middle c.read_plan.new.lines tree
    (c.in_ok-read_plan-in-Some.ensures.reads files (c.in_ok-found.ensures.files_stay ∙ is) (plan_front w fleet tree.0 c.in-Some.claim.cost) tree.4)

pub returns-in-None-clause-reads : goal.returns-in-None-clause-reads
returns-in-None-clause-reads g c files is first =
    let w = c.args.world.now in
    let fleet = c.args.machines.now in
    let name = c.args.name.now in
    let middle = c.read_tree.new.lines in
    let found = tree_shift w fleet c.args.program.now files _ name c.args.lines.now middle (Ok c.in_ok-found.found) is c.requires.program c.in_ok-found.ensures.reads (opening_of w fleet) first in
    body_none w fleet files name middle (subst (λ (o : Option Claim). ReadsLines (joint_program w fleet) files name (opening_of w fleet) middle (Ok o)) c.in-None.is found)
