use Rattle.std.proofs.Common.{◌≡◌, ◌∙◌, ◌++◌, [], length, refl, ap, subst, inl, codes}
use Rattle.std.specs.Prelude.{Err}
use Rattle.std.proofs.lemmas.Result.{err_from_is_err_and}
use Rattle.zero_one.specs.Contents.{Contents}
use Rattle.joint_placement.specs.Programs.{joint_program}
use Rattle.plan_check.specs.Reading.{HasRead}
use Rattle.joint_plan.specs.JointText.{joint_line, begun_text, ending_text}
use Rattle.joint_plan.specs.Lines.{ReadsExact, RefusesProgram}
use Rattle.joint_plan.specs.Checks.{at_begin, at_joint, at_last}
use Rattle.joint_plan.proofs.Judged.{text_checked}
use Rattle.joint_plan.proofs.check.read_text.Goals as goal

pub returns-in_err-read_begin-clause-reads : goal.returns-in_err-read_begin-clause-reads
returns-in_err-read_begin-clause-reads g c =
    let w = c.args.world.now in
    let fleet = c.args.machines.now in
    let files = g.S.Shelf.files c.args.shelf.now in
    let name = c.args.name.now in
    let p = err_from_is_err_and c.from_residual-in_err-read_begin.result c.from_residual-in_err-read_begin.ensures.1 in
    rw (p.1, p.2) (inl (at_begin c.read_begin.new.lines (c.in_err-read_begin.ensures.reads files refl [] (c.in_ok-lines.ensures files name))))

pub returns-in_err-read_joint-clause-reads : goal.returns-in_err-read_joint-clause-reads
returns-in_err-read_joint-clause-reads g c =
    let w = c.args.world.now in
    let fleet = c.args.machines.now in
    let files = g.S.Shelf.files c.args.shelf.now in
    let name = c.args.name.now in
    let begun = c.in_ok-read_begin.ensures.reads files refl [] (c.in_ok-lines.ensures files name) in
    let count : length c.costs.result.now ≡ length (joint_program w fleet).costs = ap length c.costs.ensures.costs ∙ ap (λ (q : Contents). length q.costs) c.requires.program in
    let same_1 = c.in_ok-read_begin.ensures.files_stay in
    let p = err_from_is_err_and c.from_residual-in_err-read_joint.result c.from_residual-in_err-read_joint.ensures.1 in
    let reader = c.read_joint.new.lines in
    rw (p.1, p.2) (inl (at_joint reader
    (subst (λ n. ReadsExact files name (codes "span-joint 1\n") (joint_line n) RefusesProgram reader (Err c.in_err-read_joint.field-0.0)) count (c.in_err-read_joint.ensures.reads files same_1 (codes "span-joint 1\n") begun))))

pub returns-in_err-told-clause-reads : goal.returns-in_err-told-clause-reads
returns-in_err-told-clause-reads g c =
    let w = c.args.world.now in
    let fleet = c.args.machines.now in
    let files = g.S.Shelf.files c.args.shelf.now in
    let name = c.args.name.now in
    let begun = c.in_ok-read_begin.ensures.reads files refl [] (c.in_ok-lines.ensures files name) in
    let count : length c.costs.result.now ≡ length (joint_program w fleet).costs = ap length c.costs.ensures.costs ∙ ap (λ (q : Contents). length q.costs) c.requires.program in
    let same_1 = c.in_ok-read_begin.ensures.files_stay in
    let opened = subst (λ n. HasRead files name (codes "span-joint 1\n" ++ joint_line n) c.read_joint.new.lines) count (c.in_ok-read_joint.ensures.reads files same_1 (codes "span-joint 1\n") begun) in
    let same_2 = c.in_ok-read_joint.ensures.files_stay ∙ same_1 in
    let p = err_from_is_err_and c.from_residual-in_err-told.result c.from_residual-in_err-told.ensures.1 in
    rw (p.1, p.2) (inl (c.in_err-told.ensures.reads files same_2 opened))

pub returns-in_err-read_last-clause-reads : goal.returns-in_err-read_last-clause-reads
returns-in_err-read_last-clause-reads g c =
    let w = c.args.world.now in
    let fleet = c.args.machines.now in
    let files = g.S.Shelf.files c.args.shelf.now in
    let name = c.args.name.now in
    let begun = c.in_ok-read_begin.ensures.reads files refl [] (c.in_ok-lines.ensures files name) in
    let count : length c.costs.result.now ≡ length (joint_program w fleet).costs = ap length c.costs.ensures.costs ∙ ap (λ (q : Contents). length q.costs) c.requires.program in
    let same_1 = c.in_ok-read_begin.ensures.files_stay in
    let opened = subst (λ n. HasRead files name (codes "span-joint 1\n" ++ joint_line n) c.read_joint.new.lines) count (c.in_ok-read_joint.ensures.reads files same_1 (codes "span-joint 1\n") begun) in
    let same_2 = c.in_ok-read_joint.ensures.files_stay ∙ same_1 in
    let p = err_from_is_err_and c.from_residual-in_err-read_last.result c.from_residual-in_err-read_last.ensures.1 in
    let body = c.in_ok-told.ensures.reads files same_2 opened in
    rw (p.1, p.2) (inl (at_last body.0 body.1 body.2
    (c.in_err-read_last.ensures.reads files (c.in_ok-told.ensures.files_stay ∙ same_2) (begun_text w fleet body.0 ++ ending_text w (length body.0) body.1) body.4)))

pub returns-clause-reads : goal.returns-clause-reads
returns-clause-reads g c =
    let w = c.args.world.now in
    let fleet = c.args.machines.now in
    let files = g.S.Shelf.files c.args.shelf.now in
    let name = c.args.name.now in
    let begun = c.in_ok-read_begin.ensures.reads files refl [] (c.in_ok-lines.ensures files name) in
    let count : length c.costs.result.now ≡ length (joint_program w fleet).costs = ap length c.costs.ensures.costs ∙ ap (λ (q : Contents). length q.costs) c.requires.program in
    let same_1 = c.in_ok-read_begin.ensures.files_stay in
    let opened = subst (λ n. HasRead files name (codes "span-joint 1\n" ++ joint_line n) c.read_joint.new.lines) count (c.in_ok-read_joint.ensures.reads files same_1 (codes "span-joint 1\n") begun) in
    let same_2 = c.in_ok-read_joint.ensures.files_stay ∙ same_1 in
    let body = c.in_ok-told.ensures.reads files same_2 opened in
    text_checked w fleet files name c.read_body.new.lines c.in_ok-told.told c.centre_count-centres.ensures.complete c.centre_count-centres.ensures.named c.requires.limits body
    (c.in_ok-read_last.ensures.reads files (c.in_ok-told.ensures.files_stay ∙ same_2) (begun_text w fleet body.0 ++ ending_text w (length body.0) body.1) body.4)
