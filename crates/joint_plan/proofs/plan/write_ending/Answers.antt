use Rattle.std.proofs.Common.{◌++◌, string_bytes}
use Rattle.joint_plan.specs.JointText.{begun_text}
use Rattle.joint_plan.proofs.Said.{unended, written, ending_said, ending_failed}
use Rattle.joint_plan.proofs.plan.write_ending.Goals as goal

pub returns-in_err-told-clause-says : goal.returns-in_err-told-clause-says
returns-in_err-told-clause-says g c searched from said =
    unended c.args.world.now c.args.machines.now c.args.budget c.args.search.now c.args.end from _ c.args.pen.now c.from_residual.result
    c.centre_count-centres.ensures.complete c.centre_count-centres.ensures.named searched c.from_residual.ensures.0 said

pub returns-in_err-push_end-clause-says : goal.returns-in_err-push_end-clause-says
returns-in_err-push_end-clause-says g c searched from said =
    unended c.args.world.now c.args.machines.now c.args.budget c.args.search.now c.args.end from _ c.args.pen.now c.from_residual-in_err-push_end.result
    c.centre_count-centres.ensures.complete c.centre_count-centres.ensures.named searched c.from_residual-in_err-push_end.ensures.0 said

pub returns-in_err-put_text-clause-says : goal.returns-in_err-put_text-clause-says
returns-in_err-put_text-clause-says g c searched from said =
    let w = c.args.world.now in
    let fleet = c.args.machines.now in
    let begun = begun_text w fleet searched.lines in
    ending_failed w fleet c.args.budget c.in_ok-told.told from _ _ (begun ++ c.deref.result.now) c.from_residual-in_err-put_text.result c.from_residual-in_err-put_text.ensures.0
    (written w fleet c.args.budget c.args.search.now c.args.end searched c.in_ok-told.told (string_bytes c.new-text.result) (string_bytes c.push_ending.new.text) (string_bytes c.push_end.new.text) c.deref.result.now
    c.new-text.ensures.bytes (c.in_ok-told.ensures.adds searched) c.in_ok-push_end.ensures c.deref.ensures)
    (c.in_err-put_text.ensures.tells from begun said)

pub returns-clause-says : goal.returns-clause-says
returns-clause-says g c searched from said =
    let w = c.args.world.now in
    let fleet = c.args.machines.now in
    let begun = begun_text w fleet searched.lines in
    ending_said w fleet c.args.budget c.in_ok-told.told from _ _ (begun ++ c.deref.result.now)
    (written w fleet c.args.budget c.args.search.now c.args.end searched c.in_ok-told.told (string_bytes c.new-text.result) (string_bytes c.push_ending.new.text) (string_bytes c.push_end.new.text) c.deref.result.now
    c.new-text.ensures.bytes (c.in_ok-told.ensures.adds searched) c.in_ok-push_end.ensures c.deref.ensures)
    (c.in_ok-put_text.ensures.tells from begun said)
