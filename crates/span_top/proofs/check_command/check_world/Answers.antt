use Rattle.span_top.proofs.Checking.{checks_absent, checks_unread, checks_above, checks_bad, checks_refused, checks_unwritten, checks_in_want}
use Rattle.span_top.proofs.check_command.check_world.Goals as goal

pub returns-in-Err-Absent-clause-ends : goal.returns-in-Err-Absent-clause-ends
returns-in-Err-Absent-clause-ends g c =
    checks_absent c.args.world.now (g.S.Shelf.files c.args.shelf.now) c.args.plan.now (g.K.Sink.taken c.args.out.now) (g.K.Sink.taken c.check_plan.new.out) (rw c.in-Err-Absent.field-0-is at c.in-Err-Absent.ensures.checks)

pub returns-in-Err-ReadFault-clause-ends : goal.returns-in-Err-ReadFault-clause-ends
returns-in-Err-ReadFault-clause-ends g c =
    checks_unread c.args.world.now (g.S.Shelf.files c.args.shelf.now) c.args.plan.now (g.K.Sink.taken c.args.out.now) (g.K.Sink.taken c.check_plan.new.out) (rw c.in-Err-ReadFault.field-0-is at c.in-Err-ReadFault.ensures.checks)

pub returns-in-Err-TooLarge-clause-ends : goal.returns-in-Err-TooLarge-clause-ends
returns-in-Err-TooLarge-clause-ends g c =
    checks_above c.args.world.now (g.S.Shelf.files c.args.shelf.now) c.args.plan.now (g.K.Sink.taken c.args.out.now) (g.K.Sink.taken c.check_plan.new.out) c.in-Err-TooLarge.line c.in-Err-TooLarge.what c.in-Err-TooLarge.number (rw c.in-Err-TooLarge.field-0-is at c.in-Err-TooLarge.ensures.checks)

pub returns-in-Err-Bad-clause-ends : goal.returns-in-Err-Bad-clause-ends
returns-in-Err-Bad-clause-ends g c =
    checks_bad c.args.world.now (g.S.Shelf.files c.args.shelf.now) c.args.plan.now (g.K.Sink.taken c.args.out.now) (g.K.Sink.taken c.check_plan.new.out) c.in-Err-Bad.line c.in-Err-Bad.cause (rw c.in-Err-Bad.field-0-is at c.in-Err-Bad.ensures.checks)

pub returns-in-Err-Refused-clause-ends : goal.returns-in-Err-Refused-clause-ends
returns-in-Err-Refused-clause-ends g c =
    checks_refused c.args.world.now (g.S.Shelf.files c.args.shelf.now) c.args.plan.now (g.K.Sink.taken c.args.out.now) (g.K.Sink.taken c.check_plan.new.out) c.in-Err-Refused.line c.in-Err-Refused.cause (rw c.in-Err-Refused.field-0-is at c.in-Err-Refused.ensures.checks)

pub returns-in-Err-WriteFault-clause-ends : goal.returns-in-Err-WriteFault-clause-ends
returns-in-Err-WriteFault-clause-ends g c =
    checks_unwritten c.args.world.now (g.S.Shelf.files c.args.shelf.now) c.args.plan.now (g.K.Sink.taken c.args.out.now) (g.K.Sink.taken c.check_plan.new.out) (rw c.in-Err-WriteFault.field-0-is at c.in-Err-WriteFault.ensures.checks)

pub returns-in-Err-NoMemory-clause-ends : goal.returns-in-Err-NoMemory-clause-ends
returns-in-Err-NoMemory-clause-ends g c =
    checks_in_want c.args.world.now (g.S.Shelf.files c.args.shelf.now) c.args.plan.now (g.K.Sink.taken c.args.out.now) (g.K.Sink.taken c.check_plan.new.out) (rw c.in-Err-NoMemory.field-0-is at c.in-Err-NoMemory.ensures.checks)
