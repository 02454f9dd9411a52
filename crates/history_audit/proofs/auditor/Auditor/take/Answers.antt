use Rattle.std.proofs.Common.{Option, Ok, subst}
use Rattle.history_audit.specs.declared.fault.Clause.{Clause}
use Rattle.history_audit.specs.Judging.{Judges}
use Rattle.history_audit.proofs.Auditing.{still_broken, told_so_far, one_more}
use Rattle.history_audit.proofs.auditor.Auditor.take.Goals as goal

pub returns-then-is_some : goal.returns-then-is_some
returns-then-is_some c = λ front at h. still_broken front c.args.mark c.args.self.now.judge c.args.self.now.broken c.if-is_some.ensures h

pub returns-in-None : goal.returns-in-None
returns-in-None c = λ front at h.
    let told = told_so_far front c.args.self.now.judge c.args.self.now.broken c.if-is_some.ensures h in
    one_more front c.args.mark c.args.self.now.judge c.take.new.self c.args.self.now.broken c.if-is_some.ensures h
    (subst (λ (o : Option Clause). Judges front c.args.mark c.take.new.self (Ok o)) c.in-None.is (c.in_ok-clause.ensures front told.1))
