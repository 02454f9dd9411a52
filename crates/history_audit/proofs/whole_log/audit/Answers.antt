use Rattle.std.proofs.Common.{◌≡◌, ◌+◌, Option, Ok, subst}
use Rattle.std.specs.Prelude.{IfSome}
use Rattle.run_marks.specs.declared.mark.Mark.{Mark}
use Rattle.history_audit.specs.Texts.{ReadsMark, lines_of, lines_say}
use Rattle.history_audit.proofs.Auditing.{nothing_read, has_read_more, has_read_all, ends_by, ends_refused}
use Rattle.history_audit.proofs.whole_log.audit.Goals as goal

pub loop-auditor-init : goal.loop-auditor-init
loop-auditor-init c = nothing_read c.args.text.now c.new-auditor.result c.new-auditor.ensures

pub loop-auditor-preserved : goal.loop-auditor-preserved
loop-auditor-preserved c =
    has_read_more c.args.text.now c.loop-auditor.auditor c.take.new.self c.loop-auditor.lines.line c.next_mark.new.self.line c.in-Some.mark (lines_say c.loop-auditor.lines.line (lines_of c.loop-auditor.lines.rest.now))
    (lines_say c.next_mark.new.self.line (lines_of c.next_mark.new.self.rest.now))
    (subst (λ (o : Option Mark). ReadsMark (lines_say c.loop-auditor.lines.line (lines_of c.loop-auditor.lines.rest.now)) (lines_say c.next_mark.new.self.line (lines_of c.next_mark.new.self.rest.now)) (Ok o)) c.in-Some.is c.in_ok-mark.ensures.reads)
    (subst (λ (o : Option Mark). IfSome o (λ m. c.next_mark.new.self.line ≡ c.loop-auditor.lines.line + 1)) c.in-Some.is c.in_ok-mark.ensures.next) c.in_ok-take.ensures c.loop-auditor.invariant

pub returns-in_err-mark : goal.returns-in_err-mark
returns-in_err-mark c =
    ends_by c.args.text.now c.from_residual.result c.in_err-mark.field-0.0 c.from_residual.ensures.1
    (ends_refused c.args.text.now c.loop-auditor.auditor c.loop-auditor.lines.line (lines_say c.loop-auditor.lines.line (lines_of c.loop-auditor.lines.rest.now))
    (lines_say c.next_mark.new.self.line (lines_of c.next_mark.new.self.rest.now)) c.in_err-mark.field-0.0 c.in_err-mark.ensures.reads c.loop-auditor.invariant)

pub returns-in_default : goal.returns-in_default
returns-in_default c =
    let said = subst (λ (o : Option Mark). ReadsMark (lines_say c.loop-auditor.lines.line (lines_of c.loop-auditor.lines.rest.now)) (lines_say c.next_mark.new.self.line (lines_of c.next_mark.new.self.rest.now)) (Ok o)) c.in_default.is c.in_ok-mark.ensures.reads in
    let all = has_read_all c.args.text.now c.loop-auditor.auditor c.loop-auditor.lines.line (lines_say c.loop-auditor.lines.line (lines_of c.loop-auditor.lines.rest.now)) said c.loop-auditor.invariant in
    c.finish.ensures c.args.text.now c.loop-auditor.invariant.front all c.loop-auditor.invariant.stands
