use Rattle.std.proofs.Common.{refl, sym, subst}
use Rattle.wire_msg.specs.declared.outputs.Reply.{Reply}
use Rattle.run_marks.specs.declared.mark.Work.TheVariants as w
use Rattle.run_marks.specs.declared.mark.Mark.TheVariants as k
use Rattle.register_order.specs.Form.{KeepsForm}
use Rattle.register_order.specs.Clauses.{KeepsValue}
use Rattle.history_audit.specs.Told.{IsKept}
use Rattle.history_audit.specs.Judging.{Judges}
use Rattle.history_audit.specs.Calls.{look}
use Rattle.history_audit.specs.Tables.{last_of, was_drawn}
use Rattle.history_audit.proofs.Ending.{end_breaks, end_keeps, reading_is_read, value_of_no_read, value_of_other, writing_writes}
use Rattle.history_audit.proofs.Ends.{tells_none_of_value, tells_none_of_stored, tells_none_of_other}
use Rattle.history_audit.proofs.Tickets.{unknown_call}
use Rattle.history_audit.proofs.judge.Judge.end.Goals as goal

pub returns-in_default : goal.returns-in_default
returns-in_default c = λ marks h open_. unknown_call marks (look c.args.self.now.calls) (last_of c.args.self.now.lasts) (was_drawn c.args.self.now.tickets) h.tells c.args.call (sym c.in_default.ensures) open_

pub returns-in-Some-end_break : goal.returns-in-Some-end_break
returns-in-Some-end_break c = λ marks h. end_breaks marks (look c.args.self.now.calls) (last_of c.args.self.now.lasts) (was_drawn c.args.self.now.tickets) h.tells c.args.call c.in-Some.state.now c.args.reply.now (sym c.in-Some.ensures) c.in-Some-end_break.clause c.in-Some-end_break.ensures

pub returns-then-is_reading : goal.returns-then-is_reading
returns-then-is_reading c = λ marks h.
    let at = sym c.in-Some.ensures in
    let form = end_keeps marks (look c.args.self.now.calls) (last_of c.args.self.now.lasts) (was_drawn c.args.self.now.tickets) h.tells c.args.call c.in-Some.state.now c.args.reply.now at c.in_default-end_break.ensures in
    let kept : IsKept (look c.args.self.now.calls c.args.call) c.in-Some.state.now.key w.Read = record { state = c.in-Some.state.now; found = at; key_is = refl; work_is = reading_is_read c.in-Some.state.now.work (sym c.if-is_reading.ensures) } in
    subst (λ (x : Reply). Judges marks (k.End c.args.call x) c.end_read.new.self c.end_read.result) (sym c.in-Value.is)
    (c.end_read.ensures marks h (record { kept = kept; floor_is = refl }) (subst (λ (x : Reply). KeepsForm marks (k.End c.args.call x)) c.in-Value.is form))

pub returns-then-is_writing : goal.returns-then-is_writing
returns-then-is_writing c = λ marks h.
    let at = sym c.in-Some.ensures in
    let form = end_keeps marks (look c.args.self.now.calls) (last_of c.args.self.now.lasts) (was_drawn c.args.self.now.tickets) h.tells c.args.call c.in-Some.state.now c.args.reply.now at c.in_default-end_break.ensures in
    let does = writing_writes c.in-Some.state.now.work (sym c.if-is_writing.ensures) in
    let kept : IsKept (look c.args.self.now.calls c.args.call) c.in-Some.state.now.key (w.Write does.0) = record { state = c.in-Some.state.now; found = at; key_is = refl; work_is = does.1 } in
    subst (λ (x : Reply). Judges marks (k.End c.args.call x) c.end_write.new.self c.end_write.result) (sym c.in-Stored.is)
    (c.end_write.ensures marks c.in-Some.state.now.key does.0 h kept (subst (λ (x : Reply). KeepsForm marks (k.End c.args.call x)) c.in-Stored.is form))

pub returns-else-is_reading : goal.returns-else-is_reading
returns-else-is_reading c = λ marks h.
    let at = sym c.in-Some.ensures in
    let form = end_keeps marks (look c.args.self.now.calls) (last_of c.args.self.now.lasts) (was_drawn c.args.self.now.tickets) h.tells c.args.call c.in-Some.state.now c.args.reply.now at c.in_default-end_break.ensures in
    c.end_other.ensures marks c.args.reply.now h
    (record { form = form; value = value_of_no_read marks (look c.args.self.now.calls) (last_of c.args.self.now.lasts) (was_drawn c.args.self.now.tickets) h.tells c.args.call c.in-Some.state.now c.args.reply.now at (sym c.if-is_reading.ensures) })
    (tells_none_of_value (look c.args.self.now.calls c.args.call) c.in-Some.state.now c.args.reply.now c.in-Value.stamp c.in-Value.value at (sym c.if-is_reading.ensures) c.in-Value.is) (rw c.in-Value.is refl)

pub returns-else-is_writing : goal.returns-else-is_writing
returns-else-is_writing c = λ marks h.
    let at = sym c.in-Some.ensures in
    let form = end_keeps marks (look c.args.self.now.calls) (last_of c.args.self.now.lasts) (was_drawn c.args.self.now.tickets) h.tells c.args.call c.in-Some.state.now c.args.reply.now at c.in_default-end_break.ensures in
    c.end_other-in-Stored.ensures marks c.args.reply.now h
    (record { form = form; value = subst (λ (x : Reply). KeepsValue marks (k.End c.args.call x)) (sym c.in-Stored.is) (λ key begun. tt) })
    (tells_none_of_stored (look c.args.self.now.calls c.args.call) c.in-Some.state.now c.args.reply.now c.in-Stored.stamp at (sym c.if-is_writing.ensures) c.in-Stored.is) (rw c.in-Stored.is refl)

pub returns-in_default-reply : goal.returns-in_default-reply
returns-in_default-reply c = λ marks h.
    let at = sym c.in-Some.ensures in
    let form = end_keeps marks (look c.args.self.now.calls) (last_of c.args.self.now.lasts) (was_drawn c.args.self.now.tickets) h.tells c.args.call c.in-Some.state.now c.args.reply.now at c.in_default-end_break.ensures in
    c.end_other-in_default-reply.ensures marks c.args.reply.now h (record { form = form; value = value_of_other marks c.args.call c.args.reply.now c.in_default-reply.not-Value })
    (tells_none_of_other (look c.args.self.now.calls c.args.call) c.args.reply.now c.in_default-reply.not-Value c.in_default-reply.not-Stored) c.is_dead.ensures
