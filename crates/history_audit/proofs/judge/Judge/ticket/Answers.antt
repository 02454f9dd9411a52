use Rattle.std.proofs.Common.{[], refl, sym}
use Rattle.run_marks.specs.declared.mark.Mark.TheVariants as k
use Rattle.history_audit.specs.Calls.{drawing, look}
use Rattle.history_audit.specs.Tables.{has_key, last_of, top_at, was_drawn}
use Rattle.history_audit.proofs.Tickets.{tells_after_ticket, ticket_keeps, ticket_breaks, unknown_call}
use Rattle.history_audit.proofs.Summing.{sums_after_other, ticket_begins_none}
use Rattle.history_audit.specs.Told.{KeepsFirst}
use Rattle.history_audit.proofs.Events.{each_push}
use Rattle.history_audit.proofs.Effective.{changed_counts, counted_with_line}
use Rattle.history_audit.proofs.Counting.{counted_after_ticket}
use Rattle.history_audit.proofs.judge.Judge.ticket.Goals as goal

pub returns-in_default : goal.returns-in_default
returns-in_default c = λ marks h open_. unknown_call marks (look c.args.self.now.calls) (last_of c.args.self.now.lasts) (was_drawn c.args.self.now.tickets) h.tells c.args.call (sym c.in_default.ensures) open_

pub returns-in-Some-ticket_break : goal.returns-in-Some-ticket_break
returns-in-Some-ticket_break c = λ marks h.
    ticket_breaks marks (look c.args.self.now.calls) (last_of c.args.self.now.lasts) (was_drawn c.args.self.now.tickets) h.tells c.args.call c.in-Some.state.now c.args.stamp (sym c.in-Some.ensures)
    c.in-Some-ticket_break.clause c.in-Some-ticket_break.ensures

pub returns : goal.returns
returns c = λ marks h.
    let at = sym c.in-Some.ensures in
    let fine = c.in_default-ticket_break.ensures in
    let keeps = ticket_keeps marks (look c.args.self.now.calls) (last_of c.args.self.now.lasts) (was_drawn c.args.self.now.tickets) h.tells c.args.call c.in-Some.state.now c.args.stamp at fine.0 fine.1 fine.2 in (
      keeps,
      record {
        kept = each_push KeepsFirst [] marks (k.Ticket c.args.call c.args.stamp) h.kept keeps;
        effects = counted_with_line marks (k.Ticket c.args.call c.args.stamp) (look c.args.self.now.calls) (look c.draw.new.self) c.args.self.now.summary.counted refl
            (λ other key work begun. changed_counts c.args.call (drawing c.args.stamp) (look c.args.self.now.calls) (look c.draw.new.self) c.draw.ensures (λ s. refl) other) h.effects;
        tells = tells_after_ticket marks c.args.call c.in-Some.state.now c.args.stamp (look c.args.self.now.calls) (look c.draw.new.self) (last_of c.args.self.now.lasts) (was_drawn c.args.self.now.tickets)
            (was_drawn c.add.new.self) at fine.2 c.draw.ensures c.in_ok-add.ensures h.tells;
        counted = counted_after_ticket marks c.args.call c.args.stamp (look c.args.self.now.calls) (last_of c.args.self.now.lasts) (was_drawn c.args.self.now.tickets) (top_at c.args.self.now.tops) h.tells keeps.form.call keeps.form.stamp h.counted (look c.draw.new.self) c.draw.ensures;
        sums = sums_after_other marks (k.Ticket c.args.call c.args.stamp) c.args.self.now.summary c.args.self.now.summary (has_key c.args.self.now.tops) (has_key c.args.self.now.tops) (ticket_begins_none c.args.call c.args.stamp) refl refl (λ key. refl) h.sums;
      },
    )
