use Rattle.std.proofs.Common.{[], refl, sym, ap, ◌∙◌}
use Rattle.std.proofs.lemmas.Option.{same_Some}
use Rattle.wire_msg.specs.declared.outputs.Reply.TheVariants as r
use Rattle.history_audit.specs.declared.calls.CallState.{CallState}
use Rattle.history_audit.specs.Calls.{ending_so, look}
use Rattle.history_audit.specs.declared.calls.Ending.TheVariants.{Ended}
use Rattle.history_audit.specs.Tables.{has_key, last_of, top_at, was_drawn}
use Rattle.history_audit.proofs.Ending.{tells_after_counted_end}
use Rattle.run_marks.specs.declared.mark.Mark.TheVariants as k
use Rattle.run_marks.specs.History.{is_register_work}
use Rattle.history_audit.proofs.Summing.{end_begins_none, known_stays, sums_after_other}
use Rattle.history_audit.specs.Told.{KeepsFirst}
use Rattle.history_audit.proofs.Events.{each_push}
use Rattle.history_audit.proofs.Effective.{begin_once, changed_counts, counted_more, counted_with_line}
use Rattle.history_audit.proofs.CountingStamps.{counted_after_write}
use Rattle.history_audit.proofs.Breaking.{stored_out_of_order}
use Rattle.history_audit.proofs.Tickets.{unknown_call}
use Rattle.history_audit.proofs.judge.Judge.end_write.Goals as goal

pub returns-in_default : goal.returns-in_default
returns-in_default c = λ marks key value h is form open_. unknown_call marks (look c.args.self.now.calls) (last_of c.args.self.now.lasts) (was_drawn c.args.self.now.tickets) h.tells c.args.call (sym c.in_default.ensures) open_

pub returns-then-not-may_count : goal.returns-then-not-may_count
returns-then-not-may_count c = λ marks key value h is form.
    let at = sym c.in-Some.ensures in
    let does = ap (λ (s : CallState). s.work) (same_Some c.in-Some.state.now is.state (c.in-Some.ensures ∙ is.found)) ∙ is.work_is in
    let it = stored_out_of_order marks c.args.call c.args.stamp (look c.args.self.now.calls) (last_of c.args.self.now.lasts) (was_drawn c.args.self.now.tickets) (top_at c.args.self.now.tops) h.tells form.call h.counted c.in-Some.state.now value at does form.stamp.drawn (λ may. let no_ = c.if-not-may_count.ensures.1 may in cc no_) in
    (record { form = form; value = λ key_ begun. tt }, it.0, it.1)

pub returns : goal.returns
returns c = λ marks key value h is form.
    let at = sym c.in-Some.ensures in
    let does = ap (λ (s : CallState). s.work) (same_Some c.in-Some.state.now is.state (c.in-Some.ensures ∙ is.found)) ∙ is.work_is in (
      record { form = form; value = λ key_ begun. tt },
      record {
        kept = each_push KeepsFirst [] marks (k.End c.args.call (r.Stored c.args.stamp)) h.kept (record { form = form; value = λ key_ begun. tt });
        effects = counted_with_line marks (k.End c.args.call (r.Stored c.args.stamp)) (look c.count.new.calls) (look c.end.new.self) c.count.new.counted refl
            (λ other key_ work begun. changed_counts c.args.call (ending_so Ended) (look c.count.new.calls) (look c.end.new.self) c.end.ensures (λ s. refl) other)
            (counted_more marks c.args.call c.in-Some.state.now.key c.in-Some.state.now.work c.args.stamp c.in-Some.state.now (look c.args.self.now.calls) (look c.count.new.calls) c.args.self.now.summary.counted c.count.new.counted
            (begin_once marks h.kept) (h.tells.told c.args.call c.in-Some.state.now at).begun at c.count.ensures.calls c.count.ensures.counted h.effects);
        tells = tells_after_counted_end marks c.args.call c.in-Some.state.now c.args.stamp (r.Stored c.args.stamp) (look c.args.self.now.calls) (look c.count.new.calls) (look c.end.new.self) (last_of c.args.self.now.lasts)
            (was_drawn c.args.self.now.tickets) at c.count.ensures.calls c.end.ensures h.tells;
        counted = counted_after_write marks c.args.call c.args.stamp (look c.args.self.now.calls) (last_of c.args.self.now.lasts) (was_drawn c.args.self.now.tickets) h.tells form.call c.in-Some.state.now value (top_at c.args.self.now.tops) (top_at c.raise.new.self) (look c.count.new.calls) (look c.end.new.self) at does
            (c.if-not-may_count.ensures.0 refl) c.count.ensures.calls c.end.ensures c.in_ok-raise.ensures.top h.counted;
        sums = sums_after_other marks (k.End c.args.call (r.Stored c.args.stamp)) c.args.self.now.summary (record c.args.self.now.summary { counted = c.count.new.counted }) (has_key c.args.self.now.tops) (has_key c.raise.new.self) (end_begins_none c.args.call (r.Stored c.args.stamp)) refl refl
            (known_stays (has_key c.args.self.now.tops) (has_key c.raise.new.self) c.in-Some.state.now.key.0 (h.sums.begun c.args.call c.in-Some.state.now.key c.in-Some.state.now.work (h.tells.told c.args.call c.in-Some.state.now at).begun (ap is_register_work does))
            c.in_ok-raise.ensures.has) h.sums;
      },
    )
