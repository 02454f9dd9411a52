use Rattle.std.proofs.Common.{[], refl, ap}
use Rattle.wire_msg.specs.declared.outputs.Reply.TheVariants as r
use Rattle.run_marks.specs.declared.mark.Work.TheVariants as w
use Rattle.history_audit.specs.Calls.{ending_so, look}
use Rattle.history_audit.specs.declared.calls.Ending.TheVariants.{Ended}
use Rattle.history_audit.specs.Tables.{has_key, last_of, top_at, was_drawn}
use Rattle.history_audit.proofs.Ending.{tells_after_read}
use Rattle.history_audit.proofs.ReadEnds.{may_give_keeps, may_give_low, read_breaks}
use Rattle.run_marks.specs.declared.mark.Mark.TheVariants as k
use Rattle.run_marks.specs.History.{is_register_work}
use Rattle.history_audit.proofs.Summing.{end_begins_none, known_read, known_stays, sums_after_other}
use Rattle.history_audit.specs.Told.{KeepsFirst}
use Rattle.history_audit.proofs.Events.{each_push}
use Rattle.history_audit.proofs.Effective.{begin_once, changed_counts, counted_more, counted_with_line, given_more}
use Rattle.history_audit.proofs.CountingStamps.{counted_after_read}
use Rattle.history_audit.proofs.judge.Judge.end_read.Goals as goal

pub returns-in-Some : goal.returns-in-Some
returns-in-Some c = λ marks h is form.
    read_breaks marks (look c.args.self.now.calls) (last_of c.args.self.now.lasts) (was_drawn c.args.self.now.tickets) (top_at c.args.self.now.tops) h.tells h.counted c.args.call c.args.key c.args.floor c.args.stamp c.args.value.now is form c.in-Some.clause (c.in-Some.ensures marks h)

pub returns : goal.returns
returns c = λ marks h is form.
    let may = c.in_default.ensures marks h in
    let keeps = may_give_keeps marks (look c.args.self.now.calls) (last_of c.args.self.now.lasts) (was_drawn c.args.self.now.tickets) (top_at c.args.self.now.tops) h.tells h.counted c.args.call c.args.key c.args.floor c.args.stamp c.args.value.now is form may in
    let once = begin_once marks h.kept in
    let kept = c.count_given.ensures.kept c.args.call c.args.key w.Read is.kept in
    let told = c.count_given.ensures.tells marks (last_of c.args.self.now.lasts) (was_drawn c.args.self.now.tickets) h.tells in (
      may_give_keeps marks (look c.args.self.now.calls) (last_of c.args.self.now.lasts) (was_drawn c.args.self.now.tickets) (top_at c.args.self.now.tops) h.tells h.counted c.args.call c.args.key c.args.floor c.args.stamp c.args.value.now is form may,
      record {
        kept = each_push KeepsFirst [] marks (k.End c.args.call (r.Value c.args.stamp c.args.value.now)) h.kept keeps;
        effects = counted_with_line marks (k.End c.args.call (r.Value c.args.stamp c.args.value.now)) (look c.count.new.calls) (look c.end.new.self) c.count.new.counted refl
            (λ other key_ work begun. changed_counts c.args.call (ending_so Ended) (look c.count.new.calls) (look c.end.new.self) c.end.ensures (λ s. refl) other)
            (counted_more marks c.args.call kept.state.key kept.state.work c.args.stamp kept.state (look c.count_given.new.calls) (look c.count.new.calls) c.count_given.new.counted c.count.new.counted once
            (told.told c.args.call kept.state kept.found).begun kept.found c.count.ensures.calls c.count.ensures.counted
            (given_more marks c.args.key c.args.floor c.args.stamp c.args.value.now (look c.args.self.now.calls) (look c.count_given.new.calls) (last_of c.args.self.now.lasts) (was_drawn c.args.self.now.tickets) c.args.self.now.summary.counted
            c.count_given.new.counted h.tells once may c.count_given.ensures.given c.count_given.ensures.none c.count_given.ensures.one h.effects));
        tells = tells_after_read marks c.args.call c.args.key c.args.stamp (r.Value c.args.stamp c.args.value.now) (look c.count_given.new.calls) (look c.count.new.calls) (look c.end.new.self) (last_of c.args.self.now.lasts)
            (was_drawn c.args.self.now.tickets) (c.count_given.ensures.kept c.args.call c.args.key w.Read is.kept) c.count.ensures.calls c.end.ensures
            (c.count_given.ensures.tells marks (last_of c.args.self.now.lasts) (was_drawn c.args.self.now.tickets) h.tells);
        counted = counted_after_read marks c.args.call c.args.key c.args.floor c.args.stamp c.args.value.now (look c.args.self.now.calls) (last_of c.args.self.now.lasts) (was_drawn c.args.self.now.tickets) (top_at c.args.self.now.tops) h.tells form.call h.counted is
            (may_give_low marks (look c.args.self.now.calls) c.args.key c.args.floor c.args.stamp c.args.value.now may) (look c.count_given.new.calls) (look c.count.new.calls) (look c.end.new.self) (top_at c.raise.new.self) may
            c.count_given.ensures.given c.count.ensures.calls c.end.ensures c.in_ok-raise.ensures.top;
        sums = sums_after_other marks (k.End c.args.call (r.Value c.args.stamp c.args.value.now)) c.args.self.now.summary (record c.args.self.now.summary { counted = c.count.new.counted }) (has_key c.args.self.now.tops) (has_key c.raise.new.self) (end_begins_none c.args.call (r.Value c.args.stamp c.args.value.now))
            refl refl
            (known_stays (has_key c.args.self.now.tops) (has_key c.raise.new.self) c.args.key.0 (known_read (has_key c.args.self.now.tops) is.kept.state.key c.args.key is.kept.key_is (h.sums.begun c.args.call is.kept.state.key is.kept.state.work (h.tells.told c.args.call is.kept.state is.kept.found).begun
            (ap is_register_work is.kept.work_is))) c.in_ok-raise.ensures.has) h.sums;
      },
    )
