use Rattle.run_marks.specs.declared.mark.Mark.TheVariants as k
use Rattle.std.proofs.Common.{[], ◌≡◌, ◌+◌, Some, cond, refl, sym, ap, subst, ◌∙◌}
use Rattle.span_base.specs.declared.ids.Call.{Call}
use Rattle.ticket_rules.specs.declared.stamp.Stamp.{Stamp}
use Rattle.run_marks.specs.History.{is_same_call}
use Rattle.history_audit.specs.Calls.{look}
use Rattle.history_audit.specs.Tables.{has_key, last_of, top_at, was_drawn}
use Rattle.history_audit.proofs.Beginning.{fresh, tells_after_begin, begin_keeps, begin_breaks}
use Rattle.history_audit.proofs.Summing.{sums_after_begin}
use Rattle.history_audit.specs.Told.{KeepsFirst}
use Rattle.history_audit.proofs.Events.{each_push}
use Rattle.history_audit.proofs.Effective.{begun_counts, begun_counts_not, counted_with_line}
use Rattle.history_audit.proofs.Counting.{counted_after_begin}
use Rattle.history_audit.proofs.judge.Judge.begin.Goals as goal

pub returns-then-not-is_next : goal.returns-then-not-is_next
returns-then-not-is_next c = λ marks h next.
    begin_breaks marks (look c.args.self.now.calls) (last_of c.args.self.now.lasts) (was_drawn c.args.self.now.tickets) h.tells c.args.call
    (λ same. let no_ = c.if-not-is_next.ensures.1 (same ∙ ap (λ n. n + 1) (sym c.of-last.ensures)) in cc no_) next

pub returns : goal.returns
returns c = λ marks h.
    let next = c.if-not-is_next.ensures.0 refl ∙ ap (λ n. n + 1) c.of-last.ensures in
    let keeps = begin_keeps marks (look c.args.self.now.calls) (last_of c.args.self.now.lasts) (was_drawn c.args.self.now.tickets) h.tells c.args.call c.args.key c.args.work next in
    let is = subst (λ (f : Stamp). (other : Call) → look c.add.new.self other ≡ cond (is_same_call c.args.call other) (Some (fresh c.args.key c.args.work f)) (look c.args.self.now.calls other)) c.of-floor.ensures c.in_ok-add.ensures in (
      keeps,
      record {
        kept = each_push KeepsFirst [] marks (k.Begin c.args.call c.args.key c.args.work) h.kept keeps;
        effects = counted_with_line marks (k.Begin c.args.call c.args.key c.args.work) (look c.args.self.now.calls) (look c.add.new.self) c.note_begin.new.summary.counted
            (begun_counts_not c.args.call (fresh c.args.key c.args.work c.of-floor.result) (look c.args.self.now.calls) (look c.add.new.self) refl c.in_ok-add.ensures)
            (begun_counts marks c.args.call c.args.key c.args.work (fresh c.args.key c.args.work c.of-floor.result) (look c.args.self.now.calls) (look c.add.new.self) (last_of c.args.self.now.lasts) (was_drawn c.args.self.now.tickets) h.tells
            keeps.form.call c.in_ok-add.ensures) (c.in_ok-note_begin.ensures.counted ∙ h.effects);
        tells = tells_after_begin marks c.args.call c.args.key c.args.work c.of-floor.result (look c.args.self.now.calls) (look c.add.new.self) (last_of c.args.self.now.lasts) (last_of c.set.new.self)
            (was_drawn c.args.self.now.tickets) next c.in_ok-add.ensures c.in_ok-set.ensures h.tells;
        counted = counted_after_begin marks c.args.call c.args.key c.args.work (look c.args.self.now.calls) (look c.add.new.self) (last_of c.args.self.now.lasts) (was_drawn c.args.self.now.tickets) (top_at c.args.self.now.tops)
            (top_at c.note_begin.new.tops) next is c.in_ok-note_begin.ensures.tops h.tells keeps.form.call h.counted;
        sums = sums_after_begin marks c.args.call c.args.key c.args.work c.args.self.now.summary c.note_begin.new.summary (has_key c.args.self.now.tops) (has_key c.note_begin.new.tops) c.in_ok-note_begin.ensures.calls c.in_ok-note_begin.ensures.keys
            c.in_ok-note_begin.ensures.has h.sums;
      },
    )
