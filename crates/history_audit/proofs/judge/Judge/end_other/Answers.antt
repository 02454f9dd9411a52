use Rattle.std.proofs.Common.{[], ◌≡◌, Bool, refl, sym, subst, ◌∙◌}
use Rattle.std.specs.Prelude.{cond}
use Rattle.run_marks.specs.declared.mark.Mark.TheVariants as k
use Rattle.history_audit.specs.declared.calls.Ending.TheVariants.{Dead, Ended}
use Rattle.history_audit.specs.Calls.{ending_so, look}
use Rattle.history_audit.specs.Tables.{has_key, last_of, top_at, was_drawn}
use Rattle.history_audit.proofs.Ending.{tells_after_end}
use Rattle.history_audit.proofs.Ends.{dead_and_counted, not_dead_or_uncounted, over_by}
use Rattle.history_audit.proofs.Summing.{end_begins_none, sums_after_other}
use Rattle.history_audit.specs.Told.{KeepsFirst}
use Rattle.history_audit.proofs.Events.{each_push}
use Rattle.history_audit.proofs.Effective.{changed_counts, counted_with_line}
use Rattle.history_audit.proofs.CountingEnds.{counted_after_other}
use Rattle.history_audit.proofs.Breaking.{end_breaks_dead}
use Rattle.history_audit.proofs.Tickets.{unknown_call}
use Rattle.history_audit.proofs.judge.Judge.end_other.Goals as goal

pub returns-in_default : goal.returns-in_default
returns-in_default c = λ marks reply h keeps tells is open_. unknown_call marks (look c.args.self.now.calls) (last_of c.args.self.now.lasts) (was_drawn c.args.self.now.tickets) h.tells c.args.call (sym c.in_default.ensures) open_

pub returns-then-breaks_dead : goal.returns-then-breaks_dead
returns-then-breaks_dead c = λ marks reply h keeps tells is.
    let it = dead_and_counted c.args.dead c.in-Some.state.now.counted (sym c.if-breaks_dead.ensures) in
    (keeps, end_breaks_dead marks c.args.call reply (look c.args.self.now.calls) (last_of c.args.self.now.lasts) (was_drawn c.args.self.now.tickets) (top_at c.args.self.now.tops) h.tells keeps.form.call h.counted c.in-Some.state.now it.1.0 (sym c.in-Some.ensures) it.1.1 (sym is ∙ it.0))

pub returns : goal.returns
returns c = λ marks reply h keeps tells is.
    let at = sym c.in-Some.ensures in
    let ending_is = subst (λ (b : Bool). c.ending_of.result ≡ cond b Dead Ended) is c.ending_of.ensures in (
      keeps,
      record {
        kept = each_push KeepsFirst [] marks (k.End c.args.call reply) h.kept keeps;
        effects = counted_with_line marks (k.End c.args.call reply) (look c.args.self.now.calls) (look c.end.new.self) c.args.self.now.summary.counted refl
            (λ other key work begun. changed_counts c.args.call (ending_so c.ending_of.result) (look c.args.self.now.calls) (look c.end.new.self) c.end.ensures (λ s. refl) other) h.effects;
        tells = tells_after_end marks c.args.call c.in-Some.state.now reply c.ending_of.result (look c.args.self.now.calls) (look c.end.new.self) (last_of c.args.self.now.lasts) (was_drawn c.args.self.now.tickets)
            (over_by c.ending_of.result c.args.dead c.ending_of.ensures) at c.end.ensures h.tells;
        counted = counted_after_other marks c.args.call reply (look c.args.self.now.calls) (last_of c.args.self.now.lasts) (was_drawn c.args.self.now.tickets) h.tells keeps.form.call (top_at c.args.self.now.tops) c.in-Some.state.now c.ending_of.result (look c.end.new.self) at tells
            (λ dead. not_dead_or_uncounted c.args.dead c.in-Some.state.now.counted (sym c.if-breaks_dead.ensures) (is ∙ dead)) ending_is c.end.ensures h.counted;
        sums = sums_after_other marks (k.End c.args.call reply) c.args.self.now.summary c.args.self.now.summary (has_key c.args.self.now.tops) (has_key c.args.self.now.tops) (end_begins_none c.args.call reply) refl refl (λ key. refl) h.sums;
      },
    )
