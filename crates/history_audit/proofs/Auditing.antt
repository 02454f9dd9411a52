-- The audit of a whole log, line after line.
use Rattle.std.proofs.Common.{◌≡◌, ℕ, ◌+◌, true, false, List, [], ◌∷◌, ◌++◌, length, append_assoc, length-append, Option, Some, None, Ok, Err, refl, sym, ap, subst, ◌∙◌, arith}
use Rattle.std.specs.Prelude.{Result, is_some}
use Rattle.std.specs.Result.{IsErrAnd}
use Rattle.run_marks.specs.declared.mark.Mark.{Mark}
use Rattle.register_order.specs.Clauses.{EachKeeps, KeepsClauses}
use Rattle.history_audit.specs.declared.auditor.Auditor.{Auditor}
use Rattle.history_audit.specs.declared.judge.Judge.{Judge}
use Rattle.history_audit.specs.declared.summary.Summary.{Summary}
use Rattle.history_audit.specs.declared.fault.Clause.{Clause}
use Rattle.history_audit.specs.declared.fault.AuditFault.{AuditFault}
use Rattle.history_audit.specs.declared.fault.AuditFault.TheVariants as fault
use Rattle.history_audit.specs.Texts.{LogFault, Bad, Limit, ReadsMark, led_by_mark, log_says, lines_of, lines_say}
use Rattle.history_audit.specs.Told.{KeepsFirst}
use Rattle.history_audit.specs.Judging.{BreaksFirst, ToldBy, Judges}
use Rattle.history_audit.specs.Calls.{look}
use Rattle.history_audit.specs.Tables.{has_key, last_of, top_at, was_drawn}
use Rattle.history_audit.proofs.Events.{each_push}
use Rattle.history_audit.proofs.FromCounted.{none_is_dead, in_order}
use Rattle.history_audit.specs.Audited.{AuditEnds, IsFirstBreak, IsUnbroken, led_by_marks, HasRead, Stands, StandsAt}
use Rattle.register_order.proofs.FromLog.{unbroken_calls_take_effect}
use Rattle.std.specs.List.{count_by}
use Rattle.std.proofs.lemmas.List.Sums.{count_by-le-length}
use Rattle.history_audit.specs.Summed.{counts_at}
use Rattle.history_audit.proofs.Effective.{as_many_effects}
use Rattle.history_audit.proofs.Summing.{sums_up}

pub marks_push : (front : List Mark) (mark : Mark) (left : Result (List Mark) LogFault) → led_by_marks (front ++ mark ∷ []) left ≡ led_by_marks front (led_by_mark mark left)
marks_push [] mark left = refl
marks_push (m ∷ ms) mark left = ap (led_by_mark m) (marks_push ms mark left)

pub marks_end : (front : List Mark) → led_by_marks front (Ok []) ≡ Ok front
marks_end [] = refl
marks_end (m ∷ ms) = ap (led_by_mark m) (marks_end ms)

pub marks_refused : (front : List Mark) (fault : LogFault) → led_by_marks front (Err fault) ≡ Err fault
marks_refused [] fault = refl
marks_refused (m ∷ ms) fault = ap (led_by_mark m) (marks_refused ms fault)

pub stands_on : (front : List Mark) (mark : Mark) (judge : Judge) → EachKeeps KeepsClauses [] front → KeepsFirst front mark → ToldBy (front ++ mark ∷ []) judge → StandsAt (front ++ mark ∷ []) judge None
stands_on front mark judge each one told = (each_push KeepsClauses [] front mark each clauses, told)
  where
    clauses : KeepsClauses front mark
    clauses = record {
      call = one.form.call;
      kind = one.form.kind;
      stamp = one.form.stamp;
      value = one.value;
      dead = λ key. none_is_dead (front ++ mark ∷ []) (look judge.calls) (last_of judge.lasts) (was_drawn judge.tickets) (top_at judge.tops) told.tells told.counted key;
      order = λ key. in_order (front ++ mark ∷ []) (look judge.calls) (last_of judge.lasts) (was_drawn judge.tickets) (top_at judge.tops) told.tells told.counted told.kept key;
    }

pub first_break : (front : List Mark) (mark : Mark) (line : ℕ) (broken : Clause) → line ≡ length front + 1 → EachKeeps KeepsClauses [] front → BreaksFirst front mark broken → IsFirstBreak (front ++ mark ∷ []) line broken
first_break front mark line broken at each breaks = record { before = front; mark = mark; after = []; split = refl; line_is = at; kept = each; breaks = breaks }

pub break_stays : (front : List Mark) (mark : Mark) (line : ℕ) (broken : Clause) → IsFirstBreak front line broken → IsFirstBreak (front ++ mark ∷ []) line broken
break_stays front mark line broken h = record {
  before = h.before;
  mark = h.mark;
  after = h.after ++ mark ∷ [];
  split = ap (λ (ms : List Mark). ms ++ mark ∷ []) h.split ∙ append_assoc h.before (h.mark ∷ h.after) (mark ∷ []);
  line_is = h.line_is;
  kept = h.kept;
  breaks = h.breaks;
}

pub still_broken : (front : List Mark) (mark : Mark) (judge : Judge) (broken : Option (ℕ × Clause)) → true ≡ is_some broken → StandsAt front judge broken → StandsAt (front ++ mark ∷ []) judge broken
still_broken front mark judge None some h = absurd (cc)
still_broken front mark judge (Some it) some h = break_stays front mark it.0 it.1 h

pub told_so_far : (front : List Mark) (judge : Judge) (broken : Option (ℕ × Clause)) → false ≡ is_some broken → StandsAt front judge broken → EachKeeps KeepsClauses [] front × ToldBy front judge
told_so_far front judge None none h = h
told_so_far front judge (Some it) none h = absurd (cc)

pub one_more : (front : List Mark) (mark : Mark) (old new : Judge) (broken : Option (ℕ × Clause)) → false ≡ is_some broken → StandsAt front old broken → Judges front mark new (Ok None) → StandsAt (front ++ mark ∷ []) new broken
one_more front mark old new None none h judged = stands_on front mark new h.0 judged.0 judged.1
one_more front mark old new (Some it) none h judged = absurd (cc)

pub has_read_more : (text : List ℕ) (old new : Auditor) (line next : ℕ) (mark : Mark) (said left : Result (List Mark) LogFault) → said ≡ led_by_mark mark left → next ≡ line + 1
    → ((front : List Mark) → line ≡ length front + 1 → Stands front old → Stands (front ++ mark ∷ []) new) → HasRead text old line said → HasRead text new next left
has_read_more text old new line next mark said left is next_is judges h = record {
  front = h.front ++ mark ∷ [];
  says = h.says ∙ ap (led_by_marks h.front) is ∙ sym (marks_push h.front mark left);
  line_is = let e = length-append h.front (mark ∷ []) in let l = h.line_is in omega (arith, e, l, next_is);
  stands = judges h.front h.line_is h.stands;
}

pub has_read_all : (text : List ℕ) (auditor : Auditor) (line : ℕ) (said : Result (List Mark) LogFault) → said ≡ Ok [] → (h : HasRead text auditor line said) → log_says text ≡ Ok h.front
has_read_all text auditor line said is h = h.says ∙ ap (led_by_marks h.front) is ∙ marks_end h.front

pub is_refused : (text : List ℕ) (auditor : Auditor) (line : ℕ) (said : Result (List Mark) LogFault) (fault : LogFault) → said ≡ Err fault → HasRead text auditor line said → log_says text ≡ Err fault
is_refused text auditor line said fault is h = h.says ∙ ap (led_by_marks h.front) is ∙ marks_refused h.front fault

pub nothing_read : (text : List ℕ) (auditor : Auditor) → Stands [] auditor → HasRead text auditor 1 (lines_say 1 (lines_of text))
nothing_read text auditor h = record { front = []; says = refl; line_is = refl; stands = h }

pub ends_refused : (text : List ℕ) (auditor : Auditor) (line : ℕ) (said left : Result (List Mark) LogFault) (e : AuditFault) → ReadsMark said left (Err e) → HasRead text auditor line said → AuditEnds text (Err e)
ends_refused text auditor line said left (fault.Bad at) is h = is_refused text auditor line said (Bad at) is h
ends_refused text auditor line said left (fault.Limit at) is h = is_refused text auditor line said (Limit at) is h
ends_refused text auditor line said left (fault.Broken at broken) is h = absurd is
ends_refused text auditor line said left (fault.NoMemory error) is h = tt

pub ends_by : (text : List ℕ) (result : Result Summary AuditFault) (e : AuditFault) → IsErrAnd result (λ f. f ≡ e) → AuditEnds text (Err e) → AuditEnds text result
ends_by text (Ok summary) e is h = absurd is
ends_by text (Err f) e is h = subst (λ (x : AuditFault). AuditEnds text (Err x)) (sym is) h

-- a log of which no line broke a clause
pub unbroken : (text : List ℕ) (front : List Mark) (judge : Judge) → log_says text ≡ Ok front → StandsAt front judge None → IsUnbroken text judge.summary
unbroken text front judge says h = record {
  marks = front;
  says = says;
  kept = h.0;
  register = λ key. unbroken_calls_take_effect front h.0 key;
  sums = sums_up text front judge.summary (has_key judge.tops) (count_by (counts_at (look judge.calls)) front) says h.1.sums h.1.effects (count_by-le-length (counts_at (look judge.calls)) front)
      (as_many_effects front (look judge.calls) (last_of judge.lasts) (was_drawn judge.tickets) (top_at judge.tops) h.1.tells h.1.counted);
}
