-- A schedule's text says the same as that of a restart run.
use Rattle.std.proofs.Common.{◌≡◌, ℕ, ◌+◌, ◌==◌, Bool, true, false, cond, ◌&&◌, List, [], ◌∷◌, Option, Some, None, Result, Ok, Err, refl, sym, ap, ◌∙◌}
use Rattle.std.specs.Prelude.{codes, map}
use Rattle.std.proofs.lemmas.Bool.{eqb-true}
use Rattle.span_base.specs.declared.words.What.TheVariants as what
use Rattle.world_core.specs.declared.event as declared
use Rattle.schedule_text.specs.declared.kept_event.KeptEvent.{KeptEvent}
use Rattle.schedule_text.specs.declared.kept_event.KeptEvent.TheVariants.{Event}
use Rattle.schedule_text.specs.declared.flaw.Flaw.{Flaw}
use Rattle.schedule_text.specs.declared.setting.Form.TheVariants.{Plain}
use Rattle.schedule_text.specs.declared.setting.Setting.{Setting}
use Rattle.schedule_text.specs.declared.fault.ScheduleFault.{ScheduleFault}
use Rattle.schedule_text.specs.Flaws.{made, within}
use Rattle.schedule_text.specs.Words.{lines_of, words_of, is_word}
use Rattle.schedule_text.specs.Headers.{Opened, header_says, begin_line}
use Rattle.schedule_text.specs.Tables.{setting_of}
use Rattle.schedule_text.specs.Events as plain
use Rattle.schedule_text.specs.Schedules.{Schedule, numbered, first_fault, fault_or, events_of, unless_fault, with_events}
use Rattle.schedule_text.specs.Kept.{KeptSchedule, crash_says, kept_by, by_words, kept_event_says, kept_numbered, first_kept_fault, kept_events_of, unless_kept_fault, with_kept_events}
use Rattle.schedule_text.specs.KeptLaws.{SchedulesAreRestartRuns}
use Rattle.schedule_text.proofs.Read.{after_ok}

same_word : (xs ys : List ℕ) → is_word xs ys ≡ true → xs ≡ ys
same_word [] [] h = refl
same_word [] (y ∷ ys) h = absurd (cc)
same_word (x ∷ xs) [] h = absurd (cc)
same_word (x ∷ xs) (y ∷ ys) h = let it = split (x == y) (is_word xs ys) h in ap (λ (n : ℕ). n ∷ xs) (eqb-true x y it.0) ∙ ap (λ (ns : List ℕ). y ∷ ns) (same_word xs ys it.1)
  where
    split : (a b : Bool) → (a && b) ≡ true → (a ≡ true) × (b ≡ true)
    split true b h = (refl, h)
    split false b h = absurd (cc)

-- no event of the store begins with the word of a crash
no_event : (setting : Setting) (words : List (List ℕ)) (event : declared.Event.Event) → plain.event_by setting (codes "crash") words ≡ Ok event → ⊥
unfolding plain.event_by
no_event setting words event h = cc

word_kept : (setting : Setting) (word : List ℕ) (words : List (List ℕ)) (event : declared.Event.Event) → plain.event_by setting word words ≡ Ok event → kept_by setting word words ≡ Ok (Event event)
unfolding kept_by
word_kept setting word words event h = by_test (is_word word (codes "crash")) refl
  where
    by_test : (b : Bool) → is_word word (codes "crash") ≡ b → cond {A = Result KeptEvent Flaw} b (crash_says words) (made Event (plain.event_by setting word words)) ≡ Ok (Event event)
    by_test true is = absurd (no_event setting words event (ap (λ (w : List ℕ). plain.event_by setting w words) (sym (same_word word (codes "crash") is)) ∙ h))
    by_test false is = ap (made Event) h

line_kept : (setting : Setting) (text : List ℕ) (event : declared.Event.Event) → plain.event_says setting text ≡ Ok event → kept_event_says setting text ≡ Ok (Event event)
unfolding plain.event_says kept_event_says
line_kept setting text event h = by_pieces (words_of text) h
  where
    by_pieces : (pieces : List (List ℕ)) → plain.by_words setting pieces ≡ Ok event → by_words setting pieces ≡ Ok (Event event)
    by_pieces [] h = absurd (cc)
    by_pieces (word ∷ words) h = word_kept setting word words event h

number_kept : (setting : Setting) (number : ℕ) (text : List ℕ) (event : declared.Event.Event) → numbered setting number text ≡ Ok event → (plain.event_says setting text ≡ Ok event) × (kept_numbered setting number text ≡ Ok (Event event))
number_kept setting number text event h =
    let it = after_ok (within what.Events 1000000 number) (plain.event_says setting text) event h in
    (it.1, rw it.0 (rw (line_kept setting text event it.1) refl))

-- where no line has a fault
record AreKept (setting : Setting) (line number : ℕ) (lines : List (List ℕ)) : Type 0 where
  none : first_kept_fault setting line number lines ≡ None
  same : kept_events_of setting lines ≡ map Event (events_of setting lines)

lines_kept : (setting : Setting) (line number : ℕ) (lines : List (List ℕ)) → first_fault setting line number lines ≡ None → AreKept setting line number lines
unfolding first_fault first_kept_fault events_of kept_events_of
lines_kept setting line number [] h = record { none = refl; same = refl }
lines_kept setting line number (text ∷ texts) h = by_line (numbered setting number text) refl h (λ rest. lines_kept setting (line + 1) (number + 1) texts rest)
  where
    by_line : (said : Result declared.Event.Event Flaw) → numbered setting number text ≡ said → fault_or line said (first_fault setting (line + 1) (number + 1) texts) ≡ None
        → (first_fault setting (line + 1) (number + 1) texts ≡ None → AreKept setting (line + 1) (number + 1) texts) → AreKept setting line number (text ∷ texts)
    by_line (Err flaw) is h more = absurd (cc)
    by_line (Ok event) is h more =
        let it = number_kept setting number text event is in
        let rest = more h in
        record {
          none = rw it.1 rest.none;
          same = rw (line_kept setting text event it.0) (rw it.0 (ap (λ (events : List KeptEvent). Event event ∷ events) rest.same));
        }

pub schedules_are_runs : SchedulesAreRestartRuns
schedules_are_runs text schedule h = by_header (header_says (lines_of text)) h
  where
    by_fault : (it : Opened) (fault : Option ScheduleFault) → first_fault (setting_of Plain it.header) (begin_line it.header + 1) 1 it.lines ≡ fault
        → unless_fault (record { header = it.header; events = events_of (setting_of Plain it.header) it.lines }) fault ≡ Ok schedule
        → with_kept_events (Ok it) ≡ Ok (record { header = schedule.header; events = map Event schedule.events })
    by_fault it None is h =
        let read : Schedule = record { header = it.header; events = events_of (setting_of Plain it.header) it.lines } in
        let same : read ≡ schedule = cc in
        let kept = lines_kept (setting_of Plain it.header) (begin_line it.header + 1) 1 it.lines is in
        ap (unless_kept_fault (record { header = it.header; events = kept_events_of (setting_of Plain it.header) it.lines })) kept.none
        ∙ ap (λ (events : List KeptEvent). let run : KeptSchedule = record { header = it.header; events = events } in Ok run) kept.same
        ∙ ap (λ (s : Schedule). let run : KeptSchedule = record { header = s.header; events = map Event s.events } in Ok run) same
    by_fault it (Some fault) is h = absurd (cc)

    by_header : (said : Result Opened ScheduleFault) → with_events Plain said ≡ Ok schedule → with_kept_events said ≡ Ok (record { header = schedule.header; events = map Event schedule.events })
    by_header (Err fault) h = absurd (cc)
    by_header (Ok it) h = by_fault it (first_fault (setting_of Plain it.header) (begin_line it.header + 1) 1 it.lines) refl h
