-- A restart run that is read has a header that opens a store, and events that may happen there.
use Rattle.std.proofs.Common.{◌≡◌, ℕ, ◌+◌, ◌≤◌, ◌==◌, Bool, true, false, cond, ◌&&◌, List, [], ◌∷◌, length, Option, Some, None, Result, Ok, Err, refl, subst}
use Rattle.std.specs.Prelude.{codes, nat_le, IfOk}
use Rattle.std.specs.List.{All}
use Rattle.std.proofs.lemmas.Bool.{leb-true}
use Rattle.std.proofs.lemmas.List.Elements.{All-nil, All-cons}
use Rattle.world_core.specs.declared.event.Header.{Header}
use Rattle.world_core.specs.declared.event as declared
use Rattle.world_core.specs.Run.{IsHeader}
use Rattle.schedule_text.specs.declared.kept_event.KeptEvent.{KeptEvent}
use Rattle.schedule_text.specs.declared.kept_event.KeptEvent.TheVariants.{Event, Crash}
use Rattle.schedule_text.specs.declared.flaw.Flaw.{Flaw}
use Rattle.schedule_text.specs.declared.flaw.Flaw.TheVariants.{Syntax, Number}
use Rattle.schedule_text.specs.declared.setting.Form.TheVariants.{Plain}
use Rattle.schedule_text.specs.declared.fault.ScheduleFault.{ScheduleFault}
use Rattle.schedule_text.specs.Flaws.{both, made}
use Rattle.schedule_text.specs.Words.{lines_of, words_of, is_word, three}
use Rattle.schedule_text.specs.Numbers.{spelled, count_says}
use Rattle.schedule_text.specs.Headers.{Opened, header_says, begin_line}
use Rattle.schedule_text.specs.Tables.{setting_of}
use Rattle.schedule_text.specs.Events.{event_by}
use Rattle.schedule_text.specs.Kept.{KeptSchedule, disk_call, image_says, crash_says, kept_by, by_words, kept_event_says, first_kept_fault, kept_ahead_of, kept_events_of, unless_kept_fault, with_kept_events}
use Rattle.schedule_text.specs.KeptLaws.{KeptMayAlways, IsKeptSchedule, KeptSchedulesMayHappen}
use Rattle.schedule_text.proofs.Read.{made_ok, both_ok, formed_ok, test_ok}
use Rattle.schedule_text.proofs.Happening.{MayIf, may_by, header_opens}

abbrev KeptMayIf : Header → Result KeptEvent Flaw → Type 0
KeptMayIf header said = IfOk said (KeptMayAlways header)

-- a call of the disk is one of four
call_is : (text : List ℕ) (number : Option ℕ) (call : ℕ) → disk_call text number ≡ Ok call → (1 ≤ call) × (call ≤ 4)
call_is text None call h = absurd (no_call (length text == 0) h)
  where
    no_call : (b : Bool) → cond {A = Result ℕ Flaw} b (Err Syntax) (Err Number) ≡ Ok call → ⊥
    no_call true h = cc
    no_call false h = cc
call_is text (Some number) call h =
    let it = test_ok (nat_le 1 number && nat_le number 4) (Ok number) Number call h in
    let same : number ≡ call = cc in
    let parts = split (nat_le 1 number) (nat_le number 4) it.0 in
    subst (λ (n : ℕ). (1 ≤ n) × (n ≤ 4)) same (leb-true 1 number parts.0, leb-true number 4 parts.1)
  where
    split : (a b : Bool) → (a && b) ≡ true → (a ≡ true) × (b ≡ true)
    split true b h = (refl, h)
    split false b h = absurd (cc)

crash_may : (header : Header) (words : List (List ℕ)) (said : Result KeptEvent Flaw) → crash_says words ≡ said → KeptMayIf header said
unfolding crash_says
crash_may header words (Err flaw) h = tt
crash_may header words (Ok event) h =
    let crash = λ (n : (ℕ × ℕ) × Bool). (let it : KeptEvent = Crash n.0.0 n.0.1 n.1 in it) in
    let parts = λ (it : List ℕ × List ℕ × List ℕ). both (both (count_says it.0) (disk_call it.1 (spelled it.1))) (image_says it.2) in
    let it = formed_ok (three words) (λ it. made crash (parts it)) event h in
    let n = made_ok crash (parts it.0) event it.2 in
    let outer = both_ok (both (count_says it.0.0) (disk_call it.0.1 (spelled it.0.1))) (image_says it.0.2) n.0 n.1 in
    let inner = both_ok (count_says it.0.0) (disk_call it.0.1 (spelled it.0.1)) n.0.0 outer.0 in
    subst (KeptMayAlways header) n.2 (call_is it.0.1 (spelled it.0.1) n.0.0.1 inner.1)

made_may : (header : Header) (said : Result declared.Event.Event Flaw) → MayIf header said → KeptMayIf header (made Event said)
made_may header (Ok event) may = may
made_may header (Err flaw) may = tt

line_may : (header : Header) (text : List ℕ) → KeptMayIf header (kept_event_says (setting_of Plain header) text)
unfolding kept_event_says kept_by
line_may header text = by_pieces (words_of text)
  where
    by_word : (b : Bool) (word : List ℕ) (words : List (List ℕ)) → KeptMayIf header (cond {A = Result KeptEvent Flaw} b (crash_says words) (made Event (event_by (setting_of Plain header) word words)))
    by_word true word words = crash_may header words (crash_says words) refl
    by_word false word words = made_may header (event_by (setting_of Plain header) word words) (may_by Plain header word words)

    by_pieces : (pieces : List (List ℕ)) → KeptMayIf header (by_words (setting_of Plain header) pieces)
    by_pieces [] = tt
    by_pieces (word ∷ words) = by_word (is_word word (codes "crash")) word words

events_may : (header : Header) (lines : List (List ℕ)) → All (KeptMayAlways header) (kept_events_of (setting_of Plain header) lines)
unfolding kept_events_of
events_may header [] = All-nil (KeptMayAlways header)
events_may header (text ∷ texts) = by_event (kept_event_says (setting_of Plain header) text) (line_may header text) (events_may header texts)
  where
    by_event : (said : Result KeptEvent Flaw) → KeptMayIf header said → All (KeptMayAlways header) (kept_events_of (setting_of Plain header) texts)
        → All (KeptMayAlways header) (kept_ahead_of said (kept_events_of (setting_of Plain header) texts))
    by_event (Ok event) may rest = All-cons (KeptMayAlways header) event (kept_events_of (setting_of Plain header) texts) may rest
    by_event (Err flaw) may rest = All-nil (KeptMayAlways header)

pub kept_schedules_may : KeptSchedulesMayHappen
kept_schedules_may text schedule h = by_header (header_says (lines_of text)) (header_opens (lines_of text)) h
  where
    by_fault : (it : Opened) → IsHeader it.header → (fault : Option ScheduleFault)
        → unless_kept_fault (record { header = it.header; events = kept_events_of (setting_of Plain it.header) it.lines }) fault ≡ Ok schedule → IsKeptSchedule schedule
    by_fault it opens None is =
        let read : KeptSchedule = record { header = it.header; events = kept_events_of (setting_of Plain it.header) it.lines } in
        let same : read ≡ schedule = cc in
        subst IsKeptSchedule same (record { opens = opens; may = events_may it.header it.lines })
    by_fault it opens (Some fault) is = absurd (cc)

    by_header : (said : Result Opened ScheduleFault) → IfOk said (λ it. IsHeader it.header) → with_kept_events said ≡ Ok schedule → IsKeptSchedule schedule
    by_header (Err fault) opens is = absurd (cc)
    by_header (Ok it) opens is = by_fault it opens (first_kept_fault (setting_of Plain it.header) (begin_line it.header + 1) 1 it.lines) is
