-- A restart run has at most 1,000,000 events.
use Rattle.std.proofs.Common.{◌≡◌, ℕ, ◌+◌, ◌≤◌, Bool, true, false, cond, List, [], ◌∷◌, length, refl, subst, arith}
use Rattle.std.specs.Prelude.{nat_le, Option, Some, None, Result, Ok, Err}
use Rattle.std.proofs.lemmas.Bool.{leb-true}
use Rattle.span_base.specs.declared.words.What.TheVariants as what
use Rattle.schedule_text.specs.declared.kept_event.KeptEvent.{KeptEvent}
use Rattle.schedule_text.specs.declared.setting.Form.TheVariants.{Plain}
use Rattle.schedule_text.specs.declared.setting.Setting.{Setting}
use Rattle.schedule_text.specs.declared.fault.ScheduleFault.{ScheduleFault}
use Rattle.schedule_text.specs.Flaws.{within, after}
use Rattle.schedule_text.specs.Words.{lines_of}
use Rattle.schedule_text.specs.Headers.{Opened, header_says, begin_line}
use Rattle.schedule_text.specs.Tables.{setting_of}
use Rattle.schedule_text.specs.Schedules.{fault_or}
use Rattle.schedule_text.specs.Kept.{KeptSchedule, kept_schedule_of, kept_event_says, first_kept_fault, kept_events_of, kept_ahead_of, unless_kept_fault, with_kept_events}

tested : {E : Type 0} (b : Bool) (e : E) (done : Unit {0}) → cond {A = Result (Unit {0}) E} b (Ok tt) (Err e) ≡ Ok done → b ≡ true
tested true e done is = refl
tested false e done is = absurd (cc)

few_from : (setting : Setting) (line n : ℕ) (lines : List (List ℕ)) → first_kept_fault setting line n lines ≡ None → n ≤ 1000001 → n + length (kept_events_of setting lines) ≤ 1000001
unfolding first_kept_fault kept_events_of
few_from setting line n [] none few = omega (arith, few)
few_from setting line n (text ∷ texts) none few =
    by (within what.Events 1000000 n) refl (kept_event_says setting text) none (λ rest small. few_from setting (line + 1) (n + 1) texts rest small)
  where
    by : (tested_as : Result (Unit {0}) _) → within what.Events 1000000 n ≡ tested_as → (said : Result KeptEvent _)
        → fault_or line (after tested_as said) (first_kept_fault setting (line + 1) (n + 1) texts) ≡ None
        → (first_kept_fault setting (line + 1) (n + 1) texts ≡ None → n + 1 ≤ 1000001 → n + 1 + length (kept_events_of setting texts) ≤ 1000001)
        → n + length (kept_ahead_of said (kept_events_of setting texts)) ≤ 1000001
    by (Ok done) is (Ok event) none more =
        let small : n ≤ 1000000 = leb-true n 1000000 (tested (nat_le n 1000000) _ done is) in
        let rest : n + 1 + length (kept_events_of setting texts) ≤ 1000001 = more none (omega (arith, small)) in
        omega (arith, rest)
    by (Ok done) is (Err flaw) none more = absurd (cc)
    by (Err wrong) is (Ok event) none more = absurd (cc)
    by (Err wrong) is (Err flaw) none more = absurd (cc)

pub few_events : (text : List ℕ) (schedule : KeptSchedule) → kept_schedule_of text ≡ Ok schedule → length schedule.events ≤ 1000000
few_events text schedule h = by_header (header_says (lines_of text)) h
  where
    by_fault : (it : Opened) (fault : Option ScheduleFault) → first_kept_fault (setting_of Plain it.header) (begin_line it.header + 1) 1 it.lines ≡ fault
        → unless_kept_fault (record { header = it.header; events = kept_events_of (setting_of Plain it.header) it.lines }) fault ≡ Ok schedule → length schedule.events ≤ 1000000
    by_fault it None none is =
        let read : KeptSchedule = record { header = it.header; events = kept_events_of (setting_of Plain it.header) it.lines } in
        let same : read ≡ schedule = cc in
        let few : 1 + length (kept_events_of (setting_of Plain it.header) it.lines) ≤ 1000001 = few_from (setting_of Plain it.header) (begin_line it.header + 1) 1 it.lines none (omega arith) in
        subst (λ (s : KeptSchedule). length s.events ≤ 1000000) same (omega (arith, few))
    by_fault it (Some fault) none is = absurd (cc)

    by_header : (said : Result Opened ScheduleFault) → with_kept_events said ≡ Ok schedule → length schedule.events ≤ 1000000
    by_header (Err fault) is = absurd (cc)
    by_header (Ok it) is = by_fault it (first_kept_fault (setting_of Plain it.header) (begin_line it.header + 1) 1 it.lines) refl is
