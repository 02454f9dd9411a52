-- Reading on, line by line.
use Rattle.std.proofs.Common.{◌≡◌, ℕ, ◌+◌, true, false, List, [], ◌∷◌, Option, Some, None, Result, Ok, Err, refl, sym, ◌∙◌}
use Rattle.world_core.specs.declared.event.Header.{Header}
use Rattle.world_core.specs.declared.event.Event.{Event}
use Rattle.schedule_text.specs.declared.flaw.Flaw.{Flaw}
use Rattle.schedule_text.specs.declared.flaw.Flaw.TheVariants.{Syntax}
use Rattle.schedule_text.specs.declared.setting.Setting.{Setting}
use Rattle.schedule_text.specs.declared.fault.ScheduleFault.{ScheduleFault}
use Rattle.schedule_text.specs.Flaws.{at_line}
use Rattle.schedule_text.specs.Headers.{Opened, is_begin, header_line, header_from}
use Rattle.schedule_text.specs.Events.{event_says}
use Rattle.schedule_text.specs.Schedules.{numbered, first_fault, events_of}

-- ---- the lines of a header

pub begun : (line : ℕ) (header : Header) (text : List ℕ) (lines left : List (List ℕ)) (says : Result Opened ScheduleFault) → lines ≡ text ∷ left → is_begin header text ≡ true
    → header_from line header lines ≡ says → says ≡ Ok (record { header = header; lines = left })
unfolding header_from
begun line header text lines left says are begins so = sym so ∙ rw (are, begins) refl

pub taken : (line : ℕ) (header next : Header) (text : List ℕ) (lines left : List (List ℕ)) (says : Result Opened ScheduleFault) → lines ≡ text ∷ left → is_begin header text ≡ false → header_line header text ≡ Ok next
    → header_from line header lines ≡ says → header_from (line + 1) next left ≡ says
unfolding header_from
taken line header next text lines left says are begins is so = sym (let whole : header_from line header (text ∷ left) ≡ header_from (line + 1) next left = rw (begins, is) refl in sym so ∙ rw are whole)

pub refused : (line : ℕ) (header : Header) (flaw : Flaw) (text : List ℕ) (lines left : List (List ℕ)) (says : Result Opened ScheduleFault) → lines ≡ text ∷ left → is_begin header text ≡ false → header_line header text ≡ Err flaw
    → header_from line header lines ≡ says → says ≡ Err (at_line line flaw)
unfolding header_from
refused line header flaw text lines left says are begins is so = sym so ∙ rw (are, begins, is) refl

pub stopped : (line : ℕ) (header : Header) (lines : List (List ℕ)) (says : Result Opened ScheduleFault) → lines ≡ [] → header_from line header lines ≡ says → says ≡ Err (at_line line Syntax)
unfolding header_from
stopped line header lines says are so = sym so ∙ rw are refl

-- ---- the lines of events

pub passed : (setting : Setting) (line number : ℕ) (event : Event) (text : List ℕ) (lines left : List (List ℕ)) (first : Option ScheduleFault) → lines ≡ text ∷ left → numbered setting number text ≡ Ok event
    → first_fault setting line number lines ≡ first → first_fault setting (line + 1) (number + 1) left ≡ first
unfolding first_fault
passed setting line number event text lines left first are is so = sym (sym so ∙ rw (are, is) refl)

pub found : (setting : Setting) (line number : ℕ) (flaw : Flaw) (text : List ℕ) (lines left : List (List ℕ)) (first : Option ScheduleFault) → lines ≡ text ∷ left → numbered setting number text ≡ Err flaw
    → first_fault setting line number lines ≡ first → first ≡ Some (at_line line flaw)
unfolding first_fault
found setting line number flaw text lines left first are is so = sym so ∙ rw (are, is) refl

pub none_found : (setting : Setting) (line number : ℕ) (lines : List (List ℕ)) (first : Option ScheduleFault) → lines ≡ [] → first_fault setting line number lines ≡ first → first ≡ None
unfolding first_fault
none_found setting line number lines first are so = sym so ∙ rw are refl

pub event_first : (setting : Setting) (event : Event) (text : List ℕ) (lines left : List (List ℕ)) → lines ≡ text ∷ left → event_says setting text ≡ Ok event → events_of setting lines ≡ event ∷ events_of setting left
unfolding events_of
event_first setting event text lines left are is = rw (are, is) refl

pub event_none : (setting : Setting) (flaw : Flaw) (text : List ℕ) (lines left : List (List ℕ)) → lines ≡ text ∷ left → event_says setting text ≡ Err flaw → events_of setting lines ≡ []
unfolding events_of
event_none setting flaw text lines left are is = rw (are, is) refl

pub events_over : (setting : Setting) (lines : List (List ℕ)) → lines ≡ [] → events_of setting lines ≡ []
unfolding events_of
events_over setting lines are = rw are refl
