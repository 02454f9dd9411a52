-- The text of a restart run: the lines of a schedule, and those at which a replica crashes.
use Rattle.std.specs.Prelude.{◌≡◌, ℕ, ◌+◌, ◌==◌, ◌&&◌, Bool, true, false, nat_le, if◌then◌else◌, List, [], ◌∷◌, length, codes, drop, Option, Some, None, Result, Ok, Err}
use Rattle.span_base.specs.declared.words.What.TheVariants as what
use Rattle.world_core.specs.declared.event.Header.{Header}
use Rattle.schedule_text.specs.declared.kept_event.KeptEvent.{KeptEvent}
use Rattle.schedule_text.specs.declared.kept_event.KeptEvent.TheVariants.{Event, Crash}
use Rattle.schedule_text.specs.declared.setting.Form.TheVariants.{Plain}
use Rattle.schedule_text.specs.declared.setting.Setting.{Setting}
use Rattle.schedule_text.specs.declared.flaw.Flaw.{Flaw}
use Rattle.schedule_text.specs.declared.flaw.Flaw.TheVariants.{Syntax, Number}
use Rattle.schedule_text.specs.declared.fault.ScheduleFault.{ScheduleFault}
use Rattle.schedule_text.specs.declared.fault.ScheduleFault.TheVariants.{Bad, Limit, NoMemory}
use Rattle.schedule_text.specs.declared.place.Opening.{Opening}
use Rattle.schedule_text.specs.declared.place.Place.{Place}
use Rattle.schedule_text.specs.Flaws.{both, made, formed, within, after}
use Rattle.schedule_text.specs.Words.{lines_of, words_of, is_word, three}
use Rattle.schedule_text.specs.Numbers.{spelled, count_says}
use Rattle.schedule_text.specs.Headers.{Opened, header_says, begin_line}
use Rattle.schedule_text.specs.Tables.{setting_of}
use Rattle.schedule_text.specs.Events.{event_by}
use Rattle.schedule_text.specs.Schedules.{fault_or}

-- what a restart run's text says
pub record KeptSchedule : Type 0 where
  pub header : Header
  pub events : List KeptEvent

-- a call of the disk: 1 to 4
abbrev pub disk_call : List ℕ → Option ℕ → Result ℕ Flaw
disk_call text None = if length text == 0 then Err Syntax else Err Number
disk_call text (Some call) = if nat_le 1 call && nat_le call 4 then Ok call else Err Number

-- whether the disk has the new bytes of its last call
abbrev pub image_says : List ℕ → Result Bool Flaw
image_says text = if is_word text (codes "new") then Ok true else if is_word text (codes "old") then Ok false else Err Syntax

-- N CALL old|new
unfoldable pub crash_says : List (List ℕ) → Result KeptEvent Flaw
crash_says words =
    formed (three words) (λ it. made (λ n. Crash n.0.0 n.0.1 n.1) (both (both (count_says it.0) (disk_call it.1 (spelled it.1))) (image_says it.2)))

-- the event of this word
unfoldable pub kept_by : Setting → List ℕ → List (List ℕ) → Result KeptEvent Flaw
kept_by setting word words = if is_word word (codes "crash") then crash_says words else made Event (event_by setting word words)

abbrev pub by_words : Setting → List (List ℕ) → Result KeptEvent Flaw
by_words setting [] = Err Syntax
by_words setting (word ∷ words) = kept_by setting word words

-- what a line says, which stands here without its line feed
unfoldable pub kept_event_says : Setting → List ℕ → Result KeptEvent Flaw
kept_event_says setting text = by_words setting (words_of text)

-- the event of this number, counted from 1: there are at most 1,000,000
abbrev pub kept_numbered : Setting → ℕ → List ℕ → Result KeptEvent Flaw
kept_numbered setting number text = after (within what.Events 1000000 number) (kept_event_says setting text)

-- the first fault of these lines of events, the first of which is this line of the text and this event
unfoldable pub first_kept_fault : Setting → ℕ → ℕ → List (List ℕ) → Option ScheduleFault
first_kept_fault setting line number [] = None
first_kept_fault setting line number (text ∷ texts) = fault_or line (kept_numbered setting number text) (first_kept_fault setting (line + 1) (number + 1) texts)

abbrev pub kept_ahead_of : Result KeptEvent Flaw → List KeptEvent → List KeptEvent
kept_ahead_of (Ok event) events = event ∷ events
kept_ahead_of (Err flaw) events = []

-- the events of these lines, up to the first that has none
unfoldable pub kept_events_of : Setting → List (List ℕ) → List KeptEvent
kept_events_of setting [] = []
kept_events_of setting (text ∷ texts) = kept_ahead_of (kept_event_says setting text) (kept_events_of setting texts)

abbrev pub unless_kept_fault : KeptSchedule → Option ScheduleFault → Result KeptSchedule ScheduleFault
unless_kept_fault schedule None = Ok schedule
unless_kept_fault schedule (Some fault) = Err fault

abbrev pub with_kept_events : Result Opened ScheduleFault → Result KeptSchedule ScheduleFault
with_kept_events (Err fault) = Err fault
with_kept_events (Ok it) =
    unless_kept_fault (record { header = it.header; events = kept_events_of (setting_of Plain it.header) it.lines })
    (first_kept_fault (setting_of Plain it.header) (begin_line it.header + 1) 1 it.lines)

-- what the text of a restart run says
abbrev pub kept_schedule_of : List ℕ → Result KeptSchedule ScheduleFault
kept_schedule_of text = with_kept_events (header_says (lines_of text))

-- the events behind a place in a text
abbrev pub kept_events_at : Place → List ℕ → List KeptEvent
kept_events_at place text = kept_events_of place.setting (lines_of (drop place.at text))

-- what was read is what the text says, but for want of memory
abbrev pub ReadsKept : List ℕ → Result KeptSchedule ScheduleFault → Result Opening ScheduleFault → Type 0
ReadsKept text says (Ok opening) = says ≡ Ok (record { header = opening.header; events = kept_events_at opening.place text })
ReadsKept text says (Err (Bad line cause)) = says ≡ Err (Bad line cause)
ReadsKept text says (Err (Limit line what number)) = says ≡ Err (Limit line what number)
ReadsKept text says (Err (NoMemory error)) = Unit {0}
