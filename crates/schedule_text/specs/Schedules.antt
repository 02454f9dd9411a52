-- What the text of a schedule says: its header and its events, or the first line that is refused.
use Rattle.std.specs.Prelude.{◌≡◌, ℕ, ◌+◌, List, [], ◌∷◌, drop, Option, Some, None, Result, Ok, Err}
use Rattle.span_base.specs.declared.words.What.TheVariants as what
use Rattle.world_core.specs.declared.event.Header.{Header}
use Rattle.world_core.specs.declared.event.Event.{Event}
use Rattle.schedule_text.specs.declared.setting.Form.{Form}
use Rattle.schedule_text.specs.declared.setting.Setting.{Setting}
use Rattle.schedule_text.specs.declared.flaw.Flaw.{Flaw}
use Rattle.schedule_text.specs.declared.fault.ScheduleFault.{ScheduleFault}
use Rattle.schedule_text.specs.declared.fault.ScheduleFault.TheVariants.{Bad, Limit, NoMemory}
use Rattle.schedule_text.specs.declared.place.Opening.{Opening}
use Rattle.schedule_text.specs.declared.place.Place.{Place}
use Rattle.schedule_text.specs.Flaws.{at_line, within, after}
use Rattle.schedule_text.specs.Words.{lines_of}
use Rattle.schedule_text.specs.Headers.{Opened, header_says, begin_line}
use Rattle.schedule_text.specs.Tables.{setting_of}
use Rattle.schedule_text.specs.Events.{event_says}

-- what a schedule says
pub record Schedule : Type 0 where
  pub header : Header
  pub events : List Event

-- the event of this number, counted from 1: there are at most 1,000,000
abbrev pub numbered : Setting → ℕ → List ℕ → Result Event Flaw
numbered setting number text = after (within what.Events 1000000 number) (event_says setting text)

-- the fault of a line, or else the first one behind it
abbrev pub fault_or : {A : Type 0} → ℕ → Result A Flaw → Option ScheduleFault → Option ScheduleFault
fault_or line (Ok event) more = more
fault_or line (Err flaw) more = Some (at_line line flaw)

-- the first fault of these lines of events, the first of which is this line of the text and this event
unfoldable pub first_fault : Setting → ℕ → ℕ → List (List ℕ) → Option ScheduleFault
first_fault setting line number [] = None
first_fault setting line number (text ∷ texts) = fault_or line (numbered setting number text) (first_fault setting (line + 1) (number + 1) texts)

-- the event of a line ahead of those behind it; behind a line without one there are none
abbrev pub ahead_of : Result Event Flaw → List Event → List Event
ahead_of (Ok event) events = event ∷ events
ahead_of (Err flaw) events = []

-- the events of these lines
unfoldable pub events_of : Setting → List (List ℕ) → List Event
events_of setting [] = []
events_of setting (text ∷ texts) = ahead_of (event_says setting text) (events_of setting texts)

-- the schedule, where no line of an event has a fault
abbrev pub unless_fault : Schedule → Option ScheduleFault → Result Schedule ScheduleFault
unless_fault schedule None = Ok schedule
unless_fault schedule (Some fault) = Err fault

abbrev pub with_events : Form → Result Opened ScheduleFault → Result Schedule ScheduleFault
with_events form (Err fault) = Err fault
with_events form (Ok it) =
    unless_fault (record { header = it.header; events = events_of (setting_of form it.header) it.lines })
    (first_fault (setting_of form it.header) (begin_line it.header + 1) 1 it.lines)

-- what a text says, as a schedule of this form
abbrev pub schedule_of : Form → List ℕ → Result Schedule ScheduleFault
schedule_of form text = with_events form (header_says (lines_of text))

-- the events behind a place in a text
abbrev pub events_at : Place → List ℕ → List Event
events_at place text = events_of place.setting (lines_of (drop place.at text))

-- what was read is what the text says, but for want of memory
abbrev pub Reads : List ℕ → Result Schedule ScheduleFault → Result Opening ScheduleFault → Type 0
Reads text says (Ok opening) = says ≡ Ok (record { header = opening.header; events = events_at opening.place text })
Reads text says (Err (Bad line cause)) = says ≡ Err (Bad line cause)
Reads text says (Err (Limit line what number)) = says ≡ Err (Limit line what number)
Reads text says (Err (NoMemory error)) = Unit {0}

-- the lines of events were looked at: none has a fault, or this is the first
abbrev pub Checks : Option ScheduleFault → Result Unit ScheduleFault → Type 0
Checks first (Ok done) = first ≡ None
Checks first (Err (NoMemory error)) = Unit {0}
Checks first (Err told) = first ≡ Some told
