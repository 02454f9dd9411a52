-- The line of a delivery, read by itself.
use Rattle.std.specs.Prelude.{◌≡◌, ℕ, ◌+◌, ◌<◌, ◌≤◌, Bool, true, false, List, [], ◌∷◌, length, take, drop, slice_index, Some, Result, Ok, Err}
use Rattle.std.specs.List.{list_all}
use Rattle.std.specs.Char.{is_ascii_digit}
use Rattle.world_core.specs.declared.event.Event.TheVariants.{Deliver}
use Rattle.schedule_text.specs.declared.setting.Setting.{Setting}
use Rattle.schedule_text.specs.declared.fault.ScheduleFault.{ScheduleFault}
use Rattle.schedule_text.specs.declared.fault.ScheduleFault.TheVariants.{NoMemory}
use Rattle.schedule_text.specs.Words.{lines_of}
use Rattle.schedule_text.specs.Numbers.{count_says}
use Rattle.schedule_text.specs.Events.{delivers, event_says}
use Rattle.schedule_text.specs.Schedules.{first_fault}

-- so many digits come before the first line feed, and spell this number
pub record BeginsWithNumber (text : List ℕ) (digits number : ℕ) : Type 0 where
  pub ends : digits < length text
  pub feed : slice_index text digits ≡ 10
  pub are_digits : list_all is_ascii_digit (take digits text) ≡ true
  pub says : count_says (take digits text) ≡ Ok number

-- the first line has so many bytes with its line feed, and delivers this message
pub record BeginsWithDelivery (text : List ℕ) (len message : ℕ) : Type 0 where
  pub some : 0 < len
  pub within : len ≤ length text
  pub line : List ℕ
  pub lines : lines_of text ≡ line ∷ lines_of (drop len text)
  pub says : (setting : Setting) → delivers setting.form ≡ true → event_says setting line ≡ Ok (Deliver message)

-- the first of these lines delivers this message, and the others are left
pub record IsNextDelivery (setting : Setting) (message : ℕ) (lines left : List (List ℕ)) : Type 0 where
  pub line : List ℕ
  pub first : lines ≡ line ∷ left
  pub says : event_says setting line ≡ Ok (Deliver message)

-- the next line of an event, which is this line of the text and this event: it has no fault, there is none, or this is its fault
abbrev pub ChecksNext : Setting → ℕ → ℕ → List (List ℕ) → List (List ℕ) → Result Bool ScheduleFault → Type 0
ChecksNext setting line number old new (Ok true) = (number ≤ 1000000) × (first_fault setting line number old ≡ first_fault setting (line + 1) (number + 1) new)
ChecksNext setting line number old new (Ok false) = old ≡ []
ChecksNext setting line number old new (Err (NoMemory error)) = Unit {0}
ChecksNext setting line number old new (Err told) = first_fault setting line number old ≡ Some told
