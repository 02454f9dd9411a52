-- What is true of every schedule that is read.
use Rattle.std.specs.Prelude.{◌≡◌, ℕ, List, map, Ok}
use Rattle.std.specs.List.{All}
use Rattle.epoch_directory.specs.State as directory
use Rattle.world_core.specs.declared.event.Header.{Header}
use Rattle.world_core.specs.declared.event.Event.{Event}
use Rattle.world_core.specs.State.{Store}
use Rattle.world_core.specs.Run.{IsHeader, MayHappen}
use Rattle.schedule_text.specs.declared.setting.Form.{Form}
use Rattle.schedule_text.specs.Tables.{mode_of}
use Rattle.schedule_text.specs.Schedules.{Schedule, schedule_of}

-- the first policies of the sets have the modes of the header's
abbrev pub HasModes : Header → directory.State → Type 0
HasModes header state = map mode_of (directory.table_in state 1) ≡ map mode_of header.sets

-- the event may happen in every state of such a directory
abbrev pub MayAlways : Header → Event → Type 0
MayAlways header event = (store : Store) → HasModes header store.directory → MayHappen store event

-- the header of a schedule opens a store, in which its events may happen at any time
pub record IsSchedule (schedule : Schedule) : Type 0 where
  pub header : IsHeader schedule.header
  pub events : All (MayAlways schedule.header) schedule.events

-- each text that is read is that of such a schedule
abbrev pub SchedulesMayHappen : Type 0
SchedulesMayHappen = (form : Form) (text : List ℕ) (schedule : Schedule) → schedule_of form text ≡ Ok schedule → IsSchedule schedule
