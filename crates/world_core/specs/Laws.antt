-- What is claimed of every run.
use Rattle.std.specs.Prelude.{ℕ, ◌≡◌, ◌<◌, true, List, length, slice_index_or}
use Rattle.epoch_directory.specs.State.{is_strong, no_policy}
use Rattle.run_marks.specs.declared.mark.Mark.{Mark}
use Rattle.run_marks.specs.History.{history_of}
use Rattle.run_marks.specs.Register.{IsRegisterOrder}
use Rattle.world_core.specs.declared.event.Header.{Header}
use Rattle.world_core.specs.declared.event.Event.{Event}
use Rattle.world_core.specs.State.{opening}
use Rattle.world_core.specs.Run.{run_of, IsHeader, MayRun}

-- the key is one of the header's, and its set is strong
pub record IsStrongKey (header : Header) (key : ℕ) : Type 0 where
  pub exists : key < length header.keys
  pub strong : is_strong (slice_index_or header.sets (slice_index_or header.keys key (record { 0 = 0 })).0 no_policy) ≡ true

-- the history of each strong key is that of one register
abbrev pub KeepsRegisters : Header → List Mark → Type 0
KeepsRegisters header marks = (key : ℕ) → IsStrongKey header key → IsRegisterOrder (history_of key marks)

-- whatever happens, in whatever order, also where the run stops at a refused event
abbrev pub RegistersAreKept : Type 0
RegistersAreKept = (header : Header) (events : List Event) → IsHeader header → MayRun events (opening header) → KeepsRegisters header (run_of header events).marks
