-- The events that a store has taken since it was opened, and what their marks keep.
use Rattle.std.specs.Prelude.{◌≡◌, List, [], ◌∷◌, ◌++◌, length, None, Ok, Err}
use Rattle.run_marks.specs.declared.mark.Mark.{Mark}
use Rattle.world_core.specs.declared.event.Header.{Header}
use Rattle.world_core.specs.declared.event.Event.{Event}
use Rattle.world_core.specs.declared.event.StepFault.{StepFault}
use Rattle.world_core.specs.State.{Store, opening}
use Rattle.world_core.specs.Run.{run_of, IsHeader, MayRun, MayHappen}
use Rattle.world_core.specs.Ends.{Seen, StepEnds}
use Rattle.world_core.specs.Laws.{KeepsRegisters}

-- since this header opened the store, it took just these events, one after another, and they left these marks
pub record HasTaken (header : Header) (events : List Event) (marks : List Mark) (store : Store) : Type 0 where
  pub may : MayRun events (opening header)
  pub runs : run_of header events ≡ record { store = store; marks = marks; taken = length events; refused = None }

-- a store that is opened has taken nothing
abbrev pub StoresOpen : Type 0
StoresOpen = (header : Header) → HasTaken header [] [] (opening header)

-- a step that answers `Ok` takes its event, with the marks that it gives
abbrev pub StepsTake : Type 0
StepsTake =
    (header : Header) (events : List Event) (marks more : List Mark) (old new : Seen) (event : Event) → HasTaken header events marks old.store → MayHappen old.store event
    → StepEnds old new event (Ok more) → HasTaken header (events ++ event ∷ []) (marks ++ more) new.store

-- a step that answers anything else takes nothing, whatever became of a replica's journal
abbrev pub RefusalsTakeNone : Type 0
RefusalsTakeNone =
    (header : Header) (events : List Event) (marks : List Mark) (old new : Seen) (event : Event) (fault : StepFault) → HasTaken header events marks old.store
    → StepEnds old new event (Err fault) → HasTaken header events marks new.store

-- in the marks of what was taken the history of each strong key is that of one register
abbrev pub TakenKeepRegisters : Type 0
TakenKeepRegisters = (header : Header) (events : List Event) (marks : List Mark) (store : Store) → IsHeader header → HasTaken header events marks store → KeepsRegisters header marks
