-- A run of the store: the events one after another, to the end or to the first that is refused.
use Rattle.std.specs.Prelude.{ℕ, ◌+◌, ◌<◌, ◌≤◌, List, [], ◌∷◌, ◌++◌, length, Option, Some, None, Ok, Err}
use Rattle.std.specs.List.{All}
use Rattle.span_base.specs.Policy.{IsSoundPolicy}
use Rattle.epoch_directory.specs.Tables.{IsNextTable}
use Rattle.run_marks.specs.declared.mark.Mark.{Mark}
use Rattle.world_core.specs.declared.event.Header.{Header}
use Rattle.world_core.specs.declared.event.Event.{Event}
use Rattle.world_core.specs.declared.event.Event.TheVariants.{Start, Deliver, StopReplica, StopProxy, GiveUp, Publish}
use Rattle.world_core.specs.declared.event.StepFault.{StepFault}
use Rattle.world_core.specs.State.{Store, opening}
use Rattle.world_core.specs.Step.{Outcome, step}

-- the state at the end, all marks, how many events were taken, and why the next one was refused, if it was
pub record Run : Type 0 where
  pub store : Store
  pub marks : List Mark
  pub taken : ℕ
  pub refused : Option StepFault

abbrev pub nothing_ran : Store → Run
nothing_ran store = record { store = store; marks = []; taken = 0; refused = None }

-- these marks come first
abbrev pub after_marks : List Mark → Run → Run
after_marks marks rest = record rest { marks = marks ++ rest.marks; taken = 1 + rest.taken }

-- the state after an event: a refused one changes nothing
abbrev pub store_after : Store → Outcome → Store
store_after store (Ok happening) = happening.store
store_after store (Err fault) = store

-- the run of an event and of those after it, which begin where it ends
abbrev pub ran : Store → Outcome → Run → Run
ran store (Ok happening) rest = after_marks happening.marks rest
ran store (Err fault) rest = record { store = store; marks = []; taken = 0; refused = Some fault }

-- the run of these events from a state
unfoldable pub run : List Event → Store → Run
run [] store = nothing_ran store
run (event ∷ events) store = ran store (step store event) (run events (store_after store (step store event)))

-- the run of these events from the state that the header opens
abbrev pub run_of : Header → List Event → Run
run_of header events = run events (opening header)

-- what a header has to be
pub record IsHeader (header : Header) : Type 0 where
  pub replicas : (1 ≤ header.replicas) × (header.replicas ≤ 16)
  pub sets : (1 ≤ length header.sets) × (length header.sets ≤ 64)
  pub keys : (1 ≤ length header.keys) × (length header.keys ≤ 1000)
  pub proxies : (1 ≤ length header.proxies) × (length header.proxies ≤ 64)
  pub policies : All IsSoundPolicy header.sets
  pub key_sets : All (λ set. set.0 < length header.sets) header.keys

-- a table that is to be published has a policy of its set's mode for each set that it lists, each once
abbrev pub MayHappen : Store → Event → Type 0
MayHappen store (Start proxy key work) = Unit {0}
MayHappen store (Deliver message) = Unit {0}
MayHappen store (StopReplica number) = Unit {0}
MayHappen store (StopProxy number) = Unit {0}
MayHappen store (GiveUp proxy seq) = Unit {0}
MayHappen store (Publish table) = IsNextTable store.directory table

-- what is asked of the events after one, where the run goes on to them
abbrev pub GoingOn : Outcome → Type 0 → Type 0
GoingOn (Ok happening) rest = rest
GoingOn (Err fault) rest = Unit {0}

-- each event may happen where the run comes to it
unfoldable pub MayRun : List Event → Store → Type 0
MayRun [] store = Unit {0}
MayRun (event ∷ events) store = MayHappen store event × GoingOn (step store event) (MayRun events (store_after store (step store event)))
