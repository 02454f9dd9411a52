-- Runs of the store in which replicas crash, and come back as their journals keep them.
use Rattle.std.specs.Prelude.{ℕ, Bool, false, if◌then◌else◌, List, [], ◌∷◌, length, slice_get, Err}
use Rattle.std.specs.Option.{option_map_or}
use Rattle.wire_msg.specs.declared.actor.Actor.{Actor}
use Rattle.wire_msg.specs.declared.actor.Actor.TheVariants as to
use Rattle.wire_msg.specs.declared.message.Message.{Message}
use Rattle.replica_journal.specs.Stopped.{stopped}
use Rattle.world_core.specs.declared.event.Header.{Header}
use Rattle.world_core.specs.declared.event.StepFault.TheVariants.{NoActor, NoMessage}
use Rattle.world_core.specs.State.{Store, opening, replica_at}
use Rattle.world_core.specs.Step.{Outcome, nothing, with_replica, step}
use Rattle.world_core.specs.Run.{Run, nothing_ran, ran, store_after}
use Rattle.schedule_text.specs.declared.kept_event.KeptEvent.{KeptEvent}
use Rattle.schedule_text.specs.declared.kept_event.KeptEvent.TheVariants.{Event, Crash}

-- The replica that a message comes to crashes at this call of its disk while it takes the message.
-- It comes back with the message, where its journal has kept it, or else without; nothing is sent.
abbrev pub crash_at : Store → Actor → Message → ℕ → Bool → Outcome
crash_at store (to.Replica d) message call new =
    if (replica_at store d).stopped then nothing store
    else nothing (with_replica store d (record { stopped = false; state = stopped (replica_at store d).state message call new }))
crash_at store to.Directory message call new = Err NoActor
crash_at store (to.Proxy p) message call new = Err NoActor

abbrev pub crash : Store → ℕ → ℕ → Bool → Outcome
crash store n call new = option_map_or (λ post. crash_at store post.to post.message call new) (slice_get store.sent n) (Err (NoMessage (length store.sent)))

-- what an event of a restart run does
unfoldable pub restart_step : Store → KeptEvent → Outcome
restart_step store (Event event) = step store event
restart_step store (Crash message call new) = crash store message call new

-- the restart run of these events from a state
unfoldable pub restart_run : List KeptEvent → Store → Run
restart_run [] store = nothing_ran store
restart_run (event ∷ events) store = ran store (restart_step store event) (restart_run events (store_after store (restart_step store event)))

-- the restart run of these events from the state that the header opens
abbrev pub restart_run_of : Header → List KeptEvent → Run
restart_run_of header events = restart_run events (opening header)
