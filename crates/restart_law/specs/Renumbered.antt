-- The run of the store that a restart run stands for.
use Rattle.std.specs.Prelude.{◌≡◌, ℕ, ◌<◌, Bool, false, if◌then◌else◌, List, [], ◌∷◌, length, take, slice_get, slice_index_or, None}
use Rattle.std.specs.List.{flat_map}
use Rattle.std.specs.Option.{option_map_or}
use Rattle.wire_msg.specs.declared.outputs.Post.{Post}
use Rattle.replica_journal.specs.Stopped.{is_kept}
use Rattle.world_core.specs.declared.event.Header.{Header}
use Rattle.world_core.specs.declared.event.Event.{Event}
use Rattle.world_core.specs.declared.event.Event.TheVariants.{Deliver}
use Rattle.world_core.specs.Run.{Run}
use Rattle.schedule_text.specs.declared.kept_event.KeptEvent.{KeptEvent}
use Rattle.schedule_text.specs.declared.kept_event.KeptEvent.TheVariants.{Event as Happens, Crash}
use Rattle.restart_law.specs.Restart.{restart_run_of}
use Rattle.restart_law.specs.Unlimited.{unlimited_run_of}

-- the delivery of the message that has this number in the restart run
abbrev pub delivery : List ℕ → ℕ → Event
delivery numbers n = Deliver (slice_index_or numbers n 0)

-- the journal has kept this message at a crash
abbrev pub keeps : List Post → ℕ → ℕ → Bool → Bool
keeps sent n call new = option_map_or (λ post. is_kept post.message call new) (slice_get sent n) false

-- the event, with the number that its message has in the run
abbrev pub renumbered : List ℕ → Event → Event
renumbered numbers (Deliver n) = delivery numbers n
renumbered numbers event = event

-- What the run has for an event of a restart run in which these messages were sent: at a crash the
-- delivery of the message that was kept, or nothing.
abbrev pub events_for : List Post → List ℕ → KeptEvent → List Event
events_for sent numbers (Happens event) = renumbered numbers event ∷ []
events_for sent numbers (Crash n call new) = if keeps sent n call new then delivery numbers n ∷ [] else []

-- The run that a restart run stands for, up to its end or the first event that is refused: its
-- messages have these numbers there. What is sent at a delivery for a crash has none of them, so it
-- is never delivered.
abbrev pub run_for : Header → List KeptEvent → List ℕ → Run
run_for header events numbers =
    unlimited_run_of header (flat_map (events_for (restart_run_of header events).store.sent numbers) (take (restart_run_of header events).taken events))

-- the restart run stands for this run: they have the same marks, actors and messages
pub record StandsFor (header : Header) (events : List KeptEvent) (numbers : List ℕ) : Type 0 where
  pub unrefused : (run_for header events numbers).refused ≡ None
  pub marks : (run_for header events numbers).marks ≡ (restart_run_of header events).marks
  pub replicas : (run_for header events numbers).store.replicas ≡ (restart_run_of header events).store.replicas
  pub proxies : (run_for header events numbers).store.proxies ≡ (restart_run_of header events).store.proxies
  pub directory : (run_for header events numbers).store.directory ≡ (restart_run_of header events).store.directory
  pub all : length numbers ≡ length (restart_run_of header events).store.sent
  pub rising : (n m : ℕ) → n < m → m < length numbers → slice_index_or numbers n 0 < slice_index_or numbers m 0
  pub messages : (n : ℕ) → n < length numbers → slice_get (run_for header events numbers).store.sent (slice_index_or numbers n 0) ≡ slice_get (restart_run_of header events).store.sent n
