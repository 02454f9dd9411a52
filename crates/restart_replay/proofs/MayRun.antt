-- The events of a restart run may happen where the run comes to them.
use Rattle.std.proofs.Common.{◌≡◌, ℕ, Bool, true, false, [], length, refl, sym, ap, ◌∙◌, subst}
use Rattle.std.specs.Prelude.{slice_get, Option, Some, None, Ok, Err, if◌then◌else◌}
use Rattle.std.specs.Option.{option_map_or}
use Rattle.wire_msg.specs.declared.actor.Actor.{Actor}
use Rattle.wire_msg.specs.declared.actor.Actor.TheVariants as to
use Rattle.wire_msg.specs.declared.message.Message.{Message}
use Rattle.wire_msg.specs.declared.outputs.Post.{Post}
use Rattle.replica_journal.specs.Stopped.{stopped}
use Rattle.world_core.specs.declared.event.Header.{Header}
use Rattle.world_core.specs.declared.event.StepFault.{StepFault}
use Rattle.world_core.specs.declared.event.StepFault.TheVariants.{NoActor, NoMessage}
use Rattle.world_core.specs.State.{Store, replica_at}
use Rattle.world_core.specs.Step.{Happening, Outcome, nothing, with_replica}
use Rattle.schedule_text.specs.declared.kept_event.KeptEvent.{KeptEvent}
use Rattle.schedule_text.specs.declared.kept_event.KeptEvent.TheVariants.{Event, Crash}
use Rattle.schedule_text.specs.Laws.{HasModes}
use Rattle.schedule_text.specs.KeptLaws.{KeptMayAlways}
use Rattle.schedule_replay.proofs.Keeps.{keeps_modes}
use Rattle.restart_law.specs.Restart.{crash_at, restart_step}
use Rattle.restart_replay.specs.Steady.{KeptMayHappen}

pub may_here : (header : Header) (store : Store) (event : KeptEvent) → HasModes header store.directory → KeptMayAlways header event → KeptMayHappen store event
may_here header store (Event event) modes may = may store modes
may_here header store (Crash message call new) modes may = may

-- ---- a crash leaves the directory as it is

abbrev SameDirectory : Store → Happening → Type 0
SameDirectory s h = h.store.directory ≡ s.directory

quiet : (s t : Store) (h : Happening) → t.directory ≡ s.directory → nothing t ≡ Ok h → SameDirectory s h
quiet s t h same e =
    let g : Happening = record { store = t; marks = []; posts = [] } in
    let is : h ≡ g = cc in
    ap (λ (x : Happening). x.store.directory) is ∙ same

refused : (X : Type 0) (fault : StepFault) (h : Happening) (o : Outcome) → o ≡ Err fault → o ≡ Ok h → X
refused X fault h o is e = absurd (cc)

crashed_at : (s : Store) (a : Actor) (message : Message) (call : ℕ) (new : Bool) (h : Happening) → crash_at s a message call new ≡ Ok h → SameDirectory s h
crashed_at s (to.Replica d) message call new h e = by (replica_at s d).stopped e
  where
    by : (b : Bool) → (if b then nothing s else nothing (with_replica s d (record { stopped = false; state = stopped (replica_at s d).state message call new }))) ≡ Ok h → SameDirectory s h
    by true e = quiet s s h refl e
    by false e = quiet s (with_replica s d (record { stopped = false; state = stopped (replica_at s d).state message call new })) h refl e
crashed_at s to.Directory message call new h e = refused (SameDirectory s h) NoActor h (Err NoActor) refl e
crashed_at s (to.Proxy p) message call new h e = refused (SameDirectory s h) NoActor h (Err NoActor) refl e

crashed : (s : Store) (call : ℕ) (new : Bool) (h : Happening) (o : Option Post) → option_map_or (λ (p : Post). crash_at s p.to p.message call new) o (Err (NoMessage (length s.sent))) ≡ Ok h → SameDirectory s h
crashed s call new h None e = refused (SameDirectory s h) (NoMessage (length s.sent)) h (Err (NoMessage (length s.sent))) refl e
crashed s call new h (Some post) e = crashed_at s post.to post.message call new h e

pub modes_stay : (header : Header) (s : Store) (event : KeptEvent) (h : Happening) → restart_step s event ≡ Ok h → HasModes header s.directory → HasModes header h.store.directory
unfolding restart_step
modes_stay header s (Event event) h is modes = keeps_modes header s event h is modes
modes_stay header s (Crash n call new) h is modes = subst (HasModes header) (sym (crashed s call new h (slice_get s.sent n) is)) modes
