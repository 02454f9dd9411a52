-- What an event that is taken was.
use Rattle.std.specs.Prelude.{◌≡◌, ℕ, ◌+◌, ◌<◌, true, false, List, [], ◌∷◌, length, Some, None, Contains}
use Rattle.span_base.specs.declared.ids.Call.{Call}
use Rattle.span_base.specs.declared.ids.KeyId.{KeyId}
use Rattle.wire_msg.specs.declared.message.Message.{Message}
use Rattle.wire_msg.specs.declared.outputs.Reply.{Reply}
use Rattle.wire_msg.specs.declared.actor.Actor.TheVariants as to
use Rattle.wire_msg.specs.declared.outputs.Reply.TheVariants as r
use Rattle.slot_pool.specs.declared.handles.Handle.{Handle}
use Rattle.slot_pool.specs.Slots.{next_handle, item_at, after_take}
use Rattle.replica_core.specs.Rule as replica
use Rattle.epoch_directory.specs.declared.table.SetPolicy.{SetPolicy}
use Rattle.epoch_directory.specs.State.{latest}
use Rattle.epoch_directory.specs.Tables.{after_publish, table_fault}
use Rattle.epoch_directory.specs.Step as directory_step
use Rattle.run_marks.specs.declared.mark.Work.{Work}
use Rattle.run_marks.specs.declared.mark.NoEpochCause.{NoEpochCause}
use Rattle.run_marks.specs.History.{is_dead}
use Rattle.run_marks.specs.declared.mark.Mark.TheVariants as k
use Rattle.world_core.specs.declared.live.LiveCall.{LiveCall}
use Rattle.world_core.specs.State.{Store, Proxy, replica_at, proxy_at, view_at}
use Rattle.world_core.specs.Knowing.{learned}
use Rattle.world_core.specs.Calls.{Taken, tag_of_call}
use Rattle.world_core.specs.Starting.{Done, opened_call, first_tag, ticket_of, enters, ends_at_once}
use Rattle.world_core.specs.Step.{Happening, with_sent, with_proxy, with_replica, is_strong_key, fits_mode, handle_in, call_takes, only_learns}

-- a proxy did this
abbrev pub did : Store → ℕ → Done Proxy → Happening
did s p done = with_sent (with_proxy s p done.actor) done.posts done.marks

-- the call that a proxy begins next
abbrev pub next_call : Store → ℕ → Call
next_call s p = record { proxy = p; seq = (proxy_at s p).begun + 1 }

abbrev pub quietly : Store → Happening
quietly s = record { store = s; marks = []; posts = [] }

-- the message was sent to the replica, which isn't stopped
pub record TakenBy (s : Store) (d : ℕ) (message : Message) : Type 0 where
  pub sent : Contains s.sent (record { to = to.Replica d; message = message })
  pub runs : (replica_at s d).stopped ≡ false

-- a call begins and lives
pub record Started (s : Store) (p : ℕ) (key : KeyId) (work : Work) (h : Happening) : Type 0 where
  pub handle : Handle
  pub taken : Taken
  pub exists : p < length s.proxies
  pub known : key.0 < length s.directory.sets
  pub fits : fits_mode (is_strong_key s key) work ≡ true
  pub free : next_handle (proxy_at s p).calls ≡ Some handle
  pub first : opened_call (is_strong_key s key) (first_tag (next_call s p) handle) (proxy_at s p).at (view_at (proxy_at s p).views key) (ticket_of (proxy_at s p) (view_at (proxy_at s p).views key) (next_call s p)) work ≡ Some taken
  pub is : h ≡ did s p (enters (proxy_at s p) (next_call s p) handle key work (ticket_of (proxy_at s p) (view_at (proxy_at s p).views key) (next_call s p)) taken)

-- a live call takes a message
pub record CallTook (s : Store) (p : ℕ) (message : Message) (call : LiveCall) (h : Happening) : Type 0 where
  pub sent : Contains s.sent (record { to = to.Proxy p; message = message })
  pub live : item_at (proxy_at s p).calls (handle_in message) ≡ Some call
  pub is : h ≡ did s p (call_takes (learned (proxy_at s p) message) message call)

pub data Happened (s : Store) (h : Happening) : Type 0 where
  ignored : h ≡ quietly s → Happened s h
  replica_stopped : (d : ℕ) → h ≡ quietly (with_replica s d (record { stopped = true; state = (replica_at s d).state })) → Happened s h
  proxy_stopped : (p : ℕ) → h ≡ quietly (with_proxy s p (record (proxy_at s p) { stopped = true })) → Happened s h
  refused_at_once : (p : ℕ) (key : KeyId) (work : Work) (reply : Reply) → p < length s.proxies → is_dead reply ≡ true → h ≡ did s p (ends_at_once (proxy_at s p) (next_call s p) key work reply) → Happened s h
  started : (p : ℕ) (key : KeyId) (work : Work) → Started s p key work h → Happened s h
  replica_took : (d : ℕ) (message : Message) → TakenBy s d message → h ≡ with_sent (with_replica s d (record { stopped = false; state = (replica.step (replica_at s d).state message).state })) (replica.step (replica_at s d).state message).out.posts [] → Happened s h
  directory_took : (message : Message) → Contains s.sent (record { to = to.Directory; message = message }) → h ≡ with_sent (record s { directory = (directory_step.step s.directory message).state }) (directory_step.step s.directory message).out.posts [] → Happened s h
  proxy_learned : (p : ℕ) (message : Message) → Contains s.sent (record { to = to.Proxy p; message = message }) → h ≡ did s p (only_learns (learned (proxy_at s p) message)) → Happened s h
  call_took : (p : ℕ) (message : Message) (call : LiveCall) → CallTook s p message call h → Happened s h
  gave_up : (p : ℕ) (handle : Handle) (call : LiveCall) → item_at (proxy_at s p).calls handle ≡ Some call → h ≡ record { store = with_proxy s p (record (proxy_at s p) { calls = after_take (proxy_at s p).calls handle }); marks = k.End (tag_of_call call).call r.GivenUp ∷ []; posts = [] } → Happened s h
  published : (table : List SetPolicy) → table_fault s.directory table ≡ None → h ≡ record { store = record s { directory = after_publish s.directory table }; marks = k.Epoch (latest s.directory + 1) ∷ []; posts = [] } → Happened s h
  not_published : (cause : NoEpochCause) → h ≡ record { store = s; marks = k.NoEpoch cause ∷ []; posts = [] } → Happened s h
