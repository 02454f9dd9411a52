-- Without limits an event does the same, whatever messages were sent before, as long as it finds its own.
use Rattle.std.proofs.Common.{◌≡◌, ℕ, Bool, true, false, List, [], ◌++◌, refl, sym, ap, ◌∙◌, nat_lt, not, ◌==◌, if◌then◌else◌, length, Option, Some, None, slice_get, Ok, Err}
use Rattle.std.specs.Option.{option_map_or}
use Rattle.std.proofs.lemmas.List.{append-nil}
use Rattle.span_base.specs.declared.ids.KeyId.{KeyId}
use Rattle.span_base.specs.declared.words.What.TheVariants.{Epochs}
use Rattle.wire_msg.specs.declared.actor.Actor.{Actor}
use Rattle.wire_msg.specs.declared.actor.Actor.TheVariants as to
use Rattle.wire_msg.specs.declared.message.Message.{Message}
use Rattle.wire_msg.specs.declared.outputs.Post.{Post}
use Rattle.slot_pool.specs.declared.handles.Handle.{Handle}
use Rattle.slot_pool.specs.Slots.{item_at, after_take}
use Rattle.epoch_directory.specs.declared.table.PublishFault.{PublishFault}
use Rattle.epoch_directory.specs.declared.table.PublishFault.TheVariants as fault
use Rattle.epoch_directory.specs.declared.table.SetPolicy.{SetPolicy}
use Rattle.epoch_directory.specs.State.{latest}
use Rattle.epoch_directory.specs.Tables.{table_fault}
use Rattle.run_marks.specs.declared.mark.Mark.{Mark}
use Rattle.run_marks.specs.declared.mark.Work.{Work}
use Rattle.world_core.specs.declared.live.LiveCall.{LiveCall}
use Rattle.world_core.specs.declared.event.Event.{Event}
use Rattle.world_core.specs.declared.event.Event.TheVariants.{Start, Deliver, StopReplica, StopProxy, GiveUp, Publish}
use Rattle.world_core.specs.declared.event.StepFault.TheVariants.{NoActor, NoKey, WrongMode, NoMessage, NoCall, Limit}
use Rattle.world_core.specs.State.{Store, replica_at, proxy_at}
use Rattle.world_core.specs.Step as limited
use Rattle.world_core.specs.Step.{Happening, Outcome, nothing, with_replica, with_proxy, is_strong_key, fits_mode, handle_of_call, may_give_up, opens_none, step}
use Rattle.restart_law.specs.Unlimited as free
use Rattle.restart_law.specs.Unlimited.{unlimited_step}

-- the same actors, with these messages
abbrev pub with_messages : Store → List Post → Store
with_messages s all = record { replicas = s.replicas; proxies = s.proxies; directory = s.directory; sent = all }

-- the same, where these messages were sent before
abbrev pub moved_happening : List Post → Happening → Happening
moved_happening all h = record { store = with_messages h.store (all ++ h.posts); marks = h.marks; posts = h.posts }

abbrev pub moved : List Post → Outcome → Outcome
moved all (Ok h) = Ok (moved_happening all h)
moved all (Err fault) = Err fault

abbrev quietly : Store → List Mark → Outcome
quietly store marks = Ok (record { store = store; marks = marks; posts = [] })

module _ (s : Store) (all : List Post) where
  abbrev t : Store
  t = with_messages s all

  either : (b : Bool) (x y p q : Outcome) → x ≡ moved all p → y ≡ moved all q → (if b then x else y) ≡ moved all (if b then p else q)
  either true x y p q a b = a
  either false x y p q a b = b

  quiet : (store : Store) (marks : List Mark) → quietly (with_messages store all) marks ≡ moved all (quietly store marks)
  quiet store marks = ap (λ (xs : List Post). quietly (with_messages store xs) marks) (sym (append-nil all))

  started_at : (p : ℕ) (key : KeyId) (work : Work) → free.start_at t p key work ≡ moved all (free.start_at s p key work)
  started_at p key work =
      either (not (nat_lt key.0 (length s.directory.sets))) (Err NoKey) _ (Err NoKey) _ refl
      (either (not (fits_mode (is_strong_key s key) work)) (Err WrongMode) _ (Err WrongMode) _ refl refl)

  starting : (p key : ℕ) (work : Work) → free.start t p key work ≡ moved all (free.start s p key work)
  starting p key work =
      let at : KeyId = record { 0 = key } in
      either (not (nat_lt p (length s.proxies))) (Err NoActor) _ (Err NoActor) _ refl
      (either (proxy_at s p).stopped (nothing t) (free.start_at t p at work) (nothing s) (free.start_at s p at work) (quiet s []) (started_at p at work))

  delivered_to : (a : Actor) (message : Message) → free.deliver_to t a message ≡ moved all (free.deliver_to s a message)
  delivered_to (to.Replica d) message = either (replica_at s d).stopped (nothing t) _ (nothing s) _ (quiet s []) refl
  delivered_to to.Directory message = refl
  delivered_to (to.Proxy p) message = either (proxy_at s p).stopped (nothing t) _ (nothing s) _ (quiet s []) refl

  giving : (p : ℕ) (handle : Handle) (o : Option LiveCall) → option_map_or (limited.gives_up t p handle) o (Err NoCall) ≡ moved all (option_map_or (limited.gives_up s p handle) o (Err NoCall))
  giving p handle None = refl
  giving p handle (Some call) = either (may_give_up call) _ (Err NoCall) _ (Err NoCall) (quiet (with_proxy s p (record (proxy_at s p) { calls = after_take (proxy_at s p).calls handle })) _) refl

  giving_at : (p : ℕ) (o : Option Handle) → option_map_or (limited.give_up_under t p) o (Err NoCall) ≡ moved all (option_map_or (limited.give_up_under s p) o (Err NoCall))
  giving_at p None = refl
  giving_at p (Some handle) = giving p handle (item_at (proxy_at s p).calls handle)

  giving_up : (p seq : ℕ) → limited.give_up t p seq ≡ moved all (limited.give_up s p seq)
  giving_up p seq =
      let here : Outcome = option_map_or (limited.give_up_under t p) (handle_of_call (proxy_at s p).calls seq) (Err NoCall) in
      let there : Outcome = option_map_or (limited.give_up_under s p) (handle_of_call (proxy_at s p).calls seq) (Err NoCall) in
      either (not (nat_lt p (length s.proxies))) (Err NoActor) (if (proxy_at s p).stopped then nothing t else here) (Err NoActor) (if (proxy_at s p).stopped then nothing s else there) refl
      (either (proxy_at s p).stopped (nothing t) here (nothing s) there (quiet s []) (giving_at p (handle_of_call (proxy_at s p).calls seq)))

  no_epoch : (wrong : PublishFault) → opens_none t wrong ≡ moved all (opens_none s wrong)
  no_epoch (fault.MissingSet set) = quiet s _
  no_epoch (fault.NotQuorum set) = quiet s _
  no_epoch _ = quiet s []

  judging : (store : Store) (marks : List Mark) (o : Option PublishFault)
      → option_map_or (opens_none t) o (quietly (with_messages store all) marks) ≡ moved all (option_map_or (opens_none s) o (quietly store marks))
  judging store marks None = quiet store marks
  judging store marks (Some wrong) = no_epoch wrong

  published : (table : List SetPolicy) → limited.publish t table ≡ moved all (limited.publish s table)
  published table =
      either (latest s.directory == 1000) (Err (Limit Epochs 1001)) _ (Err (Limit Epochs 1001)) _ refl (judging _ _ (table_fault s.directory table))

  -- an event that delivers no message
  pub step_moved : (event : Event) → ((n : ℕ) → event ≡ Deliver n → ⊥) → unlimited_step t event ≡ moved all (unlimited_step s event)
  unfolding step unlimited_step
  step_moved (Start p key work) apart = starting p key work
  step_moved (Deliver n) apart = absurd (apart n refl)
  step_moved (StopReplica d) apart = either (not (nat_lt d (length s.replicas))) (Err NoActor) _ (Err NoActor) _ refl (quiet (with_replica s d (record { stopped = true; state = (replica_at s d).state })) [])
  step_moved (StopProxy p) apart = either (not (nat_lt p (length s.proxies))) (Err NoActor) _ (Err NoActor) _ refl (quiet (with_proxy s p (record (proxy_at s p) { stopped = true })) [])
  step_moved (GiveUp p seq) apart = giving_up p seq
  step_moved (Publish table) apart = published table

  -- a message that has another number here
  pub delivery_moved : (n m : ℕ) (post : Post) → slice_get s.sent n ≡ Some post → slice_get all m ≡ Some post → unlimited_step t (Deliver m) ≡ moved all (unlimited_step s (Deliver n))
  unfolding unlimited_step
  delivery_moved n m post there here =
      ap (λ (o : Option Post). option_map_or (λ (p : Post). free.deliver_to t p.to p.message) o (Err (NoMessage (length all)))) here
      ∙ delivered_to post.to post.message
      ∙ ap (λ (o : Option Post). moved all (option_map_or (λ (p : Post). free.deliver_to s p.to p.message) o (Err (NoMessage (length s.sent))))) (sym there)
