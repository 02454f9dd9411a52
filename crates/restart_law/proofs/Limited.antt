-- The limits alone part a step from one without limits.
use Rattle.std.proofs.Common.{◌≡◌, ℕ, ◌+◌, ◌≤◌, Bool, true, false, List, [], refl, sym, subst, arith, nat_lt, not, ◌==◌, if◌then◌else◌, length, Option, Some, None, slice_get, Ok, Err}
use Rattle.std.specs.Option.{option_map_or}
use Rattle.std.proofs.lemmas.Grind.{common_steps}
use Rattle.span_base.specs.declared.ids.KeyId.{KeyId}
use Rattle.span_base.specs.declared.words.What.TheVariants.{Messages, FrameBytes, Epochs}
use Rattle.wire_msg.specs.declared.actor.Actor.{Actor}
use Rattle.wire_msg.specs.declared.actor.Actor.TheVariants as to
use Rattle.wire_msg.specs.declared.message.Message.{Message}
use Rattle.wire_msg.specs.declared.outputs.Post.{Post}
use Rattle.wire_msg.specs.Sizes.{bulk_of}
use Rattle.slot_pool.specs.declared.handles.Handle.{Handle}
use Rattle.slot_pool.specs.Slots.{item_at}
use Rattle.epoch_directory.specs.declared.table.PublishFault.{PublishFault}
use Rattle.epoch_directory.specs.declared.table.PublishFault.TheVariants as fault
use Rattle.epoch_directory.specs.declared.table.SetPolicy.{SetPolicy}
use Rattle.epoch_directory.specs.State.{latest}
use Rattle.epoch_directory.specs.Tables.{table_fault}
use Rattle.run_marks.specs.declared.mark.Mark.{Mark}
use Rattle.run_marks.specs.declared.mark.Work.{Work}
use Rattle.world_core.specs.declared.live.LiveCall.{LiveCall}
use Rattle.world_core.specs.declared.event.Event.TheVariants.{Start, Deliver, StopReplica, StopProxy, GiveUp, Publish}
use Rattle.world_core.specs.declared.event.StepFault.TheVariants.{NoActor, NoKey, WrongMode, NoMessage, NoCall, Limit}
use Rattle.world_core.specs.State.{Store, replica_at, proxy_at}
use Rattle.world_core.specs.Step as limited
use Rattle.world_core.specs.Step.{Happening, Outcome, nothing, with_replica, with_proxy, is_strong_key, fits_mode, handle_of_call, may_give_up, message_limit, byte_limit, opens_none, step, proxy_takes}
use Rattle.restart_law.specs.Unlimited as free
use Rattle.restart_law.specs.Unlimited.{unlimited_step, IsWithinLimits, unless_limited}
use Rattle.restart_law.specs.Laws.{StepsAreLimited}

not_less : (a b : ℕ) → b ≤ a → nat_lt a b ≡ false
not_less a b h = grind (arith, common_steps)

passes : (a b : Bool) (x y o : Outcome) → a ≡ false → b ≡ false → o ≡ (if a then x else if b then y else o)
passes false false x y o p q = refl
passes false true x y o p q = absurd (cc)
passes true b x y o p q = absurd (cc)

abbrev quietly : Store → List Mark → Outcome
quietly store marks = Ok (record { store = store; marks = marks; posts = [] })

module _ (s : Store) (within : IsWithinLimits s) where
  either : (b : Bool) (x y p q : Outcome) → x ≡ unless_limited s p → y ≡ unless_limited s q → (if b then x else y) ≡ unless_limited s (if b then p else q)
  either true x y p q a b = a
  either false x y p q a b = b

  -- what sends nothing passes no limit
  quiet : (store : Store) (marks : List Mark) → quietly store marks ≡ unless_limited s (quietly store marks)
  quiet store marks =
      let few : length s.sent + 0 ≤ message_limit = let h = within.few in omega (arith, h) in
      let small : (bulk_of s.sent).bytes + 0 ≤ byte_limit = let h = within.small in omega (arith, h) in
      passes (nat_lt message_limit (length s.sent + 0)) (nat_lt byte_limit ((bulk_of s.sent).bytes + 0)) (Err (Limit Messages (length s.sent + 0)))
      (Err (Limit FrameBytes ((bulk_of s.sent).bytes + 0))) (quietly store marks) (not_less message_limit (length s.sent + 0) few) (not_less byte_limit ((bulk_of s.sent).bytes + 0) small)

  started_at : (p : ℕ) (key : KeyId) (work : Work) → limited.start_at s p key work ≡ unless_limited s (free.start_at s p key work)
  started_at p key work =
      either (not (nat_lt key.0 (length s.directory.sets))) (Err NoKey) _ (Err NoKey) _ refl
      (either (not (fits_mode (is_strong_key s key) work)) (Err WrongMode) _ (Err WrongMode) _ refl refl)

  starting : (p key : ℕ) (work : Work) → limited.start s p key work ≡ unless_limited s (free.start s p key work)
  starting p key work =
      let at : KeyId = record { 0 = key } in
      either (not (nat_lt p (length s.proxies))) (Err NoActor) _ (Err NoActor) _ refl
      (either (proxy_at s p).stopped (nothing s) (limited.start_at s p at work) (nothing s) (free.start_at s p at work) (quiet s []) (started_at p at work))

  delivered_to : (a : Actor) (message : Message) → limited.deliver_to s a message ≡ unless_limited s (free.deliver_to s a message)
  delivered_to (to.Replica d) message = either (replica_at s d).stopped (nothing s) _ (nothing s) _ (quiet s []) refl
  delivered_to to.Directory message = refl
  delivered_to (to.Proxy p) message = either (proxy_at s p).stopped (nothing s) _ (nothing s) _ (quiet s []) refl

  delivering : (o : Option Post) → option_map_or (λ (post : Post). limited.deliver_to s post.to post.message) o (Err (NoMessage (length s.sent)))
      ≡ unless_limited s (option_map_or (λ (post : Post). free.deliver_to s post.to post.message) o (Err (NoMessage (length s.sent))))
  delivering None = refl
  delivering (Some post) = delivered_to post.to post.message

  -- an outcome that sends nothing
  abbrev Quiet : Outcome → Type 0
  Quiet o = o ≡ unless_limited s o

  giving : (p : ℕ) (handle : Handle) (o : Option LiveCall) → Quiet (option_map_or (limited.gives_up s p handle) o (Err NoCall))
  giving p handle None = refl
  giving p handle (Some call) = either (may_give_up call) _ (Err NoCall) _ (Err NoCall) (quiet _ _) refl

  giving_at : (p : ℕ) (o : Option Handle) → Quiet (option_map_or (limited.give_up_under s p) o (Err NoCall))
  giving_at p None = refl
  giving_at p (Some handle) = giving p handle (item_at (proxy_at s p).calls handle)

  giving_up : (p seq : ℕ) → Quiet (limited.give_up s p seq)
  giving_up p seq =
      let at : Outcome = option_map_or (limited.give_up_under s p) (handle_of_call (proxy_at s p).calls seq) (Err NoCall) in
      let last : Outcome = if (proxy_at s p).stopped then nothing s else at in
      either (not (nat_lt p (length s.proxies))) (Err NoActor) last (Err NoActor) last refl
      (either (proxy_at s p).stopped (nothing s) at (nothing s) at (quiet s []) (giving_at p (handle_of_call (proxy_at s p).calls seq)))

  no_epoch : (wrong : PublishFault) → Quiet (opens_none s wrong)
  no_epoch (fault.MissingSet set) = quiet _ _
  no_epoch (fault.NotQuorum set) = quiet _ _
  no_epoch _ = quiet s []

  judging : (table : List SetPolicy) (opened : Happening) → opened.posts ≡ [] → (o : Option PublishFault) → Quiet (option_map_or (opens_none s) o (Ok opened))
  judging table opened none None =
      subst (λ (posts : List Post). Quiet (Ok (record opened { posts = posts }))) (sym none) (quiet opened.store opened.marks)
  judging table opened none (Some wrong) = no_epoch wrong

  published : (table : List SetPolicy) → Quiet (limited.publish s table)
  published table =
      either (latest s.directory == 1000) (Err (Limit Epochs 1001)) _ (Err (Limit Epochs 1001)) _ refl (judging table _ refl (table_fault s.directory table))

pub steps_are_limited : StepsAreLimited
unfolding step unlimited_step
steps_are_limited s (Start p key work) within = starting s within p key work
steps_are_limited s (Deliver n) within = delivering s within (slice_get s.sent n)
steps_are_limited s (StopReplica d) within = either s within (not (nat_lt d (length s.replicas))) (Err NoActor) _ (Err NoActor) _ refl (quiet s within _ [])
steps_are_limited s (StopProxy p) within = either s within (not (nat_lt p (length s.proxies))) (Err NoActor) _ (Err NoActor) _ refl (quiet s within _ [])
steps_are_limited s (GiveUp p seq) within = giving_up s within p seq
steps_are_limited s (Publish table) within = published s within table
