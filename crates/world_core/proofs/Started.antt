-- What the definition says of an event at a proxy, by what the code finds there.
use Rattle.std.proofs.Common.{◌≡◌, ℕ, ◌<◌, ◌≤◌, Bool, true, false, cond, List, [], length, get_or, refl, sym, ap, ◌∙◌, subst}
use Rattle.std.specs.Prelude.{slice_get, slice_set, nat_lt, not, ◌&&◌, Option, Some, None, Ok, Err, option_and_then}
use Rattle.std.specs.Option.{option_map_or}
use Rattle.std.proofs.lemmas.Bool.{lt-ltb, le-ltb}
use Rattle.std.proofs.lemmas.List.{get_or_default, set-get_or}
use Rattle.std.proofs.lemmas.Option.{slice_get_within, get_or_from_slice_get}
use Rattle.span_base.specs.declared.ids.KeyId.{KeyId}
use Rattle.wire_msg.specs.declared.outputs.Post.{Post}
use Rattle.wire_msg.specs.Lawful.{IsLawful}
use Rattle.epoch_directory.specs.declared.table.SetPolicy.{SetPolicy}
use Rattle.slot_pool.specs.declared.handles.Handle.{Handle}
use Rattle.slot_pool.specs.Slots.{item_at}
use Rattle.epoch_directory.specs.State as directory
use Rattle.run_marks.specs.declared.mark.Mark.{Mark}
use Rattle.run_marks.specs.declared.mark.Work.{Work}
use Rattle.world_core.specs.declared.event.Event.TheVariants.{Start, Deliver, GiveUp, StopReplica, StopProxy, Publish}
use Rattle.world_core.specs.declared.event.StepFault.TheVariants.{NoActor, NoKey, WrongMode, NoMessage, NoCall}
use Rattle.world_core.specs.declared.live.LiveCall.{LiveCall}
use Rattle.world_core.specs.State.{Proxy, Store, no_proxy, proxy_at, replica_at}
use Rattle.world_core.specs.Starting.{Done, starts}
use Rattle.world_core.specs.Step.{Outcome, nothing, fits_mode, is_strong_key, start_at, proxy_did, with_proxy, with_replica, may_give_up, gives_up, give_up_under, handle_of_call, deliver_to, publish, step}
use Rattle.world_core.specs.Proxies.{gave_up, gave_up_under, GivesUp, IsOfKeyBelow}
use Rattle.world_core.specs.Stores.{AreSent}
use Rattle.world_core.specs.Ends.{taken_by_replica, replica_asked}

if_there : {X : Type 0} (a n : ℕ) (x y : X) → a < n → cond (not (nat_lt a n)) x y ≡ y
if_there a n x y within = ap (λ b. cond (not b) x y) (lt-ltb a n within)

if_absent : {X : Type 0} (a n : ℕ) (x y : X) → n ≤ a → cond (not (nat_lt a n)) x y ≡ x
if_absent a n x y past = ap (λ b. cond (not b) x y) (le-ltb a n past)

module _ (s : Store) (p : ℕ) where
  pub start_absent : (key : ℕ) (work : Work) → length s.proxies ≤ p → step s (Start p key work) ≡ Err NoActor
  unfolding step
  start_absent key work past = if_absent p (length s.proxies) _ _ past

  pub start_stopped : (key : ℕ) (work : Work) → p < length s.proxies → (proxy_at s p).stopped ≡ true → step s (Start p key work) ≡ nothing s
  unfolding step
  start_stopped key work within stopped = if_there p (length s.proxies) _ _ within ∙ ap (λ b. cond b (nothing s) (start_at s p (record { 0 = key }) work)) stopped

  start_there : (key : ℕ) (work : Work) → p < length s.proxies → (proxy_at s p).stopped ≡ false → step s (Start p key work) ≡ start_at s p (record { 0 = key }) work
  unfolding step
  start_there key work within runs = if_there p (length s.proxies) _ _ within ∙ ap (λ b. cond b (nothing s) (start_at s p (record { 0 = key }) work)) runs

  pub start_no_key : (key : ℕ) (work : Work) → p < length s.proxies → (proxy_at s p).stopped ≡ false → length s.directory.sets ≤ key → step s (Start p key work) ≡ Err NoKey
  start_no_key key work within runs past = start_there key work within runs ∙ if_absent key (length s.directory.sets) _ _ past

  mode_is : (key : KeyId) (strong : Bool) → key.0 < length s.directory.sets → strong ≡ directory.is_strong_key s.directory key → is_strong_key s key ≡ strong
  mode_is key strong within is = sym (is ∙ ap (λ b. b && is_strong_key s key) (lt-ltb key.0 (length s.directory.sets) within))

  start_known : (key : ℕ) (work : Work) (strong : Bool) → p < length s.proxies → (proxy_at s p).stopped ≡ false → key < length s.directory.sets → strong ≡ directory.is_strong_key s.directory (record { 0 = key })
      → step s (Start p key work) ≡ cond (not (fits_mode strong work)) (Err WrongMode) (proxy_did s p (starts strong p (proxy_at s p) (record { 0 = key }) work))
  start_known key work strong within runs known is =
      start_there key work within runs ∙ if_there key (length s.directory.sets) _ _ known
      ∙ ap (λ b. cond (not (fits_mode b work)) (Err WrongMode) (proxy_did s p (starts b p (proxy_at s p) (record { 0 = key }) work))) (mode_is (record { 0 = key }) strong known is)

  pub start_wrong_mode : (key : ℕ) (work : Work) (strong : Bool) → p < length s.proxies → (proxy_at s p).stopped ≡ false → key < length s.directory.sets → strong ≡ directory.is_strong_key s.directory (record { 0 = key })
      → fits_mode strong work ≡ false → step s (Start p key work) ≡ Err WrongMode
  start_wrong_mode key work strong within runs known is wrong =
      start_known key work strong within runs known is ∙ ap (λ b. cond (not b) (Err WrongMode) (proxy_did s p (starts strong p (proxy_at s p) (record { 0 = key }) work))) wrong

  pub start_goes : (key : ℕ) (work : Work) (strong : Bool) (proxy : Proxy) → p < length s.proxies → proxy_at s p ≡ proxy → proxy.stopped ≡ false → key < length s.directory.sets → strong ≡ directory.is_strong_key s.directory (record { 0 = key })
      → fits_mode strong work ≡ true → step s (Start p key work) ≡ proxy_did s p (starts strong p proxy (record { 0 = key }) work)
  start_goes key work strong proxy within here runs known is fits =
      start_known key work strong within (ap (λ (x : Proxy). x.stopped) here ∙ runs) known is
      ∙ ap (λ b. cond (not b) (Err WrongMode) (proxy_did s p (starts strong p (proxy_at s p) (record { 0 = key }) work))) fits
      ∙ ap (λ (x : Proxy). proxy_did s p (starts strong p x (record { 0 = key }) work)) here

  pub stop_absent : length s.proxies ≤ p → step s (StopProxy p) ≡ Err NoActor
  unfolding step
  stop_absent past = if_absent p (length s.proxies) _ _ past

  pub stop_goes : p < length s.proxies → step s (StopProxy p) ≡ nothing (with_proxy s p (record (proxy_at s p) { stopped = true }))
  unfolding step
  stop_goes within = if_there p (length s.proxies) _ _ within

  pub replica_absent : length s.replicas ≤ p → step s (StopReplica p) ≡ Err NoActor
  unfolding step
  replica_absent past = if_absent p (length s.replicas) _ _ past

  pub replica_goes : p < length s.replicas → step s (StopReplica p) ≡ nothing (with_replica s p (record { stopped = true; state = (replica_at s p).state }))
  unfolding step
  replica_goes within = if_there p (length s.replicas) _ _ within

  pub give_up_absent : (seq : ℕ) → length s.proxies ≤ p → step s (GiveUp p seq) ≡ Err NoActor
  unfolding step
  give_up_absent seq past = if_absent p (length s.proxies) _ _ past

  pub give_up_stopped : (seq : ℕ) → p < length s.proxies → (proxy_at s p).stopped ≡ true → step s (GiveUp p seq) ≡ nothing s
  unfolding step
  give_up_stopped seq within stopped =
      if_there p (length s.proxies) _ _ within ∙ ap (λ b. cond b (nothing s) (option_map_or (give_up_under s p) (handle_of_call (proxy_at s p).calls seq) (Err NoCall))) stopped

  -- by what the proxy does
  abbrev pub gives_up_as : Option (Done Proxy) → Outcome
  gives_up_as None = Err NoCall
  gives_up_as (Some done) = Ok (record { store = with_proxy s p done.actor; marks = done.marks; posts = [] })

  by_call : (handle : Handle) (o : Option LiveCall) → option_map_or (gives_up s p handle) o (Err NoCall) ≡ gives_up_as (option_and_then (gave_up_under (proxy_at s p) handle) o)
  by_call handle None = refl
  by_call handle (Some call) = by (may_give_up call) refl
    where
      by : (b : Bool) → may_give_up call ≡ b → gives_up s p handle call ≡ gives_up_as (gave_up_under (proxy_at s p) handle call)
      by true is = rw is refl
      by false is = rw is refl

  by_handle : (o : Option Handle) → option_map_or (give_up_under s p) o (Err NoCall) ≡ gives_up_as (option_and_then (λ handle. option_and_then (gave_up_under (proxy_at s p) handle) (item_at (proxy_at s p).calls handle)) o)
  by_handle None = refl
  by_handle (Some handle) = by_call handle (item_at (proxy_at s p).calls handle)

  pub give_up_goes : (seq : ℕ) (proxy : Proxy) → p < length s.proxies → proxy_at s p ≡ proxy → proxy.stopped ≡ false → step s (GiveUp p seq) ≡ gives_up_as (gave_up proxy seq)
  unfolding step
  give_up_goes seq proxy within here runs =
      if_there p (length s.proxies) _ _ within
      ∙ ap (λ b. cond b (nothing s) (option_map_or (give_up_under s p) (handle_of_call (proxy_at s p).calls seq) (Err NoCall))) (ap (λ (x : Proxy). x.stopped) here ∙ runs)
      ∙ by_handle (handle_of_call (proxy_at s p).calls seq)
      ∙ ap (λ (x : Proxy). gives_up_as (gave_up x seq)) here

-- the proxy that is read at its place
pub proxy_there : (proxies : List Proxy) (p : ℕ) (proxy : Proxy) → p < length proxies → proxy ≡ get_or proxies p proxy → get_or proxies p no_proxy ≡ proxy
proxy_there proxies p proxy within read = get_or_default proxies p no_proxy proxy within ∙ sym read

-- the proxy that stands at its place, put there once more
pub put_back : (s : Store) (p : ℕ) (proxy : Proxy) → p < length s.proxies → proxy_at s p ≡ proxy → record (with_proxy s p proxy) { sent = s.sent } ≡ s
put_back s p proxy within here =
    let same : slice_set s.proxies p proxy ≡ s.proxies = ap (slice_set s.proxies p) (sym here) ∙ set-get_or s.proxies p no_proxy in
    ap (λ (xs : List Proxy). let z : Store = record s { proxies = xs } in z) same

-- how giving a call up ends, read both ways
pub gives_none : (o : Option (Done Proxy)) (old new : Proxy) (marks : Option (List Mark)) → GivesUp o old new marks → marks ≡ None → (o ≡ None) × (new ≡ old)
gives_none None old new marks ends is = (refl, ends.0)
gives_none (Some done) old new marks ends is = absurd (let both = sym is ∙ ends.1 in cc)

pub gives_some : (o : Option (Done Proxy)) (old new : Proxy) (marks : Option (List Mark)) (some : List Mark) → GivesUp o old new marks → marks ≡ Some some → (done : Done Proxy) × (o ≡ Some done) × (new ≡ done.actor) × (some ≡ done.marks)
gives_some None old new marks some ends is = absurd (let both = sym is ∙ ends.1 in cc)
gives_some (Some done) old new marks some ends is = (done, refl, ends.0, (let both : Some some ≡ Some done.marks = sym is ∙ ends.1 in cc))

-- a message that is delivered
pub deliver_none : (s : Store) (n : ℕ) → slice_get s.sent n ≡ None → step s (Deliver n) ≡ Err (NoMessage (length s.sent))
unfolding step
deliver_none s n none = ap (λ (o : Option Post). option_map_or (λ (post : Post). deliver_to s post.to post.message) o (Err (NoMessage (length s.sent)))) none

pub deliver_some : (s : Store) (n : ℕ) (post : Post) → slice_get s.sent n ≡ Some post → step s (Deliver n) ≡ deliver_to s post.to post.message
unfolding step
deliver_some s n post some = ap (λ (o : Option Post). option_map_or (λ (x : Post). deliver_to s x.to x.message) o (Err (NoMessage (length s.sent)))) some

pub asked_some : (s : Store) (n : ℕ) (post : Post) → slice_get s.sent n ≡ Some post → replica_asked s (Deliver n) ≡ taken_by_replica s post.to post.message
asked_some s n post some = ap (λ (o : Option Post). option_map_or (λ (x : Post). taken_by_replica s x.to x.message) o None) some

-- a message that was sent is lawful, and of a key that there is
pub sent_right : (keys n : ℕ) (sent : List Post) (post : Post) → AreSent keys sent → slice_get sent n ≡ Some post → IsLawful post.message × IsOfKeyBelow keys post.message
sent_right keys n sent post are there =
    let within : n < length sent = slice_get_within sent n post there in
    let read : get_or sent n post ≡ post = get_or_from_slice_get sent n post post there in
    (subst (λ (p : Post). IsLawful p.message) read (are.lawful n post within), subst (λ (p : Post). IsOfKeyBelow keys p.message) read (are.of_keys n post within))

pub publish_is : (s : Store) (table : List SetPolicy) → step s (Publish table) ≡ publish s table
unfolding step
publish_is s table = refl
