-- What a message or a call shows a proxy of the key has been current, with its policy; so its view is.
use Rattle.std.proofs.Common.{◌≡◌, ℕ, true, List, refl, sym, ap, ◌∙◌, subst, ◌<◌, Option, Some, None, Contains, length}
use Rattle.register_law.proofs.Words.{DcSet, KeyId, Stamp, Message, View, Tag, eventual_rule, Moving, strong_rule, Epoch, Switching, Handle, take, views_after, policy_of, view_at, handle_in, views_with, LiveCall, Ghost, Inv, IsLiveMove, IsMoveRequest, MoveBacked, Grows, WasSent, IsLiveAt, Rule, proxy_at, Happening, MoveStage as Stage}
use Rattle.wire_msg.specs.declared.message.Message.TheVariants as m
use Rattle.strong_proxy.specs.Rule as strong
use Rattle.migration.specs.Move as moving
use Rattle.world_core.specs.declared.live.LiveCall.TheVariants as live
use Rattle.world_core.specs.State as world
use Rattle.world_core.proofs.CallSteps.{strong_shows}
use Rattle.call_phase.proofs.Tags.{same_tag}
use Rattle.wire_msg.specs.declared.actor.Actor.TheVariants as to
use Rattle.register_law.proofs.CallsOthers.{eventual_out}
use Rattle.register_law.proofs.MovesStep.{MoveShows, shows_none, shows_target, made_by}
use Rattle.register_law.proofs.MovesStable.{IsOut}
use Rattle.register_law.proofs.ReplicasKept.{view_set, view_learned, ViewsAfter, same_views, learned_views, shown_views}

-- what these views say of the key has been current, with its policy
pub record IsOpenedView (key : KeyId) (s : world.Store) (g : Ghost) (view : View) : Type 0 where
  pub opened : Contains g.opened view.epoch
  pub policy : view.policy ≡ policy_of s key view.epoch

pub view_stays : (key : KeyId) (s : world.Store) (g : Ghost) (z : world.Store) (h : Ghost) (view : View) → Grows key s g z h → ((e : ℕ) → Contains g.opened e → IsOut s e) → IsOpenedView key s g view → IsOpenedView key z h view
view_stays key s g z h view grows out k =
    let is_out = out view.epoch k.opened in
    record { opened = grows.opened view.epoch k.opened; policy = k.policy ∙ sym (grows.policies view.epoch is_out.0 is_out.1) }

-- what a message shows
pub learned_view : (key : KeyId) (s : world.Store) (g : Ghost) → Inv key s g → (views : List View) (message : Message) → WasSent s message → IsOpenedView key s g (view_at views key) → IsOpenedView key s g (view_at (views_after views message) key)
learned_view key s g inv views message sent was =
    view_learned (IsOpenedView key s g) key views message (λ tag epoch policy newest newest_policy is.
    (let b = inv.messages.here_opened tag epoch policy newest newest_policy (subst (WasSent s) is sent) in record { opened = b.opened; policy = b.policy_is })) was

-- the view that a move shows at its end
arrived_view : (key : KeyId) (s : world.Store) (g : Ghost) → Inv key s g → (p : ℕ) (handle : Handle) (call : Moving) → IsLiveMove key s p handle call → (tag : Tag) (at : KeyId) (epoch old : ℕ) (target : Epoch) (frozen : DcSet) (seeded : Stamp)
    → WasSent s (m.Switched tag at true epoch) → call.stage ≡ Switching old target frozen seeded → call.phase.tag ≡ tag → IsOpenedView key s g (record { key = call.key; epoch = target.number; policy = target.policy })
arrived_view key s g inv p handle call is_live tag at epoch old target frozen seeded sent stage same =
    let asked = inv.keys.switched_asked tag at true epoch sent in
    let request : IsMoveRequest call.stage call (m.Switch tag at asked.old asked.new) =
    (inv.moves p handle call is_live).request (m.Switch tag at asked.old asked.new) asked.sent refl (record { call = ap (λ (t : Tag). t.call) (sym same); phase = ap (λ (t : Tag). t.phase) (sym same) }) in
    let is : m.Switch tag at asked.old asked.new ≡ m.Switch call.phase.tag call.key old target.number = subst (λ (x : Stage). IsMoveRequest x call (m.Switch tag at asked.old asked.new)) stage request in
    let at_key : at ≡ key = at_in is ∙ is_live.at_key in
    let new_is : asked.new ≡ target.number = new_in is in
    let k : MoveBacked key s g call.phase (Switching old target frozen seeded) = subst (MoveBacked key s g call.phase) stage ((inv.moves p handle call is_live).backed) in
    let opened : Contains g.opened asked.new =
    inv.messages.switched_opened tag asked.old asked.new epoch (subst (λ (x : KeyId). WasSent s (m.Switch tag x asked.old asked.new)) at_key asked.sent) (subst (λ (x : KeyId). WasSent s (m.Switched tag x true epoch)) at_key sent) in
    record { opened = subst (Contains g.opened) new_is opened; policy = k.0.target.policy }
  where
    at_in : {a b : Tag} {c d : KeyId} {e f x y : ℕ} → m.Switch a c e f ≡ m.Switch b d x y → c ≡ d
    at_in e = cc

    new_in : {a b : Tag} {c d : KeyId} {e f x y : ℕ} → m.Switch a c e f ≡ m.Switch b d x y → f ≡ y
    new_in e = cc

none_shown : (key : KeyId) (s : world.Store) (g : Ghost) (views : List View) (o : Option View) → o ≡ None → IsOpenedView key s g (view_at views key) → IsOpenedView key s g (view_at (views_with views o) key)
none_shown key s g views o is was = subst (λ (x : Option View). IsOpenedView key s g (view_at (views_with views x) key)) (sym is) was

-- a view is of the key, if there is one
abbrev pub IsViewAt : KeyId → Option View → Type 0
IsViewAt key None = Unit {0}
IsViewAt key (Some view) = view.key ≡ key

-- a view that is not of the key
other_shown : (key : KeyId) (s : world.Store) (g : Ghost) (views : List View) (own : KeyId) (o : Option View) → (own ≡ key → ⊥) → IsViewAt own o → IsOpenedView key s g (view_at views key) → IsOpenedView key s g (view_at (views_with views o) key)
other_shown key s g views own None apart at was = was
other_shown key s g views own (Some view) apart at was = view_set (IsOpenedView key s g) key views view.key view (λ e. absurd (apart (sym at ∙ e))) was

pub shown_at : (rule : Rule) (call : Moving) (message : Message) → IsViewAt call.key (moving.step rule call message).out.view
shown_at rule call message = by (made_by rule call message).shown
  where
    by : MoveShows call message (moving.step rule call message).out.view → IsViewAt call.key (moving.step rule call message).out.view
    by (shows_none is) = subst (IsViewAt call.key) (sym is) tt
    by (shows_target tag at epoch old target frozen seeded stage got c is) = subst (IsViewAt call.key) (sym is) refl

move_shown : (key : KeyId) (s : world.Store) (g : Ghost) → Inv key s g → (p : ℕ) (handle : Handle) (call : Moving) → IsLiveAt s p handle (live.StrongMove call) → (message : Message) → WasSent s message → (o : Option View) → MoveShows call message o → (views : List View)
    → IsOpenedView key s g (view_at views key) → IsOpenedView key s g (view_at (views_with views o) key)
move_shown key s g inv p handle call lives message sent o (shows_none is) views was = none_shown key s g views o is was
move_shown key s g inv p handle call lives message sent o (shows_target tag at epoch old target frozen seeded stage got c is) views was =
    let view : View = record { key = call.key; epoch = target.number; policy = target.policy } in
    subst (λ (x : Option View). IsOpenedView key s g (view_at (views_with views x) key)) (sym is)
    (view_set (IsOpenedView key s g) key views call.key view (λ at_key. arrived_view key s g inv p handle call (record { live = lives; at_key = at_key }) tag at epoch old target frozen seeded (subst (WasSent s) got sent) stage (same_tag call.phase.tag tag c)) was)

pub shown_view : (key : KeyId) (s : world.Store) (g : Ghost) → Inv key s g → (p : ℕ) (message : Message) (old : LiveCall) → IsLiveAt s p (handle_in message) old → WasSent s message → (known : View) (seen : ℕ) (views : List View) → IsOpenedView key s g (view_at views key)
    → IsOpenedView key s g (view_at (views_with views (take old message known seen).out.view) key)
shown_view key s g inv p message (live.Strong call) lives sent known seen views was = none_shown key s g views (strong.step call message known seen).out.view (strong_shows call message known seen) was
shown_view key s g inv p message (live.Eventual call) lives sent known seen views was = none_shown key s g views _ (eventual_out call message).view was
shown_view key s g inv p message (live.StrongMove call) lives sent known seen views was = move_shown key s g inv p (handle_in message) call lives message sent _ (made_by strong_rule call message).shown views was
shown_view key s g inv p message (live.EventualMove call) lives sent known seen views was =
    other_shown key s g views call.key (moving.step eventual_rule call message).out.view (λ at. inv.ends.live_kinds p (handle_in message) (live.EventualMove call) lives at) (shown_at eventual_rule call message) was

-- ---- what a proxy knows of the key after an event has been current, with its policy

pub opened_at : (key : KeyId) (s : world.Store) (g : Ghost) → Inv key s g → (p : ℕ) → p < length s.proxies → IsOpenedView key s g (view_at (proxy_at s p).views key)
opened_at key s g inv p lt = let k = inv.openings.view_opened p lt in record { opened = k.0; policy = k.1 }

-- what a proxy knows after an event, judged by the state before it
pub view_now : (key : KeyId) (s : world.Store) (g : Ghost) (h : Happening) → Inv key s g → (p : ℕ) → p < length s.proxies → ViewsAfter s h p → IsOpenedView key s g (view_at (proxy_at h.store p).views key)
view_now key s g h inv p lt (same_views is) = subst (λ (x : List View). IsOpenedView key s g (view_at x key)) (sym is) (opened_at key s g inv p lt)
view_now key s g h inv p lt (learned_views message sent is) =
    subst (λ (x : List View). IsOpenedView key s g (view_at x key)) (sym is) (learned_view key s g inv (proxy_at s p).views message sent (opened_at key s g inv p lt))
view_now key s g h inv p lt (shown_views message old ct is) =
    subst (λ (x : List View). IsOpenedView key s g (view_at x key)) (sym is)
    (shown_view key s g inv p message old ct.live (to.Proxy p, ct.sent) _ _ (views_after (proxy_at s p).views message)
    (learned_view key s g inv (proxy_at s p).views message (to.Proxy p, ct.sent) (opened_at key s g inv p lt)))
