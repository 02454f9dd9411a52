-- Every event keeps it that what a proxy knows of an eventual key has been current, with its policy.
use Rattle.std.proofs.Common.{◌≡◌, refl, ◌⊎◌, inl, inr, ℕ, ◌<◌, Bool, true, false, List, sym, ap, ◌∙◌, subst, arith}
use Rattle.std.specs.Prelude.{nat_lt, if◌then◌else◌, length, slice_set, Option, Some, None, Contains}
use Rattle.span_base.specs.declared.ids.KeyId.{KeyId}
use Rattle.span_base.specs.declared.dc_set.DcSet.{DcSet}
use Rattle.ticket_rules.specs.declared.stamp.Stamp.{Stamp}
use Rattle.wire_msg.specs.declared.tag.Tag.{Tag}
use Rattle.wire_msg.specs.declared.message.Message.{Message}
use Rattle.wire_msg.specs.declared.outputs.View.{View}
use Rattle.wire_msg.specs.Outputs.{Step}
use Rattle.wire_msg.specs.declared.actor.Actor.TheVariants as to
use Rattle.wire_msg.specs.declared.message.Message.TheVariants as m
use Rattle.call_phase.proofs.Tags.{same_tag}
use Rattle.strong_proxy.specs.Rule as strong
use Rattle.migration.specs.declared.stage.Epoch.{Epoch}
use Rattle.migration.specs.declared.stage.Stage.TheVariants.{Switching}
use Rattle.migration.specs.Strong.{strong as strong_rule}
use Rattle.migration.specs.Eventual.{eventual as eventual_rule}
use Rattle.migration.specs.Move.{Moving, ends_at}
use Rattle.migration.specs.Move as move
use Rattle.world_core.specs.declared.live.LiveCall.{LiveCall}
use Rattle.world_core.specs.declared.live.LiveCall.TheVariants.{Strong, Eventual, StrongMove, EventualMove}
use Rattle.world_core.specs.State.{Store, proxy_at, view_at}
use Rattle.world_core.specs.Knowing.{views_after}
use Rattle.world_core.specs.Calls.{take}
use Rattle.world_core.specs.Step.{Happening, handle_in, views_with}
use Rattle.register_law.specs.Ghost.{Ghost, noted_of}
use Rattle.register_law.specs.Seen.{WasSent, Grows}
use Rattle.register_law.specs.Tags.{IsLiveAt}
use Rattle.register_law.specs.Cases.{Happened}
use Rattle.register_law.proofs.MovesStep.{MoveTook, move_took, arrived}
use Rattle.register_law.proofs.OpeningsShown.{IsViewAt, IsOpenedView, view_stays, shown_at}
use Rattle.register_law.proofs.ReplicasKept.{view_set, ViewsAfter, same_views, learned_views, shown_views, views_after_event}
use Rattle.eventual_law.specs.Known.{by_request, by_life}
use Rattle.eventual_law.specs.Held.{KnowsOpened, SwitchingHeld, IsHeldMove, InvOfEventual}
use Rattle.world_core.proofs.CallSteps.{strong_shows}
use Rattle.register_law.proofs.CallsOthers.{eventual_out}
use Rattle.register_law.proofs.TagsCalls.{proxies_stay}
use Rattle.register_law.proofs.OpeningsKept.{same_opening}

-- the view is of the key after this message, if it was before
abbrev IsOpenedIn : KeyId → Store → Ghost → List View → Type 0
IsOpenedIn key s g views = IsOpenedView key s g (view_at views key)

learned_view : (key : KeyId) (s : Store) (g : Ghost) → InvOfEventual key s g → (views : List View) (message : Message) → WasSent s message → IsOpenedIn key s g views → IsOpenedIn key s g (views_after views message)
learned_view key s g inv views (m.Here tag at epoch policy latest_epoch latest_policy) sent was = by (nat_lt (view_at views at).epoch epoch)
  where
    new : at ≡ key → IsOpenedView key s g (record { key = at; epoch = epoch; policy = policy })
    new e =
        let b = inv.epochs.here_opened tag epoch policy latest_epoch latest_policy (subst (λ (x : KeyId). WasSent s (m.Here tag x epoch policy latest_epoch latest_policy)) e sent) in
        record { opened = b.opened; policy = b.policy_is }

    by : (b : Bool) → IsOpenedIn key s g (if b then slice_set views at.0 (record { key = at; epoch = epoch; policy = policy }) else views)
    by true = view_set (IsOpenedView key s g) key views at (record { key = at; epoch = epoch; policy = policy }) new was
    by false = was
learned_view key s g inv views message sent was = was

-- a move that has arrived
pub record HasArrived (call : Moving) (message : Message) (new : Step Moving) : Type 0 where
  pub tag : Tag
  pub at : KeyId
  pub epoch : ℕ
  pub old : ℕ
  pub target : Epoch
  pub frozen : DcSet
  pub seeded : Stamp
  pub stage_is : call.stage ≡ Switching old target frozen seeded
  pub message_is : message ≡ m.Switched tag at true epoch
  pub own : call.phase.tag ≡ tag
  pub is : new ≡ ends_at call target

shows : (call : Moving) (message : Message) (new : Step Moving) → MoveTook eventual_rule call message new → (new.out.view ≡ None) ⊎ HasArrived call message new
shows call message new (arrived tag at epoch old target frozen seeded stage got c) =
    inr (record { tag = tag; at = at; epoch = epoch; old = old; target = target; frozen = frozen; seeded = seeded; stage_is = stage; message_is = got; own = same_tag call.phase.tag tag c; is = refl })
shows call message new _ = inl refl

-- the view that a move of the key shows at its end
arrived_view : (key : KeyId) (s : Store) (g : Ghost) → InvOfEventual key s g → (p : ℕ) (message : Message) (call : Moving) (new : Step Moving) → IsLiveAt s p (handle_in message) (EventualMove call) → call.key ≡ key → WasSent s message → (a : HasArrived call message new)
    → IsOpenedView key s g (record { key = call.key; epoch = a.target.number; policy = a.target.policy })
arrived_view key s g inv p message call new lives at_key sent a =
    let told : WasSent s (m.Switched a.tag a.at true a.epoch) = subst (WasSent s) a.message_is sent in
    let asked = inv.tells.switched_asked a.tag a.at true a.epoch told in
    let same : a.at ≡ key = inv.known.calls.one_key a.tag.call a.at key (by_request (m.Switch a.tag a.at asked.0 asked.1) asked.2 refl refl) (by_life p (handle_in message) (EventualMove call) lives at_key (ap (λ (t : Tag). t.call) a.own)) in
    let held : SwitchingHeld key s g call.phase a.old a.target = subst (IsHeldMove key s g call.phase) a.stage_is (inv.moves.live p (handle_in message) call lives at_key) in
    let done = inv.moves.switched_opened a.tag a.epoch (subst (λ (x : KeyId). WasSent s (m.Switched a.tag x true a.epoch)) same told) in
    let one = inv.answers.one_shape (m.Switch a.tag key done.old done.new) (m.Switch call.phase.tag key a.old a.target.number) done.sent (to.Directory, held.sent) refl refl (sym a.own) in
    record { opened = subst (Contains g.opened) (same_opening a.tag call.phase.tag key key done.old done.new a.old a.target.number one) done.opened; policy = held.policy }

none_shown : (key : KeyId) (s : Store) (g : Ghost) (views : List View) (o : Option View) → o ≡ None → IsOpenedIn key s g views → IsOpenedIn key s g (views_with views o)
none_shown key s g views o is was = subst (λ (x : Option View). IsOpenedIn key s g (views_with views x)) (sym is) was

-- a view that is not of the key
other_shown : (key : KeyId) (s : Store) (g : Ghost) (views : List View) (own : KeyId) (o : Option View) → (own ≡ key → ⊥) → IsViewAt own o → IsOpenedIn key s g views → IsOpenedIn key s g (views_with views o)
other_shown key s g views own None apart at was = was
other_shown key s g views own (Some view) apart at was = view_set (IsOpenedView key s g) key views view.key view (λ e. absurd (apart (sym at ∙ e))) was

move_shown : (key : KeyId) (s : Store) (g : Ghost) → InvOfEventual key s g → (p : ℕ) (message : Message) (call : Moving) → IsLiveAt s p (handle_in message) (EventualMove call) → WasSent s message → (new : Step Moving) → (new.out.view ≡ None) ⊎ HasArrived call message new → (views : List View)
    → IsOpenedIn key s g views → IsOpenedIn key s g (views_with views new.out.view)
move_shown key s g inv p message call lives sent new (inl none) views was = none_shown key s g views new.out.view none was
move_shown key s g inv p message call lives sent new (inr a) views was =
    let view : View = record { key = call.key; epoch = a.target.number; policy = a.target.policy } in
    subst (λ (x : Step Moving). IsOpenedIn key s g (views_with views x.out.view)) (sym a.is)
    (view_set (IsOpenedView key s g) key views call.key view (λ at_key. arrived_view key s g inv p message call new lives at_key sent a) was)

shown_view : (key : KeyId) (s : Store) (g : Ghost) → InvOfEventual key s g → (p : ℕ) (message : Message) (old : LiveCall) → IsLiveAt s p (handle_in message) old → WasSent s message → (known : View) (seen : ℕ) (views : List View) → IsOpenedIn key s g views
    → IsOpenedIn key s g (views_with views (take old message known seen).out.view)
shown_view key s g inv p message (Strong call) lives sent known seen views was = none_shown key s g views (strong.step call message known seen).out.view (strong_shows call message known seen) was
shown_view key s g inv p message (Eventual call) lives sent known seen views was = none_shown key s g views _ (eventual_out call message).view was
shown_view key s g inv p message (StrongMove call) lives sent known seen views was =
    other_shown key s g views call.key (move.step strong_rule call message).out.view (λ at. inv.known.kinds.live_kinds p (handle_in message) (StrongMove call) lives at) (shown_at strong_rule call message) was
shown_view key s g inv p message (EventualMove call) lives sent known seen views was =
    move_shown key s g inv p message call lives sent (move.step eventual_rule call message) (shows call message (move.step eventual_rule call message) (move_took eventual_rule call message)) views was

opened_at : (key : KeyId) (s : Store) (g : Ghost) → InvOfEventual key s g → (p : ℕ) → p < length s.proxies → IsOpenedIn key s g (proxy_at s p).views
opened_at key s g inv p lt = let k = inv.views p lt in record { opened = k.0; policy = k.1 }

-- what a proxy knows after an event, judged by the state before it
view_now : (key : KeyId) (s : Store) (g : Ghost) (h : Happening) → InvOfEventual key s g → (p : ℕ) → p < length s.proxies → ViewsAfter s h p → IsOpenedIn key s g (proxy_at h.store p).views
view_now key s g h inv p lt (same_views is) = subst (IsOpenedIn key s g) (sym is) (opened_at key s g inv p lt)
view_now key s g h inv p lt (learned_views message sent is) = subst (IsOpenedIn key s g) (sym is) (learned_view key s g inv (proxy_at s p).views message sent (opened_at key s g inv p lt))
view_now key s g h inv p lt (shown_views message old took is) =
    subst (IsOpenedIn key s g) (sym is)
    (shown_view key s g inv p message old took.live (to.Proxy p, took.sent) _ _ (views_after (proxy_at s p).views message) (learned_view key s g inv (proxy_at s p).views message (to.Proxy p, took.sent) (opened_at key s g inv p lt)))

pub views_kept : (key : KeyId) (s : Store) (g : Ghost) (h : Happening) → InvOfEventual key s g → Grows key s g h.store (noted_of key s h g) → Happened s h → KnowsOpened key h.store (noted_of key s h g)
views_kept key s g h inv grows is p lt =
    let same = proxies_stay s h is in
    let now = view_stays key s g h.store (noted_of key s h g) (view_at (proxy_at h.store p).views key) grows inv.epochs.published (view_now key s g h inv p (omega arith) (views_after_event s h is p)) in
    (now.opened, now.policy)
