-- Every event keeps it that an eventual key is asked only what such a key may be asked, by calls of its kind.
use Rattle.std.proofs.Common.{◌≡◌, inl, inr, ℕ, ◌<◌, sym, ap, ◌∙◌, subst, arith}
use Rattle.span_base.specs.declared.ids.KeyId.{KeyId}
use Rattle.wire_msg.specs.declared.message.Message.{Message}
use Rattle.wire_msg.specs.declared.message.Message.TheVariants as m
use Rattle.epoch_directory.specs.State.{is_strong}
use Rattle.slot_pool.specs.declared.handles.Handle.{Handle}
use Rattle.world_core.specs.declared.live.LiveCall.{LiveCall}
use Rattle.world_core.specs.declared.live.LiveCall.TheVariants.{Strong, Eventual, StrongMove, EventualMove}
use Rattle.world_core.specs.State.{Store, proxy_at, view_at}
use Rattle.world_core.specs.Knowing.{learned}
use Rattle.world_core.specs.Calls.{take, key_of_call}
use Rattle.world_core.specs.Step.{Happening}
use Rattle.wire_msg.specs.declared.outputs.View.{View}
use Rattle.register_law.specs.Tags.{IsLiveAt}
use Rattle.register_law.specs.Cases.{Happened}
use Rattle.register_law.proofs.Basics.{sent_cases}
use Rattle.register_law.proofs.EndsKinds.{taken_key}
use Rattle.register_law.proofs.Growth.{directory_grows, policy_stays}
use Rattle.register_law.proofs.ReplicasKept.{replicas_stay, seat_stays}
use Rattle.register_law.proofs.TagsCalls.{LiveIs, was_live, begins, went_on, live_after, started_opens}
use Rattle.register_law.proofs.TagsKept.{tags_kept}
use Rattle.eventual_law.specs.Kinds.{IsOfEventual, CarriesNone, MayAskEventual, KeyIsEventual}
use Rattle.eventual_law.proofs.Starts.{carries_none, puts}
use Rattle.eventual_law.proofs.Takes.{seeds, freezes, switches}
use Rattle.eventual_law.proofs.Takes as takes
use Rattle.eventual_law.proofs.Sends.{Sends, passes, starts, calls, moves, sends, start_key, start_is_eventual}

kind_stays : (call : LiveCall) (message : Message) (view : View) (seen : ℕ) → IsOfEventual call → IsOfEventual (take call message view seen).state
kind_stays (Strong call) message view seen h = absurd h
kind_stays (Eventual call) message view seen h = tt
kind_stays (StrongMove call) message view seen h = absurd h
kind_stays (EventualMove call) message view seen h = tt

live_kinds_after : (key : KeyId) (s : Store) (h : Happening) → Happened s h → KeyIsEventual key s → (p : ℕ) (handle : Handle) (live : LiveCall) → IsLiveAt h.store p handle live → key_of_call live ≡ key → IsOfEventual live
live_kinds_after key s h is k p handle live lives at_key = by (live_after s h is p handle live lives)
  where
    by : LiveIs s h p handle live → IsOfEventual live
    by (was_live there) = k.live_kinds p handle live there at_key
    by (begins at work st _ new) =
        let same = start_key key s h p at work k st (sym (started_opens s p at work h st).key_is ∙ ap key_of_call (sym new) ∙ at_key) in
        subst IsOfEventual (sym new) (start_is_eventual key s h p at work k st same).kind
    by (went_on message old took _ new no_end) =
        let was = k.live_kinds p _ old took.live (sym (taken_key s p message old) ∙ ap key_of_call (sym new) ∙ at_key) in
        subst IsOfEventual (sym new) (kind_stays old message (view_at (learned (proxy_at s p) message).views (key_of_call old)) (learned (proxy_at s p) message).seen was)

may_ask : (message : Message) → CarriesNone message → MayAskEventual message
may_ask (m.Read tag key epoch) h = tt
may_ask (m.Ask tag key stamp) h = h
may_ask (m.Store tag key stamp value) h = h
may_ask (m.Repair tag key epoch stamp value) h = h
may_ask (m.Confirm tag key stamp) h = h
may_ask (m.Freeze tag key epoch) h = tt
may_ask (m.Seed tag key epoch stamp value) h = tt
may_ask (m.Push tag key stamp onward value) h = tt
may_ask (m.Lookup tag key) h = tt
may_ask (m.Switch tag key closing opening) h = tt
may_ask (m.Have tag replica version mark value) h = tt
may_ask (m.Yes tag replica) h = tt
may_ask (m.Held tag replica stamp) h = tt
may_ask (m.Gone tag replica epoch) h = tt
may_ask (m.Here tag key epoch policy latest_epoch latest_policy) h = tt
may_ask (m.Switched tag key done epoch) h = tt

may_send : (s : Store) (h : Happening) (message : Message) → Sends s h message → MayAskEventual message
may_send s h message (passes from sent on) = subst MayAskEventual (sym on.is) tt
may_send s h message (starts p at work st (carries_none c)) = may_ask message c
may_send s h message (starts p at work st (puts onward value _ is)) = subst MayAskEventual (sym is) tt
may_send s h message (calls p taken call took c) = may_ask message c
may_send s h message (moves p taken call took (takes.carries_none c)) = may_ask message c
may_send s h message (moves p taken call took (seeds found epoch finds is)) = subst MayAskEventual (sym is) tt
may_send s h message (moves p taken call took (freezes epoch from is)) = subst MayAskEventual (sym is) tt
may_send s h message (moves p taken call took (switches old target enough is)) = subst MayAskEventual (sym is) tt

pub kinds_kept : (key : KeyId) (s : Store) (h : Happening) → Happened s h → KeyIsEventual key s → KeyIsEventual key h.store
kinds_kept key s h is k =
    let more = (directory_grows s h is).latest_grows in
    let some = k.published in
    record {
      tags = tags_kept s h is k.tags;
      published = omega arith;
      eventual = ap is_strong (policy_stays key s h is 1 (omega arith) some) ∙ k.eventual;
      seats = λ d lt. seat_stays key s h is d (k.seats d (subst (λ n. d < n) (replicas_stay s h is) lt));
      live_kinds = live_kinds_after key s h is k;
      sent_kinds = λ message sent at.
          elim (sent_cases s h message is sent) as (λ _. MayAskEventual message) [
            | inl old ↦ k.sent_kinds message old at
            | inr new ↦ may_send s h message (sends key s h message is k new at)
          ];
    }
