-- What became of a delivered message stays so.
use Rattle.std.proofs.Common.{◌≡◌, ◌⊎◌, inl, inr, ℕ, ◌+◌, ◌≤◌, refl, sym, ap, ◌∙◌, subst, arith}
use Rattle.std.specs.Prelude.{Contains}
use Rattle.std.proofs.lemmas.Option.{slice_get_within, get_or_from_slice_get}
use Rattle.span_base.specs.DcSet.{no_centre}
use Rattle.span_base.specs.declared.ids.KeyId.{KeyId}
use Rattle.ticket_rules.specs.Stamp.{IsAtMost}
use Rattle.wire_msg.specs.declared.tag.Tag.{Tag}
use Rattle.wire_msg.specs.declared.actor.Actor.{Actor}
use Rattle.wire_msg.specs.declared.message.Message.{Message}
use Rattle.wire_msg.specs.declared.outputs.Post.{Post}
use Rattle.wire_msg.specs.Posts.{tag_of}
use Rattle.wire_msg.specs.declared.actor.Actor.TheVariants as to
use Rattle.wire_msg.specs.declared.message.Message.TheVariants as m
use Rattle.migration.specs.Eventual.{eventual as eventual_rule}
use Rattle.migration.specs.Move.{Moving}
use Rattle.migration.specs.Move as move
use Rattle.world_core.specs.declared.live.LiveCall.{LiveCall}
use Rattle.world_core.specs.declared.live.LiveCall.TheVariants.{Strong, Eventual, StrongMove, EventualMove}
use Rattle.world_core.specs.State.{Store, kept_of}
use Rattle.world_core.specs.Calls.{tag_of_call, key_of_call}
use Rattle.world_core.specs.Step.{Happening, handle_in}
use Rattle.register_law.specs.Ghost.{Ghost, noted_of}
use Rattle.register_law.specs.Seen.{WasSent, Grows}
use Rattle.register_law.specs.Tags.{IsLiveAt}
use Rattle.register_law.specs.Cases.{Happened, CallTook, next_call}
use Rattle.register_law.proofs.EndsKinds.{taken_key}
use Rattle.register_law.proofs.MovesStep.{move_took}
use Rattle.register_law.proofs.TagsCalls.{LiveIs, was_live, begins, went_on, taken_of, live_after, started_opens, next_is_none}
use Rattle.register_law.proofs.TagsSent.{goes_on_at}
use Rattle.register_law.proofs.TagsSends.{GoesOn, turns, stays, ends}
use Rattle.register_law.proofs.TagsSteps.{may_ask}
use Rattle.register_order.proofs.Stamps.{IsAtMost-trans}
use Rattle.eventual_law.specs.Held.{InvOfEventual}
use Rattle.eventual_law.specs.Quiet.{HasPushed, ByReplica, ByDirectory, ByProxy, HasCounted, WasTaken, IsDone}
use Rattle.eventual_law.proofs.HasCounted.{counted_stays}
use Rattle.eventual_law.proofs.Stopped.{replica_stays_stopped, proxy_stays_stopped, sent_gets}

by_replica_stays : (key : KeyId) (s : Store) (g : Ghost) (h : Happening) → Happened s h → Grows key s g h.store (noted_of key s h g) → (d : ℕ) (message : Message) → ByReplica key s d message → ByReplica key h.store d message
by_replica_stays key s g h is grows d (m.Push tag at stamp onward value) was = λ same. by (was same)
  where
    by : (stamp.epoch ≤ (kept_of s d key).frozen) ⊎ HasPushed key s d tag stamp onward value → (stamp.epoch ≤ (kept_of h.store d key).frozen) ⊎ HasPushed key h.store d tag stamp onward value
    by (inl frozen) = inl (let more = grows.frozen d in omega arith)
    by (inr p) = inr (record {
      reached = IsAtMost-trans stamp (kept_of s d key).version (kept_of h.store d key).version p.reached (grows.versions d);
      passed = λ e there. grows.sent (record { to = to.Replica e; message = m.Push tag key stamp no_centre value }) (p.passed e there);
    })
by_replica_stays key s g h is grows d (m.Seed tag at epoch stamp value) was = λ same. by (was same)
  where
    yes : Post
    yes = record { to = to.Proxy tag.call.proxy; message = m.Yes tag (record { 0 = d }) }

    by : (epoch ≤ (kept_of s d key).frozen) ⊎ (IsAtMost stamp (kept_of s d key).version × Contains s.sent yes) → (epoch ≤ (kept_of h.store d key).frozen) ⊎ (IsAtMost stamp (kept_of h.store d key).version × Contains h.store.sent yes)
    by (inl frozen) = inl (let more = grows.frozen d in omega arith)
    by (inr p) = inr (IsAtMost-trans stamp (kept_of s d key).version (kept_of h.store d key).version p.0 (grows.versions d), grows.sent yes p.1)
by_replica_stays key s g h is grows d (m.Freeze tag at epoch) was = λ same. (let p = was same in (p.0, p.1, p.2, grows.sent (record { to = to.Proxy tag.call.proxy; message = m.Have tag (record { 0 = d }) p.0 p.1 p.2 }) p.3))
by_replica_stays key s g h is grows d message was = tt

by_directory_stays : (key : KeyId) (s : Store) (g : Ghost) (h : Happening) → Grows key s g h.store (noted_of key s h g) → (message : Message) → ByDirectory key s message → ByDirectory key h.store message
by_directory_stays key s g h grows (m.Switch tag at old new) was = λ same. (let p = was same in (p.0, p.1, grows.sent (record { to = to.Proxy tag.call.proxy; message = m.Switched tag key p.0 p.1 }) p.2))
by_directory_stays key s g h grows message was = tt

-- a call that took a message stays in its phase, or goes on to the next one
phase_same : (s : Store) (p : ℕ) (message : Message) (old : LiveCall) → (tag_of_call (taken_of s p message old).state ≡ tag_of_call old) ⊎ ((tag_of_call (taken_of s p message old).state).phase ≡ (tag_of_call old).phase + 1)
phase_same s p message old = by (goes_on_at s p message old)
  where
    by : GoesOn (may_ask old) (tag_of_call old) (key_of_call old) (taken_of s p message old).state (taken_of s p message old).out → (tag_of_call (taken_of s p message old).state ≡ tag_of_call old) ⊎ ((tag_of_call (taken_of s p message old).state).phase ≡ (tag_of_call old).phase + 1)
    by (stays at tag none) = inl tag
    by (turns at tag sends) = inr (ap (λ (t : Tag). t.phase) tag)
    by (ends at tag some sends) = inl tag

-- the phase of a call that has been sent an answer to it isn't a later one than it was
pub own_phase : (key : KeyId) (s : Store) (g : Ghost) → InvOfEventual key s g → (p : ℕ) (message taken : Message) (old : LiveCall) → IsLiveAt s p (handle_in taken) old → WasSent s message → tag_of_call (taken_of s p taken old).state ≡ tag_of message
    → (tag_of_call (taken_of s p taken old).state).call ≡ (tag_of_call old).call → tag_of_call (taken_of s p taken old).state ≡ tag_of_call old
own_phase key s g inv p message taken old lives sent own same =
    elim (phase_same s p taken old) as (λ _. tag_of_call (taken_of s p taken old).state ≡ tag_of_call old) [
      | inl is ↦ is
      | inr later ↦
          (let le = inv.known.kinds.tags.phase_bound p (handle_in taken) old message lives sent (ap (λ (t : Tag). t.call) (sym own) ∙ same) in
          let phase : (tag_of message).phase ≡ (tag_of_call (taken_of s p taken old).state).phase = ap (λ (t : Tag). t.phase) (sym own) in
          absurd (omega arith))
    ]

pub call_same : (s : Store) (p : ℕ) (message : Message) (old : LiveCall) → (tag_of_call (taken_of s p message old).state).call ≡ (tag_of_call old).call
call_same s p message old = by (goes_on_at s p message old)
  where
    by : GoesOn (may_ask old) (tag_of_call old) (key_of_call old) (taken_of s p message old).state (taken_of s p message old).out → (tag_of_call (taken_of s p message old).state).call ≡ (tag_of_call old).call
    by (stays at tag none) = ap (λ (t : Tag). t.call) tag
    by (turns at tag sends) = ap (λ (t : Tag). t.call) tag
    by (ends at tag some sends) = ap (λ (t : Tag). t.call) tag

went_counted : (key : KeyId) (s : Store) (g : Ghost) (h : Happening) → InvOfEventual key s g → (p : ℕ) (message taken : Message) (old : LiveCall) (call : Moving) → CallTook s p taken old h → WasSent s message → ByProxy key s p message → EventualMove call ≡ (taken_of s p taken old).state → call.key ≡ key → call.phase.tag ≡ tag_of message → HasCounted call.stage call.phase message
went_counted key s g h inv p message taken (Strong old) call took sent was e at own = absurd (cc)
went_counted key s g h inv p message taken (Eventual old) call took sent was e at own = absurd (cc)
went_counted key s g h inv p message taken (StrongMove old) call took sent was e at own = absurd (cc)
went_counted key s g h inv p message taken (EventualMove old) call took sent was e at own =
    let same : call ≡ (move.step eventual_rule old taken).state = cc in
    let keyed : old.key ≡ key = sym (taken_key s p taken (EventualMove old)) ∙ ap key_of_call (sym e) ∙ at in
    let now : (move.step eventual_rule old taken).state.phase.tag ≡ tag_of message = ap (λ (x : Moving). x.phase.tag) (sym same) ∙ own in
    let stays_in : (move.step eventual_rule old taken).state.phase.tag ≡ old.phase.tag = own_phase key s g inv p message taken (EventualMove old) took.live sent now (call_same s p taken (EventualMove old)) in
    let before = was (handle_in taken) old took.live keyed (sym stays_in ∙ now) in
    subst (λ (x : Moving). HasCounted x.stage x.phase message) (sym same) (counted_stays old taken message (move.step eventual_rule old taken) before (move_took eventual_rule old taken) stays_in)

by_proxy_stays : (key : KeyId) (s : Store) (g : Ghost) (h : Happening) → Happened s h → InvOfEventual key s g → (p : ℕ) (message : Message) → WasSent s message → ByProxy key s p message → ByProxy key h.store p message
by_proxy_stays key s g h is inv p message sent was handle call lives at own = by (live_after s h is p handle (EventualMove call) lives)
  where
    by : LiveIs s h p handle (EventualMove call) → HasCounted call.stage call.phase message
    by (was_live there) = was handle call there at own
    by (begins on work st _ new) =
        let tag : call.phase.tag ≡ _ = ap tag_of_call new ∙ (started_opens s p on work h st).tag_is in
        absurd (next_is_none s p (tag_of message) (next_call s p) (inv.known.kinds.tags.sent_numbered message sent) (ap (λ (t : Tag). t.call) (sym own ∙ tag)) refl)
    by (went_on taken old took _ new no_end) = went_counted key s g h inv p message taken old call took sent was new at own

was_taken_stays : (key : KeyId) (s : Store) (g : Ghost) (h : Happening) → Happened s h → InvOfEventual key s g → Grows key s g h.store (noted_of key s h g) → (a : Actor) (message : Message) → WasSent s message → WasTaken key s a message → WasTaken key h.store a message
was_taken_stays key s g h is inv grows (to.Replica d) message sent (inl stopped) = inl (replica_stays_stopped s h is d stopped)
was_taken_stays key s g h is inv grows (to.Replica d) message sent (inr was) = inr (by_replica_stays key s g h is grows d message was)
was_taken_stays key s g h is inv grows (to.Proxy p) message sent (inl stopped) = inl (proxy_stays_stopped s h is p stopped)
was_taken_stays key s g h is inv grows (to.Proxy p) message sent (inr was) = inr (by_proxy_stays key s g h is inv p message sent was)
was_taken_stays key s g h is inv grows to.Directory message sent was = by_directory_stays key s g h grows message was

pub done_stays : (key : KeyId) (s : Store) (g : Ghost) (h : Happening) → Happened s h → InvOfEventual key s g → Grows key s g h.store (noted_of key s h g) → (n : ℕ) → IsDone key s n → IsDone key h.store n
done_stays key s g h is inv grows n was = record {
  post = was.post;
  sent = sent_gets s h is n was.post was.sent;
  taken = was_taken_stays key s g h is inv grows was.post.to was.post.message (was.post.to, (n, slice_get_within s.sent n was.post was.sent, get_or_from_slice_get s.sent n was.post was.post was.sent)) was.taken;
}
