-- A switch was refused only where its epoch had been left, and a live move is still undecided.
use Rattle.std.proofs.Common.{◌≡◌, ◌⊎◌, inl, inr, ℕ, ◌<◌, ◌≤◌, Bool, true, false, List, refl, sym, ap, ◌∙◌, subst, arith}
use Rattle.std.specs.Prelude.{◌==◌, nat_lt, nat_le, length}
use Rattle.std.proofs.lemmas.Bool.{eq-eqb, eqb-true, lt-ltb, le-leb, cases_lt}
use Rattle.span_base.specs.DcSet.{bits_of, no_centre, centres_of}
use Rattle.span_base.specs.Policy.{ArePrimaries}
use Rattle.span_base.specs.PolicyParts.{replicas_of}
use Rattle.span_base.specs.declared.ids.KeyId.{KeyId}
use Rattle.span_base.specs.declared.dc_set.DcSet.{DcSet}
use Rattle.span_base.specs.declared.policy.Near.{Near}
use Rattle.span_base.specs.declared.policy.Policy.{Policy}
use Rattle.span_base.specs.declared.policy.Policy.TheVariants.{Direct, Relay, Strong as StrongPolicy}
use Rattle.span_base.proofs.Sets.{same_bits, count-no_centre}
use Rattle.wire_msg.specs.declared.tag.Tag.{Tag}
use Rattle.wire_msg.specs.declared.message.Message.{Message}
use Rattle.wire_msg.specs.declared.actor.Actor.TheVariants as to
use Rattle.wire_msg.specs.declared.message.Message.TheVariants as m
use Rattle.epoch_directory.specs.State.{latest, current_of}
use Rattle.epoch_directory.specs.Step.{can_switch}
use Rattle.migration.specs.declared.stage.Stage.{Stage}
use Rattle.migration.specs.Eventual.{eventual as eventual_rule}
use Rattle.migration.specs.Move.{Moving, epoch_at}
use Rattle.migration.specs.Move as move
use Rattle.slot_pool.specs.declared.handles.Handle.{Handle}
use Rattle.world_core.specs.declared.live.LiveCall.{LiveCall}
use Rattle.world_core.specs.declared.live.LiveCall.TheVariants.{Strong, Eventual, StrongMove, EventualMove}
use Rattle.world_core.specs.State.{Store, policy_of}
use Rattle.world_core.specs.Calls.{key_of_call}
use Rattle.world_core.specs.Step.{Happening, handle_in}
use Rattle.register_law.specs.Ghost.{Ghost, noted_of}
use Rattle.register_law.specs.Seen.{WasSent, Grows}
use Rattle.register_law.specs.Tags.{IsLiveAt}
use Rattle.register_law.specs.Cases.{Happened, CallTook}
use Rattle.register_law.proofs.Basics.{WasPosted}
use Rattle.register_law.proofs.EndsKinds.{taken_key}
use Rattle.register_law.proofs.OpeningsTold.{switched_now, told_now}
use Rattle.register_law.proofs.MovesStable.{sent_stays}
use Rattle.register_law.proofs.TagsCalls.{LiveIs, was_live, begins, went_on, taken_of, live_after, started_opens}
use Rattle.eventual_law.specs.Held.{InvOfEventual}
use Rattle.eventual_law.specs.Quiet.{IsOpenStill, IsSoundEventual, MovesGoOn}
use Rattle.eventual_law.proofs.Starts.{LooksUp}
use Rattle.eventual_law.proofs.Sends.{start_key, start_is_eventual}
use Rattle.eventual_law.proofs.MovesNow.{here_is}
use Rattle.eventual_law.proofs.OpenStill.{open_stays, HasReplicas}
use Rattle.eventual_law.proofs.Bounds.{opened_below, current_grows}
use Rattle.register_law.proofs.MovesKept.{posted}

-- a Switched that says no was told once the epoch had been left
pub not_switched_after : (key : KeyId) (s : Store) (g : Ghost) (h : Happening) → Happened s h → InvOfEventual key s g → MovesGoOn key s g → Grows key s g h.store (noted_of key s h g) → (tag : Tag) (epoch : ℕ) → WasSent s (m.Switched tag key false epoch) ⊎ WasPosted h (m.Switched tag key false epoch)
    → (old : ℕ) × (new : ℕ) × WasSent h.store (m.Switch tag key old new) × (old < current_of h.store.directory key)
not_switched_after key s g h is inv go grows tag epoch (inl was) =
    let w = go.not_switched tag epoch was in
    let lt = w.3 in
    let more = current_grows key s h is in
    (w.0, w.1, sent_stays key s g h.store (noted_of key s h g) (m.Switch tag key w.0 w.1) grows w.2, omega arith)
not_switched_after key s g h is inv go grows tag epoch (inr new) =
    let message : Message = m.Switched tag key false epoch in
    let now = switched_now s h tag key false epoch (told_now s h new.0 message tt (posted s h is (record { to = new.0; message = message }) new.1)) in
    let held = inv.moves.switch_sent tag now.closing now.opening now.asked in
    let below = opened_below key s g inv now.closing held.opened in
    let more = current_grows key s h is in
    let other : (current_of s.directory key ≡ now.closing) → ⊥ = λ same. cannot now.closing now.opening same held.later held.published now.done_is in
    let lt : now.closing < current_of s.directory key = less now.closing (current_of s.directory key) below (λ same. other (sym same)) in
    (now.closing, now.opening, sent_stays key s g h.store (noted_of key s h g) (m.Switch tag key now.closing now.opening) grows now.asked, omega arith)
  where
    cannot : (old new : ℕ) → current_of s.directory key ≡ old → old < new → new ≤ latest s.directory → false ≡ can_switch s.directory key old new → ⊥
    cannot old new same later last no_switch =
        let a : (current_of s.directory key == old) ≡ true = eq-eqb (current_of s.directory key) old same in
        let b : nat_lt old new ≡ true = lt-ltb old new later in
        let c : nat_le new (latest s.directory) ≡ true = le-leb new (latest s.directory) last in
        let z : can_switch s.directory key old new ≡ true = rw (a, b, c) refl in
        cc

    less : (a b : ℕ) → a ≤ b → (a ≡ b → ⊥) → a < b
    less a b le other = elim (cases_lt a b) as (λ _. a < b) [ inl lt ↦ lt | inr ge ↦ absurd (other (omega arith)) ]

some : (f : ℕ) (replicas : DcSet) (primary : List Near) → ArePrimaries f replicas primary → (0 == bits_of replicas) ≡ false
some f replicas primary h = by (0 == bits_of replicas) refl
  where
    by : (b : Bool) → (0 == bits_of replicas) ≡ b → b ≡ false
    by false e = refl
    by true e =
        let bits : 0 ≡ bits_of replicas = eqb-true 0 (bits_of replicas) e in
        let none : length (centres_of replicas) ≡ 0 = ap (λ (x : DcSet). length (centres_of x)) (sym (same_bits no_centre replicas bits)) ∙ count-no_centre in
        let enough = h.enough in
        absurd (omega arith)

-- a policy of an eventual set has replicas
some_replicas : (policy : Policy) → IsSoundEventual policy → (0 == bits_of (replicas_of policy)) ≡ false
some_replicas (Direct f replicas primary) h = some f replicas primary h.sound
some_replicas (Relay f replicas primary hops) h = some f replicas primary h.sound.0
some_replicas (StrongPolicy f replicas members) h = absurd (let z = h.eventual in cc)

-- what a move that takes a message is told has replicas
told_replicas : (key : KeyId) (s : Store) (g : Ghost) → InvOfEventual key s g → MovesGoOn key s g → (p : ℕ) (handle : Handle) (call : Moving) (message : Message) → IsLiveAt s p handle (EventualMove call) → call.key ≡ key → WasSent s message → HasReplicas call message
told_replicas key s g inv go p handle call (m.Here tag at epoch policy latest_epoch latest_policy) lives keyed sent =
    λ stage own.
    (let b = here_is key s g inv p handle call lives keyed tag at epoch latest_epoch policy latest_policy sent own in
    let out = inv.epochs.published epoch b.opened in
    subst (λ (x : Policy). (0 == bits_of (replicas_of x)) ≡ false) (sym b.policy_is) (some_replicas (policy_of s key epoch) (go.sound epoch out.0 out.1)))
told_replicas key s g inv go p handle call message lives keyed sent = tt

undecided_now : (key : KeyId) (s : Store) (g : Ghost) (h : Happening) → InvOfEventual key s g → MovesGoOn key s g → (p : ℕ) (message : Message) (old : LiveCall) (call : Moving) → CallTook s p message old h → EventualMove call ≡ (taken_of s p message old).state → call.key ≡ key → IsOpenStill call.stage call.phase
undecided_now key s g h inv go p message (Strong old) call took e at = absurd (cc)
undecided_now key s g h inv go p message (Eventual old) call took e at = absurd (cc)
undecided_now key s g h inv go p message (StrongMove old) call took e at = absurd (cc)
undecided_now key s g h inv go p message (EventualMove old) call took e at =
    let same : call ≡ (move.step eventual_rule old message).state = cc in
    let own : old.key ≡ key = sym (taken_key s p message (EventualMove old)) ∙ ap key_of_call (sym e) ∙ at in
    subst (λ (x : Moving). IsOpenStill x.stage x.phase) (sym same)
    (open_stays old message (told_replicas key s g inv go p (handle_in message) old message took.live own (to.Proxy p, took.sent)) (go.undecided p (handle_in message) old took.live own))

pub undecided_after : (key : KeyId) (s : Store) (g : Ghost) (h : Happening) → Happened s h → InvOfEventual key s g → MovesGoOn key s g → (p : ℕ) (handle : Handle) (call : Moving) → IsLiveAt h.store p handle (EventualMove call) → call.key ≡ key → IsOpenStill call.stage call.phase
undecided_after key s g h is inv go p handle call lives at = by (live_after s h is p handle (EventualMove call) lives)
  where
    by : LiveIs s h p handle (EventualMove call) → IsOpenStill call.stage call.phase
    by (was_live was) = go.undecided p handle call was at
    by (begins on work st _ new) =
        let same = start_key key s h p on work inv.known.kinds st (sym (started_opens s p on work h st).key_is ∙ ap key_of_call (sym new) ∙ at) in
        let looks : LooksUp (EventualMove call) = subst LooksUp (sym new) (start_is_eventual key s h p on work inv.known.kinds st same).looks in
        subst (λ (x : Stage). IsOpenStill x call.phase) (sym looks) tt
    by (went_on message old took _ new no_end) = undecided_now key s g h inv go p message old call took new at
