-- Every event keeps what the moves of an eventual key, and what they ask, rest on.
use Rattle.std.proofs.Common.{◌≡◌, ◌⊎◌, inl, inr, ℕ, ◌+◌, Bool, true, List, refl, sym, ap, ◌∙◌, subst, arith}
use Rattle.std.specs.Prelude.{◌==◌, Contains}
use Rattle.span_base.specs.DcSet.{no_centre}
use Rattle.span_base.specs.declared.ids.Call.{Call}
use Rattle.span_base.specs.declared.ids.KeyId.{KeyId}
use Rattle.span_base.specs.declared.policy.Policy.{Policy}
use Rattle.ticket_rules.specs.declared.stamp.Stamp.{Stamp}
use Rattle.wire_msg.specs.declared.tag.Tag.{Tag}
use Rattle.wire_msg.specs.declared.message.Message.{Message}
use Rattle.wire_msg.specs.declared.outputs.Post.{Post}
use Rattle.wire_msg.specs.Outputs.{Step}
use Rattle.wire_msg.specs.declared.actor.Actor.TheVariants as to
use Rattle.wire_msg.specs.declared.message.Message.TheVariants as m
use Rattle.call_phase.specs.Counting.{next_tag}
use Rattle.epoch_directory.specs.State.{State, current_of}
use Rattle.migration.specs.declared.stage.Stage.TheVariants.{Looking}
use Rattle.migration.specs.Eventual.{eventual as eventual_rule}
use Rattle.migration.specs.Move.{Moving}
use Rattle.migration.specs.Move as move
use Rattle.slot_pool.specs.declared.handles.Handle.{Handle}
use Rattle.world_core.specs.declared.live.LiveCall.{LiveCall}
use Rattle.world_core.specs.declared.live.LiveCall.TheVariants.{Strong, Eventual, StrongMove, EventualMove}
use Rattle.world_core.specs.State.{Store}
use Rattle.world_core.specs.Calls.{tag_of_call, key_of_call}
use Rattle.world_core.specs.Step.{Happening, handle_in}
use Rattle.register_law.specs.Ghost.{Ghost, noted_of}
use Rattle.register_law.specs.Seen.{WasSent, Grows}
use Rattle.register_law.specs.Tags.{IsLiveAt}
use Rattle.register_law.specs.Cases.{Happened, CallTook}
use Rattle.register_law.proofs.Basics.{WasPosted, sent_cases}
use Rattle.register_law.proofs.EndsKinds.{taken_key}
use Rattle.register_law.proofs.MovesStep.{move_took}
use Rattle.register_law.proofs.OpeningsCurrent.{can_is, done_is_current}
use Rattle.register_law.proofs.OpeningsTold.{SwitchedNow, here_now, switched_now, told_now}
use Rattle.register_law.proofs.MovesStable.{sent_stays}
use Rattle.register_law.proofs.TagsCalls.{LiveIs, was_live, begins, went_on, taken_of, live_after, started_opens}
use Rattle.register_law.proofs.TagsSent.{posted_there}
use Rattle.eventual_law.specs.Kinds.{shape}
use Rattle.eventual_law.specs.Held.{SwitchHeld, FreezingHeld, SeedingHeld, IsHeldMove, WasDone, MovesAreHeld, DirectoryTells, InvOfEventual}
use Rattle.eventual_law.proofs.Starts.{puts, LooksUp}
use Rattle.eventual_law.proofs.Starts as start
use Rattle.eventual_law.proofs.Takes.{seeds, freezes, switches}
use Rattle.eventual_law.proofs.Takes as takes
use Rattle.eventual_law.proofs.Sends.{Sends, passes, starts, calls, moves, sends, start_key, start_is_eventual}
use Rattle.eventual_law.proofs.Shapes.{both_new}
use Rattle.eventual_law.proofs.HeldStays.{move_stays, switch_stays, done_stays}
use Rattle.eventual_law.proofs.MovesNow.{moved_now, freezing_at, seeding_at, switch_now}
use Rattle.register_law.proofs.MovesKept.{posted}
use Rattle.register_law.proofs.OpeningsKept.{opened_now}

-- of a live move after an event
begun_looks : (key : KeyId) (z : Store) (h : Ghost) (call : Moving) → call.stage ≡ Looking → call.phase.tag.phase ≡ 1 → IsHeldMove key z h call.phase call.stage
begun_looks key z h call stage first = subst (IsHeldMove key z h call.phase) (sym stage) first

went_held : (key : KeyId) (s : Store) (g : Ghost) (h : Happening) → InvOfEventual key s g → Grows key s g h.store (noted_of key s h g) → Happened s h → (p : ℕ) (message : Message) (old : LiveCall) (call : Moving) → CallTook s p message old h → call.key ≡ key → EventualMove call ≡ (taken_of s p message old).state
    → IsHeldMove key h.store (noted_of key s h g) call.phase call.stage
went_held key s g h inv grows is p message (Strong old) call took at_key e = absurd (cc)
went_held key s g h inv grows is p message (Eventual old) call took at_key e = absurd (cc)
went_held key s g h inv grows is p message (StrongMove old) call took at_key e = absurd (cc)
went_held key s g h inv grows is p message (EventualMove old) call took at_key e =
    let new : Step Moving = move.step eventual_rule old message in
    let same : call ≡ new.state = cc in
    let own : old.key ≡ key = sym (taken_key s p message (EventualMove old)) ∙ ap key_of_call (sym e) ∙ at_key in
    subst (λ (x : Moving). IsHeldMove key h.store (noted_of key s h g) x.phase x.stage) (sym same)
    (moved_now key s g h.store (noted_of key s h g) inv grows p (handle_in message) old took.live own message (to.Proxy p, took.sent) new (move_took eventual_rule old message)
    (λ post c. posted_there s h is post (subst (λ (x : List Post). Contains x post) (sym (ap (λ (x : Happening). x.posts) took.is)) c)))

live_held : (key : KeyId) (s : Store) (g : Ghost) (h : Happening) → InvOfEventual key s g → Grows key s g h.store (noted_of key s h g) → Happened s h → (p : ℕ) (handle : Handle) (call : Moving) → call.key ≡ key → LiveIs s h p handle (EventualMove call) → IsHeldMove key h.store (noted_of key s h g) call.phase call.stage
live_held key s g h inv grows is p handle call at_key (was_live was) = move_stays key s g h.store (noted_of key s h g) call.phase call.stage grows inv.epochs.published (inv.moves.live p handle call was at_key)
live_held key s g h inv grows is p handle call at_key (begins on work st _ new) =
    let first = started_opens s p on work h st in
    let same = start_key key s h p on work inv.known.kinds st (sym first.key_is ∙ ap key_of_call (sym new) ∙ at_key) in
    let looks : LooksUp (EventualMove call) = subst LooksUp (sym new) (start_is_eventual key s h p on work inv.known.kinds st same).looks in
    let tag : call.phase.tag ≡ _ = ap tag_of_call new ∙ first.tag_is in
    begun_looks key h.store (noted_of key s h g) call looks (ap (λ (t : Tag). t.phase) tag)
live_held key s g h inv grows is p handle call at_key (went_on message old took _ new no_end) = went_held key s g h inv grows is p message old call took at_key new

seed_in : (one other : Tag) (key at : KeyId) (epoch e : ℕ) (stamp t : Stamp) (value v : List ℕ) → m.Seed one key epoch stamp value ≡ m.Seed other at e t v → (one ≡ other) × (key ≡ at)
seed_in one other key at epoch e stamp t value v is = (cc, cc)

switch_in : (one other : Tag) (key at : KeyId) (a b c d : ℕ) → m.Switch one key a b ≡ m.Switch other at c d → (one ≡ other) × (key ≡ at) × (a ≡ c) × (b ≡ d)
switch_in one other key at a b c d is = (cc, cc, cc, cc)

-- a Seed of the key that an event sends comes from a move in its second phase
pub record SeedsNow (key : KeyId) (s : Store) (tag : Tag) : Type 0 where
  pub p : ℕ
  pub handle : Handle
  pub call : Moving
  pub lives : IsLiveAt s p handle (EventualMove call)
  pub second : call.phase.tag.phase ≡ 2
  pub tag_is : tag ≡ next_tag call.phase.tag

seeds_now : (key : KeyId) (s : Store) (g : Ghost) (h : Happening) → InvOfEventual key s g → (tag : Tag) (epoch : ℕ) (stamp : Stamp) (value : List ℕ) → Sends s h (m.Seed tag key epoch stamp value) → SeedsNow key s tag
seeds_now key s g h inv tag epoch stamp value (passes from sent on) = let e : m.Seed tag key epoch stamp value ≡ m.Push on.tag on.key on.stamp no_centre on.value = on.is in absurd (cc)
seeds_now key s g h inv tag epoch stamp value (starts p at work st (start.carries_none c)) = absurd c
seeds_now key s g h inv tag epoch stamp value (starts p at work st (puts set v is sends)) = absurd (cc)
seeds_now key s g h inv tag epoch stamp value (calls p taken call took c) = absurd c
seeds_now key s g h inv tag epoch stamp value (moves p taken call took (takes.carries_none c)) = absurd c
seeds_now key s g h inv tag epoch stamp value (moves p taken call took (freezes at from is)) = absurd (cc)
seeds_now key s g h inv tag epoch stamp value (moves p taken call took (switches old target enough is)) = absurd (cc)
seeds_now key s g h inv tag epoch stamp value (moves p taken call took (seeds found at finds is)) =
    let e = seed_in tag (next_tag call.phase.tag) key call.key epoch at stamp found.stamp value found.value is in
    let held : FreezingHeld key s g call.phase finds.old finds.target finds.best = freezing_at key s g inv p (handle_in taken) call took.live (sym e.1) finds.old finds.target finds.best finds.stage_is in
    record { p = p; handle = handle_in taken; call = call; lives = took.live; second = held.second; tag_is = e.0 }

third_after : (key : KeyId) (s : Store) (g : Ghost) (h : Happening) → InvOfEventual key s g → Happened s h → (tag : Tag) (epoch : ℕ) (stamp : Stamp) (value : List ℕ) → WasSent s (m.Seed tag key epoch stamp value) ⊎ WasPosted h (m.Seed tag key epoch stamp value) → tag.phase ≡ 3
third_after key s g h inv is tag epoch stamp value (inl old) = inv.moves.third tag epoch stamp value old
third_after key s g h inv is tag epoch stamp value (inr new) =
    let from = seeds_now key s g h inv tag epoch stamp value (sends key s h (m.Seed tag key epoch stamp value) is inv.known.kinds new refl) in
    let phase : tag.phase ≡ from.call.phase.tag.phase + 1 = ap (λ (t : Tag). t.phase) from.tag_is in
    let two = from.second in
    omega arith

-- no Seed of the call was sent before
no_older : (X : Type 0) (key : KeyId) (s : Store) (g : Ghost) → InvOfEventual key s g → (a b : Tag) (e : ℕ) (t : Stamp) (v : List ℕ) → SeedsNow key s b → WasSent s (m.Seed a key e t v) → a.call ≡ b.call → X
no_older X key s g inv a b e t v from sent same =
    let calls : a.call ≡ from.call.phase.tag.call = same ∙ ap (λ (x : Tag). x.call) from.tag_is in
    let le = inv.known.kinds.tags.phase_bound from.p from.handle (EventualMove from.call) (m.Seed a key e t v) from.lives sent calls in
    let three = inv.moves.third a e t v sent in
    let two = from.second in
    absurd (omega arith)

stamp_in : (a b : Tag) (key : KeyId) (e f : ℕ) (t u : Stamp) (v w : List ℕ) → shape (m.Seed a key e t v) ≡ shape (m.Seed b key f u w) → t ≡ u
stamp_in a b key e f t u v w is = cc

one_seed_after : (key : KeyId) (s : Store) (g : Ghost) (h : Happening) → InvOfEventual key s g → Happened s h → (a b : Tag) (e f : ℕ) (t u : Stamp) (v w : List ℕ) → WasSent s (m.Seed a key e t v) ⊎ WasPosted h (m.Seed a key e t v) → WasSent s (m.Seed b key f u w) ⊎ WasPosted h (m.Seed b key f u w) → a.call ≡ b.call → t ≡ u
one_seed_after key s g h inv is a b e f t u v w (inl x) (inl y) same = inv.moves.one_seed a b e f t u v w x y same
one_seed_after key s g h inv is a b e f t u v w (inl x) (inr y) same = no_older (t ≡ u) key s g inv a b e t v (seeds_now key s g h inv b f u w (sends key s h (m.Seed b key f u w) is inv.known.kinds y refl)) x same
one_seed_after key s g h inv is a b e f t u v w (inr x) (inl y) same = no_older (t ≡ u) key s g inv b a f u w (seeds_now key s g h inv a e t v (sends key s h (m.Seed a key e t v) is inv.known.kinds x refl)) y (sym same)
one_seed_after key s g h inv is a b e f t u v w (inr x) (inr y) same = stamp_in a b key e f t u v w (both_new key s h (m.Seed a key e t v) (m.Seed b key f u w) is inv.known.kinds x y refl refl)

-- a Switch of the key that an event sends
switches_now : (key : KeyId) (s : Store) (g : Ghost) (h : Happening) → InvOfEventual key s g → (tag : Tag) (old new : ℕ) → Sends s h (m.Switch tag key old new) → SwitchHeld key s g tag.call old new
switches_now key s g h inv tag old new (passes from sent on) = let e : m.Switch tag key old new ≡ m.Push on.tag on.key on.stamp no_centre on.value = on.is in absurd (cc)
switches_now key s g h inv tag old new (starts p at work st (start.carries_none c)) = absurd c
switches_now key s g h inv tag old new (starts p at work st (puts set v is sends)) = absurd (cc)
switches_now key s g h inv tag old new (calls p taken call took c) = absurd c
switches_now key s g h inv tag old new (moves p taken call took (takes.carries_none c)) = absurd c
switches_now key s g h inv tag old new (moves p taken call took (seeds found at finds is)) = absurd (cc)
switches_now key s g h inv tag old new (moves p taken call took (freezes at from is)) = absurd (cc)
switches_now key s g h inv tag old new (moves p taken call took (switches was target enough is)) =
    let e = switch_in tag (next_tag call.phase.tag) key call.key old new was target.number is in
    let held : SeedingHeld key s g call.phase was target enough.seeded = seeding_at key s g inv p (handle_in taken) call took.live (sym e.1) was target enough.frozen enough.seeded enough.top_gone enough.stage_is in
    let switch = switch_now key s g inv call.phase was target enough.seeded enough.tag enough.replica held (subst (WasSent s) enough.taken_is (to.Proxy p, took.sent)) enough.counted enough.enough in
    subst (λ (x : Call). SwitchHeld key s g x old new) (sym (ap (λ (t : Tag). t.call) e.0))
    (subst (λ n. SwitchHeld key s g call.phase.tag.call n new) (sym e.2) (subst (λ n. SwitchHeld key s g call.phase.tag.call was n) (sym e.3) switch))

switch_after : (key : KeyId) (s : Store) (g : Ghost) (h : Happening) → InvOfEventual key s g → Happened s h → (tag : Tag) (old new : ℕ) → WasSent s (m.Switch tag key old new) ⊎ WasPosted h (m.Switch tag key old new) → SwitchHeld key s g tag.call old new
switch_after key s g h inv is tag old new (inl was) = inv.moves.switch_sent tag old new was
switch_after key s g h inv is tag old new (inr now) = switches_now key s g h inv tag old new (sends key s h (m.Switch tag key old new) is inv.known.kinds now refl)

done_now : (key : KeyId) (s : Store) (g : Ghost) (h : Happening) → InvOfEventual key s g → Grows key s g h.store (noted_of key s h g) → (tag : Tag) → SwitchedNow s h tag key true → WasDone key h.store (noted_of key s h g) tag
done_now key s g h inv grows tag now =
    let can = can_is s.directory key now.closing now.opening (sym now.done_is) in
    let current : current_of h.store.directory key ≡ now.opening = ap (λ (x : State). current_of x key) now.directory_is ∙ done_is_current s.directory key now.closing now.opening inv.epochs.exists (sym now.done_is) in
    let was = can.current in
    let later = can.later in
    record {
      old = now.closing;
      new = now.opening;
      sent = sent_stays key s g h.store (noted_of key s h g) (m.Switch tag key now.closing now.opening) grows now.asked;
      opened = subst (Contains (noted_of key s h g).opened) current
          (opened_now (current_of s.directory key) (current_of h.store.directory key) g.opened (current_of h.store.directory key == current_of s.directory key) refl (omega arith));
    }

switched_after : (key : KeyId) (s : Store) (g : Ghost) (h : Happening) → InvOfEventual key s g → Grows key s g h.store (noted_of key s h g) → Happened s h → (tag : Tag) (epoch : ℕ) → WasSent s (m.Switched tag key true epoch) ⊎ WasPosted h (m.Switched tag key true epoch) → WasDone key h.store (noted_of key s h g) tag
switched_after key s g h inv grows is tag epoch (inl was) = done_stays key s g h.store (noted_of key s h g) tag grows (inv.moves.switched_opened tag epoch was)
switched_after key s g h inv grows is tag epoch (inr new) =
    let message : Message = m.Switched tag key true epoch in
    done_now key s g h inv grows tag (switched_now s h tag key true epoch (told_now s h new.0 message tt (posted s h is (record { to = new.0; message = message }) new.1)))

pub moves_kept : (key : KeyId) (s : Store) (g : Ghost) (h : Happening) → InvOfEventual key s g → Grows key s g h.store (noted_of key s h g) → Happened s h → MovesAreHeld key h.store (noted_of key s h g)
moves_kept key s g h inv grows is = record {
  live = λ p handle call lives at_key. live_held key s g h inv grows is p handle call at_key (live_after s h is p handle (EventualMove call) lives);
  third = λ tag epoch stamp value sent. third_after key s g h inv is tag epoch stamp value (sent_cases s h (m.Seed tag key epoch stamp value) is sent);
  one_seed = λ a b e f t u v w x y. one_seed_after key s g h inv is a b e f t u v w (sent_cases s h (m.Seed a key e t v) is x) (sent_cases s h (m.Seed b key f u w) is y);
  switch_sent = λ tag old new sent. switch_stays key s g h.store (noted_of key s h g) tag.call old new grows inv.epochs.published (switch_after key s g h inv is tag old new (sent_cases s h (m.Switch tag key old new) is sent));
  switched_opened = λ tag epoch sent. switched_after key s g h inv grows is tag epoch (sent_cases s h (m.Switched tag key true epoch) is sent);
}

here_after : (key : KeyId) (s : Store) (g : Ghost) (h : Happening) → Happened s h → DirectoryTells s → (tag : Tag) (at : KeyId) (epoch : ℕ) (policy : Policy) (latest_epoch : ℕ) (latest_policy : Policy)
    → WasSent s (m.Here tag at epoch policy latest_epoch latest_policy) ⊎ WasPosted h (m.Here tag at epoch policy latest_epoch latest_policy) → WasSent s (m.Lookup tag at)
here_after key s g h is tells tag at epoch policy latest_epoch latest_policy (inl old) = tells.here_asked tag at epoch policy latest_epoch latest_policy old
here_after key s g h is tells tag at epoch policy latest_epoch latest_policy (inr new) =
    let message : Message = m.Here tag at epoch policy latest_epoch latest_policy in
    (here_now s h tag at epoch policy latest_epoch latest_policy (told_now s h new.0 message tt (posted s h is (record { to = new.0; message = message }) new.1))).asked

switched_from : (key : KeyId) (s : Store) (g : Ghost) (h : Happening) → Happened s h → DirectoryTells s → (tag : Tag) (at : KeyId) (done : Bool) (epoch : ℕ) → WasSent s (m.Switched tag at done epoch) ⊎ WasPosted h (m.Switched tag at done epoch) → (old : ℕ) × (new : ℕ) × WasSent s (m.Switch tag at old new)
switched_from key s g h is tells tag at done epoch (inl old) = tells.switched_asked tag at done epoch old
switched_from key s g h is tells tag at done epoch (inr new) =
    let message : Message = m.Switched tag at done epoch in
    let now = switched_now s h tag at done epoch (told_now s h new.0 message tt (posted s h is (record { to = new.0; message = message }) new.1)) in
    (now.closing, now.opening, now.asked)

pub tells_kept : (key : KeyId) (s : Store) (g : Ghost) (h : Happening) → Grows key s g h.store (noted_of key s h g) → Happened s h → DirectoryTells s → DirectoryTells h.store
tells_kept key s g h grows is tells = record {
  here_asked = λ tag at epoch policy latest_epoch latest_policy sent.
      sent_stays key s g h.store (noted_of key s h g) (m.Lookup tag at) grows (here_after key s g h is tells tag at epoch policy latest_epoch latest_policy (sent_cases s h (m.Here tag at epoch policy latest_epoch latest_policy) is sent));
  switched_asked = λ tag at done epoch sent.
      (let from = switched_from key s g h is tells tag at done epoch (sent_cases s h (m.Switched tag at done epoch) is sent) in (from.0, from.1, sent_stays key s g h.store (noted_of key s h g) (m.Switch tag at from.0 from.1) grows from.2));
}
