-- A move that froze the current epoch lives, and goes on closing it.
use Rattle.std.proofs.Common.{◌≡◌, ◌⊎◌, inl, inr, ℕ, ◌≤◌, Bool, true, false, refl, sym, ap, ◌∙◌, subst, arith}
use Rattle.std.specs.Prelude.{◌==◌, Option, Some, None, Ok, Contains}
use Rattle.std.proofs.lemmas.Grind.{common_steps}
use Rattle.span_base.specs.DcSet.{no_centre}
use Rattle.span_base.specs.declared.ids.Call.{Call}
use Rattle.span_base.specs.declared.ids.KeyId.{KeyId}
use Rattle.wire_msg.specs.declared.tag.Tag.{Tag}
use Rattle.wire_msg.specs.declared.message.Message.{Message}
use Rattle.wire_msg.specs.declared.outputs.Reply.{Reply}
use Rattle.wire_msg.specs.Outputs.{Step}
use Rattle.wire_msg.specs.declared.actor.Actor.TheVariants as to
use Rattle.wire_msg.specs.declared.message.Message.TheVariants as m
use Rattle.call_phase.specs.Counting.{next_tag}
use Rattle.epoch_directory.specs.State.{current_of}
use Rattle.migration.specs.declared.stage.Stage.{Stage}
use Rattle.migration.specs.declared.stage.Stage.TheVariants as stage
use Rattle.migration.specs.Eventual.{eventual as eventual_rule}
use Rattle.migration.specs.Move.{Moving, epoch_at}
use Rattle.migration.specs.Move as move
use Rattle.world_core.specs.declared.event.Event.{Event}
use Rattle.world_core.specs.declared.live.LiveCall.TheVariants.{EventualMove}
use Rattle.world_core.specs.State.{Store}
use Rattle.world_core.specs.Step.{Happening, handle_in, step}
use Rattle.register_law.specs.Ghost.{Ghost}
use Rattle.register_law.specs.Seen.{WasSent}
use Rattle.register_law.specs.Tags.{IsLiveAt}
use Rattle.register_law.specs.Cases.{Happened, CallTook}
use Rattle.register_law.proofs.Basics.{WasPosted}
use Rattle.register_law.proofs.MovesStep.{MoveTook, move_took, unheard, froze_first, froze_one, froze_all, seeded_next, seeded_all, was_refused, counts_own, made_by, counts_asked}
use Rattle.register_law.proofs.WaitingMeets.{Meets, untouched, takes, given_up, meets, takes_and_lives}
use Rattle.eventual_law.specs.Known.{by_request, by_life}
use Rattle.eventual_law.specs.Held.{IsHeldMove, SeedingHeld, SwitchingHeld, InvOfEventual}
use Rattle.eventual_law.specs.Quiet.{Closes, IsClosing, MovesGoOn}
use Rattle.eventual_law.proofs.Starts.{puts, LooksUp}
use Rattle.eventual_law.proofs.Starts as start
use Rattle.eventual_law.proofs.Takes.{seeds, freezes, switches, Freezes}
use Rattle.eventual_law.proofs.Takes as taking
use Rattle.eventual_law.proofs.Sends.{Sends, passes, starts, calls, moves, sends}
use Rattle.eventual_law.proofs.MovesNow.{here_is}
use Rattle.eventual_law.proofs.GivesUp.{not_given_up}
use Rattle.eventual_law.proofs.OpenStill.{MoveEnds, in_looking, by_gone, by_switched, move_ends}
use Rattle.eventual_law.proofs.Bounds.{opened_below, current_grows, frozen_below}

-- a Freeze of the key that an event sends comes from a move that was told the epoch
pub record FreezesNow (key : KeyId) (s : Store) (h : Happening) (tag : Tag) (epoch : ℕ) : Type 0 where
  pub p : ℕ
  pub taken : Message
  pub call : Moving
  pub took : CallTook s p taken (EventualMove call) h
  pub at_key : call.key ≡ key
  pub tag_is : tag ≡ next_tag call.phase.tag
  pub from : Freezes call taken epoch

freeze_in : (one other : Tag) (key at : KeyId) (e f : ℕ) → m.Freeze one key e ≡ m.Freeze other at f → (one ≡ other) × (key ≡ at) × (e ≡ f)
freeze_in one other key at e f is = (cc, cc, cc)

freezes_now : (key : KeyId) (s : Store) (h : Happening) (tag : Tag) (epoch : ℕ) → Sends s h (m.Freeze tag key epoch) → FreezesNow key s h tag epoch
freezes_now key s h tag epoch (passes from sent on) = let e : m.Freeze tag key epoch ≡ m.Push on.tag on.key on.stamp no_centre on.value = on.is in absurd (cc)
freezes_now key s h tag epoch (starts p at work st (start.carries_none c)) = absurd c
freezes_now key s h tag epoch (starts p at work st (puts set v is sends)) = absurd (cc)
freezes_now key s h tag epoch (calls p taken call took c) = absurd c
freezes_now key s h tag epoch (moves p taken call took (taking.carries_none c)) = absurd c
freezes_now key s h tag epoch (moves p taken call took (seeds found at finds is)) = absurd (cc)
freezes_now key s h tag epoch (moves p taken call took (switches old target enough is)) = absurd (cc)
freezes_now key s h tag epoch (moves p taken call took (freezes told from is)) =
    let e = freeze_in tag (next_tag call.phase.tag) key call.key epoch told is in
    record { p = p; taken = taken; call = call; took = took; at_key = sym e.1; tag_is = e.0; from = subst (Freezes call taken) (sym e.2) from }

-- the epoch of a Freeze has been current
pub freeze_opened_after : (key : KeyId) (s : Store) (g : Ghost) (h : Happening) → Happened s h → InvOfEventual key s g → MovesGoOn key s g → (tag : Tag) (epoch : ℕ) → WasSent s (m.Freeze tag key epoch) ⊎ WasPosted h (m.Freeze tag key epoch) → Contains g.opened epoch
freeze_opened_after key s g h is inv go tag epoch (inl old) = go.freeze_opened tag epoch old
freeze_opened_after key s g h is inv go tag epoch (inr new) =
    let f = freezes_now key s h tag epoch (sends key s h (m.Freeze tag key epoch) is inv.known.kinds new refl) in
    let sent : WasSent s (m.Here f.from.tag f.from.at epoch f.from.policy f.from.latest_epoch f.from.latest_policy) = subst (WasSent s) f.from.taken_is (to.Proxy f.p, f.took.sent) in
    (here_is key s g inv f.p (handle_in f.taken) f.call f.took.live f.at_key f.from.tag f.from.at epoch f.from.latest_epoch f.from.policy f.from.latest_policy sent f.from.own).opened

-- a move whose epoch is current doesn't come to its end
no_end : (X : Type 0) (key : KeyId) (s : Store) (g : Ghost) → InvOfEventual key s g → MovesGoOn key s g → (p : ℕ) (message : Message) (call : Moving) → IsLiveAt s p (handle_in message) (EventualMove call) → call.key ≡ key → WasSent s message → Closes (current_of s.directory key) call.stage → MoveEnds call message → X
no_end X key s g inv go p message call lives at sent closes (in_looking stage) = absurd (subst (Closes (current_of s.directory key)) stage closes)
no_end X key s g inv go p message call lives at sent closes (by_gone tag replica epoch old target frozen seeded top_gone stage is c) =
    let held : SeedingHeld key s g call.phase old target seeded = subst (IsHeldMove key s g call.phase) stage (inv.moves.live p (handle_in message) call lives at) in
    let current : old ≡ current_of s.directory key = subst (Closes (current_of s.directory key)) stage closes in
    let seed = held.sent replica.0 (counts_asked call.phase tag replica c) in
    let told : WasSent s (m.Gone call.phase.tag replica epoch) = subst (λ (x : Tag). WasSent s (m.Gone x replica epoch)) (sym (counts_own call.phase tag replica c)) (subst (WasSent s) is sent) in
    let past = go.gone_seed call.phase.tag replica.0 target.number epoch seeded seed.0 (to.Replica replica.0, seed.1) told in
    let below = frozen_below key s g inv go replica.0 in
    let later = held.target.later in
    absurd (omega arith)
no_end X key s g inv go p message call lives at sent closes (by_switched tag on done epoch old target frozen seeded stage is own) = by done is
  where
    held : SwitchingHeld key s g call.phase old target
    held = subst (IsHeldMove key s g call.phase) stage (inv.moves.live p (handle_in message) call lives at)

    current : old ≡ current_of s.directory key
    current = subst (Closes (current_of s.directory key)) stage closes

    switch_in : (a b : Tag) (e f x y : ℕ) → m.Switch a key e f ≡ m.Switch b key x y → (e ≡ x) × (f ≡ y)
    switch_in a b e f x y z = (cc, cc)

    same_key : (b : Bool) → message ≡ m.Switched tag on b epoch → on ≡ key
    same_key b z =
        let asked = inv.tells.switched_asked tag on b epoch (subst (WasSent s) z sent) in
        inv.known.calls.one_key tag.call on key (by_request (m.Switch tag on asked.0 asked.1) asked.2 refl refl) (by_life p (handle_in message) (EventualMove call) lives at (ap (λ (t : Tag). t.call) own))

    by : (b : Bool) → message ≡ m.Switched tag on b epoch → X
    by true z =
        let told : WasSent s (m.Switched tag key true epoch) = subst (λ (x : KeyId). WasSent s (m.Switched tag x true epoch)) (same_key true z) (subst (WasSent s) z sent) in
        let did = inv.moves.switched_opened tag epoch told in
        let one = switch_in tag call.phase.tag did.old did.new old target.number (inv.answers.one_shape (m.Switch tag key did.old did.new) (m.Switch call.phase.tag key old target.number) did.sent (to.Directory, held.sent) refl refl (sym own)) in
        let below = opened_below key s g inv did.new did.opened in
        let new_is = one.1 in
        let later = held.held.later in
        let now = current in
        absurd (omega arith)
    by false z =
        let told : WasSent s (m.Switched tag key false epoch) = subst (λ (x : KeyId). WasSent s (m.Switched tag x false epoch)) (same_key false z) (subst (WasSent s) z sent) in
        let did = go.not_switched tag epoch told in
        let one = switch_in tag call.phase.tag did.0 did.1 old target.number (inv.answers.one_shape (m.Switch tag key did.0 did.1) (m.Switch call.phase.tag key old target.number) did.2 (to.Directory, held.sent) refl refl (sym own)) in
        let old_is = one.0 in
        let past = did.3 in
        let now = current in
        absurd (omega arith)

-- a step of a move that closes the epoch, and doesn't end
goes_on : (epoch : ℕ) (call : Moving) (message : Message) (new : Step Moving) → Closes epoch call.stage → new.out.end ≡ None → MoveTook eventual_rule call message new → Closes epoch new.state.stage
goes_on epoch call message new closes none unheard = closes
goes_on epoch call message new closes none (froze_first tag at told latest_epoch policy latest_policy stage got c different) = absurd (subst (Closes epoch) stage closes)
goes_on epoch call message new closes none (froze_one tag replica version mark value old target best stage got c) = subst (Closes epoch) stage closes
goes_on epoch call message new closes none (froze_all tag replica version mark value old target best found stage got c all e) = subst (Closes epoch) stage closes
goes_on epoch call message new closes none (seeded_next tag replica old target frozen seeded top_gone stage got c) = subst (Closes epoch) stage closes
goes_on epoch call message new closes none (seeded_all tag replica old target frozen seeded top_gone stage got c stored) = subst (Closes epoch) stage closes
goes_on epoch call message new closes none (was_refused tag replica e old target frozen seeded top_gone stage got c) = subst (Closes epoch) stage closes
goes_on epoch call message new closes none _ = absurd (cc)

same_call_after : (call : Moving) (message : Message) (new : Step Moving) → MoveTook eventual_rule call message new → new.state.phase.tag.call ≡ call.phase.tag.call
same_call_after call message new unheard = refl
same_call_after call message new _ = refl

-- a move that closes an epoch is past its first phase
not_first : (key : KeyId) (s : Store) (g : Ghost) (epoch : ℕ) (call : Moving) (at : Stage) → IsHeldMove key s g call.phase at → Closes epoch at → (call.phase.tag.phase == 1) ≡ false
not_first key s g epoch call stage.Looking held closes = absurd closes
not_first key s g epoch call (stage.Freezing old new best) held closes = let two = held.second in apart call.phase.tag.phase (omega arith)
  where
    apart : (n : ℕ) → 2 ≤ n → (n == 1) ≡ false
    apart n le = grind (arith, common_steps)
not_first key s g epoch call (stage.Seeding old new frozen seeded top_gone) held closes = let three = held.third in apart call.phase.tag.phase (omega arith)
  where
    apart : (n : ℕ) → 2 ≤ n → (n == 1) ≡ false
    apart n le = grind (arith, common_steps)
not_first key s g epoch call (stage.Switching old new frozen seeded) held closes = let four = held.fourth in apart call.phase.tag.phase (omega arith)
  where
    apart : (n : ℕ) → 2 ≤ n → (n == 1) ≡ false
    apart n le = grind (arith, common_steps)
not_first key s g epoch call stage.Ended held closes = absurd closes

-- the move goes on
closing_stays : (key : KeyId) (s : Store) (g : Ghost) (e : Event) (h : Happening) → step s e ≡ Ok h → Happened s h → InvOfEventual key s g → MovesGoOn key s g → (call : Call) → IsClosing key s call (current_of s.directory key) → IsClosing key h.store call (current_of s.directory key)
closing_stays key s g e h taken is inv go call was = by (meets s h is was.p was.handle (EventualMove was.move) was.lives)
  where
    held : IsHeldMove key s g was.move.phase was.move.stage
    held = inv.moves.live was.p was.handle was.move was.lives was.at_key

    goes : (message : Message) → CallTook s was.p message (EventualMove was.move) h → (o : Option Reply) → (move.step eventual_rule was.move message).out.end ≡ o → IsClosing key h.store call (current_of s.directory key)
    goes message took (Some reply) ends = no_end (IsClosing key h.store call (current_of s.directory key)) key s g inv go was.p message was.move took.live was.at_key (to.Proxy was.p, took.sent) was.closes (move_ends was.move message reply ends)
    goes message took None none =
        let new : Step Moving = move.step eventual_rule was.move message in
        record {
          p = was.p;
          handle = handle_in message;
          move = new.state;
          lives = takes_and_lives s h was.p message (EventualMove was.move) took none;
          at_key = (made_by eventual_rule was.move message).key ∙ was.at_key;
          of = same_call_after was.move message new (move_took eventual_rule was.move message) ∙ was.of;
          closes = goes_on (current_of s.directory key) was.move message new was.closes none (move_took eventual_rule was.move message);
        }

    by : Meets s h was.p was.handle (EventualMove was.move) → IsClosing key h.store call (current_of s.directory key)
    by (untouched now) = record { p = was.p; handle = was.handle; move = was.move; lives = now; at_key = was.at_key; of = was.of; closes = was.closes }
    by (takes message took same) = goes message took (move.step eventual_rule was.move message).out.end refl
    by (given_up c) = absurd (not_given_up s e h taken inv.known.kinds.tags was.p was.handle was.move (record { lives = was.lives; later = not_first key s g (current_of s.directory key) was.move was.move.stage held was.closes }) c)

pub closing_after : (key : KeyId) (s : Store) (g : Ghost) (e : Event) (h : Happening) → step s e ≡ Ok h → Happened s h → InvOfEventual key s g → MovesGoOn key s g → (tag : Tag) → WasSent s (m.Freeze tag key (current_of h.store.directory key)) ⊎ WasPosted h (m.Freeze tag key (current_of h.store.directory key))
    → IsClosing key h.store tag.call (current_of h.store.directory key)
closing_after key s g e h taken is inv go tag sent =
    let opened = freeze_opened_after key s g h is inv go tag (current_of h.store.directory key) sent in
    let below = opened_below key s g inv (current_of h.store.directory key) opened in
    let more = current_grows key s h is in
    let same : current_of h.store.directory key ≡ current_of s.directory key = omega arith in
    by same sent
  where
    by : current_of h.store.directory key ≡ current_of s.directory key → WasSent s (m.Freeze tag key (current_of h.store.directory key)) ⊎ WasPosted h (m.Freeze tag key (current_of h.store.directory key)) → IsClosing key h.store tag.call (current_of h.store.directory key)
    by same (inl old) =
        subst (IsClosing key h.store tag.call) (sym same) (closing_stays key s g e h taken is inv go tag.call (go.closing tag (subst (λ n. WasSent s (m.Freeze tag key n)) same old)))
    by same (inr new) =
        let f = freezes_now key s h tag (current_of h.store.directory key) (sends key s h (m.Freeze tag key (current_of h.store.directory key)) is inv.known.kinds new refl) in
        let made : Step Moving = move.step eventual_rule f.call f.taken in
        let state : Moving = (move.freezes f.call (epoch_at (current_of h.store.directory key) f.from.policy) (epoch_at f.from.latest_epoch f.from.latest_policy)).state in
        let ended : made.out.end ≡ None = ap (λ (x : Step Moving). x.out.end) f.from.made in
        let lives : IsLiveAt h.store f.p (handle_in f.taken) (EventualMove made.state) = takes_and_lives s h f.p f.taken (EventualMove f.call) f.took ended in
        record {
          p = f.p;
          handle = handle_in f.taken;
          move = state;
          lives = subst (λ (x : Step Moving). IsLiveAt h.store f.p (handle_in f.taken) (EventualMove x.state)) f.from.made lives;
          at_key = f.at_key;
          of = ap (λ (t : Tag). t.call) (sym f.tag_is);
          closes = refl;
        }
