-- Where all that was sent has been taken, no move is left that closes the current epoch, and so no replica is frozen for it.
use Rattle.std.proofs.Common.{◌≡◌, inl, inr, ℕ, ◌+◌, ◌<◌, ◌≤◌, Bool, true, false, refl, sym, ap, ◌∙◌, subst, arith, leb-false}
use Rattle.std.specs.Prelude.{◌^◌, length, Option, Contains}
use Rattle.std.specs.List.{range_with_len}
use Rattle.std.proofs.lemmas.Bool.{eq-eqb, cases_lt}
use Rattle.span_base.specs.declared.ids.KeyId.{KeyId}
use Rattle.span_base.specs.declared.dc_set.DcSet.{DcSet}
use Rattle.span_base.specs.declared.policy.Policy.{Policy}
use Rattle.span_base.specs.declared.policy.Policy.TheVariants.{Direct, Relay, Strong}
use Rattle.span_base.specs.DcSet.{has, bits_of, centres_of, centres_below}
use Rattle.span_base.specs.PolicyParts.{faults_of, replicas_of}
use Rattle.span_base.proofs.Sets.{same_set}
use Rattle.ticket_rules.specs.declared.stamp.Stamp.{Stamp}
use Rattle.wire_msg.specs.declared.actor.Actor.{Actor}
use Rattle.wire_msg.specs.declared.actor.Actor.TheVariants as to
use Rattle.wire_msg.specs.declared.message.Message.{Message}
use Rattle.wire_msg.specs.declared.message.Message.TheVariants as m
use Rattle.wire_msg.specs.Posts.{tag_of}
use Rattle.call_phase.specs.declared.best.Found.{Found}
use Rattle.epoch_directory.specs.State.{latest, current_of}
use Rattle.migration.specs.declared.stage.Epoch.{Epoch}
use Rattle.migration.specs.declared.stage.Stage.{Stage}
use Rattle.migration.specs.declared.stage.Stage.TheVariants as at
use Rattle.migration.specs.Move.{Moving}
use Rattle.slot_pool.specs.declared.handles.Handle.{Handle}
use Rattle.world_core.specs.declared.live.LiveCall.TheVariants.{EventualMove}
use Rattle.world_core.specs.State.{Store, replica_at, proxy_at, kept_of, policy_of}
use Rattle.register_law.specs.Ghost.{Ghost}
use Rattle.register_law.specs.Seen.{WasSent}
use Rattle.register_law.specs.Tags.{IsLiveAt}
use Rattle.register_law.proofs.Quorums.{count_mono}
use Rattle.register_law.proofs.WaitingMeets.{lives_somewhere}
use Rattle.eventual_law.specs.Held.{FreezingHeld, SeedingHeld, SwitchingHeld, IsHeldMove}
use Rattle.eventual_law.specs.Laws.{IsPlaced, ArePlaced}
use Rattle.eventual_law.specs.Quiet.{IsSoundEventual, ByReplica, ByProxy, HasCounted, WasTaken, Closes, IsOpenStill}
use Rattle.eventual_law.proofs.Bounds.{frozen_below}
use Rattle.eventual_law.proofs.QuietRun.{GoesOn}
use Rattle.register_law.proofs.OpeningsKept.{newest_opened}

-- no actor is stopped, and all that was sent was taken
pub record IsAtRest (key : KeyId) (s : Store) (g : Ghost) : Type 0 where
  pub goes : GoesOn key s g
  pub placed : ArePlaced s key
  pub replicas : (d : ℕ) → d < length s.replicas → (replica_at s d).stopped ≡ false
  pub proxies : (p : ℕ) → p < length s.proxies → (proxy_at s p).stopped ≡ false
  pub taken : (a : Actor) (message : Message) → Contains s.sent (record { to = a; message = message }) → WasTaken key s a message

pub by_replica : (key : KeyId) (s : Store) (g : Ghost) → IsAtRest key s g → (d : ℕ) (message : Message) → d < length s.replicas → Contains s.sent (record { to = to.Replica d; message = message }) → ByReplica key s d message
by_replica key s g r d message lt sent = elim (r.taken (to.Replica d) message sent) as (λ _. ByReplica key s d message) [ inl stopped ↦ absurd (let runs = r.replicas d lt in cc) | inr did ↦ did ]

by_proxy : (key : KeyId) (s : Store) (g : Ghost) → IsAtRest key s g → (p : ℕ) (message : Message) → p < length s.proxies → Contains s.sent (record { to = to.Proxy p; message = message }) → ByProxy key s p message
by_proxy key s g r p message lt sent = elim (r.taken (to.Proxy p) message sent) as (λ _. ByProxy key s p message) [ inl stopped ↦ absurd (let runs = r.proxies p lt in cc) | inr did ↦ did ]

-- an answer to a live move of the key has counted
answered : (key : KeyId) (s : Store) (g : Ghost) → IsAtRest key s g → (p : ℕ) (handle : Handle) (call : Moving) (message : Message) → IsLiveAt s p handle (EventualMove call) → call.key ≡ key → call.phase.tag ≡ tag_of message → Contains s.sent (record { to = to.Proxy call.phase.tag.call.proxy; message = message })
    → HasCounted call.stage call.phase message
answered key s g r p handle call message lives at_key own sent =
    let proxy_is : call.phase.tag.call.proxy ≡ p = (r.goes.inv.known.kinds.tags.live_numbered p handle (EventualMove call) lives).1 in
    by_proxy key s g r p message (lives_somewhere s.proxies p handle (EventualMove call) lives) (subst (λ n. Contains s.sent (record { to = to.Proxy n; message = message })) proxy_is sent) handle call lives at_key own

both_ways : (a b : Bool) → (a ≡ true → b ≡ true) → (b ≡ true → a ≡ true) → a ≡ b
both_ways true b f g = sym (f refl)
both_ways false true f g = g refl
both_ways false false f g = refl

-- a move that freezes the replicas of its old epoch has heard from all of them
no_freezing : (key : KeyId) (s : Store) (g : Ghost) → IsAtRest key s g → (p : ℕ) (handle : Handle) (call : Moving) (old new : Epoch) (best : Option Found) → IsLiveAt s p handle (EventualMove call) → call.key ≡ key → call.stage ≡ at.Freezing old new best → ⊥
no_freezing key s g r p handle call old new best lives at_key stage = absurd (let heard = eq-eqb (bits_of call.phase.good) (bits_of call.phase.asked) (ap bits_of all) in let few = still.0 in cc)
  where
    held : FreezingHeld key s g call.phase old new best
    held = subst (IsHeldMove key s g call.phase) stage (r.goes.inv.moves.live p handle call lives at_key)

    still : IsOpenStill (at.Freezing old new best) call.phase
    still = subst (λ (x : Stage). IsOpenStill x call.phase) stage (r.goes.go.undecided p handle call lives at_key)

    placed : IsPlaced s (replicas_of (policy_of s key old.number))
    placed = let within = r.goes.inv.epochs.published old.number held.target.opened in r.placed old.number within.0 within.1

    asked_is : call.phase.asked ≡ replicas_of (policy_of s key old.number)
    asked_is = held.asked ∙ ap replicas_of held.policy

    heard_from : (d : ℕ) → has call.phase.asked d ≡ true → has call.phase.good d ≡ true
    heard_from d there =
        let told = by_replica key s g r d (m.Freeze call.phase.tag key old.number) (placed.there d (subst (λ (x : DcSet). has x d ≡ true) asked_is there)) (held.sent d there) refl in
        let have : Message = m.Have call.phase.tag (record { 0 = d }) told.0 told.1 told.2 in
        subst (λ (x : Stage). HasCounted x call.phase have) stage (answered key s g r p handle call have lives at_key refl told.3) there

    all : call.phase.good ≡ call.phase.asked
    all = same_set call.phase.good call.phase.asked still.1 (subst (λ (x : DcSet). bits_of x < 2 ^ 16) (sym asked_is) placed.small)
        (λ d lt. both_ways (has call.phase.good d) (has call.phase.asked d) (still.2 d) (heard_from d))

-- a sound policy has f + 1 replicas
pub enough : (policy : Policy) → IsSoundEventual policy → faults_of policy + 1 ≤ length (centres_of (replicas_of policy))
enough (Direct f replicas primary) h = h.sound.enough
enough (Relay f replicas primary parent) h = h.sound.0.enough
enough (Strong f replicas members) h = absurd (let no = h.eventual in cc)

more_centres : (a b : DcSet) → ((d : ℕ) → has a d ≡ true → has b d ≡ true) → length (centres_of a) ≤ length (centres_of b)
unfolding centres_of centres_below
more_centres a b within = count_mono (has a) (has b) within (range_with_len 0 16)

-- the current epoch is one that was published
pub current_within : (key : KeyId) (s : Store) (g : Ghost) → GoesOn key s g → (1 ≤ current_of s.directory key) × (current_of s.directory key ≤ latest s.directory)
current_within key s g goes = goes.inv.epochs.published (current_of s.directory key) (newest_opened (current_of s.directory key) g.opened goes.inv.epochs.newest)

-- a move that seeds a new epoch has been told by f + 1 replicas of it
no_seeding : (key : KeyId) (s : Store) (g : Ghost) → IsAtRest key s g → (p : ℕ) (handle : Handle) (call : Moving) (old : ℕ) (new : Epoch) (frozen : DcSet) (seeded : Stamp) (top_gone : ℕ) → IsLiveAt s p handle (EventualMove call) → call.key ≡ key → call.stage ≡ at.Seeding old new frozen seeded top_gone
    → old ≡ current_of s.directory key → ⊥
no_seeding key s g r p handle call old new frozen seeded top_gone lives at_key stage current =
    (let few = leb-false (faults_of new.policy + 1) (length (centres_of call.phase.good)) still.0 in
    let more = more_centres call.phase.asked call.phase.good heard_from in
    let many : faults_of new.policy + 1 ≤ length (centres_of call.phase.asked) = subst (λ (x : DcSet). faults_of new.policy + 1 ≤ length (centres_of x)) (sym held.asked) (enough new.policy sound) in
    omega arith)
  where
    held : SeedingHeld key s g call.phase old new seeded
    held = subst (IsHeldMove key s g call.phase) stage (r.goes.inv.moves.live p handle call lives at_key)

    still : IsOpenStill (at.Seeding old new frozen seeded top_gone) call.phase
    still = subst (λ (x : Stage). IsOpenStill x call.phase) stage (r.goes.go.undecided p handle call lives at_key)

    first : 1 ≤ new.number
    first = let later = held.target.later in omega arith

    placed : IsPlaced s (replicas_of (policy_of s key new.number))
    placed = r.placed new.number first held.target.published

    sound : IsSoundEventual new.policy
    sound = subst IsSoundEventual (sym held.target.policy) (r.goes.go.sound new.number first held.target.published)

    asked_is : call.phase.asked ≡ replicas_of (policy_of s key new.number)
    asked_is = held.asked ∙ ap replicas_of held.target.policy

    heard_from : (d : ℕ) → has call.phase.asked d ≡ true → has call.phase.good d ≡ true
    heard_from d there =
        let seed = held.sent d there in
        elim (by_replica key s g r d (m.Seed call.phase.tag key new.number seeded seed.0) (placed.there d (subst (λ (x : DcSet). has x d ≡ true) asked_is there)) seed.1 refl) as (λ _. has call.phase.good d ≡ true) [
          | inl over ↦ absurd (let below = frozen_below key s g r.goes.inv r.goes.go d in let later = held.target.later in omega arith)
          | inr said ↦ (let yes : Message = m.Yes call.phase.tag (record { 0 = d }) in
              subst (λ (x : Stage). HasCounted x call.phase yes) stage (answered key s g r p handle call yes lives at_key refl said.1) there)
        ]

-- a move that asked for its switch has been told
no_switching : (key : KeyId) (s : Store) (g : Ghost) → IsAtRest key s g → (p : ℕ) (handle : Handle) (call : Moving) (old : ℕ) (new : Epoch) (frozen : DcSet) (seeded : Stamp) → IsLiveAt s p handle (EventualMove call) → call.key ≡ key → call.stage ≡ at.Switching old new frozen seeded → ⊥
no_switching key s g r p handle call old new frozen seeded lives at_key stage =
    let held : SwitchingHeld key s g call.phase old new = subst (IsHeldMove key s g call.phase) stage (r.goes.inv.moves.live p handle call lives at_key) in
    let told = r.taken to.Directory (m.Switch call.phase.tag key old new.number) held.sent refl in
    let switched : Message = m.Switched call.phase.tag key told.0 told.1 in
    subst (λ (x : Stage). HasCounted x call.phase switched) stage (answered key s g r p handle call switched lives at_key refl told.2)

-- no move is left that closes the current epoch
no_closing : (key : KeyId) (s : Store) (g : Ghost) → IsAtRest key s g → (p : ℕ) (handle : Handle) (call : Moving) (stage : Stage) → IsLiveAt s p handle (EventualMove call) → call.key ≡ key → call.stage ≡ stage → Closes (current_of s.directory key) stage → ⊥
no_closing key s g r p handle call at.Looking lives at_key is closes = closes
no_closing key s g r p handle call (at.Freezing old new best) lives at_key is closes = no_freezing key s g r p handle call old new best lives at_key is
no_closing key s g r p handle call (at.Seeding old new frozen seeded top_gone) lives at_key is closes = no_seeding key s g r p handle call old new frozen seeded top_gone lives at_key is closes
no_closing key s g r p handle call (at.Switching old new frozen seeded) lives at_key is closes = no_switching key s g r p handle call old new frozen seeded lives at_key is
no_closing key s g r p handle call at.Ended lives at_key is closes = closes

-- no replica is frozen for the current epoch
pub none_frozen : (key : KeyId) (s : Store) (g : Ghost) → IsAtRest key s g → (d : ℕ) → (kept_of s d key).frozen < current_of s.directory key
none_frozen key s g r d = elim (r.goes.go.frozen_by d) as (λ _. (kept_of s d key).frozen < current_of s.directory key) [
  | inl zero ↦ (let some = (current_within key s g r.goes).0 in omega arith)
  | inr by ↦ elim (cases_lt (kept_of s d key).frozen (current_of s.directory key)) as (λ _. (kept_of s d key).frozen < current_of s.directory key) [
    | inl lt ↦ lt
    | inr le ↦
        (let below = frozen_below key s g r.goes.inv r.goes.go d in
        let is : (kept_of s d key).frozen ≡ current_of s.directory key = omega arith in
        let closing = r.goes.go.closing by.0 (subst (λ n. WasSent s (m.Freeze by.0 key n)) is by.1) in
        absurd (no_closing key s g r closing.p closing.handle closing.move closing.move.stage closing.lives closing.at_key refl closing.closes))
  ]
]
