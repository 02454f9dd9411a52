-- What was sent, known, settled or kept, and what a move rests on, stays so as the state grows.
use Rattle.std.proofs.Common.{inl, inr, ℕ, List, ◌≡◌, ◌≤◌, Bool, sym, subst, arith, Contains, ◌∙◌, Option, Some, None}
use Rattle.std.proofs.lemmas.Bool.{and_from}
use Rattle.register_law.proofs.Words.{KeyId, Stamp, Message, Store, Ghost, Grows, IsKnown, WasSent, has, faults_of, members_of, Policy, latest, policy_of, HasMost, IsKept, IsSettled, both, is_at_most, version_before, range_with_len, DcSet, IsAtMost, Found, Phase, Epoch, Freezing, Seeding, Switching, FoundFrozen, FoundSettled, FreezesCounted, FrozenCounted, IsTargetOf, MoveBacked, SeedsBacked, WasAnswered, YesCounted, IsFrozenSet, MeetsAll, HereBacked, SwitchBacked, MoveStage as Stage, NotedLeg as Leg, and_left, and_right}
use Rattle.wire_msg.specs.declared.message.Message.TheVariants as m
use Rattle.migration.specs.declared.stage.Stage.TheVariants.{Looking, Ended}
use Rattle.register_law.proofs.Quorums.{at_most_test, at_most_trans, count_mono}

pub sent_stays : (key : KeyId) (s : Store) (g : Ghost) (z : Store) (h : Ghost) (message : Message) → Grows key s g z h → WasSent s message → WasSent z message
sent_stays key s g z h message grows sent = (sent.0, grows.sent (record { to = sent.0; message = message }) sent.1)

pub known_stays : (key : KeyId) (s : Store) (g : Ghost) (z : Store) (h : Ghost) (stamp : Stamp) (value : List ℕ) → Grows key s g z h → IsKnown key s stamp value → IsKnown key z stamp value
known_stays key s g z h stamp value grows (inl zero) = inl zero
known_stays key s g z h stamp value grows (inr stored) =
    inr (record { tag = stored.tag; sent = sent_stays key s g z h (m.Store stored.tag key stamp value) grows stored.sent })

-- ---- what is settled, or kept, in an epoch that was published stays so

-- an epoch that is published
abbrev pub IsOut : Store → ℕ → Type 0
IsOut s e = (1 ≤ e) × (e ≤ latest s.directory)

pub settled_stays : (key : KeyId) (s : Store) (g : Ghost) (z : Store) (h : Ghost) (e : ℕ) (u : Stamp) → Grows key s g z h → IsOut s e → IsSettled key s g e u → IsSettled key z h e u
settled_stays key s g z h e u grows out old =
    let same : policy_of z key e ≡ policy_of s key e = grows.policies e out.0 out.1 in
    let w : ℕ → Bool = has old.member.write in
    let was : ℕ → Bool = λ d. is_at_most u (version_before key s g d e) in
    let now : ℕ → Bool = λ d. is_at_most u (version_before key z h d e) in
    let more = count_mono (both w was) (both w now)
    (λ d k. and_from (w d) (now d) (and_left (w d) (was d) k) (at_most_trans u (version_before key s g d e) (version_before key z h d e) (and_right (w d) (was d) k) (at_most_test (version_before key s g d e) (version_before key z h d e) (grows.before d e))))
    (range_with_len 0 16) in
    let had = old.settled in
    let has_most : HasMost (faults_of (policy_of s key e)) old.member.write now = omega arith in
    record {
      member = old.member;
      is_member = subst (λ (x : Policy). Contains (members_of x) old.member) (sym same) old.is_member;
      settled = subst (λ (x : Policy). HasMost (faults_of x) old.member.write now) (sym same) has_most;
    }

pub kept_stays : (key : KeyId) (s : Store) (g : Ghost) (z : Store) (h : Ghost) (u : Stamp) → Grows key s g z h → ((e : ℕ) → Contains g.opened e → IsOut s e) → IsKept key s g u → IsKept key z h u
kept_stays key s g z h u grows published old =
    record { epoch = old.epoch; opened = grows.opened old.epoch old.opened; settled = settled_stays key s g z h old.epoch u grows (published old.epoch old.opened) old.settled }

-- ---- what a move rests on stays true

pub frozen_set_stays : (key : KeyId) (s : Store) (g : Ghost) (z : Store) (h : Ghost) (e : ℕ) (set : DcSet) (stamp : Stamp) → Grows key s g z h → IsOut s e → IsFrozenSet key s g e set stamp → IsFrozenSet key z h e set stamp
frozen_set_stays key s g z h e set stamp grows out k = record {
  meets = subst (λ (x : Policy). MeetsAll x (has set)) (sym (grows.policies e out.0 out.1)) k.meets;
  frozen = λ d in_set. let was = k.frozen d in_set in let more = grows.frozen d in omega arith;
  below = λ d in_set. subst (λ (x : Stamp). IsAtMost x stamp) (sym (grows.fixed d e (k.frozen d in_set))) (k.below d in_set);
}

pub found_settled_stays : (key : KeyId) (s : Store) (g : Ghost) (z : Store) (h : Ghost) (leg : Leg) (floor : Stamp) → Grows key s g z h → IsOut s leg.epoch → FoundSettled key s leg floor → FoundSettled key z leg floor
found_settled_stays key s g z h leg floor grows out k =
    let p : policy_of z key leg.epoch ≡ policy_of s key leg.epoch = grows.policies leg.epoch out.0 out.1 in
    record {
      member = k.member;
      is_member = subst (λ (x : Policy). Contains (members_of x) k.member) (sym p) k.is_member;
      settled = subst (λ (x : Policy). HasMost (faults_of x) k.member.write (λ d. is_at_most floor (leg.snap d).version)) (sym p) k.settled;
    }

pub found_frozen_stays : (key : KeyId) (s : Store) (g : Ghost) (z : Store) (h : Ghost) (leg : Leg) → Grows key s g z h → IsOut s leg.epoch → FoundFrozen key s leg → FoundFrozen key z leg
found_frozen_stays key s g z h leg grows out k =
    record { frozen = k.frozen; meets = subst (λ (x : Policy). MeetsAll x (has k.frozen)) (sym (grows.policies leg.epoch out.0 out.1)) k.meets; over = k.over }

pub target_stays : (key : KeyId) (s : Store) (g : Ghost) (z : Store) (h : Ghost) (old : ℕ) (new : Epoch) → Grows key s g z h → IsTargetOf key s g old new → IsTargetOf key z h old new
target_stays key s g z h old new grows k =
    let lt = k.later in
    let le = k.published in
    let more = grows.published in
    record { opened = grows.opened old k.opened; later = k.later; published = omega arith; policy = k.policy ∙ sym (grows.policies new.number (omega arith) k.published) }

pub answered_stays : (key : KeyId) (s : Store) (g : Ghost) (z : Store) (h : Ghost) (phase : Phase) (best : Found) → Grows key s g z h → WasAnswered s phase best → WasAnswered z phase best
answered_stays key s g z h phase best grows k =
    record { d = k.d; mark = k.mark; counted = k.counted; sent = sent_stays key s g z h (m.Have phase.tag (record { 0 = k.d }) best.stamp k.mark best.value) grows k.sent }

pub freezes_stay : (key : KeyId) (s : Store) (g : Ghost) (z : Store) (h : Ghost) (phase : Phase) (best : Found) → Grows key s g z h → FreezesCounted s phase best → FreezesCounted z phase best
freezes_stay key s g z h phase best grows k = record {
  each = λ d c. let e = k.each d c in (e.0, e.1, e.2, sent_stays key s g z h (m.Have phase.tag (record { 0 = d }) e.0 e.1 e.2) grows e.3, e.4);
  found = answered_stays key s g z h phase best grows k.found;
}

frozen_counted_stays : (key : KeyId) (s : Store) (g : Ghost) (z : Store) (h : Ghost) (phase : Phase) (best : Option Found) → Grows key s g z h → FrozenCounted s phase best → FrozenCounted z phase best
frozen_counted_stays key s g z h phase None grows k = k
frozen_counted_stays key s g z h phase (Some best) grows k = freezes_stay key s g z h phase best grows k

pub yes_stays : (key : KeyId) (s : Store) (g : Ghost) (z : Store) (h : Ghost) (phase : Phase) → Grows key s g z h → YesCounted s phase → YesCounted z phase
yes_stays key s g z h phase grows k = λ d c. sent_stays key s g z h (m.Yes phase.tag (record { 0 = d })) grows (k d c)

pub seeds_stay : (key : KeyId) (s : Store) (g : Ghost) (z : Store) (h : Ghost) (old : ℕ) (new : Epoch) (frozen : DcSet) (seeded : Stamp) → Grows key s g z h → ((e : ℕ) → Contains g.opened e → IsOut s e) → SeedsBacked key s g old new frozen seeded → SeedsBacked key z h old new frozen seeded
seeds_stay key s g z h old new frozen seeded grows out k =
    record { target = target_stays key s g z h old new grows k.target; frozen_set = frozen_set_stays key s g z h old frozen seeded grows (out old k.target.opened) k.frozen_set }

target_out : (key : KeyId) (s : Store) (g : Ghost) (old : ℕ) (new : Epoch) → IsTargetOf key s g old new → IsOut s new.number
target_out key s g old new k = let lt = k.later in (omega arith, k.published)

-- whatever a live move rests on
pub move_stays : (key : KeyId) (s : Store) (g : Ghost) (z : Store) (h : Ghost) (phase : Phase) (stage : Stage) → Grows key s g z h → ((e : ℕ) → Contains g.opened e → IsOut s e) → MoveBacked key s g phase stage → MoveBacked key z h phase stage
move_stays key s g z h phase Looking grows out k = tt
move_stays key s g z h phase (Freezing old new best) grows out k =
    let is_out = out old.number k.0.opened in
    (target_stays key s g z h old.number new grows k.0, k.1 ∙ sym (grows.policies old.number is_out.0 is_out.1), k.2, frozen_counted_stays key s g z h phase best grows k.3)
move_stays key s g z h phase (Seeding old new frozen seeded top_gone) grows out k =
    (seeds_stay key s g z h old new frozen seeded grows out k.0, k.1, yes_stays key s g z h phase grows k.2)
move_stays key s g z h phase (Switching old new frozen seeded) grows out k =
    (seeds_stay key s g z h old new frozen seeded grows out k.0, settled_stays key s g z h new.number seeded grows (target_out key s g old new k.0.target) k.1)
move_stays key s g z h phase Ended grows out k = tt

pub switch_stays : (key : KeyId) (s : Store) (g : Ghost) (z : Store) (h : Ghost) (old new : ℕ) → Grows key s g z h → ((e : ℕ) → Contains g.opened e → IsOut s e) → SwitchBacked key s g old new → SwitchBacked key z h old new
switch_stays key s g z h old new grows out k =
    let lt = k.later in
    let le = k.published in
    let more = grows.published in
    record {
      frozen = k.frozen;
      seeded = k.seeded;
      opened = grows.opened old k.opened;
      later = k.later;
      published = omega arith;
      frozen_set = frozen_set_stays key s g z h old k.frozen k.seeded grows (out old k.opened) k.frozen_set;
      settled = settled_stays key s g z h new k.seeded grows (omega arith, k.published) k.settled;
    }

pub here_stays : (key : KeyId) (s : Store) (g : Ghost) (z : Store) (h : Ghost) (epoch newest : ℕ) (policy newest_policy : Policy) → Grows key s g z h → ((e : ℕ) → Contains g.opened e → IsOut s e)
    → HereBacked key s g epoch policy newest newest_policy → HereBacked key z h epoch policy newest newest_policy
here_stays key s g z h epoch newest policy newest_policy grows out k =
    let is_out = out epoch k.opened in
    let within = k.within in
    let some = is_out.0 in
    let up = within.0 in
    let le = within.1 in
    let more = grows.published in
    record {
      opened = grows.opened epoch k.opened;
      within = (up, omega arith);
      policy_is = k.policy_is ∙ sym (grows.policies epoch is_out.0 is_out.1);
      latest_is = k.latest_is ∙ sym (grows.policies newest (omega arith) le);
    }
