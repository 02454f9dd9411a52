-- After every run the epochs of an eventual key that have been current are a chain, and the directory told of no others.
use Rattle.std.proofs.Common.{◌≡◌, inl, inr, ℕ, ◌<◌, ◌≤◌, Bool, true, false, List, [], ◌∷◌, refl, sym, ap, ◌∙◌, subst, arith}
use Rattle.std.proofs.lemmas.List.{length-replicate}
use Rattle.std.specs.Prelude.{◌==◌, if◌then◌else◌, length, map, Contains}
use Rattle.std.proofs.lemmas.Bool.{eq-eqb}
use Rattle.span_base.specs.declared.ids.KeyId.{KeyId}
use Rattle.span_base.specs.declared.policy.Policy.{Policy}
use Rattle.wire_msg.specs.declared.tag.Tag.{Tag}
use Rattle.wire_msg.specs.declared.message.Message.{Message}
use Rattle.wire_msg.specs.declared.message.Message.TheVariants as m
use Rattle.epoch_directory.specs.State.{latest, current_of}
use Rattle.world_core.specs.declared.event.Header.{Header}
use Rattle.world_core.specs.State.{Store, opening, key_set, policy_of}
use Rattle.world_core.specs.Step.{Happening}
use Rattle.register_law.specs.Ghost.{Ghost, noted_of, first_ghost}
use Rattle.register_law.specs.Seen.{WasSent}
use Rattle.register_law.specs.Ends.{IsChain, IsNewest}
use Rattle.register_law.specs.Cases.{Happened}
use Rattle.register_law.proofs.Growth.{directory_grows, policy_stays}
use Rattle.register_law.proofs.Opening.{nothing_sent}
use Rattle.register_law.proofs.OpeningHolds.{current_is}
use Rattle.register_law.proofs.Basics.{WasPosted, sent_cases}
use Rattle.register_order.proofs.Members.{among, none_among, Contains-there}
use Rattle.register_law.proofs.OpeningsCurrent.{CurrentAfter, same_current, switched, current_after, keys_stay}
use Rattle.register_law.proofs.OpeningsKept.{longer, newest_after, newest_opened}
use Rattle.register_law.proofs.OpeningsTold.{here_now, told_now}
use Rattle.register_law.proofs.TagsSent.{was_sent_stays}
use Rattle.eventual_law.specs.Keys.{IsEventualKey}
use Rattle.eventual_law.specs.Epochs.{HereIs, EpochsAreChained}
use Rattle.register_law.proofs.MovesKept.{posted}
use Rattle.register_law.proofs.Words.{length-map}

chain_stays : (key : KeyId) (s z : Store) → ((message : Message) → WasSent s message → WasSent z message) → (opened : List ℕ) → IsChain key s opened → IsChain key z opened
chain_stays key s z more [] c = c
chain_stays key s z more (new ∷ []) c = c
chain_stays key s z more (new ∷ old ∷ rest) c = (c.0, record { tag = c.1.tag; sent = more (m.Switch c.1.tag key old new) c.1.sent }, chain_stays key s z more (old ∷ rest) c.2)

not_same : (X : Type 0) (a b : ℕ) → (a == b) ≡ false → a ≡ b → X
not_same X a b is e = absurd (let z = eq-eqb a b e in cc)

chain_after : (key : KeyId) (s : Store) (g : Ghost) (h : Happening) → EpochsAreChained key s g → Happened s h → CurrentAfter key s h → (b : Bool) → (current_of h.store.directory key == current_of s.directory key) ≡ b
    → IsChain key h.store (if b then g.opened else current_of h.store.directory key ∷ g.opened)
chain_after key s g h k is c true e = chain_stays key s h.store (was_sent_stays s h is) g.opened k.chain
chain_after key s g h k is (same_current same) false e = not_same (IsChain key h.store (current_of h.store.directory key ∷ g.opened)) (current_of h.store.directory key) (current_of s.directory key) e same
chain_after key s g h k is (switched tag closing next sent can now) false e =
    subst (λ (n : ℕ). IsChain key h.store (n ∷ g.opened)) (sym now)
    (longer key h.store tag closing next g.opened (subst (λ (n : ℕ). IsNewest n g.opened) can.current k.newest) can.later (was_sent_stays s h is (m.Switch tag key closing next) sent) (chain_stays key s h.store (was_sent_stays s h is) g.opened k.chain))

published_after : (key : KeyId) (s : Store) (g : Ghost) (h : Happening) → EpochsAreChained key s g → Happened s h → CurrentAfter key s h → (b : Bool) → (current_of h.store.directory key == current_of s.directory key) ≡ b
    → (e : ℕ) → Contains (if b then g.opened else current_of h.store.directory key ∷ g.opened) e → (1 ≤ e) × (e ≤ latest h.store.directory)
published_after key s g h k is c true t e there =
    let out = k.published e there in
    let last = out.1 in
    let more = (directory_grows s h is).latest_grows in
    (out.0, omega arith)
published_after key s g h k is (same_current same) false t e there = not_same ((1 ≤ e) × (e ≤ latest h.store.directory)) (current_of h.store.directory key) (current_of s.directory key) t same
published_after key s g h k is (switched tag closing next sent can now) false t e there =
    let more = (directory_grows s h is).latest_grows in
    elim (among (current_of h.store.directory key) g.opened e there) as (λ _. (1 ≤ e) × (e ≤ latest h.store.directory)) [
      | inl new ↦ (let later = can.later in let last = can.published in (omega arith, omega arith))
      | inr old ↦ (let out = k.published e old in let last = out.1 in (out.0, omega arith))
    ]

opened_stays : (b : Bool) (opened : List ℕ) (new e : ℕ) → Contains opened e → Contains (if b then opened else new ∷ opened) e
opened_stays true opened new e c = c
opened_stays false opened new e c = Contains-there new opened e c

here_stays : (key : KeyId) (s : Store) (g : Ghost) (h : Happening) (epoch latest_epoch : ℕ) (policy latest_policy : Policy) → EpochsAreChained key s g → Happened s h → HereIs key s g epoch policy latest_epoch latest_policy → HereIs key h.store (noted_of key s h g) epoch policy latest_epoch latest_policy
here_stays key s g h epoch latest_epoch policy latest_policy k is here =
    let more = (directory_grows s h is).latest_grows in
    let first = (k.published epoch here.opened).0 in
    let one = here.within.0 in
    let two = here.within.1 in
    record {
      opened = opened_stays (current_of h.store.directory key == current_of s.directory key) g.opened (current_of h.store.directory key) epoch here.opened;
      within = (one, omega arith);
      policy_is = here.policy_is ∙ sym (policy_stays key s h is epoch first (omega arith));
      newest_is = here.newest_is ∙ sym (policy_stays key s h is latest_epoch (omega arith) two);
    }

here_now_is : (key : KeyId) (s : Store) (g : Ghost) (h : Happening) (tag : Tag) (epoch latest_epoch : ℕ) (policy latest_policy : Policy) → EpochsAreChained key s g → Happened s h → WasPosted h (m.Here tag key epoch policy latest_epoch latest_policy) → HereIs key s g epoch policy latest_epoch latest_policy
here_now_is key s g h tag epoch latest_epoch policy latest_policy k is new =
    let message : Message = m.Here tag key epoch policy latest_epoch latest_policy in
    let now = here_now s h tag key epoch policy latest_epoch latest_policy (told_now s h new.0 message tt (posted s h is (record { to = new.0; message = message }) new.1)) in
    let opened : Contains g.opened epoch = subst (Contains g.opened) (sym now.epoch_is) (newest_opened (current_of s.directory key) g.opened k.newest) in
    let last = (k.published epoch opened).1 in
    let latest_is = now.newest_is in
    record {
      opened = opened;
      within = (omega arith, omega arith);
      policy_is = now.policy_is ∙ ap (policy_of s key) (sym now.epoch_is);
      newest_is = now.newest_policy_is ∙ ap (policy_of s key) (sym now.newest_is);
    }

pub epochs_kept : (key : KeyId) (s : Store) (g : Ghost) (h : Happening) → Happened s h → EpochsAreChained key s g → EpochsAreChained key h.store (noted_of key s h g)
epochs_kept key s g h is k = record {
  exists = (let many = keys_stay s h is in let lt = k.exists in omega arith);
  chain = chain_after key s g h k is (current_after key s h is) (current_of h.store.directory key == current_of s.directory key) refl;
  newest = newest_after (current_of s.directory key) (current_of h.store.directory key) g.opened (current_of h.store.directory key == current_of s.directory key) refl k.newest;
  published = published_after key s g h k is (current_after key s h is) (current_of h.store.directory key == current_of s.directory key) refl;
  here_opened = λ tag epoch policy latest_epoch latest_policy sent.
      here_stays key s g h epoch latest_epoch policy latest_policy k is
      (elim (sent_cases s h (m.Here tag key epoch policy latest_epoch latest_policy) is sent) as (λ _. HereIs key s g epoch policy latest_epoch latest_policy) [
        | inl old ↦ k.here_opened tag epoch policy latest_epoch latest_policy old
        | inr new ↦ here_now_is key s g h tag epoch latest_epoch policy latest_policy k is new
      ]);
}

only_one : (e : ℕ) → Contains (1 ∷ []) e → e ≡ 1
only_one e c = elim (among 1 [] e c) as (λ _. e ≡ 1) [ inl is ↦ is | inr none ↦ absurd (none_among e none) ]

one_published : (header : Header) (e : ℕ) → e ≡ 1 → (1 ≤ e) × (e ≤ latest (opening header).directory)
unfolding opening
one_published header e is = (omega arith, omega arith)

keys_there : (header : Header) (key : KeyId) → key.0 < length header.keys → key.0 < length (opening header).directory.current
unfolding opening
keys_there header key lt = subst (λ n. key.0 < n) (sym (length-replicate (length (map key_set header.keys)) 1 ∙ length-map header.keys key_set)) lt

pub epochs_first : (header : Header) (key : KeyId) → IsEventualKey header key.0 → EpochsAreChained key (opening header) first_ghost
epochs_first header key k = record {
  exists = keys_there header key k.exists;
  chain = refl;
  newest = sym (current_is header key k.exists);
  published = λ e c. one_published header e (only_one e c);
  here_opened = λ tag epoch policy latest_epoch latest_policy sent. absurd (nothing_sent header (m.Here tag key epoch policy latest_epoch latest_policy) sent);
}
