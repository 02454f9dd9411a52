-- What a replica keeps after a message is the greatest of the pushes that it took.
use Rattle.std.proofs.Common.{◌≡◌, ◌⊎◌, inl, inr, ℕ, ◌<◌, Bool, true, false, List, [], ◌∷◌, ◌++◌, refl, sym, ap, ◌∙◌, subst, arith}
use Rattle.std.specs.Prelude.{◌==◌, ◌&&◌, not, if◌then◌else◌, length, slice_set, slice_index_or, Some, Contains}
use Rattle.std.specs.Ordering.{is_gt}
use Rattle.std.proofs.lemmas.Grind.{common_steps}
use Rattle.std.proofs.lemmas.Bool.{eq-eqb}
use Rattle.std.proofs.lemmas.List.{append-nil, get_or-set_same}
use Rattle.std.proofs.lemmas.List.Elements.{Contains-append_left, Contains-append_right, Contains-append_cases}
use Rattle.span_base.specs.declared.ids.KeyId.{KeyId}
use Rattle.ticket_rules.specs.declared.stamp.Stamp.{Stamp}
use Rattle.ticket_rules.specs.Stamp.{stamp_cmp, stamp_zero, IsAtMost}
use Rattle.wire_msg.specs.declared.message.Message.{Message}
use Rattle.wire_msg.specs.declared.message.Message.TheVariants as m
use Rattle.call_phase.specs.declared.best.Found.{Found}
use Rattle.replica_core.specs.declared.kept.Kept.{Kept}
use Rattle.replica_core.specs.Keeping.{opening, is_over, merge, kept_after}
use Rattle.replica_core.specs.Rule.{State, kept_at, step}
use Rattle.register_law.specs.Tags.{request_key}
use Rattle.register_law.proofs.Kept.{set_cases}
use Rattle.register_order.proofs.Members.{among, none_among}
use Rattle.register_law.proofs.Basics.{key_is}
use Rattle.register_order.proofs.Stamps.{IsAtMost-trans}
use Rattle.eventual_law.specs.Pushes.{IsGreatest, push_if, pushed_by}
use Rattle.eventual_law.specs.Kinds.{MayAskEventual}
use Rattle.register_law.proofs.Words.{IsAtMost-refl}
use Rattle.register_law.proofs.MovesTook.{not_gt}

-- the greatest push is kept
abbrev pub KeepsGreatest : List Found → Kept → Type 0
KeepsGreatest all kept = IsGreatest all kept.version kept.value

-- nothing was pushed, and nothing changed
pub none_more : (all : List Found) (kept : Kept) → KeepsGreatest all kept → KeepsGreatest (all ++ []) kept
none_more all kept h = subst (λ (x : List Found). KeepsGreatest x kept) (sym (append-nil all)) h

above_it : (b c : Stamp) → is_gt (stamp_cmp c b) ≡ true → IsAtMost b c
above_it b c k = grind (arith, common_steps)

over_it : (a b c : Stamp) → IsAtMost a b → is_gt (stamp_cmp c b) ≡ true → IsAtMost a c
over_it a b c h k = IsAtMost-trans a b c h (above_it b c k)

merged : (all : List Found) (kept : Kept) (stamp : Stamp) (value : List ℕ) (b : Bool) → is_gt (stamp_cmp stamp kept.version) ≡ b → KeepsGreatest all kept
    → KeepsGreatest (all ++ record { stamp = stamp; value = value } ∷ []) (if b then record kept { version = stamp; value = value } else kept)
merged all kept stamp value true is h = record {
  is_one = inr (Contains-append_right all (record { stamp = stamp; value = value } ∷ []) (record { stamp = stamp; value = value }) (0, omega arith, refl));
  greatest = λ push c. elim (Contains-append_cases all (record { stamp = stamp; value = value } ∷ []) push c) as (λ _. IsAtMost push.stamp stamp) [
    | inl old ↦ over_it push.stamp kept.version stamp (h.greatest push old) is
    | inr new ↦ elim (among (record { stamp = stamp; value = value }) [] push new) as (λ _. IsAtMost push.stamp stamp) [ inl same ↦ subst (λ (x : Found). IsAtMost x.stamp stamp) (sym same) (IsAtMost-refl stamp) | inr more ↦ absurd (none_among push more) ]
  ];
}
merged all kept stamp value false is h = record {
  is_one = elim h.is_one as (λ _. ((kept.version ≡ stamp_zero) × (kept.value ≡ [])) ⊎ Contains (all ++ record { stamp = stamp; value = value } ∷ []) (record { stamp = kept.version; value = kept.value })) [
    | inl zero ↦ inl zero
    | inr there ↦ inr (Contains-append_left all (record { stamp = stamp; value = value } ∷ []) (record { stamp = kept.version; value = kept.value }) there)
  ];
  greatest = λ push c. elim (Contains-append_cases all (record { stamp = stamp; value = value } ∷ []) push c) as (λ _. IsAtMost push.stamp kept.version) [
    | inl old ↦ h.greatest push old
    | inr new ↦ elim (among (record { stamp = stamp; value = value }) [] push new) as (λ _. IsAtMost push.stamp kept.version) [ inl same ↦ subst (λ (x : Found). IsAtMost x.stamp kept.version) (sym same) (not_gt stamp kept.version is) | inr more ↦ absurd (none_among push more) ]
  ];
}

-- with the tests told: whether the key is the push's, and whether its epoch is over
pushed_on : (all : List Found) (kept : Kept) (stamp : Stamp) (value : List ℕ) (same over : Bool) → same ≡ true → KeepsGreatest all kept
    → KeepsGreatest (all ++ (if same && not over then record { stamp = stamp; value = value } ∷ [] else [])) (if over then kept else merge kept stamp value)
pushed_on all kept stamp value true true is h = none_more all kept h
pushed_on all kept stamp value true false is h = merged all kept stamp value (is_gt (stamp_cmp stamp kept.version)) refl h
pushed_on all kept stamp value false over is h = absurd (cc)

itself : (key : KeyId) → (key.0 == key.0) ≡ true
itself key = eq-eqb key.0 key.0 refl

-- a message of the key
of_key : (key : KeyId) (all : List Found) (kept : Kept) (message : Message) → request_key message ≡ Some key → MayAskEventual message → KeepsGreatest all kept → KeepsGreatest (all ++ pushed_by key kept message) (kept_after kept message)
of_key key all kept (m.Read tag at epoch) is may h = none_more all kept h
of_key key all kept (m.Ask tag at stamp) is may h = absurd may
of_key key all kept (m.Store tag at stamp value) is may h = absurd may
of_key key all kept (m.Repair tag at epoch stamp value) is may h = absurd may
of_key key all kept (m.Confirm tag at stamp) is may h = absurd may
of_key key all kept (m.Freeze tag at epoch) is may h = none_more all kept h
of_key key all kept (m.Seed tag at epoch stamp value) is may h =
    let same : at ≡ key = cc in
    pushed_on all kept stamp value (at.0 == key.0) (is_over kept epoch) (ap (λ (x : KeyId). x.0 == key.0) same ∙ itself key) h
of_key key all kept (m.Push tag at stamp onward value) is may h =
    let same : at ≡ key = cc in
    pushed_on all kept stamp value (at.0 == key.0) (is_over kept stamp.epoch) (ap (λ (x : KeyId). x.0 == key.0) same ∙ itself key) h
of_key key all kept (m.Lookup tag at) is may h = none_more all kept h
of_key key all kept (m.Switch tag at closing next) is may h = none_more all kept h
of_key key all kept (m.Have tag replica version mark value) is may h = absurd (cc)
of_key key all kept (m.Yes tag replica) is may h = absurd (cc)
of_key key all kept (m.Held tag replica stamp) is may h = absurd (cc)
of_key key all kept (m.Gone tag replica epoch) is may h = absurd (cc)
of_key key all kept (m.Here tag at epoch policy latest_epoch latest_policy) is may h = absurd (cc)
of_key key all kept (m.Switched tag at done epoch) is may h = absurd (cc)

-- where a message of some key is put
at_place : (key at : KeyId) (state : State) (message : Message) (all : List Found) → key.0 < length state.kept → request_key message ≡ Some at → (request_key message ≡ Some key → MayAskEventual message) → KeepsGreatest all (kept_at state key)
    → (b : Bool) → (at.0 == key.0) ≡ b → (b ≡ false → pushed_by key (kept_at state key) message ≡ [])
    → KeepsGreatest (all ++ pushed_by key (kept_at state key) message) (slice_index_or (slice_set state.kept at.0 (kept_after (kept_at state at) message)) key.0 opening)
at_place key at state message all lt is may h true same none =
    let one : at ≡ key = key_is at key same in
    subst (λ (x : KeyId). KeepsGreatest (all ++ pushed_by key (kept_at state key) message) (slice_index_or (slice_set state.kept x.0 (kept_after (kept_at state x) message)) key.0 opening)) (sym one)
    (subst (λ (x : Kept). KeepsGreatest (all ++ pushed_by key (kept_at state key) message) x) (sym (get_or-set_same state.kept key.0 (kept_after (kept_at state key) message) opening lt))
    (of_key key all (kept_at state key) message (is ∙ ap Some one) (may (is ∙ ap Some one)) h))
at_place key at state message all lt is may h false other none =
    subst (λ (x : List Found). KeepsGreatest (all ++ x) (slice_index_or (slice_set state.kept at.0 (kept_after (kept_at state at) message)) key.0 opening)) (sym (none refl))
    (none_more all (slice_index_or (slice_set state.kept at.0 (kept_after (kept_at state at) message)) key.0 opening)
    (elim (set_cases state.kept at.0 key.0 (kept_after (kept_at state at) message) opening) as (λ _. KeepsGreatest all (slice_index_or (slice_set state.kept at.0 (kept_after (kept_at state at) message)) key.0 opening)) [
      | inl stays ↦ subst (λ (x : Kept). KeepsGreatest all x) (sym stays) h
      | inr here ↦ absurd (let e = eq-eqb at.0 key.0 (sym here.0) in cc)
    ]))

-- a push of another key
other_key : (key at : KeyId) (kept : Kept) (epoch : ℕ) (stamp : Stamp) (value : List ℕ) → (at.0 == key.0) ≡ false → push_if key at kept epoch stamp value ≡ []
other_key key at kept epoch stamp value is = rw is refl

-- a replica takes a message
pub taken_greatest : (key : KeyId) (state : State) (message : Message) (all : List Found) → key.0 < length state.kept → (request_key message ≡ Some key → MayAskEventual message) → KeepsGreatest all (kept_at state key)
    → KeepsGreatest (all ++ pushed_by key (kept_at state key) message) (kept_at (step state message).state key)
taken_greatest key state (m.Read tag at epoch) all lt may h = at_place key at state (m.Read tag at epoch) all lt refl may h (at.0 == key.0) refl (λ _. refl)
taken_greatest key state (m.Ask tag at stamp) all lt may h = at_place key at state (m.Ask tag at stamp) all lt refl may h (at.0 == key.0) refl (λ _. refl)
taken_greatest key state (m.Store tag at stamp value) all lt may h = at_place key at state (m.Store tag at stamp value) all lt refl may h (at.0 == key.0) refl (λ _. refl)
taken_greatest key state (m.Repair tag at epoch stamp value) all lt may h = at_place key at state (m.Repair tag at epoch stamp value) all lt refl may h (at.0 == key.0) refl (λ _. refl)
taken_greatest key state (m.Confirm tag at stamp) all lt may h = at_place key at state (m.Confirm tag at stamp) all lt refl may h (at.0 == key.0) refl (λ _. refl)
taken_greatest key state (m.Freeze tag at epoch) all lt may h = at_place key at state (m.Freeze tag at epoch) all lt refl may h (at.0 == key.0) refl (λ _. refl)
taken_greatest key state (m.Seed tag at epoch stamp value) all lt may h =
    at_place key at state (m.Seed tag at epoch stamp value) all lt refl may h (at.0 == key.0) refl (other_key key at (kept_at state key) epoch stamp value)
taken_greatest key state (m.Push tag at stamp onward value) all lt may h =
    at_place key at state (m.Push tag at stamp onward value) all lt refl may h (at.0 == key.0) refl (other_key key at (kept_at state key) stamp.epoch stamp value)
taken_greatest key state (m.Lookup tag at) all lt may h = none_more all (kept_at state key) h
taken_greatest key state (m.Switch tag at closing next) all lt may h = none_more all (kept_at state key) h
taken_greatest key state (m.Have tag replica version mark value) all lt may h = none_more all (kept_at state key) h
taken_greatest key state (m.Yes tag replica) all lt may h = none_more all (kept_at state key) h
taken_greatest key state (m.Held tag replica stamp) all lt may h = none_more all (kept_at state key) h
taken_greatest key state (m.Gone tag replica epoch) all lt may h = none_more all (kept_at state key) h
taken_greatest key state (m.Here tag at epoch policy latest_epoch latest_policy) all lt may h = none_more all (kept_at state key) h
taken_greatest key state (m.Switched tag at done epoch) all lt may h = none_more all (kept_at state key) h
