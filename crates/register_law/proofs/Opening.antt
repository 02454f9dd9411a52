-- Of the state that a header opens: nothing is sent, live or kept, and stamp zero is settled.
use Rattle.std.proofs.Common.{◌≡◌, ℕ, Bool, true, false, List, [], ◌∷◌, refl, sym, ap, subst, arith, zero, suc, map, replicate, length, slice_get, slice_index, slice_index_or, ◌==◌, if◌then◌else◌, Option, None, option_and_then}
use Rattle.std.proofs.lemmas.Bool.{and_from}
use Rattle.register_law.proofs.Words.{has, IsQuorumPolicy, KeyId, SetId, Policy, Direct, Relay, stamp_zero, Stamp, Message, is_strong, no_policy, KeySet, item_at, item_for, Handle, IsStrongKey, IsHeader, Proxy, Replica, Store, kept_of, key_set, no_proxy, no_replica, opening, opening_proxy, opening_replica, policy_of, proxy_at, Header, LiveCall, Ghost, first_ghost, IsKept, IsSettled, WasSent, both, is_at_most, version_before, IsLiveAt, range_with_len, common_steps}
use Rattle.span_base.specs.declared.policy.Policy.TheVariants.{Strong}
use Rattle.span_base.specs.Policy.{IsSoundPolicy}
use Rattle.slot_pool.specs.Slots.{new_slot}
use Rattle.replica_core.specs.Keeping as keeping
use Rattle.replica_core.specs.Rule as replica
use Rattle.register_law.proofs.Quorums.{count_mono}
use Rattle.register_law.proofs.MovesTook.{first_member}

-- nothing was sent
pub nothing_sent : (header : Header) (message : Message) → WasSent (opening header) message → ⊥
unfolding opening
nothing_sent header message h = let lt = h.1.1 in omega arith

-- what stands in a mapped list
in_map : {X Y : Type 0} → (f : X → Y) (P : Y → Type 0) → ((x : X) → P (f x)) → (xs : List X) (i : ℕ) (d : Y) → P d → P (slice_index_or (map f xs) i d)
in_map {X} {Y} f P all [] i d p = p
in_map {X} {Y} f P all (x ∷ xs) zero d p = all x
in_map {X} {Y} f P all (x ∷ xs) (suc i) d p = in_map f P all xs i d p

same_everywhere : {X : Type 0} → (n i : ℕ) (x : X) → slice_index_or (replicate n x) i x ≡ x
same_everywhere {X} zero i x = refl
same_everywhere {X} (suc n) zero x = refl
same_everywhere {X} (suc n) (suc i) x = same_everywhere n i x

no_item : (n : ℕ) (i generation : ℕ) → option_and_then (item_for {T = LiveCall} generation) (slice_get (replicate n (new_slot 1)) i) ≡ None
no_item zero i generation = refl
no_item (suc n) zero generation = by (1 == generation)
  where
    by : (b : Bool) → (if b then (let o : Option LiveCall = None in o) else None) ≡ None
    by true = refl
    by false = refl
no_item (suc n) (suc i) generation = no_item n i generation

-- no call lives
pub none_live : (header : Header) (p : ℕ) (handle : Handle) (call : LiveCall) → IsLiveAt (opening header) p handle call → ⊥
unfolding opening
none_live header p handle call h =
    let none : item_at (proxy_at (opening header) p).calls handle ≡ None =
    in_map (opening_proxy header) (λ (x : Proxy). item_at x.calls handle ≡ None) (λ at. no_item 64 handle.slot handle.generation) header.proxies p no_proxy refl in
    cc

-- nothing is kept
pub nothing_kept : (header : Header) (d : ℕ) (key : KeyId) → kept_of (opening header) d key ≡ keeping.opening
unfolding opening
nothing_kept header d key =
    in_map (opening_replica (length header.keys)) (λ (x : Replica). replica.kept_at x.state key ≡ keeping.opening) (λ n. same_everywhere (length header.keys) key.0 keeping.opening) (range_with_len 0 header.replicas) d no_replica refl

set_is : (keys : List SetId) (i : ℕ) → slice_index (map (λ (k : KeySet). k.set.0) (map key_set keys)) i ≡ (slice_index_or keys i (record { 0 = 0 })).0
set_is [] i = refl
set_is (x ∷ xs) zero = refl
set_is (x ∷ xs) (suc i) = set_is xs i

-- the policy of a key in the first epoch
abbrev first_policy : Header → KeyId → Policy
first_policy header key = slice_index_or header.sets (slice_index_or header.keys key.0 (record { 0 = 0 })).0 no_policy

pub policy_is : (header : Header) (key : KeyId) → policy_of (opening header) key 1 ≡ first_policy header key
unfolding opening
policy_is header key = ap (λ n. slice_index_or header.sets n no_policy) (set_is header.keys key.0)

strong_sound : (policy : Policy) → is_strong policy ≡ true → IsSoundPolicy policy → IsQuorumPolicy policy
strong_sound (Direct f replicas primary) s h = absurd (cc)
strong_sound (Relay f replicas primary parent) s h = absurd (cc)
strong_sound (Strong f replicas members) s h = h

pub first_quorum : (header : Header) (key : KeyId) → IsHeader header → IsStrongKey header key.0 → IsQuorumPolicy (first_policy header key)
first_quorum header key h k =
    strong_sound (first_policy header key) k.strong
    (h.policies (slice_index_or header.keys key.0 (record { 0 = 0 })).0 no_policy (h.key_sets key.0 (record { 0 = 0 }) k.exists))

zero_least : (t : Stamp) → is_at_most stamp_zero t ≡ true
zero_least t = grind (arith, common_steps)

-- stamp zero is settled wherever there is a policy
pub zero_settled : (key : KeyId) (s : Store) (g : Ghost) (epoch : ℕ) → IsQuorumPolicy (policy_of s key epoch) → IsSettled key s g epoch stamp_zero
zero_settled key s g epoch h =
    let m = first_member (policy_of s key epoch) h in
    let w : ℕ → Bool = has m.0.write in
    let all = count_mono w (both w (λ d. is_at_most stamp_zero (version_before key s g d epoch))) (λ d k. and_from (w d) (is_at_most stamp_zero (version_before key s g d epoch)) k (zero_least (version_before key s g d epoch))) (range_with_len 0 16) in
    record { member = m.0; is_member = m.1.there; settled = omega arith }

pub quorum_at_first : (header : Header) (key : KeyId) → IsHeader header → IsStrongKey header key.0 → IsQuorumPolicy (policy_of (opening header) key 1)
quorum_at_first header key h k = subst IsQuorumPolicy (sym (policy_is header key)) (first_quorum header key h k)

pub zero_kept : (header : Header) (key : KeyId) → IsHeader header → IsStrongKey header key.0 → IsKept key (opening header) first_ghost stamp_zero
zero_kept header key h k = record { epoch = 1; opened = (0, omega arith, refl); settled = zero_settled key (opening header) first_ghost 1 (quorum_at_first header key h k) }
