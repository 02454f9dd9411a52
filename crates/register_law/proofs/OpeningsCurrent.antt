-- The current epoch of a key changes only by a Switch of the key, and each published epoch has a quorum policy for a strong key.
use Rattle.std.proofs.Common.{◌≡◌, ◌⊎◌, inl, inr, ℕ, ◌<◌, ◌≤◌, Bool, true, false, List, [], ◌∷◌, refl, sym, ap, ◌∙◌, subst, arith, zero, suc, ◌==◌, ◌&&◌, nat_lt, nat_le, length, if◌then◌else◌, slice_set, slice_index, Contains, ◌+◌, ◌-◌, ◌++◌, slice_index_or, unwrap_or, is_some, Option, Some, None, find, eqb-true, ltb-true, leb-true, leb-false}
use Rattle.std.proofs.lemmas.List.{length_push}
use Rattle.std.specs.Option.{option_map_or}
use Rattle.register_law.proofs.Words.{KeyId, Message, Tag, State, current_of, latest, can_switch, with_current, Store, Happening, Happened, directory_took, published, WasSent, IsQuorumPolicy, Policy, Direct, Relay, is_strong, no_policy, set_of, table_in, after_publish, table_after, table_fault, PublishFault, SetPolicy, policy_of, is_strong_key, length-set, range_with_len, get_or-map-range_with_len, get_or-range_with_len, length-range_with_len, among, same_key, and_left, and_right, get_or-set_same}
use Rattle.wire_msg.specs.declared.actor.Actor.TheVariants as to
use Rattle.wire_msg.specs.declared.message.Message.TheVariants as m
use Rattle.epoch_directory.specs.Step.{after_switch, step}
use Rattle.span_base.specs.declared.policy.Policy.TheVariants.{Strong}
use Rattle.wire_msg.specs.Sound.{is_sound_policy}
use Rattle.wire_msg.proofs.SoundTest.{decide_sound}
use Rattle.epoch_directory.specs.declared.table.PublishFault.TheVariants.{NotQuorum}
use Rattle.epoch_directory.specs.State.{policy_in, set_count, is_strong_set}
use Rattle.epoch_directory.specs.Tables.{listed, policy_after, is_quorum_policy, fault_of_listed, fault_at}
use Rattle.register_law.proofs.Basics.{is_made}
use Rattle.register_law.proofs.Growth.{policy_stays}
use Rattle.std.proofs.Math.Seq.{get_or-append_seam}
use Rattle.register_law.proofs.Kept.{set_cases}

-- what stands at a place after a change
number_cases : (xs : List ℕ) (i j y : ℕ) → (slice_index (slice_set xs i y) j ≡ slice_index xs j) ⊎ ((j ≡ i) × (slice_index (slice_set xs i y) j ≡ y))
number_cases xs i j y = set_cases xs i j y 0

number_there : (xs : List ℕ) (i y : ℕ) → i < length xs → slice_index (slice_set xs i y) i ≡ y
number_there xs i y lt = get_or-set_same xs i y 0 lt

-- the test of a Switch
pub record CanSwitch (state : State) (key : KeyId) (closing opening : ℕ) : Type 0 where
  pub current : current_of state key ≡ closing
  pub later : closing < opening
  pub published : opening ≤ latest state

pub can_is : (state : State) (key : KeyId) (closing opening : ℕ) → can_switch state key closing opening ≡ true → CanSwitch state key closing opening
can_is state key closing opening h =
    let both = and_left (current_of state key == closing && nat_lt closing opening) (nat_le opening (latest state)) h in
    record {
      current = eqb-true (current_of state key) closing (and_left (current_of state key == closing) (nat_lt closing opening) both);
      later = ltb-true closing opening (and_right (current_of state key == closing) (nat_lt closing opening) both);
      published = leb-true opening (latest state) (and_right (current_of state key == closing && nat_lt closing opening) (nat_le opening (latest state)) h);
    }

-- the current epoch after an event
pub data CurrentAfter (key : KeyId) (s : Store) (h : Happening) : Type 0 where
  same_current : current_of h.store.directory key ≡ current_of s.directory key → CurrentAfter key s h
  switched : (tag : Tag) (closing opening : ℕ) → WasSent s (m.Switch tag key closing opening) → CanSwitch s.directory key closing opening → current_of h.store.directory key ≡ opening → CurrentAfter key s h

at_switch : (key : KeyId) (s : Store) (h : Happening) (tag : Tag) (at : KeyId) (closing opening : ℕ) (b : Bool) → can_switch s.directory at closing opening ≡ b → Contains s.sent (record { to = to.Directory; message = m.Switch tag at closing opening })
    → h.store.directory ≡ (if b then with_current s.directory at opening else s.directory) → CurrentAfter key s h
at_switch key s h tag at closing opening false can sent is = same_current (ap (λ (x : State). current_of x key) is)
at_switch key s h tag at closing opening true can sent is =
    elim (number_cases s.directory.current at.0 key.0 opening) as (λ _. CurrentAfter key s h) [
      | inl same ↦ same_current (ap (λ (x : State). current_of x key) is ∙ same)
      | inr new ↦ (let k : at ≡ key = same_key at key (sym new.0) in
          switched tag closing opening (to.Directory, subst (λ (x : KeyId). Contains s.sent (record { to = to.Directory; message = m.Switch tag x closing opening })) k sent)
          (subst (λ (x : KeyId). CanSwitch s.directory x closing opening) k (can_is s.directory at closing opening can)) (ap (λ (x : State). current_of x key) is ∙ new.1))
    ]

taken_current : (key : KeyId) (s : Store) (h : Happening) (message : Message) → Contains s.sent (record { to = to.Directory; message = message }) → h.store.directory ≡ (step s.directory message).state → CurrentAfter key s h
taken_current key s h (m.Switch tag at closing opening) sent is = at_switch key s h tag at closing opening (can_switch s.directory at closing opening) refl sent is
taken_current key s h message sent is = same_current (ap (λ (x : State). current_of x key) is)

pub current_after : (key : KeyId) (s : Store) (h : Happening) → Happened s h → CurrentAfter key s h
current_after key s h (directory_took message sent is) = taken_current key s h message sent (ap (λ (x : Happening). x.store.directory) is)
current_after key s h o = same_current (ap (λ (x : Happening). current_of x.store.directory key) (is_made s h o))

switched_length : (state : State) (b : Bool) (key : KeyId) (epoch : ℕ) → length (if b then with_current state key epoch else state).current ≡ length state.current
switched_length state true key epoch = length-set state.current key.0 epoch
switched_length state false key epoch = refl

taken_length : (state : State) (message : Message) → length (step state message).state.current ≡ length state.current
taken_length state (m.Switch tag at closing opening) = switched_length state (can_switch state at closing opening) at opening
taken_length state message = refl

-- as many keys as before
pub keys_stay : (s : Store) (h : Happening) → Happened s h → length h.store.directory.current ≡ length s.directory.current
keys_stay s h (directory_took message sent is) = ap (λ (x : Happening). length x.store.directory.current) is ∙ taken_length s.directory message
keys_stay s h o = ap (λ (x : Happening). length x.store.directory.current) (is_made s h o)

-- a Switch that is done makes its epoch current
pub done_is_current : (state : State) (key : KeyId) (closing opening : ℕ) → key.0 < length state.current → can_switch state key closing opening ≡ true → current_of (after_switch state key closing opening) key ≡ opening
done_is_current state key closing opening lt can =
    ap (λ (b : Bool). current_of (if b then with_current state key opening else state) key) can ∙ number_there state.current key.0 opening lt

-- ---- each published epoch has a quorum policy for a strong key

-- nothing is wrong with any that are tried
no_fault : (f : ℕ → Option PublishFault) (xs : List ℕ) → option_map_or f (find (λ x. is_some (f x)) xs) None ≡ None → (x : ℕ) → Contains xs x → f x ≡ None
no_fault f [] h x c = absurd (let lt = c.1 in omega arith)
no_fault f (y ∷ ys) h x c = by (f y) refl h (λ rest. no_fault f ys rest x)
  where
    by : (o : Option PublishFault) → f y ≡ o → option_map_or f (if is_some o then Some y else find (λ z. is_some (f z)) ys) None ≡ None
        → (option_map_or f (find (λ z. is_some (f z)) ys) None ≡ None → Contains ys x → f x ≡ None) → f x ≡ None
    by None is rest later = elim (among y ys x c) as (λ _. f x ≡ None) [ inl same ↦ ap f same ∙ is | inr more ↦ later rest more ]
    by (Some cause) is wrong later = absurd (let e = sym is ∙ wrong in cc)

quorum_is : (policy : Policy) → is_quorum_policy policy ≡ true → IsQuorumPolicy policy
unfolding is_sound_policy
quorum_is (Direct f replicas primary) h = absurd (cc)
quorum_is (Relay f replicas primary parent) h = absurd (cc)
quorum_is (Strong f replicas members) h = (decide_sound (Strong f replicas members)).0 h

-- a set with which nothing is wrong is listed with a quorum policy
listed_right : (set : ℕ) (o : Option Policy) (other : Policy) → fault_of_listed set o ≡ None → IsQuorumPolicy (unwrap_or o other)
listed_right set None other h = absurd (cc)
listed_right set (Some policy) other h = by (is_quorum_policy policy) refl h
  where
    by : (b : Bool) → is_quorum_policy policy ≡ b → (if b then None else Some (NotQuorum (record { 0 = set }))) ≡ None → IsQuorumPolicy policy
    by true is k = quorum_is policy is
    by false is k = absurd (cc)

right_at : (b : Bool) (set : ℕ) (o : Option Policy) (other : Policy) → b ≡ true → (if b then fault_of_listed set o else None) ≡ None → IsQuorumPolicy (unwrap_or o other)
right_at true set o other is h = listed_right set o other h
right_at false set o other is h = absurd (cc)

strong_there : (xs : List Policy) (i : ℕ) → is_strong (slice_index_or xs i no_policy) ≡ true → i < length xs
strong_there [] i h = absurd (cc)
strong_there (x ∷ xs) zero h = omega arith
strong_there (x ∷ xs) (suc i) h = let later = strong_there xs i h in omega arith

-- what stands at the end
pub last_is : {X : Type 0} → (xs : List X) (y d : X) (i : ℕ) → i ≡ length xs → slice_index_or (xs ++ y ∷ []) i d ≡ y
last_is {X} xs y d i e = ap (λ (n : ℕ). slice_index_or (xs ++ y ∷ []) n d) e ∙ get_or-append_seam xs y [] d

-- the set's policy in a new epoch
new_policy : (state : State) (table : List SetPolicy) (set : ℕ) → table_fault state table ≡ None → is_strong_set state set ≡ true → IsQuorumPolicy (policy_in (after_publish state table) (latest state + 1) set)
unfolding table_fault
new_policy state table set right strong =
    let there : set < set_count state = strong_there (table_in state 1) set strong in
    let tried : Contains (range_with_len 0 (set_count state)) set =
    (set, (let len = length-range_with_len 0 (set_count state) in omega arith), get_or-range_with_len 0 (set_count state) set set there ∙ omega arith) in
    let none : fault_at state table set ≡ None = no_fault (fault_at state table) (range_with_len 0 (set_count state)) right set tried in
    let quorum : IsQuorumPolicy (policy_after state table set) = right_at (is_strong_set state set) set (listed table set) (policy_in state (latest state) set) strong none in
    let table_is : table_in (after_publish state table) (latest state + 1) ≡ table_after state table = last_is state.tables (table_after state table) [] (latest state + 1 - 1) (omega arith) in
    let policy_is : slice_index_or (table_after state table) set no_policy ≡ policy_after state table set = get_or-map-range_with_len (policy_after state table) 0 (set_count state) set set no_policy there (omega arith) in
    subst IsQuorumPolicy (sym (ap (λ (x : List Policy). slice_index_or x set no_policy) table_is ∙ policy_is)) quorum

pub quorum_is_strong : (policy : Policy) → IsQuorumPolicy policy → is_strong policy ≡ true
quorum_is_strong (Direct f replicas primary) h = absurd h
quorum_is_strong (Relay f replicas primary parent) h = absurd h
quorum_is_strong (Strong f replicas members) h = refl

-- an epoch that is published after an event was published before, or the event published it
pub data EpochAfter (s : Store) (h : Happening) (e : ℕ) : Type 0 where
  was_out : e ≤ latest s.directory → EpochAfter s h e
  is_next : (table : List SetPolicy) → table_fault s.directory table ≡ None → h.store.directory ≡ after_publish s.directory table → e ≡ latest s.directory + 1 → EpochAfter s h e

same_latest : (s : Store) (h : Happening) (e : ℕ) → latest h.store.directory ≡ latest s.directory → e ≤ latest h.store.directory → EpochAfter s h e
same_latest s h e same le = was_out (omega arith)

switched_tables : (state : State) (b : Bool) (key : KeyId) (epoch : ℕ) → latest (if b then with_current state key epoch else state) ≡ latest state
switched_tables state true key epoch = refl
switched_tables state false key epoch = refl

taken_latest : (state : State) (message : Message) → latest (step state message).state ≡ latest state
taken_latest state (m.Switch tag key closing opening) = switched_tables state (can_switch state key closing opening) key opening
taken_latest state _ = refl

pub epoch_after : (s : Store) (h : Happening) → Happened s h → (e : ℕ) → e ≤ latest h.store.directory → EpochAfter s h e
epoch_after s h (directory_took message sent is) e le = same_latest s h e (ap (λ (x : Happening). latest x.store.directory) is ∙ taken_latest s.directory message) le
epoch_after s h (published table right is) e le =
    let directory_is : h.store.directory ≡ after_publish s.directory table = ap (λ (x : Happening). x.store.directory) is in
    let more : latest h.store.directory ≡ latest s.directory + 1 = ap latest directory_is ∙ length_push s.directory.tables (table_after s.directory table) in
    by (nat_le e (latest s.directory)) refl directory_is (omega arith)
  where
    by : (b : Bool) → nat_le e (latest s.directory) ≡ b → h.store.directory ≡ after_publish s.directory table → e ≤ latest s.directory + 1 → EpochAfter s h e
    by true is_le directory_is le_next = was_out (leb-true e (latest s.directory) is_le)
    by false is_above directory_is le_next = let gt = leb-false e (latest s.directory) is_above in is_next table right directory_is (omega arith)
epoch_after s h o e le = same_latest s h e (ap (λ (x : Happening). latest x.store.directory) (is_made s h o)) le

quorum_at : (key : KeyId) (s : Store) (h : Happening) → Happened s h → ((e : ℕ) → 1 ≤ e → e ≤ latest s.directory → IsQuorumPolicy (policy_of s key e)) → is_strong_key s key ≡ true → (e : ℕ) → 1 ≤ e → EpochAfter s h e → IsQuorumPolicy (policy_of h.store key e)
quorum_at key s h is was strong e some (was_out le) = subst IsQuorumPolicy (sym (policy_stays key s h is e some le)) (was e some le)
quorum_at key s h is was strong e some (is_next table right directory_is e_is) =
    subst (λ (x : State). IsQuorumPolicy (policy_in x e (set_of x key))) (sym directory_is)
    (subst (λ (n : ℕ). IsQuorumPolicy (policy_in (after_publish s.directory table) n (set_of s.directory key))) (sym e_is)
    (new_policy s.directory table (set_of s.directory key) right strong))

-- every event keeps them quorum policies
pub quorums_kept : (key : KeyId) (s : Store) (h : Happening) → Happened s h → ((e : ℕ) → 1 ≤ e → e ≤ latest s.directory → IsQuorumPolicy (policy_of s key e)) → 1 ≤ latest s.directory → (e : ℕ) → 1 ≤ e → e ≤ latest h.store.directory → IsQuorumPolicy (policy_of h.store key e)
quorums_kept key s h is was some e first last = quorum_at key s h is was (quorum_is_strong (policy_of s key 1) (was 1 (omega arith) some)) e first (epoch_after s h is e last)
