-- What a pool's slots tell, and how each call changes them.
use Rattle.std.proofs.Common.{◌≡◌, ◌⊎◌, ◌↔◌, ℕ, zero, suc, ◌+◌, ◌-◌, ◌<◌, ◌≤◌, Bool, true, false, not, cond, eqb, ltb, List, [], ◌∷◌, map, replicate, length, get_or, set, Option, Some, None, IsSome, count_by, slice_get, refl, sym, ap, ◌∙◌, inl, inr, arith, length-set, true≢false}
use Rattle.std.specs.Prelude.{position, option_map, option_and_then}
use Rattle.std.specs.List.{prefix_len}
use Rattle.std.proofs.lemmas.Bool.{eqb-true, eq-eqb}
use Rattle.std.proofs.lemmas.Bool.Decides.{nat_tests}
use Rattle.std.proofs.lemmas.List.{map-set, length-map, get_or-map, set-get_or, length-replicate}
use Rattle.std.proofs.lemmas.List.Sums.{sum_by-set, sum_by-cons, count_by-le-length, prefix_len-le-length}
use Rattle.std.proofs.lemmas.List.Quantifiers.{position-Some}
use Rattle.std.proofs.lemmas.Option.{none-some, same_Some, slice_get-map, slice_get_within, slice_get-get_or, slice_get_read, get_or_from_slice_get}
use Rattle.slot_pool.specs.declared.handles.Handle.{Handle}
use Rattle.slot_pool.specs.declared.slots.Slot.{Slot as StoredSlot}
use Rattle.slot_pool.specs.declared.slots.Content.{Content as StoredContent}
use Rattle.slot_pool.specs.declared.slots.Content.TheVariants as stored
use Rattle.slot_pool.specs.Stored.{slot_of, content_of, IsSound}
use Rattle.slot_pool.specs.Slots.{Content, Empty, Holds, Retired, Slot, is_empty, item_of, new_slot, full_slot, emptied_slot, live_count, first_empty, generation_at, item_for, item_at, IsLive, handle_of, next_handle}

-- the first flag is that of the first element that passes
prefix_len-map : {X : Type 0} (p : X → Bool) (xs : List X) → prefix_len (λ b. not b) (map p xs) ≡ prefix_len (λ x. not (p x)) xs
prefix_len-map p [] = refl
prefix_len-map p (x ∷ xs) = ap (λ n. cond (not (p x)) (1 + n) 0) (prefix_len-map p xs)

pub position-map : {X : Type 0} (p : X → Bool) (xs : List X) → position (λ b. b) (map p xs) ≡ position p xs
position-map p xs = rw (prefix_len-map p xs, length-map xs p) refl

full_count_more : (b : Bool) (n m k : ℕ) → m ≤ k → ((n ≡ k) ↔ (m ≡ k)) → (cond b (1 + n) 0 ≡ suc k) ↔ (cond b 1 0 + m ≡ suc k)
full_count_more true n m k small same =
    (λ e. let more = same.0 (omega arith) in omega arith, λ e. let more = same.1 (omega arith) in omega arith)
full_count_more false n m k small same = (λ e. absurd (omega arith), λ e. absurd (omega arith))

-- no element passes exactly where all are counted that do not
full_count : {X : Type 0} (q : X → Bool) (xs : List X) → (prefix_len q xs ≡ length xs) ↔ (count_by q xs ≡ length xs)
full_count q [] = (λ e. refl, λ e. refl)
full_count q (x ∷ xs) =
    rw (sum_by-cons (λ y. cond (q y) 1 0) x xs) (full_count_more (q x) (prefix_len q xs) (count_by q xs) (length xs) (count_by-le-length q xs) (full_count q xs))

-- `position` from the place that it counts to
none_place : (n m : ℕ) → n ≤ m → cond (ltb n m) (Some n) None ≡ None → n ≡ m
none_place n m within none = grind (arith, nat_tests)

some_place : (n m k : ℕ) → cond (ltb n m) (Some n) None ≡ Some k → n < m
some_place n m k some = grind (arith, nat_tests)

eqb-refl : (n : ℕ) → eqb n n ≡ true
eqb-refl n = eq-eqb n n refl

-- a slot is empty after a take, but for the last generation
pub emptied_below : (T : Type 0) (generation : ℕ) → generation < 4294967295 → is_empty (emptied_slot {T = T} generation).content ≡ true
emptied_below T generation below =
    let differs : eqb generation 4294967295 ≡ false = grind (arith, nat_tests) in
    rw differs refl

pub emptied_last : (T : Type 0) (generation : ℕ) → generation ≡ 4294967295 → is_empty (emptied_slot {T = T} generation).content ≡ false
emptied_last T generation last = rw last refl

module _ {T : Type 0} where
  -- 1 where the slot counts as live
  abbrev weight : Slot T → ℕ
  weight slot = cond (not (is_empty slot.content)) 1 0

  -- with no empty slot each slot is live
  pub full_where_none : (slots : List (Slot T)) → first_empty slots ≡ None → live_count slots ≡ length slots
  full_where_none slots none =
      (full_count (λ (slot : Slot T). not (is_empty slot.content)) slots).0
      (none_place _ _ (prefix_len-le-length (λ (slot : Slot T). not (is_empty slot.content)) slots) none)

  -- with an empty slot not each slot is live
  pub not_full_where_some : (slots : List (Slot T)) (k : ℕ) → first_empty slots ≡ Some k → live_count slots ≡ length slots → ⊥
  not_full_where_some slots k some full =
      omega (arith, some_place _ _ k some, (full_count (λ (slot : Slot T). not (is_empty slot.content)) slots).1 full)

  empty_content : (content : Content T) → is_empty content ≡ true → content ≡ Empty
  empty_content Empty empty = refl
  empty_content (Holds item) empty = absurd (true≢false (sym empty))
  empty_content Retired empty = absurd (true≢false (sym empty))

  same_slot : (generation : ℕ) (content : Content T) (slot : Slot T) → slot.generation ≡ generation → slot.content ≡ content → slot ≡ record { generation = generation; content = content }
  same_slot generation content slot at_generation at_content = rw (← at_generation, ← at_content) refl

  -- the next handle is that of an empty slot at its generation
  pub next_is : (slots : List (Slot T)) (handle : Handle) → next_handle slots ≡ Some handle → slice_get slots handle.slot ≡ Some (new_slot handle.generation)
  next_is slots handle next = by_first (first_empty slots) refl next
    where
      by_first : (o : Option ℕ) → first_empty slots ≡ o → option_map (handle_of slots) o ≡ Some handle → slice_get slots handle.slot ≡ Some (new_slot handle.generation)
      by_first None first found = absurd (none-some handle found)
      by_first (Some k) first found =
          let place = position-Some (λ (slot : Slot T). is_empty slot.content) slots k (new_slot 0) first in
          let there = slice_get-get_or slots k (new_slot 0) place.0 in
          let same = same_Some (handle_of slots k) handle found in
          let at_slot : k ≡ handle.slot = ap (λ (h : Handle). h.slot) same in
          let at_generation : generation_at slots k ≡ handle.generation = ap (λ (h : Handle). h.generation) same in
          let generation : (get_or slots k (new_slot 0)).generation ≡ handle.generation = rw there at at_generation in
          let slot = same_slot handle.generation Empty (get_or slots k (new_slot 0)) generation (empty_content _ place.1) in
          rw (← at_slot) (there ∙ ap Some slot)

  -- a live handle's slot holds an item at its generation
  pub live_is : (slots : List (Slot T)) (handle : Handle) → IsLive slots handle → (item : T) × (slice_get slots handle.slot ≡ Some (full_slot handle.generation item))
  live_is slots handle live = by_slot (slice_get slots handle.slot) refl live
    where
      by_content : (slot : Slot T) (content : Content T) → slot.content ≡ content → slot.generation ≡ handle.generation → slice_get slots handle.slot ≡ Some slot → IsSome (item_of content) → (item : T) × (slice_get slots handle.slot ≡ Some (full_slot handle.generation item))
      by_content slot Empty at_content at_generation there some = absurd (true≢false (sym some))
      by_content slot (Holds item) at_content at_generation there some = (item, there ∙ ap Some (same_slot handle.generation (Holds item) slot at_generation at_content))
      by_content slot Retired at_content at_generation there some = absurd (true≢false (sym some))

      by_test : (slot : Slot T) (b : Bool) → eqb slot.generation handle.generation ≡ b → slice_get slots handle.slot ≡ Some slot → IsSome (cond b (item_of slot.content) None) → (item : T) × (slice_get slots handle.slot ≡ Some (full_slot handle.generation item))
      by_test slot true equal there some = by_content slot slot.content refl (eqb-true _ _ equal) there some
      by_test slot false equal there some = absurd (true≢false (sym some))

      by_slot : (o : Option (Slot T)) → slice_get slots handle.slot ≡ o → IsSome (option_and_then (item_for handle.generation) o) → (item : T) × (slice_get slots handle.slot ≡ Some (full_slot handle.generation item))
      by_slot None there some = absurd (true≢false (sym some))
      by_slot (Some slot) there some = by_test slot (eqb slot.generation handle.generation) refl there some

  -- a handle answers with the item that its slot holds at its generation
  pub item_at-full : (slots : List (Slot T)) (handle : Handle) (item : T) → slice_get slots handle.slot ≡ Some (full_slot handle.generation item) → item_at slots handle ≡ Some item
  item_at-full slots handle item there = rw (there, eqb-refl handle.generation) refl

  -- a write of one slot changes the count by that slot
  pub live_count-set : (slots : List (Slot T)) (k : ℕ) (old new : Slot T) → slice_get slots k ≡ Some old → live_count (set slots k new) + weight old ≡ live_count slots + weight new
  live_count-set slots k old new there =
      rw (get_or_from_slice_get slots k old old there) at (sum_by-set weight slots k new old (slice_get_within slots k old there))

module _ {T : Type 0} (xs : List (StoredSlot T)) (free : List Bool) (live : ℕ) (sound : IsSound xs free live) (k : ℕ) (old : Slot T) (there : slice_get (map slot_of xs) k ≡ Some old) where
  pub stored_within : k < length xs
  stored_within = rw (length-map xs slot_of) at (slice_get_within (map slot_of xs) k old there)

  -- the slot has a flag
  pub flag_within : k < length free
  flag_within = rw (sound.flagged, length-map, length-map) stored_within

  -- a slot is written, with its flag and its part of the count
  pub IsSound-set : (written : StoredSlot T) (flags : List Bool) (count : ℕ) → flags ≡ set free k (is_empty (slot_of written).content) → count + weight old ≡ live + weight (slot_of written) → IsSound (set xs k written) flags count
  IsSound-set written flags count same_flags same_count =
      record {
        capacity = omega (arith, length-set xs k written, sound.capacity);
        counted = rw (map-set slot_of xs k written) (omega (arith, live_count-set (map slot_of xs) k old (slot_of written) there, sound.counted));
        flagged = rw (map-set slot_of xs k written, map-set (λ (slot : Slot T). is_empty slot.content) (map slot_of xs) k (slot_of written), ← sound.flagged) same_flags;
      }

  -- the flag of the slot is right already
  pub flag_kept : (flag : Bool) → is_empty old.content ≡ flag → free ≡ set free k flag
  flag_kept flag same =
      let read : get_or free k false ≡ flag =
      rw (sound.flagged) (get_or-map (λ (slot : Slot T). is_empty slot.content) (map slot_of xs) k old false (slice_get_within (map slot_of xs) k old there) ∙ ap (λ (slot : Slot T). is_empty slot.content) (get_or_from_slice_get (map slot_of xs) k old old there) ∙ same) in
      sym (rw read at (set-get_or free k false))

module _ {T : Type 0} where
  -- what is read at a slot is the slot that is there
  pub read_slot : (xs : List (StoredSlot T)) (k : ℕ) (slot : Slot T) (read : StoredSlot T) → slice_get (map slot_of xs) k ≡ Some slot → read ≡ get_or xs k read → slot_of read ≡ slot
  read_slot xs k slot read there same =
      let within : k < length xs = rw (length-map xs slot_of) at (slice_get_within (map slot_of xs) k slot there) in
      let here = slice_get_read xs (length xs) k read refl within same in
      same_Some (slot_of read) slot (sym (slice_get-map slot_of xs k ∙ ap (λ o. option_map slot_of o) here) ∙ there)

  -- an empty slot holds nothing, and is not retired
  pub not_empty_is : (content : StoredContent T) (generation : ℕ) (read : StoredSlot T) → slot_of read ≡ new_slot generation → content ≡ read.content → ((item : T) × (content ≡ stored.Holds item)) ⊎ (content ≡ stored.Retired) → ⊥
  not_empty_is content generation read same there found =
      let seen : content_of content ≡ Empty = rw there (ap (λ (slot : Slot T). slot.content) same) in
      elim found [
        | inl holds ↦ let held = rw holds.1 at seen in cc
        | inr retired ↦ let gone = rw retired at seen in cc
      ]

  -- a full slot is neither empty nor retired
  pub full_is : (content : StoredContent T) (generation : ℕ) (item : T) (read : StoredSlot T) → slot_of read ≡ full_slot generation item → content ≡ read.content → (content ≡ stored.Empty) ⊎ (content ≡ stored.Retired) → ⊥
  full_is content generation item read same there found =
      let seen : content_of content ≡ Holds item = rw there (ap (λ (slot : Slot T). slot.content) same) in
      elim found [
        | inl empty ↦ let none = rw empty at seen in cc
        | inr retired ↦ let gone = rw retired at seen in cc
      ]

  -- the item that is taken is the one that the slot held
  pub held_is : (item held : T) (content : StoredContent T) (generation : ℕ) (read : StoredSlot T) → slot_of read ≡ full_slot generation item → content ≡ read.content → content ≡ stored.Holds held → item ≡ held
  held_is item held content generation read same there holds =
      let seen : content_of content ≡ Holds item = rw there (ap (λ (slot : Slot T). slot.content) same) in
      let both = rw holds at seen in
      cc

module _ {T : Type 0} (xs : List (StoredSlot T)) (free : List Bool) (live : ℕ) (sound : IsSound xs free live) (k : ℕ) where
  pub IsSound-fill : (generation : ℕ) → slice_get (map slot_of xs) k ≡ Some (new_slot generation) → (kept : ℕ) (item : T) (flags : List Bool) → flags ≡ set free k false → IsSound (set xs k (record { generation = kept; content = stored.Holds item })) flags (live + 1)
  IsSound-fill generation there kept item flags same =
      IsSound-set xs free live sound k (new_slot generation) there (record { generation = kept; content = stored.Holds item }) flags (live + 1) same (omega arith)

  pub IsSound-write : (generation : ℕ) (old : T) → slice_get (map slot_of xs) k ≡ Some (full_slot generation old) → (kept : ℕ) (item : T) → IsSound (set xs k (record { generation = kept; content = stored.Holds item })) free live
  IsSound-write generation old there kept item =
      IsSound-set xs free live sound k (full_slot generation old) there (record { generation = kept; content = stored.Holds item }) free live (flag_kept xs free live sound k (full_slot generation old) there false refl) (omega arith)

  module _ (generation : ℕ) (item : T) (there : slice_get (map slot_of xs) k ≡ Some (full_slot generation item)) where
    pub live_positive : 1 ≤ live
    live_positive = omega (arith, live_count-set (map slot_of xs) k (full_slot generation item) (new_slot 0) there, sound.counted)

    pub IsSound-release : (written : StoredSlot T) → slot_of written ≡ emptied_slot generation → generation < 4294967295 → (flags : List Bool) → flags ≡ set free k true → IsSound (set xs k written) flags (live - 1)
    IsSound-release written same below flags same_flags =
        let empty : is_empty (slot_of written).content ≡ true =
        ap (λ (slot : Slot T). is_empty slot.content) same ∙ emptied_below T generation below in
        IsSound-set xs free live sound k (full_slot generation item) there written flags (live - 1) (rw empty same_flags) (rw empty (omega (arith, live_positive)))

    pub IsSound-retire : (written : StoredSlot T) → slot_of written ≡ emptied_slot generation → generation ≡ 4294967295 → IsSound (set xs k written) free live
    IsSound-retire written same last =
        let full : is_empty (slot_of written).content ≡ false =
        ap (λ (slot : Slot T). is_empty slot.content) same ∙ emptied_last T generation last in
        IsSound-set xs free live sound k (full_slot generation item) there written free live (rw full (flag_kept xs free live sound k (full_slot generation item) there false refl)) (rw full refl)

  -- the first flag is that of the first empty slot
  pub first_flag : position (λ flag. flag) free ≡ first_empty (map slot_of xs)
  first_flag = rw sound.flagged (position-map (λ (slot : Slot T). is_empty slot.content) (map slot_of xs))

  -- so the next handle is that of the first flag, at the generation that is read there
  pub next_some : (read : StoredSlot T) → first_empty (map slot_of xs) ≡ Some k → read ≡ get_or xs k read → next_handle (map slot_of xs) ≡ Some (record { slot = k; generation = read.generation })
  next_some read first same =
      let place = position-Some (λ (slot : Slot T). is_empty slot.content) (map slot_of xs) k (new_slot 0) first in
      let within : k < length xs = rw (length-map xs slot_of) at place.0 in
      let here = slice_get-map slot_of xs k ∙ ap (λ o. option_map slot_of o) (slice_get_read xs (length xs) k read refl within same) in
      rw (first, here) refl

empty_flags : (T : Type 0) (n first : ℕ) → map (λ (slot : Slot T). is_empty slot.content) (replicate n (new_slot first)) ≡ replicate n true
empty_flags T zero first = refl
empty_flags T (suc n) first = ap (λ flags. true ∷ flags) (empty_flags T n first)

no_live : (T : Type 0) (n first : ℕ) → live_count {T = T} (replicate n (new_slot first)) ≡ 0
no_live T zero first = refl
no_live T (suc n) first =
    omega (arith, sum_by-cons (λ (slot : Slot T). cond (not (is_empty slot.content)) 1 0) (new_slot first) (replicate n (new_slot first)), no_live T n first)

module _ {T : Type 0} where
  pub new_slots : (n first : ℕ) → map (slot_of {T = T}) (replicate n (record { generation = first; content = stored.Empty })) ≡ replicate n (new_slot first)
  new_slots zero first = refl
  new_slots (suc n) first = ap (λ slots. new_slot first ∷ slots) (new_slots n first)

  -- a new pool is sound
  pub IsSound-new : (xs : List (StoredSlot T)) (free : List Bool) (n first : ℕ) → n ≤ 1000000 → xs ≡ replicate n (record { generation = first; content = stored.Empty }) → free ≡ replicate n true → IsSound xs free 0
  IsSound-new xs free n first few same flags =
      let seen : map slot_of xs ≡ replicate n (new_slot first) = rw same (new_slots n first) in
      record {
        capacity = rw (same, length-replicate) few;
        counted = rw seen (sym (no_live T n first));
        flagged = rw (seen, flags) (sym (empty_flags T n first));
      }
