-- How lists of calls change a pool's slots: no generation falls, and what is gone stays gone.
use Rattle.std.proofs.Common.{◌≡◌, ◌⊎◌, ℕ, zero, suc, ◌+◌, ◌<◌, ◌≤◌, Bool, true, false, cond, eqb, List, [], ◌∷◌, get_or, set, Option, Some, None, is_some, slice_get, refl, sym, ap, subst, ◌∙◌, inl, inr, arith, true≢false, get_or-set_same, get_or-set_other}
use Rattle.std.specs.Prelude.{option_and_then}
use Rattle.std.specs.Option.{option_map_or}
use Rattle.std.proofs.lemmas.Bool.{cases_eq, eqb-true}
use Rattle.std.proofs.lemmas.Option.{slice_get_within, get_or_from_slice_get}
use Rattle.slot_pool.specs.declared.handles.Handle.{Handle}
use Rattle.slot_pool.specs.Slots.{Content, Empty, Holds, Retired, Slot, is_empty, is_retired, item_of, new_slot, full_slot, emptied_slot, generation_at, is_retired_at, item_for, item_at, IsLive, next_handle, with_item, without_item, after_put, after_take, after_write}
use Rattle.slot_pool.specs.Calls.{Call, Read, Put, Write, Take, after_call, after_calls, IsGone}
use Rattle.slot_pool.proofs.PoolLemmas.{next_is, live_is}

module _ {T : Type 0} where
  -- the slot of a number, or one of generation 0 where there is none
  abbrev pub slot_at : List (Slot T) → ℕ → Slot T
  slot_at slots k = get_or slots k (new_slot 0)

  generation_at-slot : (slots : List (Slot T)) (k : ℕ) → generation_at slots k ≡ (slot_at slots k).generation
  generation_at-slot [] k = refl
  generation_at-slot (slot ∷ slots) zero = refl
  generation_at-slot (slot ∷ slots) (suc k) = generation_at-slot slots k

  is_retired_at-slot : (slots : List (Slot T)) (k : ℕ) → is_retired_at slots k ≡ is_retired (slot_at slots k).content
  is_retired_at-slot [] k = refl
  is_retired_at-slot (slot ∷ slots) zero = refl
  is_retired_at-slot (slot ∷ slots) (suc k) = is_retired_at-slot slots k

  no_item : (b : Bool) → cond {A = Option T} b None None ≡ None
  no_item true = refl
  no_item false = refl

  pub item_at-slot : (slots : List (Slot T)) (k generation : ℕ) → option_and_then (item_for generation) (slice_get slots k) ≡ item_for generation (slot_at slots k)
  item_at-slot [] k generation = sym (no_item (eqb 0 generation))
  item_at-slot (slot ∷ slots) zero generation = refl
  item_at-slot (slot ∷ slots) (suc k) generation = item_at-slot slots k generation

  -- a slot has become another by some calls
  pub record Follows (old new : Slot T) : Type 0 where
    pub rises : old.generation ≤ new.generation
    pub stays_full : old.generation ≡ new.generation → is_empty old.content ≡ false → is_empty new.content ≡ false
    pub stays_retired : is_retired old.content ≡ true → (is_retired new.content ≡ true) × (new.generation ≡ old.generation)

  Follows-refl : (slot : Slot T) → Follows slot slot
  Follows-refl slot = record { rises = omega arith; stays_full = λ same full. full; stays_retired = λ retired. (retired, refl) }

  Follows-trans : (a b c : Slot T) → Follows a b → Follows b c → Follows a c
  Follows-trans a b c first second =
      record {
        rises = omega (arith, first.rises, second.rises);
        stays_full = λ same full. second.stays_full (omega (arith, first.rises, second.rises)) (first.stays_full (omega (arith, first.rises, second.rises)) full);
        stays_retired = λ retired.
            let once = first.stays_retired retired in
            let twice = second.stays_retired once.0 in
            (twice.0, twice.1 ∙ once.1);
      }

  Follows-put : (generation : ℕ) (item : T) → Follows (new_slot generation) (full_slot generation item)
  Follows-put generation item =
      record { rises = omega arith; stays_full = λ same full. refl; stays_retired = λ retired. absurd (true≢false (sym retired)) }

  Follows-write : (generation : ℕ) (old new : T) → Follows (full_slot generation old) (full_slot generation new)
  Follows-write generation old new =
      record { rises = omega arith; stays_full = λ same full. refl; stays_retired = λ retired. absurd (true≢false (sym retired)) }

  Follows-take : (generation : ℕ) (item : T) → Follows (full_slot generation item) (emptied_slot generation)
  Follows-take generation item = by_last (eqb generation 4294967295)
    where
      by_last : (b : Bool) → Follows (full_slot generation item) (cond b (record { generation = generation; content = Retired }) (record { generation = generation + 1; content = Empty }))
      by_last true = record { rises = omega arith; stays_full = λ same full. refl; stays_retired = λ retired. absurd (true≢false (sym retired)) }
      by_last false = record { rises = omega arith; stays_full = λ same full. absurd (omega arith); stays_retired = λ retired. absurd (true≢false (sym retired)) }

  -- each slot has become another by some calls
  abbrev pub AllFollow : List (Slot T) → List (Slot T) → Type 0
  AllFollow old new = (k : ℕ) → Follows (slot_at old k) (slot_at new k)

  AllFollow-set : (slots : List (Slot T)) (k : ℕ) (old new : Slot T) → slice_get slots k ≡ Some old → Follows old new → AllFollow slots (set slots k new)
  AllFollow-set slots k old new there follows j =
      elim (cases_eq j k) [
        | inl same ↦
            let within = slice_get_within slots k old there in
            let before : slot_at slots k ≡ old = get_or_from_slice_get slots k old (new_slot 0) there in
            rw (same, get_or-set_same slots k new (new_slot 0) within, before) follows
        | inr differs ↦ rw (get_or-set_other slots k j new (new_slot 0) differs) (Follows-refl (slot_at slots j))
      ]

  pub AllFollow-with : (slots : List (Slot T)) (handle : Handle) (item : T) → next_handle slots ≡ Some handle → AllFollow slots (with_item slots handle item)
  AllFollow-with slots handle item next = AllFollow-set slots handle.slot (new_slot handle.generation) _ (next_is slots handle next) (Follows-put handle.generation item)

  AllFollow-put : (slots : List (Slot T)) (item : T) → AllFollow slots (after_put slots item)
  AllFollow-put slots item = by_next (next_handle slots) refl
    where
      by_next : (o : Option Handle) → next_handle slots ≡ o → AllFollow slots (option_map_or (λ handle. with_item slots handle item) o slots)
      by_next None next = λ k. Follows-refl (slot_at slots k)
      by_next (Some handle) next = AllFollow-with slots handle item next

  pub AllFollow-take : (slots : List (Slot T)) (handle : Handle) → AllFollow slots (after_take slots handle)
  AllFollow-take slots handle = by_live (is_some (item_at slots handle)) refl
    where
      by_live : (b : Bool) → is_some (item_at slots handle) ≡ b → AllFollow slots (cond b (without_item slots handle) slots)
      by_live false live = λ k. Follows-refl (slot_at slots k)
      by_live true live =
          let found = live_is slots handle live in
          AllFollow-set slots handle.slot (full_slot handle.generation found.0) _ found.1 (Follows-take handle.generation found.0)

  pub AllFollow-write : (slots : List (Slot T)) (handle : Handle) (item : T) → AllFollow slots (after_write slots handle item)
  AllFollow-write slots handle item = by_live (is_some (item_at slots handle)) refl
    where
      by_live : (b : Bool) → is_some (item_at slots handle) ≡ b → AllFollow slots (cond b (with_item slots handle item) slots)
      by_live false live = λ k. Follows-refl (slot_at slots k)
      by_live true live =
          let found = live_is slots handle live in
          AllFollow-set slots handle.slot (full_slot handle.generation found.0) _ found.1 (Follows-write handle.generation found.0 item)

  AllFollow-call : (call : Call T) (slots : List (Slot T)) → AllFollow slots (after_call call slots)
  AllFollow-call Read slots = λ k. Follows-refl (slot_at slots k)
  AllFollow-call (Put item) slots = AllFollow-put slots item
  AllFollow-call (Write handle item) slots = AllFollow-write slots handle item
  AllFollow-call (Take handle) slots = AllFollow-take slots handle

  pub AllFollow-calls : (calls : List (Call T)) (slots : List (Slot T)) → AllFollow slots (after_calls calls slots)
  AllFollow-calls [] slots = λ k. Follows-refl (slot_at slots k)
  AllFollow-calls (call ∷ calls) slots =
      λ k. Follows-trans _ _ _ (AllFollow-call call slots k) (AllFollow-calls calls (after_call call slots) k)

  -- no generation falls
  pub generations_rise : (slots : List (Slot T)) (calls : List (Call T)) (k : ℕ) → generation_at slots k ≤ generation_at (after_calls calls slots) k
  generations_rise slots calls k =
      omega (arith, (AllFollow-calls calls slots k).rises, generation_at-slot slots k, generation_at-slot (after_calls calls slots) k)

  -- what is gone stays gone
  IsGone-after : (old new : List (Slot T)) (handle : Handle) → AllFollow old new → IsGone old handle → IsGone new handle
  IsGone-after old new handle follow gone =
      elim gone [
        | inl lower ↦ inl (omega (arith, (follow handle.slot).rises, generation_at-slot old handle.slot, generation_at-slot new handle.slot))
        | inr retired ↦ inr (is_retired_at-slot new handle.slot ∙ ((follow handle.slot).stays_retired (sym (is_retired_at-slot old handle.slot) ∙ retired)).0)
      ]

  retired_item : (content : Content T) → is_retired content ≡ true → item_of content ≡ None
  retired_item Empty retired = refl
  retired_item (Holds item) retired = absurd (true≢false (sym retired))
  retired_item Retired retired = refl

  pub none_for : (generation : ℕ) (slot : Slot T) → (slot.generation ≡ generation → item_of slot.content ≡ None) → item_for generation slot ≡ None
  none_for generation slot none = by_test (eqb slot.generation generation) refl
    where
      by_test : (b : Bool) → eqb slot.generation generation ≡ b → cond b (item_of slot.content) None ≡ None
      by_test true same = none (eqb-true _ _ same)
      by_test false differs = refl

  -- what is gone doesn't answer
  gone_item : (slots : List (Slot T)) (handle : Handle) → IsGone slots handle → item_at slots handle ≡ None
  gone_item slots handle gone =
      item_at-slot slots handle.slot handle.generation
      ∙ none_for handle.generation (slot_at slots handle.slot) (λ same. elim gone [
        | inl lower ↦ absurd (omega (arith, generation_at-slot slots handle.slot))
        | inr retired ↦ retired_item _ (sym (is_retired_at-slot slots handle.slot) ∙ retired)
      ])

  pub gone_for_good : (slots : List (Slot T)) (calls : List (Call T)) (handle : Handle) → IsGone slots handle → item_at (after_calls calls slots) handle ≡ None
  gone_for_good slots calls handle gone = gone_item _ handle (IsGone-after slots _ handle (AllFollow-calls calls slots) gone)

  gone_next : (slots : List (Slot T)) (handle : Handle) → IsGone slots handle → next_handle slots ≡ Some handle → ⊥
  gone_next slots handle gone next =
      let there = get_or_from_slice_get slots handle.slot _ (new_slot 0) (next_is slots handle next) in
      let at_generation : (slot_at slots handle.slot).generation ≡ handle.generation = ap (λ (slot : Slot T). slot.generation) there in
      let at_content = ap (λ (slot : Slot T). is_retired slot.content) there in
      elim gone [
        | inl lower ↦ omega (arith, generation_at-slot slots handle.slot)
        | inr retired ↦ true≢false (sym retired ∙ is_retired_at-slot slots handle.slot ∙ at_content)
      ]

  pub gone_never_next : (slots : List (Slot T)) (calls : List (Call T)) (handle : Handle) → IsGone slots handle → next_handle (after_calls calls slots) ≡ Some handle → ⊥
  gone_never_next slots calls handle gone = gone_next _ handle (IsGone-after slots _ handle (AllFollow-calls calls slots) gone)

  emptied_gone : (generation : ℕ) (b : Bool) (slot : Slot T) → slot ≡ cond b (record { generation = generation; content = Retired }) (record { generation = generation + 1; content = Empty }) → (generation < slot.generation) ⊎ (is_retired slot.content ≡ true)
  emptied_gone generation true slot same = inr (ap (λ (slot : Slot T). is_retired slot.content) same)
  emptied_gone generation false slot same = inl (let raised = ap (λ (slot : Slot T). slot.generation) same in omega arith)

  -- a taken handle is gone
  taken_gone : (slots : List (Slot T)) (handle : Handle) → IsLive slots handle → IsGone (after_take slots handle) handle
  taken_gone slots handle live =
      let found = live_is slots handle live in
      let within = slice_get_within slots handle.slot _ found.1 in
      let now : slot_at (without_item slots handle) handle.slot ≡ emptied_slot handle.generation =
      get_or-set_same slots handle.slot (emptied_slot handle.generation) (new_slot 0) within in
      subst (λ b. IsGone (cond b (without_item slots handle) slots) handle) (sym live)
      (elim (emptied_gone handle.generation (eqb handle.generation 4294967295) (slot_at (without_item slots handle) handle.slot) now) [
        | inl lower ↦ inl (omega (arith, generation_at-slot (without_item slots handle) handle.slot))
        | inr retired ↦ inr (is_retired_at-slot (without_item slots handle) handle.slot ∙ retired)
      ])

  pub taken_for_good : (slots : List (Slot T)) (calls : List (Call T)) (handle : Handle) → IsLive slots handle → item_at (after_calls calls (after_take slots handle)) handle ≡ None
  taken_for_good slots calls handle live = gone_for_good (after_take slots handle) calls handle (taken_gone slots handle live)
