-- What a contract sees of a pool: the list of its slots, by number.
use Rattle.std.specs.Prelude.{ℕ, ◌+◌, ◌-◌, ◌^◌, ◌==◌, Bool, true, false, not, List, Option, Some, None, option_map, option_and_then, count_by, position, slice_get, slice_set, if◌then◌else◌, IsSome, is_some}
use Rattle.std.specs.Option.{option_map_or}
use Rattle.slot_pool.specs.declared.handles.Handle.{Handle}

-- what stands in a slot: nothing yet, an item, or nothing ever again
pub data Content (T : Type 0) : Type 0 where
  Empty : Content T
  Holds : T → Content T
  Retired : Content T

-- a slot has a generation and a content
pub record Slot (T : Type 0) : Type 0 where
  pub generation : ℕ
  pub content : Content T

-- the last generation that a slot can have
abbrev pub last_generation : ℕ
last_generation = 2 ^ 32 - 1

module _ {T : Type 0} where
  -- nothing stands there, so the next item may
  abbrev pub is_empty : Content T → Bool
  is_empty Empty = true
  is_empty (Holds _) = false
  is_empty Retired = false

  -- nothing may stand there again
  abbrev pub is_retired : Content T → Bool
  is_retired Empty = false
  is_retired (Holds _) = false
  is_retired Retired = true

  -- the item that stands there
  abbrev pub item_of : Content T → Option T
  item_of Empty = None
  item_of (Holds item) = Some item
  item_of Retired = None

  -- a slot in which no item has stood
  abbrev pub new_slot : ℕ → Slot T
  new_slot first = record { generation = first; content = Empty }

  -- a slot with an item
  abbrev pub full_slot : ℕ → T → Slot T
  full_slot generation item = record { generation = generation; content = Holds item }

  -- a slot whose item was taken at a generation is empty at the next, and retired after the last
  abbrev pub emptied_slot : ℕ → Slot T
  emptied_slot generation =
      if generation == last_generation
      then record { generation = generation; content = Retired }
      else record { generation = generation + 1; content = Empty }

  -- how many slots are not empty
  abbrev pub live_count : List (Slot T) → ℕ
  live_count slots = count_by (λ slot. not (is_empty slot.content)) slots

  -- the number of the first empty slot
  abbrev pub first_empty : List (Slot T) → Option ℕ
  first_empty slots = position (λ slot. is_empty slot.content) slots

  -- the generation of a slot, and 0 where there is no such slot
  abbrev pub generation_at : List (Slot T) → ℕ → ℕ
  generation_at slots number = option_map_or (λ slot. slot.generation) (slice_get slots number) 0

  -- the slot is there, and retired
  abbrev pub is_retired_at : List (Slot T) → ℕ → Bool
  is_retired_at slots number = option_map_or (λ slot. is_retired slot.content) (slice_get slots number) false

  -- the item of a slot for a handle of this generation
  abbrev pub item_for : ℕ → Slot T → Option T
  item_for generation slot = if slot.generation == generation then item_of slot.content else None

  -- the item under a handle, where the handle is live
  abbrev pub item_at : List (Slot T) → Handle → Option T
  item_at slots handle = option_and_then (item_for handle.generation) (slice_get slots handle.slot)

  -- the handle is live
  abbrev pub IsLive : List (Slot T) → Handle → Type 0
  IsLive slots handle = IsSome (item_at slots handle)

  -- the handle of a slot at its generation
  abbrev pub handle_of : List (Slot T) → ℕ → Handle
  handle_of slots number = record { slot = number; generation = generation_at slots number }

  -- the handle of a slot that holds an item
  abbrev pub handle_at : List (Slot T) → ℕ → Option Handle
  handle_at slots number = if is_some (item_at slots (handle_of slots number)) then Some (handle_of slots number) else None

  -- the handle that the next put gives
  abbrev pub next_handle : List (Slot T) → Option Handle
  next_handle slots = option_map (handle_of slots) (first_empty slots)

  -- the slots with an item under a handle
  abbrev pub with_item : List (Slot T) → Handle → T → List (Slot T)
  with_item slots handle item = slice_set slots handle.slot (full_slot handle.generation item)

  -- the slots without the item under a handle
  abbrev pub without_item : List (Slot T) → Handle → List (Slot T)
  without_item slots handle = slice_set slots handle.slot (emptied_slot handle.generation)

  -- the slots after a put: the item stands under the next handle, where there is one
  abbrev pub after_put : List (Slot T) → T → List (Slot T)
  after_put slots item = option_map_or (λ handle. with_item slots handle item) (next_handle slots) slots

  -- the slots after a take: a live handle's item is gone
  abbrev pub after_take : List (Slot T) → Handle → List (Slot T)
  after_take slots handle = if is_some (item_at slots handle) then without_item slots handle else slots

  -- the slots after a write through `get_mut`: a live handle has the new item
  abbrev pub after_write : List (Slot T) → Handle → T → List (Slot T)
  after_write slots handle item = if is_some (item_at slots handle) then with_item slots handle item else slots
