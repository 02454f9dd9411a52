-- Lists of calls on a pool, and what they leave.
use Rattle.std.specs.Prelude.{ℕ, ◌<◌, ◌⊎◌, ◌==◌, ◌&&◌, Bool, List, [], ◌∷◌, Option, Some, None, option_map, replicate, if◌then◌else◌, IsTrue}
use Rattle.std.specs.Option.{option_map_or}
use Rattle.slot_pool.specs.declared.handles.Handle.{Handle}
use Rattle.slot_pool.specs.Slots.{Slot, new_slot, generation_at, is_retired_at, next_handle, with_item, after_put, after_take, after_write}

-- a call on a pool: one that only reads, a put, a write through `get_mut`, or a take
pub data Call (T : Type 0) : Type 0 where
  Read : Call T
  Put : T → Call T
  Write : Handle → T → Call T
  Take : Handle → Call T

-- the slots of a pool, the finite map from its live handles to their items, and each handle given so far
pub record History (T : Type 0) : Type 0 where
  pub slots : List (Slot T)
  pub items : Handle → Option T
  pub given : List Handle

-- the two handles are one
abbrev pub same_handle : Handle → Handle → Bool
same_handle one other = (one.slot == other.slot) && (one.generation == other.generation)

module _ {T : Type 0} where
  -- the slots after a call
  abbrev pub after_call : Call T → List (Slot T) → List (Slot T)
  after_call Read slots = slots
  after_call (Put item) slots = after_put slots item
  after_call (Write handle item) slots = after_write slots handle item
  after_call (Take handle) slots = after_take slots handle

  -- the slots after a list of calls
  abbrev pub after_calls : List (Call T) → List (Slot T) → List (Slot T)
  after_calls [] slots = slots
  after_calls (call ∷ calls) slots = after_calls calls (after_call call slots)

  -- the handle is of a lower generation than its slot, or its slot is retired
  abbrev pub IsGone : List (Slot T) → Handle → Type 0
  IsGone slots handle =
      (handle.generation < generation_at slots handle.slot) ⊎ IsTrue (is_retired_at slots handle.slot)

  -- the map with an item under one handle more
  abbrev pub adding : Handle → T → (Handle → Option T) → Handle → Option T
  adding handle item items other = if same_handle handle other then Some item else items other

  -- the map with another item under a handle that it has
  abbrev pub changing : Handle → T → (Handle → Option T) → Handle → Option T
  changing handle item items other = if same_handle handle other then option_map (λ _. item) (items other) else items other

  -- the map without a handle
  abbrev pub removing : Handle → (Handle → Option T) → Handle → Option T
  removing handle items other = if same_handle handle other then None else items other

  -- a put adds one pair under the next handle, where there is one
  abbrev pub putting : T → History T → Handle → History T
  putting item history handle = record {
    slots = with_item history.slots handle item;
    items = adding handle item history.items;
    given = handle ∷ history.given;
  }

  -- the history after a call
  abbrev pub recorded : Call T → History T → History T
  recorded Read history = history
  recorded (Put item) history = option_map_or (putting item history) (next_handle history.slots) history
  recorded (Write handle item) history = record {
    slots = after_write history.slots handle item;
    items = changing handle item history.items;
    given = history.given;
  }
  recorded (Take handle) history = record {
    slots = after_take history.slots handle;
    items = removing handle history.items;
    given = history.given;
  }

  -- the history after a list of calls
  abbrev pub recorded_all : List (Call T) → History T → History T
  recorded_all [] history = history
  recorded_all (call ∷ calls) history = recorded_all calls (recorded call history)

  -- a new pool has no pair, and has given no handle
  abbrev pub opening : ℕ → ℕ → History T
  opening capacity first = record { slots = replicate capacity (new_slot first); items = λ _. None; given = [] }
