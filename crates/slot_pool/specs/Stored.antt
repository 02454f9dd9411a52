-- How a pool stands in memory. No public clause cites this module.
use Rattle.std.specs.Prelude.{◌≡◌, ℕ, ◌≤◌, Bool, List, length, map}
use Rattle.slot_pool.specs.Slots.{Content, Empty, Holds, Retired, Slot, is_empty, live_count}
use Rattle.slot_pool.specs.declared.slots.Slot.{Slot as StoredSlot}
use Rattle.slot_pool.specs.declared.slots.Content.{Content as StoredContent}
use Rattle.slot_pool.specs.declared.slots.Content.TheVariants as stored

module _ {T : Type 0} where
  -- the content that a stored content stands for
  abbrev pub content_of : StoredContent T → Content T
  content_of stored.Empty = Empty
  content_of (stored.Holds item) = Holds item
  content_of stored.Retired = Retired

  -- the slot that a stored slot stands for
  abbrev pub slot_of : StoredSlot T → Slot T
  slot_of slot = record { generation = slot.generation; content = content_of slot.content }

  -- the slots are few enough, the count is that of the slots that are not empty, and the flags are those of the empty ones
  pub record IsSound (slots : List (StoredSlot T)) (free : List Bool) (live : ℕ) : Type 0 where
    pub capacity : length slots ≤ 1000000
    pub counted : live ≡ live_count (map slot_of slots)
    pub flagged : free ≡ map (λ slot. is_empty slot.content) (map slot_of slots)
