-- How the frames of a path stand in their pool.
use Rattle.std.specs.Prelude.{◌≡◌, ℕ, zero, suc, ◌+◌, ◌-◌, ◌≤◌, Bool, List, [], ◌∷◌, length, sum_by, slice_get, slice_set, Option, Some, None, option_and_then}
use Rattle.std.specs.Option.{option_map_or}
use Rattle.bound_cert.specs.Trees.{IsFree}
use Rattle.cert_checker.specs.declared.turns.Turn.{Turn}
use Rattle.cert_checker.specs.Paths.{fixed_over, IsPath}
use Rattle.slot_pool.specs.declared.handles.Handle.{Handle}
use Rattle.slot_pool.specs.Slots.{Slot, new_slot, full_slot, live_count, item_at}
use Rattle.branch_solver.specs.declared.frames.Frame.{Frame}

-- a path, how many variables there are, and how many frames were put for it and for those before it
pub record Trail : Type 0 where
  pub variables : ℕ
  pub turns : List Turn
  pub puts : ℕ

-- how many items were taken: a slot's first generation is 1, and each take raises it
abbrev pub take_count : List (Slot Frame) → ℕ
take_count slots = sum_by (λ slot. slot.generation - 1) slots

-- the turns from this frame up to the root, at most so many
abbrev pub turns_from : ℕ → List (Slot Frame) → Option Handle → List Turn
turns_from zero slots deepest = []
turns_from (suc most) slots deepest =
    option_map_or (λ frame. frame.turn ∷ turns_from most slots frame.parent) (option_and_then (item_at slots) deepest) []

-- the path that is read from the slots
abbrev pub trail_in : List (Slot Frame) → Option Handle → List (Option Bool) → Trail
trail_in slots deepest fixed = record {
  variables = length fixed;
  turns = turns_from (length slots) slots deepest;
  puts = take_count slots + live_count slots;
}

-- a frame of this turn stands under the handle
pub record IsDeepest (slots : List (Slot Frame)) (deepest : Option Handle) (turn : Turn) : Type 0 where
  pub handle : Handle
  pub parent : Option Handle
  pub is : deepest ≡ Some handle
  pub stands : slice_get slots handle.slot ≡ Some (full_slot handle.generation (record { turn = turn; parent = parent }))

-- the slots once the item under the handle is taken, where that isn't of the last generation
abbrev pub freed : List (Slot Frame) → Handle → List (Slot Frame)
freed slots handle = slice_set slots handle.slot (new_slot (handle.generation + 1))

-- to take the deepest frame, then its parent, and so on, gives these turns and leaves no frame
abbrev pub IsStack : List (Slot Frame) → Option Handle → List Turn → Type 0
IsStack slots deepest [] = (deepest ≡ None) × (live_count slots ≡ 0)
IsStack slots deepest (turn ∷ above) =
    (here : IsDeepest slots deepest turn) × IsStack (freed slots here.handle) here.parent above

-- the frames are those of this path, there is a slot more than variables, and these are the variables that the path fixes
pub record HoldsTurns (slots : List (Slot Frame)) (deepest : Option Handle) (fixed : List (Option Bool)) (turns : List Turn) : Type 0 where
  pub room : length slots ≡ length fixed + 1
  pub stack : IsStack slots deepest turns
  pub fixes : fixed ≡ fixed_over (length fixed) turns
  pub apart : IsPath (length fixed) turns

-- the deepest turn is taken off, which leaves its variable free
pub record Pops (before : Trail) (turn : Turn) (after : Trail) : Type 0 where
  pub variables : after.variables ≡ before.variables
  pub turns : before.turns ≡ turn ∷ after.turns
  pub puts : after.puts ≤ before.puts
  pub free : IsFree (fixed_over after.variables after.turns) turn.var
