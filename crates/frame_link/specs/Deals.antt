-- What the deals of a link in memory make of the frames sent.
use Rattle.std.specs.Prelude.{ℕ, ◌+◌, ◌≤◌, Bool, true, false, nat_lt, if◌then◌else◌, List, [], ◌∷◌, length, slice_get, Option, Some, ⊤}
use Rattle.std.specs.List.{list_all}
use Rattle.frame_link.specs.Frames.{Sent}
use Rattle.frame_link.specs.declared.deal.Deal.{Deal}
use Rattle.frame_link.specs.declared.deal.Deal.TheVariants.{Next, Drop, Again, Forge}

-- an answer, how many frames are passed then, and the deals left
pub record Dealt : Type 0 where
  pub answer : Option Sent
  pub passed : ℕ
  pub left : List Deal

-- one more frame is passed, where there is one
abbrev pub pass_one : List Sent → ℕ → ℕ
pass_one sent passed = if nat_lt passed (length sent) then passed + 1 else passed

-- the oldest frame not yet passed, which passes it, or nothing
abbrev pub oldest : List Sent → ℕ → List Deal → Dealt
oldest sent passed left = record { answer = slice_get sent passed; passed = pass_one sent passed; left = left }

-- the frame of this number, or the oldest frame not yet passed where there is none
abbrev pub once_more : List Sent → ℕ → ℕ → List Deal → Dealt
once_more sent n passed left = if nat_lt n (length sent) then record { answer = slice_get sent n; passed = passed; left = left } else oldest sent passed left

-- what the first deal left gives, where so many frames are passed
abbrev pub dealt : List Sent → ℕ → List Deal → Dealt
dealt sent passed [] = oldest sent passed []
dealt sent passed (Next ∷ left) = oldest sent passed left
dealt sent passed (Drop ∷ left) = dealt sent (pass_one sent passed) left
dealt sent passed (Again n ∷ left) = once_more sent n passed left
dealt sent passed (Forge to frame ∷ left) = record { answer = Some (record { to = to; frame = frame }); passed = passed; left = left }

-- a forged frame has at most 8,192 bytes
abbrev pub IsShortDeal : Deal → Type 0
IsShortDeal Next = ⊤
IsShortDeal Drop = ⊤
IsShortDeal (Again n) = ⊤
IsShortDeal (Forge to frame) = length frame ≤ 8192

-- the deal gives no frame but one of those sent
abbrev pub is_honest : Deal → Bool
is_honest Next = true
is_honest Drop = true
is_honest (Again n) = true
is_honest (Forge to frame) = false

-- the deal gives the oldest frame not yet passed
abbrev pub is_faithful : Deal → Bool
is_faithful Next = true
is_faithful Drop = false
is_faithful (Again n) = false
is_faithful (Forge to frame) = false

-- none of the deals is a forged frame
abbrev pub are_honest : List Deal → Bool
are_honest deals = list_all is_honest deals

-- each of the deals is the next frame
abbrev pub are_faithful : List Deal → Bool
are_faithful deals = list_all is_faithful deals
