-- Where answers come from, and the turns that give them.
use Rattle.std.specs.Prelude.{ℕ, ◌≡◌, ◌<◌, ◌≤◌, List, length, drop, map, slice_get, Option, Some, None, option_and_then, ⊤}
use Rattle.frame_link.specs.Frames.{Sent}
use Rattle.frame_link.specs.Deals.{Dealt}
use Rattle.frame_link.specs.declared.deal.Deal.{Deal}
use Rattle.frame_link.specs.declared.deal.Deal.TheVariants.{Next, Drop, Again, Forge}
use Rattle.frame_link.specs.declared.turn.Origin.{Origin}
use Rattle.frame_link.specs.declared.turn.Origin.TheVariants.{Nowhere, Carried, Forged}
use Rattle.frame_link.specs.declared.turn.Turn.{Turn}

-- the frame that a deal forges
abbrev pub forged_by : Deal → Option Sent
forged_by Next = None
forged_by Drop = None
forged_by (Again n) = None
forged_by (Forge to frame) = Some (record { to = to; frame = frame })

-- the answer that came from there
abbrev pub answer_from : List Sent → List Deal → Origin → Option Sent
answer_from sent deals Nowhere = None
answer_from sent deals (Carried n) = slice_get sent n
answer_from sent deals (Forged n) = option_and_then forged_by (slice_get deals n)

-- the answers that came from there
unfoldable pub answers_from : List Sent → List Deal → List Origin → List (Option Sent)
answers_from sent deals origins = map (answer_from sent deals) origins

-- it came from no frame that has yet to be sent
abbrev pub IsKnown : ℕ → Origin → Type 0
IsKnown count Nowhere = ⊤
IsKnown count (Carried n) = n < count
IsKnown count (Forged n) = ⊤

-- a turn stands for what was dealt
pub record IsTurn (sent : List Sent) (deals : List Deal) (given : Dealt) (turn : Turn) : Type 0 where
  pub answer : answer_from sent deals turn.origin ≡ given.answer
  pub passed : turn.passed ≡ given.passed
  pub left : drop turn.used deals ≡ given.left
  pub used : turn.used ≤ length deals
  pub known : IsKnown (length sent) turn.origin
