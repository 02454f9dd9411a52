-- What a link that goes by deals keeps.
use Rattle.std.specs.Prelude.{ℕ, ◌≡◌, ◌≤◌, true, List, length, drop, All}
use Rattle.frame_link.specs.Frames.{Sent, arrived}
use Rattle.frame_link.specs.Deals.{IsShortDeal, are_honest, are_faithful}
use Rattle.frame_link.specs.Memory.{HeldDeals}
use Rattle.frame_link.specs.Turns.{IsKnown, answers_from}
use Rattle.frame_link.specs.declared.deal.Deal.{Deal}
use Rattle.frame_link.specs.declared.turn.Origin.{Origin}

-- what it holds
abbrev pub held_by : List Sent → List Origin → ℕ → List Deal → ℕ → HeldDeals
held_by sent origins passed deals used = record {
  sent = sent;
  answers = answers_from sent deals origins;
  passed = passed;
  left = drop used deals;
  honest = are_honest deals;
  faithful = are_faithful deals;
}

-- forged frames are short, answers came from frames that are sent, and where each deal is the next frame, those passed are those that came
pub record IsDealtLink (sent : List Sent) (origins : List Origin) (passed : ℕ) (deals : List Deal) (used : ℕ) : Type 0 where
  pub short : All IsShortDeal deals
  pub known : All (IsKnown (length sent)) origins
  pub within : used ≤ length deals
  pub in_order : are_faithful deals ≡ true → passed ≡ length (arrived (answers_from sent deals origins))
