-- What the first deal gives, at its place among the deals.
use Rattle.std.proofs.Common.{◌≡◌, ℕ, zero, suc, ◌+◌, ◌<◌, true, List, [], ◌∷◌, length, drop, get_or, slice_get, Contains, Option, Some, None, option_and_then, refl, sym, ap, subst, ◌∙◌, arith, add-one}
use Rattle.std.proofs.Math.Seq.{drop-cons}
use Rattle.std.proofs.lemmas.Option.{slice_get_read, slice_get_within, get_or_from_slice_get, none-some, same_Some}
use Rattle.frame_link.specs.Frames.{Sent, IsHonest}
use Rattle.frame_link.specs.Deals.{Dealt, dealt, pass_one, are_honest, are_faithful}
use Rattle.frame_link.specs.Turns.{IsTurn, forged_by, answer_from}
use Rattle.frame_link.specs.declared.deal.Deal.{Deal}
use Rattle.frame_link.specs.declared.deal.Deal.TheVariants.{Next, Drop, Again, Forge}
use Rattle.frame_link.specs.declared.turn.Origin.{Origin}
use Rattle.frame_link.specs.declared.turn.Origin.TheVariants.{Nowhere, Carried, Forged}
use Rattle.frame_link.specs.declared.turn.Turn.{Turn}

-- the deal at a place is the first of those left from there on
pub deal_first : (deals : List Deal) (i : ℕ) (deal : Deal) → i < length deals → deal ≡ get_or deals i deal → drop i deals ≡ deal ∷ drop (i + 1) deals
deal_first deals i deal within at = rw add-one (drop-cons deals i deal within ∙ ap (λ (d : Deal). d ∷ drop (suc i) deals) (sym at))

-- a forged frame's turn
pub forged_turn : (sent : List Sent) (deals : List Deal) (count i to : ℕ) (frame : List ℕ) → i < length deals → Forge to frame ≡ get_or deals i (Forge to frame)
    → IsTurn sent deals (dealt sent count (drop i deals)) (record { origin = Forged i; passed = count; used = i + 1 })
forged_turn sent deals count i to frame within at =
    let turn : Turn = record { origin = Forged i; passed = count; used = i + 1 } in
    let here : IsTurn sent deals (dealt sent count (Forge to frame ∷ drop (i + 1) deals)) turn = record {
      answer = ap (option_and_then forged_by) (slice_get_read deals (length deals) i (Forge to frame) refl within at);
      passed = refl;
      left = refl;
      used = omega arith;
      known = tt;
    } in
    subst (λ (left : List Deal). IsTurn sent deals (dealt sent count left) turn) (sym (deal_first deals i (Forge to frame) within at)) here

-- ---- where each deal is the next frame

faithful_left : (used : ℕ) (deals : List Deal) → are_faithful deals ≡ true → are_faithful (drop used deals) ≡ true
faithful_left zero deals faithful = faithful
faithful_left (suc used) [] faithful = refl
faithful_left (suc used) (Next ∷ deals) faithful = faithful_left used deals faithful
faithful_left (suc used) (Drop ∷ deals) faithful = cc
faithful_left (suc used) (Again n ∷ deals) faithful = cc
faithful_left (suc used) (Forge to frame ∷ deals) faithful = cc

-- the answer is the oldest frame
pub record IsOldest (sent : List Sent) (passed : ℕ) (given : Dealt) : Type 0 where
  pub first : given.answer ≡ slice_get sent passed
  pub behind : given.passed ≡ pass_one sent passed

oldest_first : (sent : List Sent) (passed : ℕ) (deals : List Deal) → are_faithful deals ≡ true → IsOldest sent passed (dealt sent passed deals)
oldest_first sent passed [] faithful = record { first = refl; behind = refl }
oldest_first sent passed (Next ∷ deals) faithful = record { first = refl; behind = refl }
oldest_first sent passed (Drop ∷ deals) faithful = cc
oldest_first sent passed (Again n ∷ deals) faithful = cc
oldest_first sent passed (Forge to frame ∷ deals) faithful = cc

pub faithful_gives_oldest : (sent : List Sent) (passed used : ℕ) (deals : List Deal) → are_faithful deals ≡ true → IsOldest sent passed (dealt sent passed (drop used deals))
faithful_gives_oldest sent passed used deals faithful = oldest_first sent passed (drop used deals) (faithful_left used deals faithful)

-- ---- where no deal is forged

not_forged : (n : ℕ) (deals : List Deal) → are_honest deals ≡ true → option_and_then forged_by (slice_get deals n) ≡ None
not_forged n [] honest = refl
not_forged zero (Next ∷ deals) honest = refl
not_forged zero (Drop ∷ deals) honest = refl
not_forged zero (Again m ∷ deals) honest = refl
not_forged zero (Forge to frame ∷ deals) honest = cc
not_forged (suc n) (Next ∷ deals) honest = not_forged n deals honest
not_forged (suc n) (Drop ∷ deals) honest = not_forged n deals honest
not_forged (suc n) (Again m ∷ deals) honest = not_forged n deals honest
not_forged (suc n) (Forge to frame ∷ deals) honest = cc

found_is_sent : (sent : List Sent) (n : ℕ) (frame : Sent) → slice_get sent n ≡ Some frame → Contains sent frame
found_is_sent sent n frame found = (n, slice_get_within sent n frame found, get_or_from_slice_get sent n frame frame found)

answer_is_sent : (sent : List Sent) (deals : List Deal) (origin : Origin) (frame : Sent) → are_honest deals ≡ true → answer_from sent deals origin ≡ Some frame → Contains sent frame
answer_is_sent sent deals Nowhere frame honest is = cc
answer_is_sent sent deals (Carried n) frame honest is = found_is_sent sent n frame is
answer_is_sent sent deals (Forged n) frame honest is = absurd (none-some frame (sym (not_forged n deals honest) ∙ is))

pub is_honest_answer : (sent : List Sent) (deals : List Deal) (origin : Origin) (answer : Option Sent) → answer ≡ answer_from sent deals origin
    → IsHonest (Some (are_honest deals)) (Some sent) answer
is_honest_answer sent deals origin answer from frames frame honest told is =
    subst (λ (all : List Sent). Contains all frame) (same_Some sent frames told)
    (answer_is_sent sent deals origin frame (same_Some (are_honest deals) true honest) (sym from ∙ is))
