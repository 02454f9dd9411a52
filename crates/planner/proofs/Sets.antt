-- What planning a set wrote where it failed, and where it ended.
use Rattle.std.proofs.Common.{◌≡◌, ℕ, List, [], ◌++◌, Option, refl, sym, ap, subst, ◌∙◌, append_assoc, inl, inr}
use Rattle.std.specs.Prelude.{Result, Ok, Err}
use Rattle.std.specs.Result.{IsErr}
use Rattle.workload.specs.World.{Lists}
use Rattle.sink_buffer.specs.Said.{IsSaid, IsFrontTaken}
use Rattle.sink_buffer.proofs.Saying.{said_nothing}
use Rattle.std.proofs.lemmas.List.{append-nil}
use Rattle.plan_text.specs.Plans.{IsPlanFront}
use Rattle.planner.specs.declared.ends.PlanEnd.{PlanEnd}
use Rattle.planner.proofs.PartEnds.{begun_nothing}
use Rattle.plan_text.specs.PlanText.{begun_text}
use Rattle.planner.specs.declared.ends.SetEnd.{SetEnd}
use Rattle.planner.specs.declared.ends.PlanFault.{PlanFault}
use Rattle.planner.specs.Writes.{IsPartText, IsPartFront, SetWrites, TakesText, PlanWrites}

-- a front of a front of a part is one
shorter : (w : Lists) (budget set : ℕ) (piece sent rest : List ℕ) → piece ≡ sent ++ rest → IsPartFront w budget set piece → IsPartFront w budget set sent
shorter w budget set piece sent rest is (inl begun) =
    inl (begun.0, begun.1, (rest ++ begun.2.0, sym (append_assoc sent rest begun.2.0) ∙ ap (λ t. t ++ begun.2.0) (sym is) ∙ begun.2.1))
shorter w budget set piece sent rest is (inr whole) =
    let P : List ℕ → Type 0 = λ t. IsPartText w budget set whole.0 t in
    inr (whole.0, rest ++ whole.1, subst P (ap (λ t. t ++ whole.1) is ∙ append_assoc sent rest whole.1) whole.2)

pub set_failed : (w : Lists) (budget set : ℕ) (old new : Option (List ℕ)) (piece : List ℕ) (result : Result SetEnd PlanFault) → IsErr result → IsPartFront w budget set piece → IsFrontTaken old new piece → SetWrites w budget set old new result
set_failed w budget set old new piece (Ok end) failed front taken = cc
set_failed w budget set old new piece (Err fault) failed front taken = record {
  text = taken.sent;
  taken = taken.taken;
  is = shorter w budget set piece taken.sent taken.rest taken.text_is front;
}

-- before anything is said
pub said_start : (now : Option (List ℕ)) (held : List ℕ) → held ≡ [] → IsSaid now now held []
said_start now held nothing = let P : List ℕ → Type 0 = λ h. IsSaid now now h [] in subst P (sym nothing) (said_nothing now)

pub front_nothing : (w : Lists) (budget set : ℕ) → IsPartFront w budget set []
front_nothing w budget set = inl ([], begun_nothing w budget set, (begun_text w set [], refl))

pub front_whole : (w : Lists) (budget set : ℕ) (end : SetEnd) (text : List ℕ) → IsPartText w budget set end text → IsPartFront w budget set text
front_whole w budget set end text part =
    let P : List ℕ → Type 0 = λ t. IsPartText w budget set end t in inr (end, [], subst P (sym (append-nil text)) part)

pub plan_failed : (w : Lists) (budget : ℕ) (old new : Option (List ℕ)) (result : Result PlanEnd PlanFault) → IsErr result → TakesText old new (IsPlanFront w budget) → PlanWrites w budget old new result
plan_failed w budget old new (Ok end) failed front = cc
plan_failed w budget old new (Err fault) failed front = front
