-- Calls that write a text, or fail behind a front of it.
use Rattle.std.proofs.Common.{◌≡◌, ℕ, ◌++◌, List, [], ap, subst, ◌∙◌}
use Rattle.std.specs.Prelude.{Option, Result}
use Rattle.std.specs.Result.{IsErr}
use Rattle.std.proofs.lemmas.Result.{MatchResult-from_err}
use Rattle.sink_buffer.specs.Said.{IsSaid, IsFrontTaken}
use Rattle.sink_buffer.proofs.Saying.{front_from_said, front_longer}
use Rattle.planner.specs.declared.ends.PlanFault.{PlanFault}
use Rattle.planner.specs.Writes.{Tells}

-- a piece that isn't passed on leaves a front of the text with it
pub told_before : {T : Type 0} (from now : Option (List ℕ)) (held kept text piece : List ℕ) (result : Result T PlanFault) → IsErr result → IsSaid from now held text → Tells from now kept (text ++ piece) result
told_before from now held kept text piece result failed said =
    MatchResult-from_err result _ _ failed (λ fault. front_longer from now text piece (front_from_said from now held text said))

-- so does a fault behind which a front was taken
pub told_front : {T : Type 0} (from now : Option (List ℕ)) (kept text : List ℕ) (result : Result T PlanFault) → IsErr result → IsFrontTaken from now text → Tells from now kept text result
told_front from now kept text result failed front = MatchResult-from_err result _ _ failed (λ fault. front)

-- a line that was written where there was nothing
pub told_line : {T : Type 0} (from now : Option (List ℕ)) (kept text piece cleared written line : List ℕ) (result : Result T PlanFault)
    → cleared ≡ [] → written ≡ cleared ++ piece → line ≡ written → Tells from now kept (text ++ line) result → Tells from now kept (text ++ piece) result
told_line {T = T} from now kept text piece cleared written line result nothing one is told =
    let P : List ℕ → Type 0 = λ p. Tells {T = T} from now kept (text ++ p) result in
    subst P (is ∙ one ∙ ap (λ t. t ++ piece) nothing) told

-- the same of two pieces
pub told_lines : {T : Type 0} (from now : Option (List ℕ)) (kept text piece more cleared first written line : List ℕ) (result : Result T PlanFault)
    → cleared ≡ [] → first ≡ cleared ++ piece → written ≡ first ++ more → line ≡ written → Tells from now kept (text ++ line) result → Tells from now kept (text ++ (piece ++ more)) result
told_lines {T = T} from now kept text piece more cleared first written line result nothing one two is told =
    let P : List ℕ → Type 0 = λ p. Tells {T = T} from now kept (text ++ p) result in
    subst P (is ∙ two ∙ ap (λ t. t ++ more) (one ∙ ap (λ t. t ++ piece) nothing)) told
