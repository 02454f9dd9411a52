-- The tree of a set's part, said line by line as its search gives it.
use Rattle.std.proofs.Common.{◌≡◌, ℕ, ◌+◌, ◌-◌, ◌<◌, List, [], ◌∷◌, ◌++◌, length, Option, refl, sym, ap, subst, ◌∙◌, append_assoc, length-append, arith}
use Rattle.std.specs.Prelude.{Result, Ok, Err}
use Rattle.std.specs.Result.{IsErr}
use Rattle.std.proofs.lemmas.List.{append-nil}
use Rattle.bound_cert.specs.declared.leaves.Line.{Line}
use Rattle.zero_one.specs.Contents.{Contents}
use Rattle.branch_solver.specs.declared.progress.Progress.{Progress}
use Rattle.branch_solver.specs.declared.progress.Progress.TheVariants as progress
use Rattle.branch_solver.specs.Kept.{Kept, StandsFor}
use Rattle.branch_solver.specs.Steps.{Gives, Steps}
use Rattle.sink_buffer.specs.Said.{IsSaid, IsFrontTaken}
use Rattle.plan_text.specs.PlanText.{tree_line, tree_text}
use Rattle.planner.specs.declared.ends.PlanFault.{PlanFault}
use Rattle.planner.specs.Trees.{EndsSearch, SaysTree}

-- the search gave these lines, and they are said behind what was said before
pub record IsTreeSaid (program : Contents) (budget : ℕ) (kept : Kept) (before : Option (List ℕ)) (held_before : List ℕ) (now : Option (List ℕ)) (held : List ℕ) : Type 0 where
  pub lines : List Line
  pub stands : StandsFor program lines kept
  pub same : kept.budget ≡ budget
  pub said : (from : Option (List ℕ)) (text : List ℕ) → IsSaid from before held_before text → IsSaid from now held (text ++ tree_text lines)

-- the lines of one line more
tree_text_more : (lines : List Line) (line : Line) → tree_text (lines ++ line ∷ []) ≡ tree_text lines ++ tree_line line
tree_text_more [] line = append-nil (tree_line line)
tree_text_more (first ∷ lines) line = ap (λ t. tree_line first ++ t) (tree_text_more lines line) ∙ sym (append_assoc (tree_line first) (tree_text lines) (tree_line line))

text_more : (lines : List Line) (line : Line) (text : List ℕ) → (text ++ tree_text lines) ++ tree_line line ≡ text ++ tree_text (lines ++ line ∷ [])
text_more lines line text = append_assoc text (tree_text lines) (tree_line line) ∙ ap (λ t. text ++ t) (sym (tree_text_more lines line))

-- before the first line
pub tree_none : (program : Contents) (kept : Kept) (now : Option (List ℕ)) (held : List ℕ) → StandsFor program [] kept → IsTreeSaid program kept.budget kept now held now held
tree_none program kept now held stands = record {
  lines = [];
  stands = stands;
  same = refl;
  said = λ from text said. subst (IsSaid from now held) (sym (append-nil text)) said;
}

-- one line more
pub tree_more : (program : Contents) (budget : ℕ) (kept after : Kept) (line shown : Line) (before : Option (List ℕ)) (held_before : List ℕ) (mid : Option (List ℕ)) (held_mid : List ℕ) (now : Option (List ℕ)) (held : List ℕ)
    → (tree : IsTreeSaid program budget kept before held_before mid held_mid) → Gives program tree.lines kept line after → shown ≡ line
    → ((from : Option (List ℕ)) (text : List ℕ) → IsSaid from mid held_mid text → IsSaid from now held (text ++ tree_line shown))
    → IsTreeSaid program budget after before held_before now held
tree_more program budget kept after line shown before held_before mid held_mid now held tree gives is more = record {
  lines = tree.lines ++ line ∷ [];
  stands = gives.stands;
  same = gives.budget ∙ tree.same;
  said = λ from text said. subst (IsSaid from now held) (ap (λ l. (text ++ tree_text tree.lines) ++ tree_line l) is ∙ text_more tree.lines line text) (more from (text ++ tree_text tree.lines) (tree.said from text said));
}

-- each line leaves fewer that may come
pub fewer_left : (program : Contents) (lines : List Line) (kept after : Kept) (line : Line) → StandsFor program lines kept → Gives program lines kept line after → after.budget - after.count < kept.budget - kept.count
fewer_left program lines kept after line stands gives =
    let count : kept.count ≡ length lines = stands.count in
    let below : length lines < kept.budget = gives.below in
    let same : after.budget ≡ kept.budget = gives.budget in
    let more : after.count ≡ length (lines ++ line ∷ []) = gives.stands.count in
    let one : length (lines ++ line ∷ []) ≡ length lines + 1 = length-append lines (line ∷ []) in
    omega (arith, count, below, same, more, one)

-- a line that isn't passed on
pub tree_failed : (program : Contents) (budget : ℕ) (kept after : Kept) (line shown : Line) (before : Option (List ℕ)) (held_before : List ℕ) (mid : Option (List ℕ)) (held_mid : List ℕ) (now : Option (List ℕ)) (held : List ℕ) (result : Result Progress PlanFault)
    → (tree : IsTreeSaid program budget kept before held_before mid held_mid) → Gives program tree.lines kept line after → shown ≡ line → IsErr result
    → ((from : Option (List ℕ)) (text : List ℕ) → IsSaid from mid held_mid text → IsFrontTaken from now (text ++ tree_line shown))
    → SaysTree program budget after before held_before now held result
tree_failed program budget kept after line shown before held_before mid held_mid now held (Ok end) tree gives is failed front = cc
tree_failed program budget kept after line shown before held_before mid held_mid now held (Err fault) tree gives is failed front = record {
  lines = tree.lines ++ line ∷ [];
  stands = gives.stands;
  same = gives.budget ∙ tree.same;
  told = λ from text said. subst (IsFrontTaken from now) (ap (λ l. (text ++ tree_text tree.lines) ++ tree_line l) is ∙ text_more tree.lines line text) (front from (text ++ tree_text tree.lines) (tree.said from text said));
  ends = tt;
}

-- what a step that gave no line says
at_end : (program : Contents) (lines : List Line) (kept after : Kept) (line : Line) (end : Progress) → (end ≡ progress.Line → ⊥) → Steps program lines kept line after end → (after ≡ kept) × EndsSearch program lines after end
at_end program lines kept after line progress.Line other step = absurd (other refl)
at_end program lines kept after line (progress.Found cost) other step = (step.0, (step.1, (step.2.0, step.2.1, step.2.3)))
at_end program lines kept after line progress.NoneThere other step = (step.0, step.1)
at_end program lines kept after line (progress.Budget value) other step = (step.0, step.1)

-- the end
pub tree_ended : (program : Contents) (budget : ℕ) (kept after : Kept) (line : Line) (end : Progress) (before : Option (List ℕ)) (held_before : List ℕ) (now : Option (List ℕ)) (held : List ℕ)
    → (tree : IsTreeSaid program budget kept before held_before now held) → (end ≡ progress.Line → ⊥) → Steps program tree.lines kept line after end
    → SaysTree program budget after before held_before now held (Ok end)
tree_ended program budget kept after line end before held_before now held tree other step =
    let ended : (after ≡ kept) × EndsSearch program tree.lines after end = at_end program tree.lines kept after line end other step in
    record {
      lines = tree.lines;
      stands = subst (StandsFor program tree.lines) (sym ended.0) tree.stands;
      same = ap (λ (k : Kept). k.budget) ended.0 ∙ tree.same;
      told = tree.said;
      ends = ended.1;
    }
