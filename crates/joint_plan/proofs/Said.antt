-- A joint plan, said as its search goes and ends.
use Rattle.std.proofs.Common.{◌≡◌, ℕ, ◌++◌, List, [], length, Option, refl, sym, ap, subst, ◌∙◌, append_assoc, inl, inr}
use Rattle.std.specs.Prelude.{codes, Result, Ok, Err}
use Rattle.std.specs.Result.{IsErr}
use Rattle.std.proofs.lemmas.List.{append-nil}
use Rattle.bound_cert.specs.declared.leaves.Line.{Line}
use Rattle.zero_one.specs.Contents.{Contents}
use Rattle.zero_one.specs.Program.{IsWithinLimits}
use Rattle.branch_solver.specs.declared.progress.Progress.{Progress}
use Rattle.branch_solver.specs.Kept.{Kept, StandsFor}
use Rattle.sink_buffer.specs.Said.{IsSaid, IsFrontTaken}
use Rattle.sink_buffer.proofs.Saying.{front_from_said}
use Rattle.workload.specs.World.{Lists, IsComplete, IsNamed}
use Rattle.machine_text.specs.Machines.{Fleet}
use Rattle.joint_placement.specs.Programs.{joint_program}
use Rattle.plan_text.specs.PlanText.{tree_text}
use Rattle.planner.specs.declared.ends.SetEnd.{SetEnd}
use Rattle.planner.specs.declared.ends.PlanFault.{PlanFault}
use Rattle.planner.specs.Trees.{EndsSearch, SaysTree}
use Rattle.joint_plan.specs.JointText.{opening_text, begun_text, ending_text}
use Rattle.joint_plan.specs.Shown.{IsBegun, IsFront, IsWritten}
use Rattle.joint_plan.specs.Writes.{IsSearched, EndsSo, SaysJoint, TextWrites}
use Rattle.joint_plan.proofs.Ends.{begun, begun_nothing}

-- the lines of a tree behind the first lines
begun_is : (w : Lists) (fleet : Fleet) (variables : ℕ) (program : Contents) (lines : List Line) → program ≡ joint_program w fleet → variables ≡ length program.costs
    → opening_text variables ++ tree_text lines ≡ begun_text w fleet lines
begun_is w fleet variables program lines is count =
    ap (λ n. opening_text n ++ tree_text lines) (count ∙ ap (λ (p : Contents). length p.costs) is)

-- what is begun is a front
front_begun : (w : Lists) (fleet : Fleet) (budget : ℕ) (lines : List Line) → IsBegun w fleet budget lines → IsFront w fleet budget (begun_text w fleet lines)
front_begun w fleet budget lines so_far = inl (lines, so_far, ([], append-nil (begun_text w fleet lines)))

front_nothing : (w : Lists) (fleet : Fleet) (budget : ℕ) → IsFront w fleet budget []
front_nothing w fleet budget = inl ([], begun_nothing w fleet budget, (begun_text w fleet [], refl))

-- a front of a front is one
shorter : (w : Lists) (fleet : Fleet) (budget : ℕ) (piece sent rest : List ℕ) → piece ≡ sent ++ rest → IsFront w fleet budget piece → IsFront w fleet budget sent
shorter w fleet budget piece sent rest is (inl so_far) =
    inl (so_far.0, so_far.1, (rest ++ so_far.2.0, sym (append_assoc sent rest so_far.2.0) ∙ ap (λ t. t ++ so_far.2.0) (sym is) ∙ so_far.2.1))
shorter w fleet budget piece sent rest is (inr whole) =
    let P : List ℕ → Type 0 = λ t. IsWritten w fleet budget whole.0 t in
    inr (whole.0, rest ++ whole.1, subst P (ap (λ t. t ++ whole.1) is ∙ append_assoc sent rest whole.1) whole.2)

-- a fault in the first lines
pub opening_failed : (w : Lists) (fleet : Fleet) (budget variables : ℕ) (program : Contents) (from now : Option (List ℕ)) (kept : List ℕ) (result : Result SetEnd PlanFault)
    → program ≡ joint_program w fleet → variables ≡ length program.costs → IsErr result → IsFrontTaken from now (opening_text variables) → SaysJoint w fleet budget from now kept result
opening_failed w fleet budget variables program from now kept (Ok end) is count failed front = cc
opening_failed w fleet budget variables program from now kept (Err fault) is count failed front = (
  begun_text w fleet [],
  front_begun w fleet budget [] (begun_nothing w fleet budget),
  subst (IsFrontTaken from now) (sym (append-nil (opening_text variables)) ∙ begun_is w fleet variables program [] is count) front,
)

-- a fault in the tree
pub tree_failed : (w : Lists) (fleet : Fleet) (budget variables : ℕ) (program : Contents) (made kept : Kept) (before : Option (List ℕ)) (held_before : List ℕ) (from now : Option (List ℕ)) (held : List ℕ) (fault : PlanFault) (result : Result SetEnd PlanFault)
    → IsComplete w → IsNamed w → program ≡ joint_program w fleet → variables ≡ length program.costs → made.budget ≡ budget
    → SaysTree program made.budget kept before held_before now held (Err fault)
    → IsErr result → IsSaid from before held_before (opening_text variables) → SaysJoint w fleet budget from now held result
tree_failed w fleet budget variables program made kept before held_before from now held fault (Ok end) known named is count same tree failed said = cc
tree_failed w fleet budget variables program made kept before held_before from now held fault (Err again) known named is count same tree failed said =
    let P : Contents → Type 0 = λ p. StandsFor p tree.lines kept in (
      begun_text w fleet tree.lines,
      front_begun w fleet budget tree.lines (begun w fleet known named budget tree.lines kept (subst P is tree.stands) (tree.same ∙ same)),
      subst (IsFrontTaken from now) (begun_is w fleet variables program tree.lines is count) (tree.told from (opening_text variables) said),
    )

-- the search ended
pub searched : (w : Lists) (fleet : Fleet) (budget : ℕ) (program : Contents) (made kept : Kept) (before : Option (List ℕ)) (held_before : List ℕ) (now : Option (List ℕ)) (held : List ℕ) (end : Progress)
    → program ≡ joint_program w fleet → IsWithinLimits program → made.budget ≡ budget
    → SaysTree program made.budget kept before held_before now held (Ok end) → IsSearched (joint_program w fleet) budget kept end
searched w fleet budget program made kept before held_before now held end is limits same tree =
    let P : Contents → Type 0 = λ p. StandsFor p tree.lines kept in
    let Q : Contents → Type 0 = λ p. EndsSearch p tree.lines kept end in
    record {
      limits = subst IsWithinLimits is limits;
      lines = tree.lines;
      stands = subst P is tree.stands;
      same = tree.same ∙ same;
      ends = subst Q is tree.ends;
    }

-- and its lines are said
pub searched_said : (w : Lists) (fleet : Fleet) (budget variables : ℕ) (program : Contents) (made kept : Kept) (before : Option (List ℕ)) (held_before : List ℕ) (from now : Option (List ℕ)) (held : List ℕ) (end : Progress)
    → program ≡ joint_program w fleet → variables ≡ length program.costs → IsWithinLimits program → made.budget ≡ budget
    → SaysTree program made.budget kept before held_before now held (Ok end) → IsSaid from before held_before (opening_text variables)
    → (s : IsSearched (joint_program w fleet) budget kept end) × IsSaid from now held (begun_text w fleet s.lines)
unfolding searched
searched_said w fleet budget variables program made kept before held_before from now held end is count limits same tree said = (
  searched w fleet budget program made kept before held_before now held end is limits same tree,
  subst (IsSaid from now held) (begun_is w fleet variables program tree.lines is count) (tree.told from (opening_text variables) said),
)

-- a fault behind the tree
pub unended : (w : Lists) (fleet : Fleet) (budget : ℕ) (kept : Kept) (end : Progress) (from now : Option (List ℕ)) (held : List ℕ) (result : Result SetEnd PlanFault)
    → IsComplete w → IsNamed w → (s : IsSearched (joint_program w fleet) budget kept end) → IsErr result → IsSaid from now held (begun_text w fleet s.lines) → SaysJoint w fleet budget from now held result
unended w fleet budget kept end from now held (Ok told) known named s failed said = cc
unended w fleet budget kept end from now held (Err fault) known named s failed said = (
  begun_text w fleet s.lines,
  front_begun w fleet budget s.lines (begun w fleet known named budget s.lines kept s.stands s.same),
  front_from_said from now held (begun_text w fleet s.lines) said,
)

-- the whole text
pub written : (w : Lists) (fleet : Fleet) (budget : ℕ) (kept : Kept) (end : Progress) (s : IsSearched (joint_program w fleet) budget kept end) (told : SetEnd) (made ended whole line : List ℕ)
    → made ≡ [] → EndsSo w fleet budget s.lines told made ended → whole ≡ ended ++ codes "end\n" → line ≡ whole → IsWritten w fleet budget told (begun_text w fleet s.lines ++ line)
written w fleet budget kept end s told made ended whole line nothing ends last is = record {
  lines = s.lines;
  ending = ends.ending;
  text_is = ap (λ t. begun_text w fleet s.lines ++ t) (is ∙ last ∙ ap (λ t. t ++ codes "end\n") (ends.adds.text_is ∙ ap (λ t. t ++ ending_text w (length s.lines) ends.ending) nothing));
  limits = s.limits;
  shown = ends.shown;
  told = ends.adds.told;
}

-- it is said, or a front of it taken
pub ending_said : (w : Lists) (fleet : Fleet) (budget : ℕ) (told : SetEnd) (from now : Option (List ℕ)) (kept text : List ℕ) → IsWritten w fleet budget told text → IsSaid from now kept text → SaysJoint w fleet budget from now kept (Ok told)
ending_said w fleet budget told from now kept text is said = (text, is, said)

pub ending_failed : (w : Lists) (fleet : Fleet) (budget : ℕ) (told : SetEnd) (from now : Option (List ℕ)) (kept text : List ℕ) (result : Result SetEnd PlanFault) → IsErr result → IsWritten w fleet budget told text → IsFrontTaken from now text → SaysJoint w fleet budget from now kept result
ending_failed w fleet budget told from now kept text (Ok end) failed is front = cc
ending_failed w fleet budget told from now kept text (Err fault) failed is front =
    let P : List ℕ → Type 0 = λ t. IsWritten w fleet budget told t in
    (text, inr (told, [], subst P (sym (append-nil text)) is), front)

-- what was taken where writing failed
pub text_failed : (w : Lists) (fleet : Fleet) (budget : ℕ) (old new : Option (List ℕ)) (piece : List ℕ) (result : Result SetEnd PlanFault) → IsErr result → IsFront w fleet budget piece → IsFrontTaken old new piece → TextWrites w fleet budget old new result
text_failed w fleet budget old new piece (Ok end) failed front taken = cc
text_failed w fleet budget old new piece (Err fault) failed front taken = record {
  text = taken.sent;
  taken = taken.taken;
  is = shorter w fleet budget piece taken.sent taken.rest taken.text_is front;
}

pub front_of_nothing : (w : Lists) (fleet : Fleet) (budget : ℕ) → IsFront w fleet budget []
front_of_nothing w fleet budget = front_nothing w fleet budget

pub front_of_whole : (w : Lists) (fleet : Fleet) (budget : ℕ) (told : SetEnd) (text : List ℕ) → IsWritten w fleet budget told text → IsFront w fleet budget text
front_of_whole w fleet budget told text is =
    let P : List ℕ → Type 0 = λ t. IsWritten w fleet budget told t in
    inr (told, [], subst P (sym (append-nil text)) is)
