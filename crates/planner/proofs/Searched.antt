-- The part of a set, said as its search goes and ends.
use Rattle.std.proofs.Common.{◌≡◌, ℕ, ◌<◌, ◌++◌, List, [], length, Option, Some, None, refl, sym, ap, subst, ◌∙◌, append_assoc, inl, inr}
use Rattle.std.specs.Prelude.{codes, Result, Ok, Err, IfOk, IsSome}
use Rattle.std.specs.Result.{IsErr}
use Rattle.std.proofs.lemmas.List.{append-nil}
use Rattle.bound_cert.specs.declared.leaves.Line.{Line}
use Rattle.zero_one.specs.Contents.{Contents}
use Rattle.zero_one.specs.Program.{IsWithinLimits}
use Rattle.branch_solver.specs.declared.progress.Progress.{Progress}
use Rattle.branch_solver.specs.declared.progress.Progress.TheVariants as progress
use Rattle.branch_solver.specs.Best.{Best, IsBest}
use Rattle.branch_solver.specs.Kept.{Kept, StandsFor}
use Rattle.sink_buffer.specs.Said.{IsSaid, IsFrontTaken}
use Rattle.sink_buffer.proofs.Saying.{front_from_said, front_longer}
use Rattle.workload.specs.World.{Lists, IsComplete, IsNamed}
use Rattle.placement.specs.Placement.{IsSet, program_of, decoded}
use Rattle.plan_text.specs.Parts.{complete, cut_off}
use Rattle.plan_text.specs.PlanText.{set_line, tree_text, begun_text, ending_text}
use Rattle.planner.specs.declared.ends.SetEnd.{SetEnd}
use Rattle.planner.specs.declared.ends.SetEnd.TheVariants as set_end
use Rattle.planner.specs.declared.ends.PlanFault.{PlanFault}
use Rattle.planner.specs.Ends.{set_end_of, found_of}
use Rattle.planner.specs.Writes.{Tells, SaysPart, IsPartText}
use Rattle.planner.specs.Trees.{EndsSearch, SaysTree, IsSearched}
use Rattle.planner.proofs.PartEnds.{begun_part, begun_nothing, complete_part, none_part, cut_part}

-- a set of a world, whose numbers are all there and whose names are
pub set_is : (w : Lists) (set : ℕ) → IsComplete w → IsNamed w → set < length w.sets → IsSet w set
set_is w set whole names there = record { complete = whole; named = names; there = there }

-- the lines of a tree behind the part's first line
behind_line : (w : Lists) (set variables : ℕ) (program : Contents) (lines : List Line) (text : List ℕ) → program ≡ program_of w set → variables ≡ length program.costs
    → (text ++ set_line w set variables) ++ tree_text lines ≡ text ++ begun_text w set lines
behind_line w set variables program lines text is count =
    append_assoc text (set_line w set variables) (tree_text lines)
    ∙ ap (λ n. text ++ (set_line w set n ++ tree_text lines)) (count ∙ ap (λ (p : Contents). length p.costs) is)

-- a fault before the part's first line
pub part_not_begun : (w : Lists) (budget set : ℕ) (from now : Option (List ℕ)) (held kept text : List ℕ) (result : Result SetEnd PlanFault) → IsErr result → IsSaid from now held text → SaysPart w budget set from now kept text result
part_not_begun w budget set from now held kept text (Ok end) failed said = cc
part_not_begun w budget set from now held kept text (Err fault) failed said =
    ([], inl ([], begun_nothing w budget set, (begun_text w set [], refl)), front_longer from now text [] (front_from_said from now held text said))

-- a fault at the part's first line
pub first_line_failed : (w : Lists) (budget set variables : ℕ) (program : Contents) (from now : Option (List ℕ)) (kept text : List ℕ) (result : Result SetEnd PlanFault)
    → program ≡ program_of w set → variables ≡ length program.costs → IsErr result → IsFrontTaken from now (text ++ set_line w set variables) → SaysPart w budget set from now kept text result
first_line_failed w budget set variables program from now kept text (Ok end) is count failed front = cc
first_line_failed w budget set variables program from now kept text (Err fault) is count failed front =
    let begun = begun_text w set [] in (
      begun,
      inl ([], begun_nothing w budget set, ([], append-nil begun)),
      subst (IsFrontTaken from now) (sym (append-nil (text ++ set_line w set variables)) ∙ behind_line w set variables program [] text is count) front,
    )

-- a fault in the tree
pub part_tree_failed : (w : Lists) (budget set variables : ℕ) (program : Contents) (made kept : Kept) (before : Option (List ℕ)) (held_before : List ℕ) (from now : Option (List ℕ)) (held text : List ℕ) (fault : PlanFault) (result : Result SetEnd PlanFault)
    → IsSet w set → program ≡ program_of w set → variables ≡ length program.costs → made.budget ≡ budget
    → SaysTree program made.budget kept before held_before now held (Err fault)
    → IsErr result → IsSaid from before held_before (text ++ set_line w set variables) → SaysPart w budget set from now held text result
part_tree_failed w budget set variables program made kept before held_before from now held text fault (Ok end) known is count same tree failed said = cc
part_tree_failed w budget set variables program made kept before held_before from now held text fault (Err again) known is count same tree failed said =
    let begun = begun_text w set tree.lines in (
      begun,
      inl (tree.lines, begun_part w budget set program tree.lines kept known is tree.stands (tree.same ∙ same), ([], append-nil begun)),
      subst (IsFrontTaken from now) (behind_line w set variables program tree.lines text is count) (tree.told from (text ++ set_line w set variables) said),
    )

-- the search ended
pub searched : (w : Lists) (budget set : ℕ) (program : Contents) (made kept : Kept) (before : Option (List ℕ)) (held_before : List ℕ) (now : Option (List ℕ)) (held : List ℕ) (end : Progress)
    → program ≡ program_of w set → IsWithinLimits program → made.budget ≡ budget
    → SaysTree program made.budget kept before held_before now held (Ok end) → IsSearched w budget set kept end
searched w budget set program made kept before held_before now held end is limits same tree =
    let P : Contents → Type 0 = λ p. StandsFor p tree.lines kept in
    let Q : Contents → Type 0 = λ p. EndsSearch p tree.lines kept end in
    record {
      limits = subst IsWithinLimits is limits;
      lines = tree.lines;
      stands = subst P is tree.stands;
      same = tree.same ∙ same;
      ends = subst Q is tree.ends;
    }

-- and its lines are said
pub searched_said : (w : Lists) (budget set variables : ℕ) (program : Contents) (made kept : Kept) (before : Option (List ℕ)) (held_before : List ℕ) (from now : Option (List ℕ)) (held text : List ℕ) (end : Progress)
    → program ≡ program_of w set → variables ≡ length program.costs → IsWithinLimits program → made.budget ≡ budget
    → SaysTree program made.budget kept before held_before now held (Ok end) → IsSaid from before held_before (text ++ set_line w set variables)
    → (s : IsSearched w budget set kept end) × IsSaid from now held (text ++ begun_text w set s.lines)
unfolding searched
searched_said w budget set variables program made kept before held_before from now held text end is count limits same tree said = (
  searched w budget set program made kept before held_before now held end is limits same tree,
  subst (IsSaid from now held) (behind_line w set variables program tree.lines text is count) (tree.told from (text ++ set_line w set variables) said),
)

-- what is known at each end
ends_at : (w : Lists) (budget set : ℕ) (kept : Kept) (end at : Progress) → (s : IsSearched w budget set kept end) → end ≡ at → EndsSearch (program_of w set) s.lines kept at
ends_at w budget set kept end at s is = let P : Progress → Type 0 = λ e. EndsSearch (program_of w set) s.lines kept e in subst P is s.ends

pub line_is_no_end : (w : Lists) (budget set : ℕ) (kept : Kept) (end : Progress) → IsSearched w budget set kept end → end ≡ progress.Line → ⊥
line_is_no_end w budget set kept end s is = ends_at w budget set kept end progress.Line s is

is_some_at : (found : Option Best) (best : Best) → found ≡ Some best → IsSome found
is_some_at None best is = cc
is_some_at (Some other) best is = refl

pub found_is_some : (w : Lists) (budget set : ℕ) (kept : Kept) (end : Progress) (cost : ℕ) → IsSearched w budget set kept end → end ≡ progress.Found cost → IsSome kept.best
found_is_some w budget set kept end cost s is =
    let ended = ends_at w budget set kept end (progress.Found cost) s is in
    is_some_at kept.best ended.1.0 ended.1.1

-- the part's end behind its lines
part_said : (w : Lists) (budget set : ℕ) (from now : Option (List ℕ)) (kept text begun ending : List ℕ) (end : SetEnd) (result : Result SetEnd PlanFault)
    → IfOk result (λ e. e ≡ end) → IsPartText w budget set end (begun ++ ending) → Tells from now kept ((text ++ begun) ++ ending) result → SaysPart w budget set from now kept text result
part_said w budget set from now kept text begun ending end (Ok e) is part said =
    let P : SetEnd → Type 0 = λ x. IsPartText w budget set x (begun ++ ending) in
    (begun ++ ending, subst P (sym is) part, subst (IsSaid from now kept) (append_assoc text begun ending) said)
part_said w budget set from now kept text begun ending end (Err fault) is part front =
    let P : List ℕ → Type 0 = λ t. IsPartText w budget set end t in
    (begun ++ ending, inr (end, [], subst P (sym (append-nil (begun ++ ending))) part), subst (IsFrontTaken from now) (append_assoc text begun ending) front)

-- the end of a search that found a least choice, of one that found that there is none, and of one cut off
pub complete_said : (w : Lists) (budget set : ℕ) (kept : Kept) (end : Progress) (cost : ℕ) (from now : Option (List ℕ)) (held text : List ℕ) (result : Result SetEnd PlanFault)
    → IsSet w set → (s : IsSearched w budget set kept end) → end ≡ progress.Found cost → IfOk result (λ e. e ≡ set_end.Complete cost)
    → ((best : Best) → kept.best ≡ Some best → (lines : ℕ) → Tells from now held ((text ++ begun_text w set s.lines) ++ ending_text w lines (complete cost (decoded w set best.x))) result)
    → SaysPart w budget set from now held text result
complete_said w budget set kept end cost from now held text result known s is ends tells =
    let ended = ends_at w budget set kept end (progress.Found cost) s is in
    let best = ended.1.0 in
    let sound : IsBest (program_of w set) (Some best) = subst (IsBest (program_of w set)) ended.1.1 s.stands.best in
    part_said w budget set from now held text (begun_text w set s.lines) (ending_text w (length s.lines) (complete cost (decoded w set best.x))) (set_end.Complete cost) result ends
    (complete_part w budget set (program_of w set) s.lines kept cost best known refl s.limits s.stands s.same ended.0 sound ended.1.2)
    (tells best ended.1.1 (length s.lines))

pub none_said : (w : Lists) (budget set : ℕ) (kept : Kept) (end : Progress) (from now : Option (List ℕ)) (held text : List ℕ) (result : Result SetEnd PlanFault)
    → IsSet w set → (s : IsSearched w budget set kept end) → end ≡ progress.NoneThere → IfOk result (λ e. e ≡ set_end.NoPolicy)
    → Tells from now held ((text ++ begun_text w set s.lines) ++ codes "result none\n") result
    → SaysPart w budget set from now held text result
none_said w budget set kept end from now held text result known s is ends tells =
    part_said w budget set from now held text (begun_text w set s.lines) (codes "result none\n") set_end.NoPolicy result ends
    (none_part w budget set (program_of w set) s.lines kept known refl s.limits s.stands s.same (ends_at w budget set kept end progress.NoneThere s is))
    tells

pub cut_said : (w : Lists) (budget set : ℕ) (kept : Kept) (end : Progress) (value : Option ℕ) (from now : Option (List ℕ)) (held text : List ℕ) (result : Result SetEnd PlanFault)
    → IsSet w set → (s : IsSearched w budget set kept end) → end ≡ progress.Budget value → IfOk result (λ e. e ≡ set_end_of (cut_off (found_of w set kept.best)))
    → Tells from now held ((text ++ begun_text w set s.lines) ++ ending_text w budget (cut_off (found_of w set kept.best))) result
    → SaysPart w budget set from now held text result
cut_said w budget set kept end value from now held text result known s is ends tells =
    part_said w budget set from now held text (begun_text w set s.lines) (ending_text w budget (cut_off (found_of w set kept.best))) (set_end_of (cut_off (found_of w set kept.best))) result ends
    (cut_part w budget set (program_of w set) s.lines kept known refl s.stands s.same (ends_at w budget set kept end (progress.Budget value) s is))
    tells
