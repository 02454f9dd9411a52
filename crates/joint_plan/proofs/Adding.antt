-- How a search ended, put behind its lines.
use Rattle.std.proofs.Common.{◌≡◌, ℕ, ◌++◌, List, length, Option, Some, None, refl, sym, subst, ◌∙◌, inl, inr}
use Rattle.std.specs.Prelude.{codes, Result, Ok, Err, IfOk, IsSome}
use Rattle.std.specs.declared.alloc.AllocError.{AllocError}
use Rattle.zero_one.specs.Contents.{Contents}
use Rattle.branch_solver.specs.declared.progress.Progress.{Progress}
use Rattle.branch_solver.specs.declared.progress.Progress.TheVariants as progress
use Rattle.branch_solver.specs.Best.{Best, IsBest}
use Rattle.branch_solver.specs.Kept.{Kept}
use Rattle.workload.specs.World.{Lists, IsComplete, IsNamed}
use Rattle.machine_text.specs.Machines.{Fleet}
use Rattle.joint_placement.specs.Programs.{joint_program}
use Rattle.joint_placement.specs.Placed.{decoded}
use Rattle.planner.specs.Trees.{EndsSearch}
use Rattle.planner.specs.declared.ends.SetEnd.{SetEnd}
use Rattle.planner.specs.declared.ends.SetEnd.TheVariants as set_end
use Rattle.joint_plan.specs.Endings.{complete, none_there, cut_off, found_of}
use Rattle.joint_plan.specs.Writes.{IsSearched, AddsEnding, EndsSo}
use Rattle.joint_plan.proofs.Ends.{complete_whole, none_whole, cut_whole}

-- what is known at each end
ends_at : (program : Contents) (budget : ℕ) (kept : Kept) (end at : Progress) → (s : IsSearched program budget kept end) → end ≡ at → EndsSearch program s.lines kept at
ends_at program budget kept end at s is = subst (λ (e : Progress). EndsSearch program s.lines kept e) is s.ends

pub line_is_no_end : (program : Contents) (budget : ℕ) (kept : Kept) (end : Progress) → IsSearched program budget kept end → end ≡ progress.Line → ⊥
line_is_no_end program budget kept end s is = ends_at program budget kept end progress.Line s is

is_some_at : (found : Option Best) (best : Best) → found ≡ Some best → IsSome found
is_some_at None best is = cc
is_some_at (Some other) best is = refl

pub found_is_some : (program : Contents) (budget : ℕ) (kept : Kept) (end : Progress) (cost : ℕ) → IsSearched program budget kept end → end ≡ progress.Found cost → IsSome kept.best
found_is_some program budget kept end cost s is =
    let ended = ends_at program budget kept end (progress.Found cost) s is in
    is_some_at kept.best ended.1.0 ended.1.1

-- the end of a search that found a least choice, of one that found that there is none, and of one cut off
pub complete_ends : (w : Lists) (fleet : Fleet) (budget : ℕ) (kept : Kept) (end : Progress) (cost : ℕ) (old new : List ℕ) (result : Result SetEnd AllocError)
    → IsComplete w → IsNamed w → end ≡ progress.Found cost
    → IfOk result (λ told. (best : Best) → kept.best ≡ Some best → (lines : ℕ) → AddsEnding w lines (complete cost (decoded w fleet best.x)) told old new)
    → IfOk result (λ told. (s : IsSearched (joint_program w fleet) budget kept end) → EndsSo w fleet budget s.lines told old new)
complete_ends w fleet budget kept end cost old new (Err fault) known named is adds = tt
complete_ends w fleet budget kept end cost old new (Ok told) known named is adds = λ s.
    let ended = ends_at (joint_program w fleet) budget kept end (progress.Found cost) s is in
    let best = ended.1.0 in
    let sound : IsBest (joint_program w fleet) (Some best) = subst (IsBest (joint_program w fleet)) ended.1.1 s.stands.best in
    record {
      ending = complete cost (decoded w fleet best.x);
      shown = inl (complete_whole w fleet known named budget s.lines kept cost best s.limits s.stands s.same ended.0 sound ended.1.2);
      adds = adds best ended.1.1 (length s.lines);
    }

pub none_ends : (w : Lists) (fleet : Fleet) (budget : ℕ) (kept : Kept) (end : Progress) (old new : List ℕ)
    → IsComplete w → IsNamed w → end ≡ progress.NoneThere → new ≡ old ++ codes "result none\n"
    → (s : IsSearched (joint_program w fleet) budget kept end) → EndsSo w fleet budget s.lines set_end.NoPolicy old new
none_ends w fleet budget kept end old new known named is text s = record {
  ending = none_there;
  shown = inl (none_whole w fleet known named budget s.lines kept s.limits s.stands s.same (ends_at (joint_program w fleet) budget kept end progress.NoneThere s is));
  adds = record { told = refl; text_is = text };
}

pub cut_ends : (w : Lists) (fleet : Fleet) (budget : ℕ) (kept : Kept) (end : Progress) (value : Option ℕ) (old new : List ℕ) (result : Result SetEnd AllocError)
    → IsComplete w → IsNamed w → end ≡ progress.Budget value
    → IfOk result (λ told. AddsEnding w budget (cut_off (found_of w fleet kept.best)) told old new)
    → IfOk result (λ told. (s : IsSearched (joint_program w fleet) budget kept end) → EndsSo w fleet budget s.lines told old new)
cut_ends w fleet budget kept end value old new (Err fault) known named is adds = tt
cut_ends w fleet budget kept end value old new (Ok told) known named is adds = λ s.
    let off = ends_at (joint_program w fleet) budget kept end (progress.Budget value) s is in
    let full : length s.lines ≡ budget = off.full ∙ s.same in
    record {
      ending = cut_off (found_of w fleet kept.best);
      shown = inr (cut_whole w fleet known named budget s.lines kept s.stands s.same off);
      adds = subst (λ n. AddsEnding w n (cut_off (found_of w fleet kept.best)) told old new) (sym full) adds;
    }
