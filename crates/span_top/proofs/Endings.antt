-- How planning a world makes the endings of `plan`.
use Rattle.std.proofs.Common.{◌≡◌, ℕ, inl, inr, List, Option, Ok, refl, subst, arith}
use Rattle.span_base.specs.Files.{Files}
use Rattle.span_base.specs.declared.ids.SetId.{SetId}
use Rattle.workload.specs.World.{Lists}
use Rattle.plan_text.specs.Plans.{IsLeastPlan, IsPlanWithout, IsPlanCut, IsPlanFront}
use Rattle.planner.specs.Writes.{TakesText}
use Rattle.span_top.specs.declared.status.Status.{Status}
use Rattle.span_top.specs.declared.status.Status.TheVariants as status
use Rattle.span_top.specs.WorldFile.{FileSays, RefusesWorld}
use Rattle.span_top.specs.Planned.{PlanEnds, PlansWorld, WorldEnds}
use Rattle.span_top.proofs.WorldFiles.{file_whole}

plans_world : (w : Lists) (old new : Option (List ℕ)) (Is : Lists → List ℕ → Type 0) → TakesText old new (Is w) → (files : Option Files) (name : List ℕ) → FileSays files name (Ok w) → PlansWorld files name old new Is
plans_world w old new Is text files name file =
    let whole = file_whole files name w file in
    record { world = w; file = file; complete = whole.0; named = whole.1; text = text }

pub ends_done : (w : Lists) (budget : ℕ) (old new : Option (List ℕ)) → TakesText old new (IsLeastPlan w budget) → WorldEnds w budget old new status.Done
ends_done w budget old new text = plans_world w old new (λ w. IsLeastPlan w budget) text

pub ends_without : (w : Lists) (budget : ℕ) (old new : Option (List ℕ)) (set : SetId) → TakesText old new (λ text. IsPlanWithout w budget text set.0) → WorldEnds w budget old new (status.NoPolicy set)
ends_without w budget old new set text = plans_world w old new (λ w text. IsPlanWithout w budget text set.0) text

pub ends_cut : (w : Lists) (budget : ℕ) (old new : Option (List ℕ)) (set : SetId) → TakesText old new (λ text. IsPlanCut w budget text set.0) → WorldEnds w budget old new (status.Budget set)
ends_cut w budget old new set text = plans_world w old new (λ w text. IsPlanCut w budget text set.0) text

pub ends_unwritten : (w : Lists) (budget : ℕ) (old new : Option (List ℕ)) → TakesText old new (IsPlanFront w budget) → WorldEnds w budget old new status.WriteFault
ends_unwritten w budget old new text = plans_world w old new (λ w. IsPlanFront w budget) text

pub ends_in_want : (w : Lists) (budget : ℕ) (old new : Option (List ℕ)) → TakesText old new (IsPlanFront w budget) → WorldEnds w budget old new status.NoMemory
ends_in_want w budget old new text files name file = inr (plans_world w old new (λ w. IsPlanFront w budget) text files name file)

-- a world that isn't read ends `plan` as it is refused
pub ends_unread : (files : Option Files) (name : List ℕ) (budget : ℕ) (old : Option (List ℕ)) (s : Status) → RefusesWorld files name s → PlanEnds files name budget old old s
ends_unread files name budget old status.Done refused = absurd refused
ends_unread files name budget old status.NoMemory refused = inl refl
ends_unread files name budget old status.Usage refused = absurd refused
ends_unread files name budget old (status.Absent file) refused = (refused, refl)
ends_unread files name budget old (status.BadInput file line cause) refused = (refused, refl)
ends_unread files name budget old (status.NoPolicy set) refused = absurd refused
ends_unread files name budget old (status.Budget set) refused = absurd refused
ends_unread files name budget old (status.Refused line cause) refused = absurd refused
ends_unread files name budget old (status.BadEvent line cause) refused = absurd refused
ends_unread files name budget old status.ReadFault refused = (refused, refl)
ends_unread files name budget old status.WriteFault refused = absurd refused
ends_unread files name budget old (status.TooLarge file line what number) refused = (refused, refl)
ends_unread files name budget old status.LinkFault refused = absurd refused
ends_unread files name budget old (status.Strange to frame) refused = absurd refused

-- `plan` never answers that its words are of no command
pub not_usage : (files : Option Files) (name : List ℕ) (budget : ℕ) (old new : Option (List ℕ)) (s : Status) → PlanEnds files name budget old new s → s ≡ status.Usage → ⊥
not_usage files name budget old new s ends same = absurd ((subst (PlanEnds files name budget old new) same ends).0)

-- nor that a second file isn't there
pub plans_second : (files : Option Files) (name : List ℕ) (budget : ℕ) (old new : Option (List ℕ)) (s : Status) → PlanEnds files name budget old new s → s ≡ status.Absent 1 → ⊥
plans_second files name budget old new s ends same = absurd (let h : 1 ≡ 0 = (subst (PlanEnds files name budget old new) same ends).0.0 in omega (arith, h))

pub ruleset plans = (ends_done, ends_without, ends_cut, ends_unwritten, ends_in_want, ends_unread)

pub ruleset never = (not_usage, plans_second)
