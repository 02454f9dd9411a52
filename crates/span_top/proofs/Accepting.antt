-- What `plan` wrote to its end, `check` accepts.
use Rattle.std.proofs.Common.{◌≡◌, ℕ, ◌≤◌, inl, inr, List, [], length, sym, ap, subst, ◌∙◌, arith}
use Rattle.std.specs.Prelude.{Option, Some, None, Result, Ok, Err}
use Rattle.span_base.specs.Files.{Files, file_of}
use Rattle.workload.specs.World.{Lists, IsComplete, IsNamed}
use Rattle.world_text.specs.ReadWorld.{LineFault, refused_for, refused_above}
use Rattle.plan_check.specs.Plans.{ChecksPlan}
use Rattle.plan_check.specs.Laws.{IsFailing, IsWholePlan}
use Rattle.plan_check.specs.declared.fault.CheckFault.{CheckFault}
use Rattle.plan_check.proofs.WholePlans.{files_accepted, whole_accepted, least_whole, without_whole}
use Rattle.span_top.specs.declared.status.Status.{Status}
use Rattle.span_top.specs.declared.status.Status.TheVariants as status
use Rattle.span_top.specs.WorldFile.{FileSays, RefusesWorld, world_says}
use Rattle.span_top.specs.Planned.{PlanEnds, PlansWorld}
use Rattle.span_top.specs.Checked.{told, StopsCheck, CheckEnds}
use Rattle.span_top.specs.Words.{Asked}
use Rattle.span_top.specs.Spans.{Ends, IsDoneOrFailed}
use Rattle.span_top.specs.PlanLaws.{IsPlanned, WrittenPlansAreAccepted}

-- a world, the file that says it, and its plan to the end
record HasPlan (files : Files) (name text : List ℕ) : Type 0 where
  world : Lists
  says : FileSays (Some files) name (Ok world)
  complete : IsComplete world
  named : IsNamed world
  budget : ℕ
  plan : IsWholePlan world budget text

-- a text that an empty sink took is all that it has
taken_is : (text piece : List ℕ) → Some text ≡ Some piece → piece ≡ text
taken_is text piece e = cc

planned_text : (files : Files) (name text : List ℕ) (budget : ℕ) (Is : Lists → List ℕ → Type 0) → ((w : Lists) (t : List ℕ) → Is w t → IsWholePlan w budget t)
    → PlansWorld (Some files) name (Some []) (Some text) Is → HasPlan files name text
planned_text files name text budget Is whole plans = record {
  world = plans.world;
  says = plans.file;
  complete = plans.complete;
  named = plans.named;
  budget = budget;
  plan = whole plans.world text (subst (Is plans.world) (taken_is text plans.text.text plans.text.taken) plans.text.is);
}

has_plan : (files : Files) (name text : List ℕ) (budget : ℕ) (s : Status) → IsPlanned s → PlanEnds (Some files) name budget (Some []) (Some text) s → HasPlan files name text
has_plan files name text budget status.Done planned ends = planned_text files name text budget _ (λ w t. least_whole w budget t) ends
has_plan files name text budget (status.NoPolicy set) planned ends = planned_text files name text budget _ (λ w t. without_whole w budget t set.0) ends
has_plan files name text budget other planned ends = absurd planned

-- a file of the same bytes says the same
says_here : (before files : Files) (name : List ℕ) (w : Lists) → file_of name files ≡ file_of name before → FileSays (Some before) name (Ok w) → FileSays (Some files) name (Ok w)
says_here before files name w same says = record { bytes = says.bytes; held = same ∙ says.held; within = says.within; is = says.is }

some_same : (a b : List ℕ) → Some a ≡ Some b → a ≡ b
some_same a b e = cc

one_saying : (files : Files) (name : List ℕ) (a b : Result Lists LineFault) → FileSays (Some files) name a → FileSays (Some files) name b → a ≡ b
one_saying files name a b one two =
    let bytes : one.bytes ≡ two.bytes = some_same one.bytes two.bytes (sym one.held ∙ two.held) in
    sym one.is ∙ ap (world_says name) bytes ∙ two.is

-- a world that a file says isn't refused
not_refused : (files : Files) (name : List ℕ) (w : Lists) (s : Status) → FileSays (Some files) name (Ok w) → RefusesWorld (Some files) name s → IsDoneOrFailed s
not_refused files name w status.Done says refused = tt
not_refused files name w status.NoMemory says refused = tt
not_refused files name w status.ReadFault says refused = tt
not_refused files name w status.WriteFault says refused = tt
not_refused files name w (status.Absent file) says refused = absurd (let e : Some says.bytes ≡ None = sym says.held ∙ refused.1 in cc)
not_refused files name w (status.BadInput file line cause) says refused = absurd (let e : Ok w ≡ refused_for line cause = one_saying files name (Ok w) (refused_for line cause) says refused.1 in cc)
not_refused files name w (status.TooLarge file line what number) says (is, inl limit) =
    absurd (let bytes : says.bytes ≡ limit.longer.bytes = some_same says.bytes limit.longer.bytes (sym says.held ∙ limit.longer.held) in omega (arith, ap length bytes, says.within, limit.longer.above))
not_refused files name w (status.TooLarge file line what number) says (is, inr above) =
    absurd (let e : Ok w ≡ refused_above line what number = one_saying files name (Ok w) (refused_above line what number) says above in cc)
not_refused files name w other says refused = absurd refused

-- nor is its plan
failing_told : (fault : CheckFault) → IsFailing fault → IsDoneOrFailed (told fault)
failing_told fault (inl e) = subst (λ (f : CheckFault). IsDoneOrFailed (told f)) (sym e) tt
failing_told fault (inr (inl e)) = subst (λ (f : CheckFault). IsDoneOrFailed (told f)) (sym e) tt
failing_told fault (inr (inr e)) = subst (λ (f : CheckFault). IsDoneOrFailed (told f)) (sym e) tt

lists_of : Lists → Result Lists LineFault → Lists
lists_of d (Ok w) = w
lists_of d (Err fault) = d

not_stopped : (files : Files) (name plan text : List ℕ) (has : HasPlan files name text) → length text ≤ 4294967295 → file_of plan files ≡ Some text
    → (old new : Option (List ℕ)) (s : Status) → StopsCheck (Some files) name plan old new s → IsDoneOrFailed s
unfolding lists_of
not_stopped files name plan text has few held old new s stops =
    let broken = stops.0 in
    let checked = stops.2 in
    let same : checked.lists ≡ has.world = ap (lists_of has.world) (one_saying files name (Ok checked.lists) (Ok has.world) checked.file has.says) in
    let checks = subst (λ (w : Lists). ChecksPlan w (Some files) plan old new (Err broken)) same checked.checks in
    let file = whole_accepted has.world has.budget text has.plan few files plan held in
    let failing = files_accepted has.world has.complete has.named files plan has.plan.parts file old new broken checks in
    subst IsDoneOrFailed (sym stops.1) (failing_told broken failing)

checks_well : (files : Files) (name plan text : List ℕ) (has : HasPlan files name text) → length text ≤ 4294967295 → file_of plan files ≡ Some text
    → (old new : Option (List ℕ)) (s : Status) → CheckEnds (Some files) name plan old new s → IsDoneOrFailed s
checks_well files name plan text has few held old new s ends = by s ends
  where
    by : (t : Status) → CheckEnds (Some files) name plan old new t → IsDoneOrFailed t
    by status.Done e = tt
    by t (inl refused) = not_refused files name has.world t has.says refused.0
    by t (inr stops) = not_stopped files name plan text has few held old new t stops

pub plans_accepted : WrittenPlansAreAccepted
plans_accepted before files world plan text wrote few same held words asked old new from now s ends =
    let ends' = subst (λ (o : Option Asked). Ends o (Some before) (Some []) (Some text) wrote.from wrote.now wrote.status) wrote.asked wrote.ends in
    let first = has_plan before world text wrote.budget wrote.status wrote.planned ends'.0 in
    let has : HasPlan files world text = record {
      world = first.world;
      says = says_here before files world first.world same first.says;
      complete = first.complete;
      named = first.named;
      budget = first.budget;
      plan = first.plan;
    } in
    checks_well files world plan text has few held old new s (subst (λ (o : Option Asked). Ends o (Some files) old new from now s) asked ends).0
