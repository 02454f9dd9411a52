-- Nothing stops a check of an accepted plan but the shelf, the sink or want of memory.
use Rattle.std.proofs.Common.{◌≡◌, ℕ, suc, ◌+◌, ◌≤◌, inl, inr, List, [], ◌∷◌, ◌++◌, length, Some, None, Err, refl, sym, ap, ◌∙◌, append_assoc, length-append, arith, codes}
use Rattle.span_base.specs.Files.{Files, file_of}
use Rattle.workload.specs.World.{Lists, IsComplete, IsNamed}
use Rattle.slo_rules.proofs.ToldApart.{same_after}
use Rattle.plan_text.specs.Parts.{Part}
use Rattle.plan_text.specs.PlanText.{plan_text, parts_text}
use Rattle.plan_text.specs.Plans.{EachPart, IsAcceptedPart}
use Rattle.plan_text.specs.PlanLaws.{FitsPart}
use Rattle.plan_text.proofs.PlanTexts.{each_all}
use Rattle.plan_check.specs.declared.fault.CheckFault.{CheckFault}
use Rattle.plan_check.specs.declared.fault.CheckFault.TheVariants.{Absent, ReadFault, NoMemory}
use Rattle.plan_check.specs.Reading.{Ends, IsOutside, line_count}
use Rattle.plan_check.specs.Places.{parts_read, Meets}
use Rattle.plan_check.specs.Checks.{IsShownPart}
use Rattle.plan_check.specs.Plans.{RefusesBegin, ReadsEnd, IsOtherEnd}
use Rattle.plan_check.proofs.Following.{IsOutsideFault, IsSoundFile, meets_at, next_refused, behind_text, begins_at}
use Rattle.plan_check.proofs.SameParts.{AreBehind, parts_behind}

-- the first line, and what comes behind it
pub plan_split : (w : Lists) (all : List Part) → plan_text w all ≡ codes "span-plan 1\n" ++ (parts_text w 0 all ++ codes "end\n")
plan_split w all = append_assoc (codes "span-plan 1\n") (parts_text w 0 all) (codes "end\n")

-- no other first line is met
pub stops_first : (w : Lists) (files : Files) (name : List ℕ) (all : List Part) (fault : CheckFault) → IsSoundFile w files name all
    → Meets (Some files) name [] RefusesBegin fault → IsOutsideFault fault
stops_first w files name all fault plan met =
    elim (meets_at files name (plan_text w all) [] RefusesBegin fault plan.file plan.within met) [
      | inl failing ↦ failing
      | inr on ↦ absurd (let refused = next_refused (plan_text w all) [] (codes "span-plan 1") (parts_text w 0 all ++ codes "end\n") RefusesBegin fault (plan_split w all) refl on in refused.1 refl)
    ]

-- what parts come behind those that were read
pub behind_parts : (w : Lists) (files : Files) (name : List ℕ) (all parts : List Part) (rest : List ℕ) → IsComplete w → IsNamed w → IsSoundFile w files name all
    → length parts ≤ length w.sets → EachPart (IsShownPart w) parts → plan_text w all ≡ parts_read w parts ++ rest → AreBehind w 0 all parts rest
behind_parts w files name all parts rest whole named plan few shown e =
    let texts : parts_text w 0 all ++ codes "end\n" ≡ parts_text w 0 parts ++ rest =
    same_after (codes "span-plan 1\n") _ _ (sym (plan_split w all) ∙ e ∙ append_assoc (codes "span-plan 1\n") (parts_text w 0 parts) rest) in
    parts_behind w 0 parts all rest whole named (omega (arith, few)) (each_all (IsShownPart w) parts shown) (each_all (IsAcceptedPart w) all plan.sound.accepted)
    (each_all (λ n part. FitsPart part) all plan.sound.fit) texts

-- behind all parts only the last line comes
no_more : (w : Lists) (files : Files) (name : List ℕ) (all parts : List Part) (rest : List ℕ) → IsSoundFile w files name all → length parts ≡ length w.sets → (behind : AreBehind w 0 all parts rest)
    → (more : List Part) → behind.more ≡ more → more ≡ []
no_more w files name all parts rest plan full behind [] is = refl
no_more w files name all parts rest plan full behind (y ∷ more) is =
    absurd (
    let size : length all ≡ length parts + length behind.more = ap length behind.all_is ∙ length-append parts behind.more in
    let some : length behind.more ≡ suc (length more) = ap length is in
    omega (arith, size, some, full, plan.sound.one_each))

last_rest : (w : Lists) (files : Files) (name : List ℕ) (all parts : List Part) (rest : List ℕ) → IsSoundFile w files name all → length parts ≡ length w.sets → AreBehind w 0 all parts rest → rest ≡ codes "end\n"
last_rest w files name all parts rest plan full behind =
    behind.rest_is ∙ ap (λ (ps : List Part). parts_text w (0 + length parts) ps ++ codes "end\n") (no_more w files name all parts rest plan full behind behind.more refl)

-- behind the last line nothing is met
ends_well : (files : Files) (name file text : List ℕ) (fault : CheckFault) → file_of name files ≡ Some file → file ≡ text → Ends (Some files) name text (Err fault) → IsOutsideFault fault
ends_well files name file text fault is whole (inl outside) = by fault outside
  where
    by : (f : CheckFault) → IsOutside (Some files) name f → IsOutsideFault f
    by Absent none = absurd (let same : Some file ≡ None = sym is ∙ none in cc)
    by ReadFault there = inl refl
    by NoMemory there = inr refl
    by other there = absurd there
ends_well files name file text fault is whole (inr more) =
    absurd (
    let there = begins_at files name file (text ++ more.1.0 ∷ []) is more.1.1 in
    let size : length file ≡ length (text ++ more.1.0 ∷ []) + length there.0 = ap length there.1 ∙ length-append (text ++ more.1.0 ∷ []) there.0 in
    omega (arith, size, length-append text (more.1.0 ∷ []), ap length whole))

pub stops_last : (w : Lists) (files : Files) (name : List ℕ) (all parts : List Part) (fault : CheckFault) → IsComplete w → IsNamed w → IsSoundFile w files name all
    → length parts ≡ length w.sets → EachPart (IsShownPart w) parts → ReadsEnd (Some files) name (parts_read w parts) (Err fault) → IsOutsideFault fault
stops_last w files name all parts fault whole named plan full shown (inl met) =
    let text = parts_read w parts in
    let R = IsOtherEnd (line_count text + 1) in
    elim (meets_at files name (plan_text w all) text R fault plan.file plan.within met) [
      | inl failing ↦ failing
      | inr on ↦ absurd (
          let there = behind_text (plan_text w all) text R fault on in
          let rest_is = last_rest w files name all parts there.0 plan full (behind_parts w files name all parts there.0 whole named plan (omega (arith, full)) shown there.1) in
          let refused = next_refused (plan_text w all) text (codes "end") [] R fault (there.1 ∙ ap (λ (t : List ℕ). text ++ t) rest_is) refl on in
          refused.other refl)
    ]
stops_last w files name all parts fault whole named plan full shown (inr ends) = by fault ends
  where
    text : List ℕ
    text = parts_read w parts

    -- where a byte comes behind the last line, the file begins with what was read
    by : (f : CheckFault) → Ends (Some files) name (text ++ codes "end\n") (Err f) → IsOutsideFault f
    by f (inl outside) = ends_well files name (plan_text w all) (plan_text w all) f plan.file refl (inl (outside_as f outside))
      where
        outside_as : (g : CheckFault) → IsOutside (Some files) name g → IsOutside (Some files) name g
        outside_as g o = o
    by f (inr more) =
        absurd (
        let begun = begins_at files name (plan_text w all) ((text ++ codes "end\n") ++ more.1.0 ∷ []) plan.file more.1.1 in
        let split : plan_text w all ≡ text ++ (codes "end\n" ++ (more.1.0 ∷ begun.0)) =
        begun.1 ∙ append_assoc (text ++ codes "end\n") (more.1.0 ∷ []) begun.0 ∙ append_assoc text (codes "end\n") (more.1.0 ∷ begun.0) in
        let rest_is = last_rest w files name all parts (codes "end\n" ++ (more.1.0 ∷ begun.0)) plan full (behind_parts w files name all parts (codes "end\n" ++ (more.1.0 ∷ begun.0)) whole named plan (omega (arith, full)) shown split) in
        let size : suc (suc (suc (suc (suc (length begun.0))))) ≡ 4 = ap length rest_is in
        omega (arith, size))
