-- How a check ends, and what the sink took then.
use Rattle.std.proofs.Common.{◌≡◌, ℕ, true, false, List, [], ◌++◌, length, sym, ap, ◌∙◌, subst, refl, inl, inr, append_assoc, arith, codes}
use Rattle.std.specs.Prelude.{Option, Result, Ok, Err}
use Rattle.span_base.specs.Files.{Files}
use Rattle.span_base.specs.Taken.{Appends}
use Rattle.span_base.proofs.Appending.{Appends-nothing}
use Rattle.workload.specs.World.{Lists}
use Rattle.sink_buffer.specs.Said.{IsSaid, IsFrontTaken}
use Rattle.plan_text.specs.Parts.{Part}
use Rattle.plan_check.specs.declared.fault.CheckFault.{CheckFault}
use Rattle.plan_check.specs.declared.fault.CheckFault.TheVariants.{Absent, ReadFault, TooLarge, Bad, Refused, WriteFault, NoMemory}
use Rattle.plan_check.specs.declared.lines.PlanLines.{PlanLines}
use Rattle.plan_check.specs.Reading.{HasRead}
use Rattle.plan_check.specs.Places.{parts_read}
use Rattle.plan_check.specs.Checks.{IsShownPart}
use Rattle.plan_check.specs.Plans.{told_from, told_plan, Tells, HandsOver, ReadsEnd, ChecksSets, HasChecked, StopsAtPart, StopsBehind, in_part, at_end, IsWanting, is_wanting, ChecksText, ChecksPlan}
use Rattle.plan_check.proofs.PartTexts.{each_none}

-- what is said is a front of more
pub front_more : (from now : Option (List ℕ)) (kept text more : List ℕ) → IsSaid from now kept text → IsFrontTaken from now (text ++ more)
front_more from now kept text more said = record {
  sent = said.sent;
  rest = kept ++ more;
  taken = said.taken;
  text_is = ap (λ (t : List ℕ). t ++ more) said.text_is ∙ append_assoc said.sent kept more;
}

pub front_longer : (from now : Option (List ℕ)) (text more : List ℕ) → IsFrontTaken from now text → IsFrontTaken from now (text ++ more)
front_longer from now text more front = record {
  sent = front.sent;
  rest = front.rest ++ more;
  taken = front.taken;
  text_is = ap (λ (t : List ℕ). t ++ more) front.text_is ∙ append_assoc front.sent front.rest more;
}

pub said_nothing : (now : Option (List ℕ)) (kept : List ℕ) → kept ≡ [] → IsSaid now now kept []
said_nothing now kept is = record { sent = []; taken = Appends-nothing now; text_is = sym is }

-- before the first part
pub ends_first : (w : Lists) (files : Option Files) (name : List ℕ) (from now : Option (List ℕ)) (kept : List ℕ) (fault : CheckFault)
    → StopsBehind w files name [] fault → IsSaid from now kept [] → ChecksText w files name from now kept (Err fault)
ends_first w files name from now kept fault stops said =
    ([], record { few = omega arith; accepted = each_none (IsShownPart w); why = inl (stops, said) })

pub ends_wanting : (w : Lists) (files : Option Files) (name : List ℕ) (from now : Option (List ℕ)) (kept : List ℕ) (fault : CheckFault)
    → IsWanting fault → IsSaid from now kept [] → ChecksText w files name from now kept (Err fault)
ends_wanting w files name from now kept fault wanting said =
    ([], record { few = omega arith; accepted = each_none (IsShownPart w); why = inr (wanting, front_more from now kept [] (told_plan w []) said) })

-- in a part
pub ends_part : (w : Lists) (files : Option Files) (name : List ℕ) (from now : Option (List ℕ)) (kept : List ℕ) (parts : List Part) (fault : CheckFault)
    → StopsAtPart w files name from now kept parts fault → ChecksText w files name from now kept (Err fault)
ends_part w files name from now kept parts fault stops = (
  parts,
  record {
    few = stops.few;
    accepted = stops.accepted;
    why = elim stops.why [ inl why ↦ inl (in_part why.0 why.1, why.2) | inr why ↦ inr (why.0, front_longer from now (told_from w 0 parts) (codes "plan ok\n") why.1) ];
  },
)

-- behind the last part
pub ends_last : (w : Lists) (files : Option Files) (name : List ℕ) (from now : Option (List ℕ)) (reader : PlanLines) (kept : List ℕ) (parts : List Part) (fault : CheckFault)
    → length parts ≡ length w.sets → HasChecked w files name from now reader kept parts → ReadsEnd files name (parts_read w parts) (Err fault)
    → ChecksText w files name from now kept (Err fault)
ends_last w files name from now reader kept parts fault all checked ends =
    (parts, record { few = omega (arith, all); accepted = checked.accepted; why = inl (at_end all ends, checked.said) })

-- an accepted plan
pub ends_checked : (w : Lists) (files : Option Files) (name : List ℕ) (from mid now : Option (List ℕ)) (reader : PlanLines) (before kept : List ℕ) (parts : List Part) (r : Result (Unit {0}) CheckFault)
    → length parts ≡ length w.sets → HasChecked w files name from mid reader before parts → ReadsEnd files name (parts_read w parts) (Ok tt)
    → Tells from now kept (told_plan w parts) r → ChecksText w files name from now kept r
ends_checked w files name from mid now reader before kept parts (Ok done) all checked ends tells = record {
  text = parts_read w parts ++ codes "end\n";
  parts = parts;
  file = ends.0;
  few = ends.1;
  plan = record { text_is = refl; one_each = all; accepted = λ set part e. (checked.accepted set part e).accepted };
  shown = checked.accepted;
  written = tells;
}
ends_checked w files name from mid now reader before kept parts (Err fault) all checked ends tells =
    (parts, record { few = omega (arith, all); accepted = checked.accepted; why = inr (tells.0, tells.1) })

-- what is handed over of an accepted plan
pub hands_checked : (w : Lists) (files : Option Files) (name : List ℕ) (from mid now : Option (List ℕ)) (kept : List ℕ) (r : Result (Unit {0}) CheckFault)
    → ChecksText w files name from mid kept (Ok tt) → ((text : List ℕ) → IsSaid from mid kept text → HandsOver from now text r) → ChecksPlan w files name from now r
hands_checked w files name from mid now kept (Ok done) checked hands = record {
  text = checked.text;
  parts = checked.parts;
  file = checked.file;
  few = checked.few;
  plan = checked.plan;
  shown = checked.shown;
  written = hands (told_plan w checked.parts) checked.written;
}
hands_checked w files name from mid now kept (Err fault) checked hands =
    let over = hands (told_plan w checked.parts) checked.written in
    (checked.parts, record { few = omega (arith, checked.plan.one_each); accepted = checked.shown; why = inr (over.0, over.1) })

-- what is left of one whose sink failed
pub hands_nothing : (w : Lists) (files : Option Files) (name : List ℕ) (from now : Option (List ℕ)) (kept : List ℕ) (fault : CheckFault) → IsWanting fault
    → ChecksText w files name from now kept (Err fault) → ChecksPlan w files name from now (Err fault)
hands_nothing w files name from now kept fault wanting checked = (
  checked.0,
  record {
    few = checked.1.few;
    accepted = checked.1.accepted;
    why = elim checked.1.why [ inl why ↦ inr (wanting, front_more from now kept (told_from w 0 checked.0) (codes "plan ok\n") why.1) | inr why ↦ inr why ];
  },
)

-- a refusal, with what was said before handed over
pub hands_refused : (w : Lists) (files : Option Files) (name : List ℕ) (from mid now : Option (List ℕ)) (kept : List ℕ) (fault : CheckFault) → ¬ IsWanting fault
    → ChecksText w files name from mid kept (Err fault) → ((text : List ℕ) → IsSaid from mid kept text → Appends from now text) → ChecksPlan w files name from now (Err fault)
hands_refused w files name from mid now kept fault sound checked hands = (
  checked.0,
  record {
    few = checked.1.few;
    accepted = checked.1.accepted;
    why = elim checked.1.why [ inl why ↦ inl (why.0, hands (told_from w 0 checked.0) why.1) | inr why ↦ absurd (sound why.0) ];
  },
)

pub hands_failed : (w : Lists) (files : Option Files) (name : List ℕ) (from mid now : Option (List ℕ)) (kept : List ℕ) (fault failed : CheckFault) → ¬ IsWanting fault
    → ChecksText w files name from mid kept (Err fault) → ((text : List ℕ) → IsSaid from mid kept text → IsWanting failed × IsFrontTaken from now text) → ChecksPlan w files name from now (Err failed)
hands_failed w files name from mid now kept fault failed sound checked hands =
    let why : IsWanting failed × IsFrontTaken from now (told_plan w checked.0) = elim checked.1.why [
      | inl why ↦ (let over = hands (told_from w 0 checked.0) why.1 in (over.0, front_longer from now (told_from w 0 checked.0) (codes "plan ok\n") over.1))
      | inr why ↦ absurd (sound why.0)
    ] in
    (checked.0, record { few = checked.1.few; accepted = checked.1.accepted; why = inr why })

-- over the files that the shelf told at first
pub sets_at : (w : Lists) (files now : Option Files) (name : List ℕ) (from out : Option (List ℕ)) (old new : PlanLines) (kept : List ℕ) (r : Result (Unit {0}) CheckFault) → now ≡ files
    → (HasRead now name (parts_read w []) old → ChecksSets w now name from out new kept r) → HasRead files name (parts_read w []) old → ChecksSets w files name from out new kept r
sets_at w files now name from out old new kept r same checks =
    subst (λ (f : Option Files). HasRead f name (parts_read w []) old → ChecksSets w f name from out new kept r) same checks

pub end_at : (files now : Option Files) (name text : List ℕ) (old : PlanLines) (r : Result (Unit {0}) CheckFault) → now ≡ files
    → (HasRead now name text old → ReadsEnd now name text r) → HasRead files name text old → ReadsEnd files name text r
end_at files now name text old r same reads = subst (λ (f : Option Files). HasRead f name text old → ReadsEnd f name text r) same reads

pub wanting_is : (fault : CheckFault) → is_wanting fault ≡ true → IsWanting fault
wanting_is Absent is = absurd (cc)
wanting_is ReadFault is = absurd (cc)
wanting_is (TooLarge line what number) is = absurd (cc)
wanting_is (Bad line cause) is = absurd (cc)
wanting_is (Refused line cause) is = absurd (cc)
wanting_is WriteFault is = inl refl
wanting_is NoMemory is = inr refl

pub not_wanting : (fault : CheckFault) → is_wanting fault ≡ false → ¬ IsWanting fault
not_wanting fault is wanting = elim wanting [
  | inl e ↦ (let same : is_wanting fault ≡ true = ap is_wanting e in cc)
  | inr e ↦ (let same : is_wanting fault ≡ true = ap is_wanting e in cc)
]

-- before anything is said
pub ends_unsaid : (w : Lists) (files : Option Files) (name : List ℕ) (now : Option (List ℕ)) → ChecksPlan w files name now now (Err NoMemory)
ends_unsaid w files name now = (
  [],
  record {
    few = omega arith;
    accepted = each_none (IsShownPart w);
    why = inr (inr refl, record { sent = []; rest = told_plan w []; taken = Appends-nothing now; text_is = refl });
  },
)
