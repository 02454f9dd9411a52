-- The sets of a plan, one after another.
use Rattle.std.proofs.Common.{◌≡◌, ℕ, suc, ◌+◌, ◌<◌, List, [], ◌∷◌, ◌++◌, length, sym, ap, ◌∙◌, subst, refl, inr, append_assoc, append-nil, length-append, arith}
use Rattle.std.specs.Prelude.{Option, Result, Err}
use Rattle.span_base.specs.Files.{Files}
use Rattle.workload.specs.World.{Lists}
use Rattle.sink_buffer.specs.Said.{IsSaid, IsFrontTaken}
use Rattle.plan_text.specs.Parts.{Part}
use Rattle.plan_text.specs.Plans.{EachPart}
use Rattle.plan_check.specs.declared.fault.CheckFault.{CheckFault}
use Rattle.plan_check.specs.declared.lines.PlanLines.{PlanLines}
use Rattle.plan_check.specs.Reading.{HasRead}
use Rattle.plan_check.specs.Places.{parts_read}
use Rattle.plan_check.specs.Checks.{IsShownPart, ReadsPart, IsNextPart, told_cost}
use Rattle.plan_check.specs.Plans.{told_line, told_from, Tells, HasChecked, StopsAtPart}
use Rattle.plan_check.proofs.PartTexts.{each_none, each_more}

-- the parts of so many sets are checked
pub record HasCheckedSo (w : Lists) (files : Option Files) (name : List ℕ) (from now : Option (List ℕ)) (reader : PlanLines) (kept : List ℕ) (number : ℕ) : Type 0 where
  pub parts : List Part
  pub count : number ≡ length parts
  pub checked : HasChecked w files name from now reader kept parts

-- the line of one more part
told_on : (w : Lists) (set : ℕ) (parts : List Part) (part : Part) → told_from w set (parts ++ part ∷ []) ≡ told_from w set parts ++ told_line w (set + length parts) (told_cost part.ending)
told_on w set [] part = let e : set ≡ set + 0 = omega arith in append-nil (told_line w set (told_cost part.ending)) ∙ ap (λ n. told_line w n (told_cost part.ending)) e
told_on w set (p ∷ parts) part =
    let e : (set + 1) + length parts ≡ set + suc (length parts) = omega arith in
    ap (λ t. told_line w set (told_cost p.ending) ++ t) (told_on w (set + 1) parts part ∙ ap (λ n. told_from w (set + 1) parts ++ told_line w n (told_cost part.ending)) e)
    ∙ sym (append_assoc (told_line w set (told_cost p.ending)) (told_from w (set + 1) parts) (told_line w (set + suc (length parts)) (told_cost part.ending)))

-- what is said with one more part
pub told_more : (w : Lists) (parts : List Part) (part : Part) (set : ℕ) (cost : Option ℕ) → set ≡ length parts → cost ≡ told_cost part.ending
    → told_from w 0 parts ++ told_line w set cost ≡ told_from w 0 (parts ++ part ∷ [])
told_more w parts part set cost set_is cost_is =
    let z : length parts ≡ 0 + length parts = omega arith in
    ap (λ n. told_from w 0 parts ++ told_line w n cost) (set_is ∙ z) ∙ ap (λ c. told_from w 0 parts ++ told_line w (0 + length parts) c) cost_is ∙ sym (told_on w 0 parts part)

pub checked_none : (w : Lists) (files : Option Files) (name : List ℕ) (from now : Option (List ℕ)) (reader : PlanLines) (kept : List ℕ)
    → HasRead files name (parts_read w []) reader → IsSaid from now kept [] → HasCheckedSo w files name from now reader kept 0
checked_none w files name from now reader kept read said = record {
  parts = [];
  count = refl;
  checked = record { accepted = each_none (IsShownPart w); read = read; said = said };
}

-- what reading a part gives, over the files that the shelf told at first
pub part_at : (w : Lists) (files now : Option Files) (name : List ℕ) (parts : List Part) (old new : PlanLines) (r : Result (Option ℕ) CheckFault) → now ≡ files
    → (HasRead now name (parts_read w parts) old → ReadsPart w now name parts new r) → HasRead files name (parts_read w parts) old → ReadsPart w files name parts new r
part_at w files now name parts old new r same reads =
    subst (λ (f : Option Files). HasRead f name (parts_read w parts) old → ReadsPart w f name parts new r) same reads

pub checked_more : (w : Lists) (files : Option Files) (name : List ℕ) (from now : Option (List ℕ)) (reader : PlanLines) (kept : List ℕ) (parts : List Part) (set : ℕ) (cost : Option ℕ)
    → EachPart (IsShownPart w) parts → set ≡ length parts → IsNextPart w files name parts reader cost
    → IsSaid from now kept (told_from w 0 parts ++ told_line w set cost) → HasCheckedSo w files name from now reader kept (set + 1)
checked_more w files name from now reader kept parts set cost accepted set_is next said = record {
  parts = parts ++ next.part ∷ [];
  count = ap (λ n. n + 1) set_is ∙ sym (length-append parts (next.part ∷ []));
  checked = record {
    accepted = each_more (IsShownPart w) parts next.part accepted next.accepted;
    read = next.read;
    said = subst (IsSaid from now kept) (told_more w parts next.part set cost set_is next.cost_is) said;
  };
}

-- the sink failed at the line of one more part
pub stops_telling : (w : Lists) (files : Option Files) (name : List ℕ) (from now : Option (List ℕ)) (reader : PlanLines) (kept : List ℕ) (parts : List Part) (set : ℕ) (cost : Option ℕ) (fault : CheckFault)
    → EachPart (IsShownPart w) parts → set ≡ length parts → set < length w.sets → IsNextPart w files name parts reader cost
    → Tells from now kept (told_from w 0 parts ++ told_line w set cost) (Err fault) → (all : List Part) × StopsAtPart w files name from now kept all fault
stops_telling w files name from now reader kept parts set cost fault accepted set_is there next tells = (
  parts ++ next.part ∷ [],
  record {
    few = omega (arith, length-append parts (next.part ∷ []));
    accepted = each_more (IsShownPart w) parts next.part accepted next.accepted;
    why = inr (tells.0, subst (IsFrontTaken from now) (told_more w parts next.part set cost set_is next.cost_is) tells.1);
  },
)
