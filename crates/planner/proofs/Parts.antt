-- A plan grows part by part.
use Rattle.std.proofs.Common.{◌≡◌, ℕ, zero, suc, ◌+◌, ◌<◌, ◌≤◌, Bool, true, false, List, [], ◌∷◌, ◌++◌, length, slice_get, Some, Option, refl, sym, ap, subst, ◌∙◌, append_assoc, length-append, inl, inr, arith}
use Rattle.std.specs.Prelude.{codes, ◌⊎◌, Ok}
use Rattle.std.proofs.lemmas.List.{append-nil}
use Rattle.std.proofs.lemmas.Option.{slice_get_within}
use Rattle.std.proofs.Math.Nat.{eq-or-lt_of_le}
use Rattle.span_base.specs.declared.ids.SetId.{SetId}
use Rattle.workload.specs.World.{Lists}
use Rattle.plan_text.specs.Parts.{Ending, complete, none_allowed, cut_off, Part, completes, is_cut}
use Rattle.plan_text.specs.PlanText.{part_text, parts_text, begun_text}
use Rattle.plan_text.specs.Plans.{EachPart, IsWrittenPart, IsTrueOf, IsFirst, IsWrittenPlan, AreFirstParts, IsPlanFront}
use Rattle.sink_buffer.specs.Said.{IsSaid, IsFrontTaken}
use Rattle.span_base.specs.Taken.{Appends}
use Rattle.planner.specs.Ends.{set_end_of, end_with}
use Rattle.planner.specs.Writes.{IsPartText, IsPartFront, IsBegunPart, TakesText, PlanWrites}
use Rattle.planner.specs.declared.ends.SetEnd.{SetEnd}
use Rattle.planner.specs.declared.ends.SetEnd.TheVariants as set_end
use Rattle.planner.specs.declared.ends.PlanEnd.{PlanEnd}
use Rattle.planner.specs.declared.ends.PlanEnd.TheVariants.{Complete, NoPolicy, Budget}
use Rattle.planner.proofs.PartEnds.{begun_nothing}

-- the ending of a part gives the least policy, has none, or is cut off
abbrev Completes : Ending → Type 0
Completes ending = completes ending ≡ true

abbrev Lacks : Ending → Type 0
Lacks ending = completes ending ≡ false

abbrev IsCut : Ending → Type 0
IsCut ending = is_cut ending ≡ true

abbrev IsUncut : Ending → Type 0
IsUncut ending = is_cut ending ≡ false

-- how planning ended for these parts
pub record EndsWithout (parts : List Part) (set : ℕ) : Type 0 where
  pub uncut : EachPart (λ other part. IsUncut part.ending) parts
  pub lacks : IsFirst Lacks parts set

abbrev pub EndsSo : List Part → PlanEnd → Type 0
EndsSo parts Complete = EachPart (λ other part. Completes part.ending) parts
EndsSo parts (NoPolicy set) = EndsWithout parts set.0
EndsSo parts (Budget set) = IsFirst IsCut parts set.0

-- the parts of the first sets are written
pub record SoFar (w : Lists) (budget set : ℕ) (text : List ℕ) (end : PlanEnd) : Type 0 where
  pub parts : List Part
  pub text_is : text ≡ codes "span-plan 1\n" ++ parts_text w 0 parts
  pub count : length parts ≡ set
  pub written : EachPart (IsWrittenPart w budget) parts
  pub holds : EachPart (λ other part. IsTrueOf w other part.ending) parts
  pub ends : EndsSo parts end

-- nothing holds of no part
no_part : (P : ℕ → Part → Type 0) → EachPart P []
no_part P set part e = absurd (cc)

-- before the first set
pub so_far_none : (w : Lists) (budget : ℕ) → SoFar w budget 0 (codes "span-plan 1\n") Complete
so_far_none w budget = record {
  parts = [];
  text_is = sym (append-nil (codes "span-plan 1\n"));
  count = refl;
  written = no_part (IsWrittenPart w budget);
  holds = no_part (λ other part. IsTrueOf w other part.ending);
  ends = no_part (λ other part. Completes part.ending);
}

-- what holds of each part and of one more holds of all
each_more : (P : ℕ → Part → Type 0) (parts : List Part) (part : Part) → EachPart P parts → P (length parts) part → EachPart P (parts ++ part ∷ [])
each_more P [] part each here zero q e = let same : part ≡ q = cc in subst (P zero) same here
each_more P [] part each here (suc k) q e = absurd (cc)
each_more P (p ∷ parts) part each here zero q e = each zero q e
each_more P (p ∷ parts) part each here (suc k) q e = each_more (λ n. P (suc n)) parts part (λ n r f. each (suc n) r f) here k q e

-- a part stays where it is, and one more comes last
stays_at : (parts : List Part) (part : Part) (k : ℕ) (q : Part) → slice_get parts k ≡ Some q → slice_get (parts ++ part ∷ []) k ≡ Some q
stays_at [] part k q e = absurd (cc)
stays_at (p ∷ parts) part zero q e = e
stays_at (p ∷ parts) part (suc k) q e = stays_at parts part k q e

comes_last : (parts : List Part) (part : Part) → slice_get (parts ++ part ∷ []) (length parts) ≡ Some part
comes_last [] part = refl
comes_last (p ∷ parts) part = comes_last parts part

-- the text of one more part
text_more : (w : Lists) (set : ℕ) (parts : List Part) (part : Part) → parts_text w set (parts ++ part ∷ []) ≡ parts_text w set parts ++ part_text w (set + length parts) part
text_more w set [] part = let e : set ≡ set + 0 = omega arith in append-nil (part_text w set part) ∙ ap (λ n. part_text w n part) e
text_more w set (p ∷ parts) part =
    let e : (set + 1) + length parts ≡ set + suc (length parts) = omega arith in
    ap (λ t. part_text w set p ++ t) (text_more w (set + 1) parts part ∙ ap (λ n. parts_text w (set + 1) parts ++ part_text w n part) e)
    ∙ sym (append_assoc (part_text w set p) (parts_text w (set + 1) parts) (part_text w (set + suc (length parts)) part))

-- the first of its kind stays the first, and one more part can be it
first_stays : (Is : Ending → Type 0) (parts : List Part) (part : Part) (set : ℕ) → IsFirst Is parts set → IsFirst Is (parts ++ part ∷ []) set
first_stays Is parts part set first =
    let inside : set < length parts = slice_get_within parts set first.is.0 first.is.1 in
    record {
      is = (first.is.0, stays_at parts part set first.is.0 first.is.1, first.is.2);
      first = each_more (λ other p. other < set → ¬ Is p.ending) parts part first.first (λ below. absurd (omega (arith, inside, below)));
    }

first_here : (Is : Ending → Type 0) (parts : List Part) (part : Part) (set : ℕ) → length parts ≡ set → Is part.ending → EachPart (λ other p. ¬ Is p.ending) parts → IsFirst Is (parts ++ part ∷ []) set
first_here Is parts part set count here each = record {
  is = let P : ℕ → Type 0 = λ k. slice_get (parts ++ part ∷ []) k ≡ Some part in (part, subst P count (comes_last parts part), here);
  first = each_more (λ other p. other < set → ¬ Is p.ending) parts part (λ other p e below. each other p e) (λ below. absurd (omega (arith, below, count)));
}

-- what a set's end says of its part's ending
told_complete : (ending : Ending) (cost : ℕ) → set_end.Complete cost ≡ set_end_of ending → Completes ending × IsUncut ending
told_complete (complete c policy) cost e = (refl, refl)
told_complete none_allowed cost e = cc
told_complete (cut_off found) cost e = cc

told_none : (ending : Ending) → set_end.NoPolicy ≡ set_end_of ending → Lacks ending × IsUncut ending
told_none (complete c policy) e = cc
told_none none_allowed e = (refl, refl)
told_none (cut_off found) e = cc

told_cut : (ending : Ending) (best : Option ℕ) → set_end.Budget best ≡ set_end_of ending → IsCut ending
told_cut (complete c policy) best e = cc
told_cut none_allowed best e = cc
told_cut (cut_off found) best e = refl

complete_uncut : (ending : Ending) → Completes ending → IsUncut ending
complete_uncut (complete c policy) e = refl
complete_uncut none_allowed e = cc
complete_uncut (cut_off found) e = cc

not_both : (b : Bool) → b ≡ true → b ≡ false → ⊥
not_both b t f = let e : true ≡ false = sym t ∙ f in cc

-- how planning ends with one more part
ends_more : (parts : List Part) (part : Part) (end : PlanEnd) (set : SetId) (told : SetEnd) → length parts ≡ set.0 → EndsSo parts end → told ≡ set_end_of part.ending → EndsSo (parts ++ part ∷ []) (end_with end set told)
ends_more parts part Complete set (set_end.Complete cost) count ends is = each_more (λ other p. Completes p.ending) parts part ends (told_complete part.ending cost is).0
ends_more parts part Complete set set_end.NoPolicy count ends is = record {
  uncut = each_more (λ other p. IsUncut p.ending) parts part (λ other p e. complete_uncut p.ending (ends other p e)) (told_none part.ending is).1;
  lacks = first_here Lacks parts part set.0 count (told_none part.ending is).0 (λ other p e. not_both (completes p.ending) (ends other p e));
}
ends_more parts part Complete set (set_end.Budget best) count ends is =
    first_here IsCut parts part set.0 count (told_cut part.ending best is) (λ other p e cut. not_both (is_cut p.ending) cut (complete_uncut p.ending (ends other p e)))
ends_more parts part (NoPolicy first) set (set_end.Complete cost) count ends is = record {
  uncut = each_more (λ other p. IsUncut p.ending) parts part ends.uncut (told_complete part.ending cost is).1;
  lacks = first_stays Lacks parts part first.0 ends.lacks;
}
ends_more parts part (NoPolicy first) set set_end.NoPolicy count ends is = record {
  uncut = each_more (λ other p. IsUncut p.ending) parts part ends.uncut (told_none part.ending is).1;
  lacks = first_stays Lacks parts part first.0 ends.lacks;
}
ends_more parts part (NoPolicy first) set (set_end.Budget best) count ends is =
    first_here IsCut parts part set.0 count (told_cut part.ending best is) (λ other p e cut. not_both (is_cut p.ending) cut (ends.uncut other p e))
ends_more parts part (Budget first) set (set_end.Complete cost) count ends is = first_stays IsCut parts part first.0 ends
ends_more parts part (Budget first) set set_end.NoPolicy count ends is = first_stays IsCut parts part first.0 ends
ends_more parts part (Budget first) set (set_end.Budget best) count ends is = first_stays IsCut parts part first.0 ends

-- the text so far and one more part is that of the parts with it
parts_more : (w : Lists) (parts : List Part) (part : Part) (set : ℕ) (old piece : List ℕ) → length parts ≡ set → old ≡ codes "span-plan 1\n" ++ parts_text w 0 parts → piece ≡ part_text w set part
    → old ++ piece ≡ codes "span-plan 1\n" ++ parts_text w 0 (parts ++ part ∷ [])
parts_more w parts part set old piece count old_is piece_is =
    let n : set ≡ 0 + length parts = omega (arith, count) in
    ap (λ t. t ++ piece) old_is ∙ append_assoc (codes "span-plan 1\n") (parts_text w 0 parts) piece
    ∙ ap (λ t. codes "span-plan 1\n" ++ t) (ap (λ t. parts_text w 0 parts ++ t) (piece_is ∙ ap (λ k. part_text w k part) n) ∙ sym (text_more w 0 parts part))

-- one more set
pub so_far_more : (w : Lists) (budget : ℕ) (set : SetId) (old piece : List ℕ) (end : PlanEnd) (told : SetEnd) → SoFar w budget set.0 old end → IsPartText w budget set.0 told piece → SoFar w budget (set.0 + 1) (old ++ piece) (end_with end set told)
so_far_more w budget set old piece end told so_far adds =
    let at_end : length so_far.parts ≡ set.0 = so_far.count in
    record {
      parts = so_far.parts ++ adds.part ∷ [];
      text_is = parts_more w so_far.parts adds.part set.0 old piece at_end so_far.text_is adds.text_is;
      count = length-append so_far.parts (adds.part ∷ []) ∙ ap (λ n. n + 1) at_end;
      written = each_more (IsWrittenPart w budget) so_far.parts adds.part so_far.written (let P : ℕ → Type 0 = λ n. IsWrittenPart w budget n adds.part in subst P (sym at_end) adds.written);
      holds = each_more (λ s p. IsTrueOf w s p.ending) so_far.parts adds.part so_far.holds (let P : ℕ → Type 0 = λ n. IsTrueOf w n adds.part.ending in subst P (sym at_end) adds.holds);
      ends = ends_more so_far.parts adds.part end set told at_end so_far.ends adds.told;
    }

-- with the last line it is the plan
written_plan : (w : Lists) (budget set : ℕ) (text : List ℕ) (end : PlanEnd) (so_far : SoFar w budget set text end) → set ≡ length w.sets → IsWrittenPlan w budget (text ++ codes "end\n") so_far.parts
written_plan w budget set text end so_far all = record {
  text_is = ap (λ t. t ++ codes "end\n") so_far.text_is;
  one_each = so_far.count ∙ all;
  written = so_far.written;
  holds = so_far.holds;
}

pub plan_written : (w : Lists) (budget set : ℕ) (text : List ℕ) (end : PlanEnd) (old new : Option (List ℕ)) → SoFar w budget set text end → set ≡ length w.sets → Appends old new (text ++ codes "end\n") → PlanWrites w budget old new (Ok end)
plan_written w budget set text Complete old new so_far all taken = record {
  text = text ++ codes "end\n";
  taken = taken;
  is = record { parts = so_far.parts; written = written_plan w budget set text Complete so_far all; complete = so_far.ends };
}
plan_written w budget set text (NoPolicy lacking) old new so_far all taken = record {
  text = text ++ codes "end\n";
  taken = taken;
  is = record { parts = so_far.parts; written = written_plan w budget set text (NoPolicy lacking) so_far all; uncut = so_far.ends.uncut; lacks = so_far.ends.lacks };
}
plan_written w budget set text (Budget first) old new so_far all taken = record {
  text = text ++ codes "end\n";
  taken = taken;
  is = record { parts = so_far.parts; written = written_plan w budget set text (Budget first) so_far all; cut = so_far.ends };
}

-- regrouping: what was sent, what is left of it, and more
behind : (sent rest text more : List ℕ) → text ≡ sent ++ rest → sent ++ (rest ++ more) ≡ text ++ more
behind sent rest text more is = sym (append_assoc sent rest more) ∙ ap (λ t. t ++ more) (sym is)

-- a front of whole parts is a front of a plan
front_of_parts : (w : Lists) (budget : ℕ) (parts : List Part) (text sent rest : List ℕ) → AreFirstParts w budget parts → text ≡ codes "span-plan 1\n" ++ parts_text w 0 parts → text ≡ sent ++ rest → IsPlanFront w budget sent
front_of_parts w budget parts text sent rest first text_is is = by_count (eq-or-lt_of_le first.few)
  where
    by_count : (length parts ≡ length w.sets) ⊎ (length parts < length w.sets) → IsPlanFront w budget sent
    by_count (inl all) = inr (
      parts,
      rest ++ codes "end\n",
      record {
        text_is = behind sent rest text (codes "end\n") is ∙ ap (λ t. t ++ codes "end\n") text_is;
        one_each = all;
        written = first.written;
        holds = first.holds;
      },
    )
    by_count (inr there) =
        let none = begun_nothing w budget (length parts) in
        inl (
          parts,
          [],
          record {
            first = first;
            there = there;
            found = none.found;
            fits = none.fits;
            within = none.within;
            shown = none.shown;
          },
          (rest ++ begun_text w (length parts) [], behind sent rest text (begun_text w (length parts) []) is ∙ ap (λ t. t ++ begun_text w (length parts) []) text_is),
        )

-- the parts so far
first_parts : (w : Lists) (budget set : ℕ) (text : List ℕ) (end : PlanEnd) (so_far : SoFar w budget set text end) → set ≤ length w.sets → AreFirstParts w budget so_far.parts
first_parts w budget set text end so_far few = record {
  few = let count : length so_far.parts ≡ set = so_far.count in omega (arith, count, few);
  written = so_far.written;
  holds = so_far.holds;
}

-- where one more part, or a front of it, is said behind the parts so far, a front that was taken is a front of a plan
front_of_part : (w : Lists) (budget : ℕ) (set : SetId) (text piece sent rest : List ℕ) (end : PlanEnd) → SoFar w budget set.0 text end → set.0 < length w.sets → IsPartFront w budget set.0 piece → text ++ piece ≡ sent ++ rest → IsPlanFront w budget sent
front_of_part w budget set text piece sent rest end so_far there (inl begun) is =
    let lines = begun.0 in
    let at_end : length so_far.parts ≡ set.0 = so_far.count in
    let part : IsBegunPart w budget (length so_far.parts) lines = let P : ℕ → Type 0 = λ n. IsBegunPart w budget n lines in subst P (sym at_end) begun.1 in
    inl (
      so_far.parts,
      lines,
      record {
        first = first_parts w budget set.0 text end so_far (omega (arith, there));
        there = omega (arith, at_end, there);
        found = part.found;
        fits = part.fits;
        within = part.within;
        shown = part.shown;
      },
      (
        rest ++ begun.2.0,
        behind sent rest (text ++ piece) begun.2.0 is
            ∙ append_assoc text piece begun.2.0
            ∙ ap (λ t. text ++ t) (begun.2.1 ∙ ap (λ n. begun_text w n lines) (sym at_end))
            ∙ ap (λ t. t ++ begun_text w (length so_far.parts) lines) so_far.text_is,
      ),
    )
front_of_part w budget set text piece sent rest end so_far there (inr whole) is =
    let adds = whole.2 in
    let more = so_far_more w budget set text (piece ++ whole.1) end whole.0 so_far adds in
    let same : text ++ (piece ++ whole.1) ≡ sent ++ (rest ++ whole.1) = sym (append_assoc text piece whole.1) ∙ sym (behind sent rest (text ++ piece) whole.1 is) in
    front_of_parts w budget more.parts (text ++ (piece ++ whole.1)) sent (rest ++ whole.1)
    (first_parts w budget (set.0 + 1) (text ++ (piece ++ whole.1)) _ more (omega (arith, there)))
    more.text_is same

-- what was taken where a part failed
pub part_failed : (w : Lists) (budget : ℕ) (set : SetId) (text piece : List ℕ) (end : PlanEnd) (old new : Option (List ℕ)) → SoFar w budget set.0 text end → set.0 < length w.sets → IsPartFront w budget set.0 piece → IsFrontTaken old new (text ++ piece) → TakesText old new (IsPlanFront w budget)
part_failed w budget set text piece end old new so_far there front taken = record {
  text = taken.sent;
  taken = taken.taken;
  is = front_of_part w budget set text piece taken.sent taken.rest end so_far there front taken.text_is;
}

-- what was taken where the first line failed
pub begin_failed : (w : Lists) (budget : ℕ) (old new : Option (List ℕ)) → IsFrontTaken old new (codes "span-plan 1\n") → TakesText old new (IsPlanFront w budget)
begin_failed w budget old new taken =
    let none = so_far_none w budget in
    record {
      text = taken.sent;
      taken = taken.taken;
      is = front_of_parts w budget none.parts (codes "span-plan 1\n") taken.sent taken.rest
          (first_parts w budget 0 (codes "span-plan 1\n") Complete none (omega arith)) none.text_is taken.text_is;
    }

-- what was taken where the last line, or what is behind it, failed
pub end_failed : (w : Lists) (budget set : ℕ) (text : List ℕ) (end : PlanEnd) (old new : Option (List ℕ)) → SoFar w budget set text end → set ≡ length w.sets → IsFrontTaken old new (text ++ codes "end\n") → TakesText old new (IsPlanFront w budget)
end_failed w budget set text end old new so_far all taken =
    let P : List ℕ → Type 0 = λ t. IsWrittenPlan w budget t so_far.parts in
    record {
      text = taken.sent;
      taken = taken.taken;
      is = inr (so_far.parts, taken.rest, subst P taken.text_is (written_plan w budget set text end so_far all));
    }

-- the plan so far, said to the sink
pub record IsPlanSaid (w : Lists) (budget set : ℕ) (end : PlanEnd) (from now : Option (List ℕ)) (kept : List ℕ) : Type 0 where
  pub text : List ℕ
  pub so_far : SoFar w budget set text end
  pub said : IsSaid from now kept text
