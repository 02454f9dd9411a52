-- Leaves and ceilings with one line more.
use Rattle.std.proofs.Common.{◌≡◌, ℕ, ◌+◌, ◌-◌, ◌<◌, ◌≤◌, ◌⊎◌, inl, inr, ℤ, ◌≤ℤ◌, ◌<ℤ◌, Bool, true, false, cond, Option, Some, None, List, [], ◌∷◌, ◌++◌, length, take, refl, sym, ap, ◌∙◌, subst, arith}
use Rattle.std.specs.Prelude.{slice_get, int_lt}
use Rattle.std.proofs.lemmas.Int.{ints}
use Rattle.std.proofs.lemmas.List.{take-append-le}
use Rattle.std.proofs.lemmas.Option.{slice_get_within}
use Rattle.zero_one.specs.Contents.{Contents}
use Rattle.bound_cert.specs.declared.leaves.Leaf.{Leaf}
use Rattle.bound_cert.specs.declared.leaves.Line.{Line}
use Rattle.bound_cert.specs.declared.leaves.Line.TheVariants.{Branch, Close}
use Rattle.bound_cert.specs.Leaves.{leaf_bound}
use Rattle.cert_checker.specs.declared.ceilings.Ceilings.{Ceilings}
use Rattle.cert_checker.specs.declared.turns.Turn.{Turn}
use Rattle.cert_checker.specs.Paths.{path_after, fixed_by}
use Rattle.cert_checker.specs.Ceilings.{IsCeiling, IsBoundingAt, IsCeilingAt, AreCeilingsOf, ceilings_with}
use Rattle.cert_checker.proofs.Parsing.{get_here, take_here}
use Rattle.cert_checker.proofs.Places.{int_lt_true, int_lt_false, get_kept, place}

abbrev pub IsBoundingLine : Line → Type 0
IsBoundingLine (Branch var) = ⊥
IsBoundingLine (Close end) = 0 < end.s

bounding_kept : (lines : List Line) (line : Line) (number : ℕ) → IsBoundingAt lines number → IsBoundingAt (lines ++ line ∷ []) number
bounding_kept lines line number is =
    record {
      end = is.end;
      counted = is.counted;
      here = get_kept lines line (number - 1) (slice_get_within lines (number - 1) (Close is.end) is.here) ∙ is.here;
      bounding = is.bounding;
    }

bounding_within : (lines : List Line) (number : ℕ) → IsBoundingAt lines number → number ≤ length lines
bounding_within lines number is = omega (arith, is.counted, slice_get_within lines (number - 1) (Close is.end) is.here)

bounding_back : (lines : List Line) (line : Line) (number : ℕ) → IsBoundingAt (lines ++ line ∷ []) number → IsBoundingAt lines number ⊎ ((number ≡ length lines + 1) × IsBoundingLine line)
bounding_back lines line number is =
    elim (place lines line (number - 1) (Close is.end) is.here) [
      | inl old ↦ inl (record { end = is.end; counted = is.counted; here = old.1; bounding = is.bounding })
      | inr last ↦
          let P : Line → Type 0 = λ l. IsBoundingLine l in
          inr (omega (arith, is.counted, last.0), subst P (sym last.1) is.bounding)
    ]

bounding_of : (program : Contents) (lines : List Line) (number : ℕ) (ceiling : ℤ) → IsCeilingAt program lines number ceiling → IsBoundingAt lines number
bounding_of program lines number ceiling is =
    record { end = is.end; counted = is.counted; here = is.here; bounding = is.bounding }

take_kept : (lines : List Line) (line : Line) (n : ℕ) → n ≤ length lines → take n (lines ++ line ∷ []) ≡ take n lines
take_kept lines line n short = take-append-le n lines (line ∷ []) short

ceiling_kept : (program : Contents) (lines : List Line) (line : Line) (number : ℕ) (ceiling : ℤ) → IsCeilingAt program lines number ceiling → IsCeilingAt program (lines ++ line ∷ []) number ceiling
ceiling_kept program lines line number ceiling is =
    let within = slice_get_within lines (number - 1) (Close is.end) is.here in
    record {
      end = is.end;
      path = is.path;
      counted = is.counted;
      here = get_kept lines line (number - 1) within ∙ is.here;
      bounding = is.bounding;
      below = ap path_after (take_kept lines line (number - 1) (omega (arith, within))) ∙ is.below;
      height = is.height;
    }

-- the ceiling is that of the last line
record IsLast (program : Contents) (lines : List Line) (line : Line) (number : ℕ) (ceiling : ℤ) : Type 0 where
  end : Leaf
  path : List Turn
  last : number ≡ length lines + 1
  is : line ≡ Close end
  bounding : 0 < end.s
  below : path_after lines ≡ Some path
  height : IsCeiling (leaf_bound program (fixed_by program path) end) end.s ceiling

ceiling_back : (program : Contents) (lines : List Line) (line : Line) (number : ℕ) (ceiling : ℤ) → IsCeilingAt program (lines ++ line ∷ []) number ceiling → IsCeilingAt program lines number ceiling ⊎ IsLast program lines line number ceiling
ceiling_back program lines line number ceiling is =
    elim (place lines line (number - 1) (Close is.end) is.here) [
      | inl old ↦
          let short : number - 1 ≤ length lines = omega (arith, old.0) in
          inl (record { end = is.end; path = is.path; counted = is.counted; here = old.1; bounding = is.bounding; below = sym (ap path_after (take_kept lines line (number - 1) short)) ∙ is.below; height = is.height })
      | inr last ↦
          let whole : take (number - 1) (lines ++ line ∷ []) ≡ lines = ap (λ n. take n (lines ++ line ∷ [])) last.0 ∙ take_here lines line [] in
          inr (record { end = is.end; path = is.path; last = omega (arith, is.counted, last.0); is = last.1; bounding = is.bounding; below = sym (ap path_after whole) ∙ is.below; height = is.height })
    ]

-- the last line's ceiling is no higher than any other of the last line
last_least : (program : Contents) (lines : List Line) (end : Leaf) (path : List Turn) (number : ℕ) (ceiling higher : ℤ) → path_after lines ≡ Some path → IsCeiling (leaf_bound program (fixed_by program path) end) end.s ceiling → IsLast program lines (Close end) number higher → ceiling ≤ℤ higher
last_least program lines end path number ceiling higher below is last =
    let same_path : last.path ≡ path = (let e = sym last.below ∙ below in cc) in
    let same_end : last.end ≡ end = (let e = last.is in cc) in
    let P : List Turn → Leaf → Type 0 = λ p l. IsCeiling (leaf_bound program (fixed_by program p) l) l.s higher in
    let by_path : IsCeiling (leaf_bound program (fixed_by program path) last.end) last.end.s higher = (let Q : List Turn → Type 0 = λ p. P p last.end in subst Q same_path last.height) in
    let by_end : IsCeiling (leaf_bound program (fixed_by program path) end) end.s higher = (let Q : Leaf → Type 0 = λ l. P path l in subst Q same_end by_path) in
    is.least higher by_end.reaches

-- a line that is no leaf with `s > 0` changes nothing
pub ceilings_stay : (program : Contents) (lines : List Line) (line : Line) (ceilings : Option Ceilings) → (IsBoundingLine line → ⊥) → AreCeilingsOf program lines ceilings → AreCeilingsOf program (lines ++ line ∷ []) ceilings
ceilings_stay program lines line None quiet are = λ number is.
    elim (bounding_back lines line number is) [
      | inl old ↦ are number old
      | inr last ↦ quiet last.1
    ]
ceilings_stay program lines line (Some ceilings) quiet are = (
  record {
    here = bounding_kept lines line ceilings.first are.0.here;
    first = λ other is.
        elim (bounding_back lines line other is) [
          | inl old ↦ are.0.first other old
          | inr last ↦ absurd (quiet last.1)
        ];
  },
  record {
    here = ceiling_kept program lines line ceilings.line ceilings.least are.1.here;
    least = λ other higher is.
        elim (ceiling_back program lines line other higher is) [
          | inl old ↦ are.1.least other higher old
          | inr last ↦ absurd (quiet (let P : Line → Type 0 = λ l. IsBoundingLine l in subst P (sym last.is) last.bounding))
        ];
    first = λ other is.
        elim (ceiling_back program lines line other ceilings.least is) [
          | inl old ↦ are.1.first other old
          | inr last ↦ absurd (quiet (let P : Line → Type 0 = λ l. IsBoundingLine l in subst P (sym last.is) last.bounding))
        ];
  },
)

last_bounding : (lines : List Line) (end : Leaf) (number : ℕ) → number ≡ length lines + 1 → 0 < end.s → IsBoundingAt (lines ++ Close end ∷ []) number
last_bounding lines end number last bounding =
    let at : number - 1 ≡ length lines = omega (arith, last) in
    record { end = end; counted = omega (arith, last); here = ap (slice_get (lines ++ Close end ∷ [])) at ∙ get_here lines (Close end) []; bounding = bounding }

last_ceiling : (program : Contents) (lines : List Line) (end : Leaf) (path : List Turn) (number : ℕ) (ceiling : ℤ) → number ≡ length lines + 1 → 0 < end.s → path_after lines ≡ Some path → IsCeiling (leaf_bound program (fixed_by program path) end) end.s ceiling → IsCeilingAt program (lines ++ Close end ∷ []) number ceiling
last_ceiling program lines end path number ceiling last bounding below is =
    let at : number - 1 ≡ length lines = omega (arith, last) in
    record {
      end = end;
      path = path;
      counted = omega (arith, last);
      here = ap (slice_get (lines ++ Close end ∷ [])) at ∙ get_here lines (Close end) [];
      bounding = bounding;
      below = ap (λ n. path_after (take n (lines ++ Close end ∷ []))) at ∙ ap path_after (take_here lines (Close end) []) ∙ below;
      height = is;
    }

pub ceilings_more : (program : Contents) (lines : List Line) (end : Leaf) (path : List Turn) (number : ℕ) (ceiling : ℤ) (before : Option Ceilings) → number ≡ length lines + 1 → 0 < end.s → path_after lines ≡ Some path → IsCeiling (leaf_bound program (fixed_by program path) end) end.s ceiling → AreCeilingsOf program lines before → AreCeilingsOf program (lines ++ Close end ∷ []) (Some (ceilings_with before number ceiling))
ceilings_more program lines end path number ceiling None last bounding below is are = (
  record {
    here = last_bounding lines end number last bounding;
    first = λ other found.
        elim (bounding_back lines (Close end) other found) [
          | inl old ↦ absurd (are other old)
          | inr l ↦ omega (arith, l.0, last)
        ];
  },
  record {
    here = last_ceiling program lines end path number ceiling last bounding below is;
    least = λ other higher found.
        elim (ceiling_back program lines (Close end) other higher found) [
          | inl old ↦ absurd (are other (bounding_of program lines other higher old))
          | inr l ↦ last_least program lines end path other ceiling higher below is l
        ];
    first = λ other found.
        elim (ceiling_back program lines (Close end) other ceiling found) [
          | inl old ↦ absurd (are other (bounding_of program lines other ceiling old))
          | inr l ↦ omega (arith, l.last, last)
        ];
  },
)
ceilings_more program lines end path number ceiling (Some before) last bounding below is are = choose (int_lt ceiling before.least) refl
  where
    choose : (b : Bool) → int_lt ceiling before.least ≡ b → AreCeilingsOf program (lines ++ Close end ∷ []) (Some (cond b (record { first = before.first; least = ceiling; line = number }) before))
    choose true e =
        let lower : ceiling <ℤ before.least = int_lt_true ceiling before.least e in (
          record {
            here = bounding_kept lines (Close end) before.first are.0.here;
            first = λ other found.
                elim (bounding_back lines (Close end) other found) [
                  | inl old ↦ are.0.first other old
                  | inr l ↦ omega (arith, l.0, bounding_within lines before.first are.0.here)
                ];
          },
          record {
            here = last_ceiling program lines end path number ceiling last bounding below is;
            least = λ other higher found.
                elim (ceiling_back program lines (Close end) other higher found) [
                  | inl old ↦ omega (arith, ints, lower, are.1.least other higher old)
                  | inr l ↦ last_least program lines end path other ceiling higher below is l
                ];
            first = λ other found.
                elim (ceiling_back program lines (Close end) other ceiling found) [
                  | inl old ↦ absurd (omega (arith, ints, lower, are.1.least other ceiling old))
                  | inr l ↦ omega (arith, l.last, last)
                ];
          },
        )
    choose false e =
        let low : before.least ≤ℤ ceiling = int_lt_false ceiling before.least e in (
          record {
            here = bounding_kept lines (Close end) before.first are.0.here;
            first = λ other found.
                elim (bounding_back lines (Close end) other found) [
                  | inl old ↦ are.0.first other old
                  | inr l ↦ omega (arith, l.0, bounding_within lines before.first are.0.here)
                ];
          },
          record {
            here = ceiling_kept program lines (Close end) before.line before.least are.1.here;
            least = λ other higher found.
                elim (ceiling_back program lines (Close end) other higher found) [
                  | inl old ↦ are.1.least other higher old
                  | inr l ↦ omega (arith, ints, low, last_least program lines end path other ceiling higher below is l)
                ];
            first = λ other found.
                elim (ceiling_back program lines (Close end) other before.least found) [
                  | inl old ↦ are.1.first other old
                  | inr l ↦ omega (arith, l.last, bounding_within lines before.line (bounding_of program lines before.line before.least are.1.here))
                ];
          },
        )
