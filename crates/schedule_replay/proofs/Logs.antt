-- The lines of marks, one after another.
use Rattle.std.proofs.Common.{◌≡◌, ℕ, ◌+◌, ◌<◌, ◌≤◌, List, [], ◌∷◌, ◌++◌, length, take, get_or, inl, inr, sym, ap, ◌∙◌, arith}
use Rattle.std.specs.Prelude.{codes, slice_get, Some, None}
use Rattle.std.proofs.lemmas.Grind.{flat_map-append}
use Rattle.std.proofs.lemmas.List.{append-nil, append_assoc, take_more}
use Rattle.std.proofs.lemmas.Option.{slice_get_within, get_or_from_slice_get, slice_get_cases}
use Rattle.run_marks.specs.declared.mark.Mark.{Mark}
use Rattle.run_marks.specs.Text.{mark_text, marks_text}

-- the text with the line of one mark more
pub lines_more : (front now : List ℕ) (marks : List Mark) (n : ℕ) (mark : Mark) → Some mark ≡ slice_get marks n
    → now ≡ (front ++ marks_text (take n marks)) ++ (mark_text mark ++ codes "\n") → now ≡ front ++ marks_text (take (n + 1) marks)
lines_more front now marks n mark is added =
    let there : get_or marks n mark ≡ mark = get_or_from_slice_get marks n mark mark (sym is) in
    let more : take (n + 1) marks ≡ take n marks ++ mark ∷ [] = take_more marks n mark (slice_get_within marks n mark (sym is)) ∙ ap (λ (m : Mark). take n marks ++ m ∷ []) there in
    let text : marks_text (take (n + 1) marks) ≡ marks_text (take n marks) ++ (mark_text mark ++ codes "\n") =
    ap marks_text more ∙ flat_map-append (λ (m : Mark). mark_text m ++ codes "\n") (take n marks) (mark ∷ []) ∙ ap (λ xs. marks_text (take n marks) ++ xs) (append-nil (mark_text mark ++ codes "\n")) in
    added ∙ append_assoc front (marks_text (take n marks)) (mark_text mark ++ codes "\n") ∙ ap (λ xs. front ++ xs) (sym text)

pub none_past : (marks : List Mark) (n : ℕ) → None ≡ slice_get marks n → n < length marks → ⊥
none_past marks n none within =
    elim (slice_get_cases marks n).1 [
      | inl h ↦ let some : slice_get marks n ≡ Some h.0 = h.2 in absurd (cc)
      | inr h ↦ let past : length marks ≤ n = h.0 in absurd (omega (arith, past, within))
    ]
