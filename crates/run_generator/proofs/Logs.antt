-- A log grows by a mark.
use Rattle.std.proofs.Common.{◌≡◌, ℕ, ◌+◌, ◌<◌, ◌≤◌, cond, List, [], ◌∷◌, ◌++◌, length, take, get_or, inl, inr, sym, ap, ◌∙◌, subst, arith}
use Rattle.std.specs.Prelude.{codes, string_bytes, slice_get, Some, None}
use Rattle.std.proofs.lemmas.Grind.{flat_map-append}
use Rattle.std.proofs.lemmas.List.{append-nil, append_assoc, take_more}
use Rattle.std.proofs.lemmas.Option.{slice_get_within, get_or_from_slice_get, slice_get_cases}
use Rattle.std.proofs.lemmas.List.Sums.{sum_by_push}
use Rattle.run_marks.specs.declared.mark.Mark.{Mark}
use Rattle.run_marks.specs.Text.{mark_text, marks_text}
use Rattle.run_generator.specs.declared.log.Log.{Log}
use Rattle.run_generator.specs.Told.{ends_ok, ends_otherwise}
use Rattle.run_generator.specs.Standing.{IsLogOf}

-- the text with the line of one mark more
marks_more : (marks : List Mark) (mark : Mark) → marks_text (marks ++ mark ∷ []) ≡ marks_text marks ++ (mark_text mark ++ codes "\n")
marks_more marks mark =
    flat_map-append (λ (m : Mark). mark_text m ++ codes "\n") marks (mark ∷ [])
    ∙ ap (λ xs. marks_text marks ++ xs) (append-nil (mark_text mark ++ codes "\n"))

pub one_more : (old new : Log) (mark : Mark) (marks : List Mark) → IsLogOf old marks
    → string_bytes new.text ≡ string_bytes old.text ++ (mark_text mark ++ codes "\n")
    → new.ok ≡ old.ok + cond (ends_ok mark) 1 0 → new.ended ≡ old.ended + cond (ends_otherwise mark) 1 0
    → IsLogOf new (marks ++ mark ∷ [])
one_more old new mark marks is text ok ended = record {
  text = text ∙ ap (λ xs. xs ++ (mark_text mark ++ codes "\n")) is.text ∙ sym (marks_more marks mark);
  ok = ok ∙ ap (λ n. n + cond (ends_ok mark) 1 0) is.ok ∙ sym (sum_by_push (λ (m : Mark). cond (ends_ok m) 1 0) marks mark);
  ended = ended ∙ ap (λ n. n + cond (ends_otherwise mark) 1 0) is.ended ∙ sym (sum_by_push (λ (m : Mark). cond (ends_otherwise m) 1 0) marks mark);
}

-- the marks up to one more
pub log_more : (log : Log) (marks : List Mark) (n : ℕ) (mark : Mark) (before : List Mark) → Some mark ≡ slice_get marks n → IsLogOf log ((before ++ take n marks) ++ mark ∷ []) → IsLogOf log (before ++ take (n + 1) marks)
log_more log marks n mark before is s =
    let there : get_or marks n mark ≡ mark = get_or_from_slice_get marks n mark mark (sym is) in
    let more : take (n + 1) marks ≡ take n marks ++ mark ∷ [] = take_more marks n mark (slice_get_within marks n mark (sym is)) ∙ ap (λ (m : Mark). take n marks ++ m ∷ []) there in
    subst (IsLogOf log) (append_assoc before (take n marks) (mark ∷ []) ∙ ap (λ (xs : List Mark). before ++ xs) (sym more)) s

pub none_past : (marks : List Mark) (n : ℕ) → None ≡ slice_get marks n → n < length marks → ⊥
none_past marks n none within =
    elim (slice_get_cases marks n).1 [
      | inl h ↦ let some : slice_get marks n ≡ Some h.0 = h.2 in absurd (cc)
      | inr h ↦ let past : length marks ≤ n = h.0 in absurd (omega (arith, past, within))
    ]
