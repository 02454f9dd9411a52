-- Where a text is cut.
use Rattle.std.proofs.Common.{◌≡◌, ℕ, zero, suc, ◌+◌, ◌-◌, ◌==◌, Bool, true, false, cond, List, [], ◌∷◌, length, take, drop, Option, Some, None, refl, sym, ap, arith}
use Rattle.std.specs.Prelude.{option_map}
use Rattle.std.proofs.lemmas.List.{take_rest}
use Rattle.memchr.specs.Find.{Nowhere, NoneBefore, Passes, is_byte}
use Rattle.history_audit.specs.Words.{cut}

-- without the byte nothing is cut
pub cut_none : (byte : ℕ) (text : List ℕ) → Nowhere (Passes (is_byte byte) text) 0 (length text) → cut byte text ≡ None
unfolding cut
cut_none byte [] none = refl
cut_none byte (c ∷ cs) none = by_test (c == byte) refl (cut_none byte cs (λ k low high is. none (suc k) (omega arith) (omega arith) is))
  where
    by_test : (b : Bool) → (c == byte) ≡ b → cut byte cs ≡ None → cond {A = Option (List ℕ × List ℕ)} b (Some ([], cs)) (option_map {T = List ℕ × List ℕ} {U = List ℕ × List ℕ} (λ parts. (c ∷ parts.0, parts.1)) (cut byte cs)) ≡ None
    by_test true is rest = absurd (none 0 (omega arith) (omega arith) is)
    by_test false is rest = ap (option_map {T = List ℕ × List ℕ} {U = List ℕ × List ℕ} (λ parts. (c ∷ parts.0, parts.1))) rest

-- the first byte of the kind is where it is cut
pub cut_first : (byte : ℕ) (text : List ℕ) (at : ℕ) → NoneBefore (Passes (is_byte byte) text) 0 (length text) at → Passes (is_byte byte) text at
    → cut byte text ≡ Some (take at text, drop (at + 1) text)
unfolding cut
cut_first byte [] at first there = absurd (let h = first.high in omega arith)
cut_first byte (c ∷ cs) zero first there = rw there refl
cut_first byte (c ∷ cs) (suc at) first there =
    let e : suc at + 1 ≡ suc (at + 1) = omega arith in rw e (by_test (c == byte) refl
    (cut_first byte cs at (record { low = omega arith; high = let h = first.high in omega arith; before = λ k low high is. first.before (suc k) (omega arith) (omega arith) is }) there))
  where
    by_test : (b : Bool) → (c == byte) ≡ b → cut byte cs ≡ Some (take at cs, drop (at + 1) cs)
        → cond {A = Option (List ℕ × List ℕ)} b (Some ([], cs)) (option_map {T = List ℕ × List ℕ} {U = List ℕ × List ℕ} (λ parts. (c ∷ parts.0, parts.1)) (cut byte cs)) ≡ Some (c ∷ take at cs, drop (at + 1) cs)
    by_test true is rest = absurd (first.before 0 (omega arith) (omega arith) is)
    by_test false is rest = ap (option_map {T = List ℕ × List ℕ} {U = List ℕ × List ℕ} (λ parts. (c ∷ parts.0, parts.1))) rest

-- the same, as a slice to the end of the text
pub cut_at : (byte : ℕ) (text : List ℕ) (at : ℕ) → NoneBefore (Passes (is_byte byte) text) 0 (length text) at → Passes (is_byte byte) text at
    → Some (take at text, take (length text - (at + 1)) (drop (at + 1) text)) ≡ cut byte text
cut_at byte text at first there = let e : take (length text - (at + 1)) (drop (at + 1) text) ≡ drop (at + 1) text = take_rest text (at + 1) in rw e (sym (cut_first byte text at first there))
