-- The bytes of a buffer from one place up to another.
use Rattle.std.proofs.Common.{◌≡◌, ℕ, ◌+◌, ◌-◌, ◌≤◌, List, ◌++◌, length, take, drop, sym, ◌∙◌, ap, arith}
use Rattle.std.proofs.lemmas.List.{drop-take, drop-drop}
use Rattle.std.proofs.Math.Seq.{take-add}
use Rattle.std.specs.Prelude.{slice_range}

-- without the first of them
pub slice_range-skip : (bytes : List ℕ) (start end count : ℕ) → start + count ≤ end
    → slice_range bytes (start + count) end ≡ drop count (slice_range bytes start end)
slice_range-skip bytes start end count le =
    let left : ℕ = end - (start + count) in
    let size : end - start ≡ count + left = omega arith in
    ap (take left) (sym (drop-drop count start bytes)) ∙ sym (drop-take count left (drop start bytes)) ∙ ap (λ n. drop count (take n (drop start bytes))) (sym size)

-- with more of them
pub slice_range-more : (old new : List ℕ) (start end n : ℕ) → start ≤ end → take end new ≡ take end old
    → slice_range new start (end + n) ≡ slice_range old start end ++ take n (drop end new)
slice_range-more old new start end n le same =
    let k : ℕ = end - start in
    let more : end + n - start ≡ k + n = omega arith in
    let there : start + k ≡ end = omega arith in
    let front : take k (drop start new) ≡ take k (drop start old) =
    sym (drop-take start k new) ∙ ap (λ m. drop start (take m new)) there ∙ ap (drop start) same ∙ sym (ap (λ m. drop start (take m old)) there) ∙ drop-take start k old in
    let rest : drop k (drop start new) ≡ drop end new = drop-drop k start new ∙ ap (λ m. drop m new) there in
    ap (λ m. take m (drop start new)) more ∙ take-add k n (drop start new) ∙ ap (λ t. t ++ take n (drop k (drop start new))) front ∙ ap (λ t. take k (drop start old) ++ take n t) rest
