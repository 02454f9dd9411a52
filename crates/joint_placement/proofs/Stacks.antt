-- Lists that are pieces one after the other, of different lengths: where a piece begins, what stands
-- there, and their value as costs.
use Rattle.std.proofs.Common.{◌≡◌, ℕ, zero, suc, ◌+◌, ◌<◌, ◌≤◌, inl, inr, Bool, List, [], ◌∷◌, ◌++◌, length, take, drop, get_or, refl, sym, ap, subst, ◌∙◌, arith, append_assoc}
use Rattle.std.specs.List.{sum_by, flat_map, range_with_len, AllByRecursion}
use Rattle.std.proofs.Math.Seq.{take-append_seam, drop-append_seam}
use Rattle.std.proofs.lemmas.Bool.{cases_lt}
use Rattle.std.proofs.lemmas.List.{get_or-take, get_or-drop}
use Rattle.std.proofs.lemmas.List.Concat.{length-flat_map}
use Rattle.std.proofs.lemmas.List.Sums.{sum_by-append, sum_by-cons}
use Rattle.zero_one.specs.Program.{value_of}
use Rattle.placement_rows.proofs.Each.{each-range, each-range_at, each-flat_map, each-flat_map_back}
use Rattle.placement_rows.proofs.Loops.{pieces_next}
use Rattle.placement_rows.proofs.Sums.{range-append}
use Rattle.placement_rows.proofs.Values.{value-append}

-- from each number to the next
pub by-next : (P : ℕ → Type 0) → P 0 → ((n : ℕ) → P n → P (n + 1)) → (n : ℕ) → P n
by-next P first step zero = first
by-next P first step (suc n) = subst P (let e : n + 1 ≡ suc n = omega arith in e) (step n (by-next P first step n))

-- a sum over one number more
pub sum-next : (g : ℕ → ℕ) (n : ℕ) → sum_by g (range_with_len 0 (n + 1)) ≡ sum_by g (range_with_len 0 n) + g n
sum-next g n =
    let at : 0 + n ≡ n = omega arith in
    ap (sum_by g) (range-append 0 n 1)
    ∙ sum_by-append g (range_with_len 0 n) (range_with_len (0 + n) 1)
    ∙ ap (λ e. sum_by g (range_with_len 0 n) + sum_by g (e ∷ [])) at
    ∙ (let e : sum_by g (range_with_len 0 n) + sum_by g (n ∷ []) ≡ sum_by g (range_with_len 0 n) + g n = omega (arith, sum_by-cons g n []) in e)

pub ruleset sums = (sum-next)

-- where a piece begins
abbrev pub start : {A : Type 0} → (ℕ → List A) → ℕ → ℕ
start f s = sum_by (λ t. length (f t)) (range_with_len 0 s)

pub length-stack : {A : Type 0} (f : ℕ → List A) (n : ℕ) → length (flat_map f (range_with_len 0 n)) ≡ start f n
length-stack f n = length-flat_map f (range_with_len 0 n)

-- the pieces before one, the piece and what follows
next-stack : {A : Type 0} (f : ℕ → List A) (n : ℕ) (tail : List A) → flat_map f (range_with_len 0 (n + 1)) ++ tail ≡ flat_map f (range_with_len 0 n) ++ (f n ++ tail)
next-stack f n tail = ap (λ xs. xs ++ tail) (pieces_next f n) ∙ append_assoc (flat_map f (range_with_len 0 n)) (f n) tail

drop-stack : {A : Type 0} (f : ℕ → List A) (n : ℕ) (tail : List A) → drop (start f n) (flat_map f (range_with_len 0 n) ++ tail) ≡ tail
drop-stack f n tail = ap (λ k. drop k (flat_map f (range_with_len 0 n) ++ tail)) (sym (length-stack f n)) ∙ drop-append_seam (flat_map f (range_with_len 0 n)) tail

-- a piece at its place
pub piece-at : {A : Type 0} (f : ℕ → List A) (n : ℕ) (s : ℕ) → s < n → (tail : List A) → take (length (f s)) (drop (start f s) (flat_map f (range_with_len 0 n) ++ tail)) ≡ f s
piece-at {A} f =
    by-next (λ n. (s : ℕ) → s < n → (tail : List A) → take (length (f s)) (drop (start f s) (flat_map f (range_with_len 0 n) ++ tail)) ≡ f s)
    (λ s low. absurd (omega arith))
    (λ n before s low tail. ap (λ xs. take (length (f s)) (drop (start f s) xs)) (next-stack f n tail)
    ∙ elim (cases_lt s n) [
      | inl below ↦ before s below (f n ++ tail)
      | inr above ↦
          let same : s ≡ n = omega arith in
          ap (λ t. take (length (f t)) (drop (start f t) (flat_map f (range_with_len 0 n) ++ (f n ++ tail)))) same
          ∙ ap (take (length (f n))) (drop-stack f n (f n ++ tail))
          ∙ take-append_seam (f n) tail
          ∙ ap f (sym same)
    ])

-- what stands in a piece
pub stands-at : {A : Type 0} (f : ℕ → List A) (n s i : ℕ) (z : A) → s < n → i < length (f s) → (tail : List A) → get_or (flat_map f (range_with_len 0 n) ++ tail) (start f s + i) z ≡ get_or (f s) i z
stands-at f n s i z low inside tail =
    let all = flat_map f (range_with_len 0 n) ++ tail in
    sym (get_or-drop (start f s) all i z)
    ∙ sym (get_or-take (length (f s)) (drop (start f s) all) i z inside)
    ∙ ap (λ xs. get_or xs i z) (piece-at f n s low tail)

-- the value of pieces of costs is the sum of theirs
pub value-stack : (f : ℕ → List ℕ) (x : List Bool) (n : ℕ) → value_of (flat_map f (range_with_len 0 n)) x ≡ sum_by (λ s. value_of (f s) (drop (start f s) x)) (range_with_len 0 n)
value-stack f x =
    by-next (λ n. value_of (flat_map f (range_with_len 0 n)) x ≡ sum_by (λ s. value_of (f s) (drop (start f s) x)) (range_with_len 0 n)) refl
    (λ n before.
    ap (λ cs. value_of cs x) (pieces_next f n)
    ∙ value-append (flat_map f (range_with_len 0 n)) (f n) x
    ∙ ap (λ k. value_of (flat_map f (range_with_len 0 n)) x + value_of (f n) (drop k x)) (length-stack f n)
    ∙ ap (λ v. v + value_of (f n) (drop (start f n) x)) before
    ∙ sym (sum-next (λ s. value_of (f s) (drop (start f s) x)) n))

-- a fact of each element of each piece
pub each-stack : {A : Type 0} (P : A → Type 0) (f : ℕ → List A) (n : ℕ) → ((s : ℕ) → s < n → AllByRecursion P (f s)) → AllByRecursion P (flat_map f (range_with_len 0 n))
each-stack P f n each = each-flat_map P (λ s. s < n) f each (range_with_len 0 n) (each-range (λ s. s < n) 0 n (λ s low high. omega arith))

pub each-stack_back : {A : Type 0} (P : A → Type 0) (f : ℕ → List A) (n : ℕ) → AllByRecursion P (flat_map f (range_with_len 0 n)) → (s : ℕ) → s < n → AllByRecursion P (f s)
each-stack_back P f n all s low = each-range_at (λ s. AllByRecursion P (f s)) 0 n (each-flat_map_back P (λ s. AllByRecursion P (f s)) f (λ s h. h) (range_with_len 0 n) all) s (omega arith) (omega arith)

-- a piece ends before the last one does
pub start-le : {A : Type 0} (f : ℕ → List A) (n s : ℕ) → s < n → start f s + length (f s) ≤ start f n
start-le {A} f =
    by-next (λ n. (s : ℕ) → s < n → start f s + length (f s) ≤ start f n)
    (λ s low. absurd (omega arith))
    (λ n before s low. elim (cases_lt s n) [
      | inl below ↦ omega (arith, before s below, sum-next (λ t. length (f t)) n)
      | inr above ↦
          let same : s ≡ n = omega arith in
          omega (arith, ap (λ t. start f t + length (f t)) same, sum-next (λ t. length (f t)) n)
    ])
