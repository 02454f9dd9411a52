-- Reading many of a kind, as a loop does.
use Rattle.std.proofs.Common.{◌≡◌, ℕ, suc, ◌-◌, ◌+◌, ◌≤◌, ◌<◌, List, [], ◌∷◌, ◌++◌, Ok, Err, refl, sym, ap, ◌∙◌, append_assoc, arith}
use Rattle.std.proofs.lemmas.List.{append-nil}
use Rattle.wire_msg.specs.declared.fault.Fault.{Fault}
use Rattle.wire_msg.specs.declared.fault.Fault.TheVariants.{Wrong, NoMemory}
use Rattle.wire_msg.specs.Faults.{Reading, ◌>>=◌, many_at}
use Rattle.wire_msg.specs.Gives.{Fails}

-- what was read before, and what is still read
unfoldable pub behind : {X : Type 0} → List X → Reading (List X) → Reading (List X)
behind front reading = reading >>= λ x. Ok (front ++ x.0, x.1)

pub regroup : {X : Type 0} (front : List X) (x : X) (reading : Reading (List X)) → behind front (reading >>= λ y. Ok (x ∷ y.0, y.1)) ≡ behind (front ++ x ∷ []) reading
unfolding behind
regroup {X} front x (Ok y) = ap (λ (xs : List X). Ok (xs, y.1)) (simp append_assoc)
regroup front x (Err left) = refl

-- nothing is read yet
pub behind-none : {X : Type 0} (one_at : List ℕ → Reading X) (count : ℕ) (bytes : List ℕ) → behind [] (many_at one_at (count - 0) bytes) ≡ many_at one_at count bytes
unfolding behind
behind-none {X} one_at count bytes =
    let same : (r : Reading (List X)) → (r >>= λ x. Ok ([] ++ x.0, x.1)) ≡ r = λ r. elim r as (λ s. (s >>= λ x. Ok ([] ++ x.0, x.1)) ≡ s) [ Ok x ↦ refl | Err left ↦ refl ] in
    let all : count - 0 ≡ count = omega arith in
    same (many_at one_at (count - 0) bytes) ∙ ap (λ n. many_at one_at n bytes) all

-- one more is read
pub behind-more : {X : Type 0} (one_at : List ℕ → Reading X) (front : List X) (count i : ℕ) (bytes : List ℕ) (x : X) (after : List ℕ) (total : Reading (List X)) → i < count → one_at bytes ≡ Ok (x, after)
    → behind front (many_at one_at (count - i) bytes) ≡ total → behind (front ++ x ∷ []) (many_at one_at (count - (i + 1)) after) ≡ total
unfolding many_at
behind-more one_at front count i bytes x after total lt read so_far =
    let k : count - i ≡ suc (count - (i + 1)) = omega arith in
    let one : behind front (many_at one_at (count - i) bytes) ≡ behind (front ++ x ∷ []) (many_at one_at (count - (i + 1)) after) = rw (k, read) (regroup front x (many_at one_at (count - (i + 1)) after)) in
    sym one ∙ so_far

-- one isn't read
pub behind-stops : {X : Type 0} (one_at : List ℕ → Reading X) (e : Fault) (front : List X) (count i : ℕ) (bytes : List ℕ) (total : Reading (List X)) → i < count → Fails e (one_at bytes)
    → behind front (many_at one_at (count - i) bytes) ≡ total → Fails e total
unfolding many_at behind
behind-stops one_at (NoMemory e) front count i bytes total lt stops so_far = tt
behind-stops one_at (Wrong left) front count i bytes total lt stops so_far =
    let k : count - i ≡ suc (count - (i + 1)) = omega arith in
    let one : behind front (many_at one_at (count - i) bytes) ≡ Err left = rw (k, stops) refl in
    sym so_far ∙ one

-- all are read
pub behind-all : {X : Type 0} (one_at : List ℕ → Reading X) (front : List X) (count i : ℕ) (bytes : List ℕ) (total : Reading (List X)) → count ≤ i → behind front (many_at one_at (count - i) bytes) ≡ total → total ≡ Ok (front, bytes)
unfolding many_at behind
behind-all {X} one_at front count i bytes total le so_far =
    let k : count - i ≡ 0 = omega arith in
    let one : behind front (many_at one_at (count - i) bytes) ≡ Ok (front, bytes) = rw k (ap (λ (xs : List X). Ok (xs, bytes)) (append-nil front)) in
    sym so_far ∙ one

pub ruleset loops = (behind-none, behind-more, behind-stops, behind-all)
