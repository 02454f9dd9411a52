-- The set of the centres that pass a test, as a loop over them builds it.
use Rattle.std.proofs.Common.{◌≡◌, ℕ, zero, suc, ◌+◌, ◌≤◌, ◌<◌, Bool, true, false, cond, ◌&&◌, ◌⊎◌, inl, inr, nat_lt, refl, sym, ap, ◌∙◌, arith}
use Rattle.std.proofs.lemmas.Bool.{cases_lt, cases_eq, lt-ltb, le-ltb}
use Rattle.span_base.specs.declared.dc_set.DcSet.{DcSet}
use Rattle.span_base.specs.DcSet.{has, no_centre, insert}
use Rattle.span_base.proofs.Sets.{has-no_centre, has-insert_same, has-insert_other}
use Rattle.relay_proxy.specs.Routes.{set_below, set_of}

pub set_start : (test : ℕ → Bool) → set_below test 0 ≡ no_centre
unfolding set_below
set_start test = refl

next : (test : ℕ → Bool) (d : ℕ) (b : Bool) → test d ≡ b → set_below test (d + 1) ≡ cond b (insert (set_below test d) d) (set_below test d)
unfolding set_below
next test d b e =
    let more : d + 1 ≡ suc d = omega arith in
    ap (set_below test) more ∙ ap (λ c. cond c (insert (set_below test d) d) (set_below test d)) e

pub set_there : (test : ℕ → Bool) (d : ℕ) → test d ≡ true → set_below test (d + 1) ≡ insert (set_below test d) d
set_there test d e = next test d true e

pub set_not_there : (test : ℕ → Bool) (d : ℕ) → test d ≡ false → set_below test (d + 1) ≡ set_below test d
set_not_there test d e = next test d false e

pub set_end : (test : ℕ → Bool) (d : ℕ) → d ≤ 16 → 16 ≤ d → set_below test d ≡ set_of test
unfolding set_of
set_end test d low high =
    let all : d ≡ 16 = omega arith in
    ap (set_below test) all

and_false : (b : Bool) → (b && false) ≡ false
and_false true = refl
and_false false = refl

later : (d n : ℕ) → (d ≡ n → ⊥) → (d < n) ⊎ (n ≤ d) → nat_lt d n ≡ nat_lt d (suc n)
later d n other (inl low) = lt-ltb d n low ∙ sym (lt-ltb d (suc n) (omega arith))
later d n other (inr high) =
    let above : suc n ≤ d = omega arith in
    le-ltb d n high ∙ sym (le-ltb d (suc n) above)

-- one centre more
turn : (test : ℕ → Bool) (s : DcSet) (n d : ℕ) (b : Bool) → n < 16 → test n ≡ b → has s d ≡ (nat_lt d n && test d) → (d ≡ n) ⊎ (d ≡ n → ⊥) → has (cond b (insert s n) s) d ≡ (nat_lt d (suc n) && test d)
turn test s n d true low is held (inl same) =
    ap (has (insert s n)) same ∙ has-insert_same s n low
    ∙ sym (ap (λ x. x && test d) (lt-ltb d (suc n) (omega arith)) ∙ ap test same ∙ is)
turn test s n d true low is held (inr other) = has-insert_other s n d other ∙ held ∙ ap (λ x. x && test d) (later d n other (cases_lt d n))
turn test s n d false low is held (inl same) =
    let fails : test d ≡ false = ap test same ∙ is in
    held ∙ ap (λ x. nat_lt d n && x) fails ∙ and_false (nat_lt d n) ∙ sym (ap (λ x. nat_lt d (suc n) && x) fails ∙ and_false (nat_lt d (suc n)))
turn test s n d false low is held (inr other) = held ∙ ap (λ x. x && test d) (later d n other (cases_lt d n))

-- a set that is built so far has the centres so far that pass the test
has-set_below : (test : ℕ → Bool) (n d : ℕ) → n ≤ 16 → has (set_below test n) d ≡ (nat_lt d n && test d)
unfolding set_below
has-set_below test zero d low = has-no_centre d ∙ sym (ap (λ x. x && test d) (le-ltb d 0 (omega arith)))
has-set_below test (suc n) d low = turn test (set_below test n) n d (test n) (omega arith) refl (has-set_below test n d (omega arith)) (cases_eq d n)

-- the set of the centres that pass a test has those of them that pass it
pub has_set_of : (test : ℕ → Bool) (d : ℕ) → has (set_of test) d ≡ (nat_lt d 16 && test d)
unfolding set_of
has_set_of test d = has-set_below test 16 d (omega arith)
