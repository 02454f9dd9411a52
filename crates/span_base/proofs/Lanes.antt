-- Lists of hops, read from the front.
use Rattle.std.proofs.Common.{Bool, take, drop, slice_index_or, ◌≡◌, ℕ, ◌<◌, ◌≤◌, ◌+◌, ◌-◌, zero, suc, true, false, cond, List, [], ◌∷◌, ◌++◌, map, arith, sym, ◌∙◌, ap, refl, append_assoc, length, not, ◌==◌, eq-eqb}
use Rattle.std.proofs.lemmas.List.{append_cancel_left, append-nil, map-append}
use Rattle.std.specs.List.{filter, range_with_len, flat_map}
use Rattle.span_base.specs.DcSet.{DcSet, has, centres_below}
use Rattle.std.proofs.lemmas.Bool.{true≢false, eqb-true}
use Rattle.span_base.specs.declared.policy.Hop.{Hop}
use Rattle.span_base.specs.Policy.{lane_of, lanes_of}
use Rattle.span_base.proofs.Sets.{centres_of-split, centres_of-is, centres_below-more, centres_below-zero}

-- the lanes of the centres below n
abbrev pub lanes_below : DcSet → ℕ → ℕ → List (ℕ × ℕ)
lanes_below s m n = map (λ d. (m, d)) (centres_below s n)

-- where the lanes go on as they should, the next one is that of the next centre
pub next_lane : (s : DcSet) (m d : ℕ) (lanes rest more : List (ℕ × ℕ)) → d < 16 → has s d ≡ true → lanes ≡ lanes_below s m d ++ rest → lanes ≡ lanes_of s m ++ more → (tail : List (ℕ × ℕ)) × (rest ≡ (m, d) ∷ tail)
next_lane s m d lanes rest more low here so_far whole =
    let later = filter (has s) (range_with_len (d + 1) (15 - d)) in
    let lane : ℕ → ℕ × ℕ = λ k. (m, k) in
    let parts : lanes_of s m ≡ lanes_below s m d ++ (m, d) ∷ map lane later =
    ap (map lane) (centres_of-split s d low here) ∙ map-append lane (centres_below s d) (d ∷ later) in (
      map lane later ++ more,
      append_cancel_left (lanes_below s m d) rest ((m, d) ∷ (map lane later ++ more))
          (sym so_far ∙ whole ∙ ap (λ xs. xs ++ more) parts ∙ append_assoc (lanes_below s m d) ((m, d) ∷ map lane later) more),
    )

-- hops that are left where there are none can't go on
pub no_lane : (rest : List Hop) (lane : ℕ × ℕ) (tail : List (ℕ × ℕ)) → length rest ≡ 0 → map lane_of rest ≡ lane ∷ tail → ⊥
no_lane [] lane tail h e = cc
no_lane (hop ∷ hops) lane tail h e = absurd (omega arith)

-- the first of the hops has the first of their lanes
pub first_lane : (rest more : List Hop) (hop : Hop) (m d : ℕ) (tail : List (ℕ × ℕ)) → rest ≡ hop ∷ more → map lane_of rest ≡ (m, d) ∷ tail → (hop.member.0 ≡ m) × (hop.child.0 ≡ d)
first_lane rest more hop m d tail is e =
    let both : lane_of hop ∷ map lane_of more ≡ (m, d) ∷ tail = sym (ap (map lane_of) is) ∙ e in
    let one : lane_of hop ≡ (m, d) = cc in
    (ap (λ p. p.0) one, ap (λ p. p.1) one)

-- a test that tells two equal numbers apart
pub same_not_different : (a b : ℕ) (r : Bool) → r ≡ not (a == b) → r ≡ true → a ≡ b → ⊥
same_not_different a b r is told e = true≢false (sym told ∙ is ∙ ap not (eq-eqb a b e))

pub not_different_same : (a b : ℕ) (r : Bool) → r ≡ not (a == b) → r ≡ false → a ≡ b
not_different_same a b r is told = eqb-true a b (not_false (a == b) (sym is ∙ told))
  where
    not_false : (v : Bool) → not v ≡ false → v ≡ true
    not_false true h = refl
    not_false false h = absurd (true≢false h)

lanes_below-more : (s : DcSet) (m d : ℕ) → lanes_below s m (d + 1) ≡ lanes_below s m d ++ map (λ k. (m, k)) (cond (has s d) (d ∷ []) [])
lanes_below-more s m d =
    ap (map (λ k. (m, k))) (centres_below-more s d) ∙ map-append (λ k. (m, k)) (centres_below s d) (cond (has s d) (d ∷ []) [])

-- a lane more
pub lane_taken : (s : DcSet) (m d : ℕ) (lanes : List (ℕ × ℕ)) (rest more : List Hop) (hop : Hop) → has s d ≡ true → lanes ≡ lanes_below s m d ++ map lane_of rest → rest ≡ hop ∷ more → hop.member.0 ≡ m → hop.child.0 ≡ d → lanes ≡ lanes_below s m (d + 1) ++ map lane_of more
lane_taken s m d lanes rest more hop here so_far is member child =
    let lane : lane_of hop ≡ (m, d) = ap (λ x. (x, hop.child.0)) member ∙ ap (λ x. (m, x)) child in
    let front : lanes_below s m (d + 1) ≡ lanes_below s m d ++ (m, d) ∷ [] =
    lanes_below-more s m d ∙ ap (λ b. lanes_below s m d ++ map (λ k. (m, k)) (cond b (d ∷ []) [])) here in
    so_far
    ∙ ap (λ r. lanes_below s m d ++ map lane_of r) is
    ∙ ap (λ l. lanes_below s m d ++ l ∷ map lane_of more) lane
    ∙ sym (append_assoc (lanes_below s m d) ((m, d) ∷ []) (map lane_of more))
    ∙ ap (λ xs. xs ++ map lane_of more) (sym front)

-- no lane for a centre that is not in the set
pub lane_skipped : (s : DcSet) (m d : ℕ) (lanes rest : List (ℕ × ℕ)) → has s d ≡ false → lanes ≡ lanes_below s m d ++ rest → lanes ≡ lanes_below s m (d + 1) ++ rest
lane_skipped s m d lanes rest away so_far =
    let front : lanes_below s m (d + 1) ≡ lanes_below s m d =
    lanes_below-more s m d ∙ ap (λ b. lanes_below s m d ++ map (λ k. (m, k)) (cond b (d ∷ []) [])) away ∙ append-nil (lanes_below s m d) in
    so_far ∙ ap (λ xs. xs ++ rest) (sym front)

-- below 0 there is none
pub lanes_start : (s : DcSet) (m : ℕ) (lanes : List (ℕ × ℕ)) → lanes ≡ lanes_below s m 0 ++ lanes
lanes_start s m lanes = ap (λ cs. map (λ k. (m, k)) cs ++ lanes) (sym (centres_below-zero s))

-- below 16 there are all
pub lanes_end : (s : DcSet) (m d : ℕ) (lanes rest : List (ℕ × ℕ)) → d ≤ 16 → 16 ≤ d → lanes ≡ lanes_below s m d ++ rest → lanes ≡ lanes_of s m ++ rest
lanes_end s m d lanes rest low high so_far =
    let e : d ≡ 16 = omega arith in
    so_far ∙ ap (λ n. lanes_below s m n ++ rest) e ∙ ap (λ cs. map (λ k. (m, k)) cs ++ rest) (sym (centres_of-is s))

-- a flat_map is what comes before an element, what the element gives, and the rest
pub flat_map-split : {X A : Type 0} (f : X → List A) (xs : List X) (i : ℕ) (d : X) → i < length xs → flat_map f xs ≡ flat_map f (take i xs) ++ (f (slice_index_or xs i d) ++ flat_map f (drop (suc i) xs))
flat_map-split f [] i d h = absurd (omega arith)
flat_map-split f (x ∷ xs) zero d h = refl
flat_map-split f (x ∷ xs) (suc i) d h =
    ap (λ ys. f x ++ ys) (flat_map-split f xs i d (omega arith))
    ∙ sym (append_assoc (f x) (flat_map f (take i xs)) (f (slice_index_or xs i d) ++ flat_map f (drop (suc i) xs)))
