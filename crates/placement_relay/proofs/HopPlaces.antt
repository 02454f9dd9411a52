-- The bits of hops with one hop more: the bit at the hop's place is 1 too.
use Rattle.std.proofs.Common.{◌≡◌, ℕ, zero, suc, ◌+◌, ◌-◌, ◌*◌, ◌<◌, ◌≤◌, inl, inr, Bool, true, false, ◌&&◌, ◌||◌, ◌==◌, List, [], ◌∷◌, ◌++◌, length, get_or, set, take, map, replicate, refl, sym, ap, subst, ◌∙◌, arith}
use Rattle.std.specs.Prelude.{◌≢◌}
use Rattle.std.specs.List.{AllPairs, flat_map, list_any, range_with_len}
use Rattle.std.proofs.Math.Bool.{or-false}
use Rattle.std.proofs.lemmas.Bool.{cases_lt, cases_order, eq-eqb, eqb-true, ne_eqb}
use Rattle.std.proofs.lemmas.Nat.{mul-le}
use Rattle.std.proofs.lemmas.Grind.{get_or-set_at}
use Rattle.std.proofs.lemmas.List.{get_or-map, get_or-set_other, length-map, set-append_left, set-append_right, replicate-append-replicate, take_more}
use Rattle.std.proofs.lemmas.List.Folds.{list_any-append}
use Rattle.std.proofs.lemmas.List.FromFn.{length-range_with_len, get_or-range_with_len, length-map-range_with_len}
use Rattle.span_base.specs.declared.policy.Hop.{Hop}
use Rattle.workload.specs.World.{Lists, centre_count, members_of}
use Rattle.workload.specs.declared.rules.Demand.{Demand}
use Rattle.slo_rules.specs.Rules.{centres_asking}
use Rattle.placement_rows.specs.Centres.{nobody}
use Rattle.placement_rows.proofs.Pieces.{length-square, length-pieces}
use Rattle.placement_relay.specs.Laws.{IsEventualSet}
use Rattle.placement_relay.proofs.Members.{set_within}
use Rattle.placement_relay.specs.Placed.{has_hop, member_hop_bits, hop_bits}
use Rattle.placement_relay.specs.HopPlaces.{AreNumbers, IsHopOf}

set-right : {X : Type 0} (xs ys : List X) (n i : ℕ) (v : X) → length xs ≡ n → set (xs ++ ys) (n + i) v ≡ xs ++ set ys i v
set-right xs ys n i v long =
    set-append_right xs ys n (n + i) v long (omega arith) ∙ ap (λ k. xs ++ set ys k v) (let e : n + i - n ≡ i = omega arith in e)

-- pieces that agree, and pieces of one length of which one is another in one place
pieces-agree : {Y A : Type 0} (f g : Y → List A) (e : Y) (ys : List Y) → ((j : ℕ) → j < length ys → g (get_or ys j e) ≡ f (get_or ys j e)) → flat_map g ys ≡ flat_map f ys
pieces-agree f g e [] same = refl
pieces-agree f g e (y ∷ ys) same = ap (λ b. b ++ flat_map g ys) (same 0 (omega arith)) ∙ ap (λ bs. f y ++ bs) (pieces-agree f g e ys (λ j h. same (suc j) (omega arith)))

pieces-set : {Y A : Type 0} (f g : Y → List A) (size : ℕ) → ((y : Y) → length (f y) ≡ size) → (ys : List Y) (a i : ℕ) (e : Y) (v : A) → a < length ys → i < size
    → ((j : ℕ) → j < length ys → (j ≡ a → ⊥) → g (get_or ys j e) ≡ f (get_or ys j e)) → g (get_or ys a e) ≡ set (f (get_or ys a e)) i v
    → flat_map g ys ≡ set (flat_map f ys) (a * size + i) v
pieces-set f g size each [] a i e v in' low others here = absurd (omega arith)
pieces-set f g size each (y ∷ ys) zero i e v in' low others here =
    let at : i ≡ 0 * size + i = omega arith in
    ap (λ b. b ++ flat_map g ys) here
    ∙ ap (λ bs. set (f y) i v ++ bs) (pieces-agree f g e ys (λ j h. others (suc j) (omega arith) (λ is. omega arith)))
    ∙ sym (set-append_left (f y) (flat_map f ys) i v (omega (arith, each y, low)))
    ∙ ap (λ k. set (f y ++ flat_map f ys) k v) at
pieces-set f g size each (y ∷ ys) (suc a) i e v in' low others here =
    let at : size + (a * size + i) ≡ suc a * size + i = omega arith in
    ap (λ b. b ++ flat_map g ys) (others 0 (omega arith) (λ is. omega arith))
    ∙ ap (λ bs. f y ++ bs) (pieces-set f g size each ys a i e v (omega arith) low (λ j h other. others (suc j) (omega arith) (λ is. other (omega arith))) here)
    ∙ sym (set-right (f y) (flat_map f ys) size (a * size + i) v (each y))
    ∙ ap (λ k. set (f y ++ flat_map f ys) k v) at

range-agree : {A : Type 0} (f g : ℕ → A) (s n : ℕ) → ((d : ℕ) → s ≤ d → d < s + n → g d ≡ f d) → map g (range_with_len s n) ≡ map f (range_with_len s n)
range-agree f g s zero same = refl
range-agree f g s (suc n) same =
    ap (λ x. x ∷ map g (range_with_len (s + 1) n)) (same s (omega arith) (omega arith))
    ∙ ap (λ xs. f s ∷ xs) (range-agree f g (s + 1) n (λ d from to. same d (omega arith) (omega arith)))

range-set : {A : Type 0} (f g : ℕ → A) (s n i : ℕ) (v : A) → i < n → ((d : ℕ) → (d ≡ s + i → ⊥) → g d ≡ f d) → g (s + i) ≡ v → map g (range_with_len s n) ≡ set (map f (range_with_len s n)) i v
range-set f g s zero i v low others here = absurd (omega arith)
range-set f g s (suc n) zero v low others here =
    ap (λ x. x ∷ map g (range_with_len (s + 1) n)) (ap g (let e : s ≡ s + 0 = omega arith in e) ∙ here)
    ∙ ap (λ xs. v ∷ xs) (range-agree f g (s + 1) n (λ d from to. others d (λ is. omega arith)))
range-set f g s (suc n) (suc i) v low others here =
    ap (λ x. x ∷ map g (range_with_len (s + 1) n)) (others s (λ is. omega arith))
    ∙ ap (λ xs. f s ∷ xs) (range-set f g (s + 1) n i v (omega arith) (λ d other. others d (λ is. other (omega arith))) (ap g (let e : s + 1 + i ≡ s + suc i = omega arith in e) ∙ here))

or-true : (b : Bool) → (b || true) ≡ true
or-true true = refl
or-true false = refl

and-false : (b : Bool) → (b && false) ≡ false
and-false true = refl
and-false false = refl

module _ (n : ℕ) (hops : List Hop) (hop : Hop) where
  others-stay : (m p d : ℕ) → (hop.member.0 == m && hop.child.0 == d && hop.parent.0 == p) ≡ false → has_hop (hops ++ hop ∷ []) m p d ≡ has_hop hops m p d
  others-stay m p d is =
      list_any-append (λ (hop : Hop). hop.member.0 == m && hop.child.0 == d && hop.parent.0 == p) hops (hop ∷ [])
      ∙ ap (λ b. has_hop hops m p d || (b || false)) is
      ∙ or-false (has_hop hops m p d)

  other-member : (m p d : ℕ) → (hop.member.0 ≡ m → ⊥) → has_hop (hops ++ hop ∷ []) m p d ≡ has_hop hops m p d
  other-member m p d apart = others-stay m p d (ap (λ b. b && hop.child.0 == d && hop.parent.0 == p) (ne_eqb hop.member.0 m apart))

  other-child : (m p d : ℕ) → (hop.child.0 ≡ d → ⊥) → has_hop (hops ++ hop ∷ []) m p d ≡ has_hop hops m p d
  other-child m p d apart =
      others-stay m p d
      (ap (λ b. hop.member.0 == m && b && hop.parent.0 == p) (ne_eqb hop.child.0 d apart) ∙ ap (λ b. b && hop.parent.0 == p) (and-false (hop.member.0 == m)))

  other-parent : (m p d : ℕ) → (hop.parent.0 ≡ p → ⊥) → has_hop (hops ++ hop ∷ []) m p d ≡ has_hop hops m p d
  other-parent m p d apart =
      others-stay m p d (ap (λ b. hop.member.0 == m && hop.child.0 == d && b) (ne_eqb hop.parent.0 p apart) ∙ and-false (hop.member.0 == m && hop.child.0 == d))

  itself : has_hop (hops ++ hop ∷ []) hop.member.0 hop.parent.0 hop.child.0 ≡ true
  itself =
      let m = hop.member.0 in
      let p = hop.parent.0 in
      let d = hop.child.0 in
      list_any-append (λ (hop : Hop). hop.member.0 == m && hop.child.0 == d && hop.parent.0 == p) hops (hop ∷ [])
      ∙ ap (λ b. has_hop hops m p d || ((b && d == d && p == p) || false)) (eq-eqb m m refl)
      ∙ ap (λ b. has_hop hops m p d || ((b && p == p) || false)) (eq-eqb d d refl)
      ∙ ap (λ b. has_hop hops m p d || (b || false)) (eq-eqb p p refl)
      ∙ or-true (has_hop hops m p d)

  -- the bits of what comes from one centre, from any, and to all members
  line : hop.child.0 < n → map (has_hop (hops ++ hop ∷ []) hop.member.0 hop.parent.0) (range_with_len 0 n) ≡ set (map (has_hop hops hop.member.0 hop.parent.0) (range_with_len 0 n)) hop.child.0 true
  line low =
      range-set (has_hop hops hop.member.0 hop.parent.0) (has_hop (hops ++ hop ∷ []) hop.member.0 hop.parent.0) 0 n hop.child.0 true low
      (λ d other. other-child hop.member.0 hop.parent.0 d (λ is. other (omega (arith, is))))
      (ap (has_hop (hops ++ hop ∷ []) hop.member.0 hop.parent.0) (let e : 0 + hop.child.0 ≡ hop.child.0 = omega arith in e) ∙ itself)

  square : hop.child.0 < n → hop.parent.0 < n
      → flat_map (λ p. map (has_hop (hops ++ hop ∷ []) hop.member.0 p) (range_with_len 0 n)) (range_with_len 0 n)
      ≡ set (flat_map (λ p. map (has_hop hops hop.member.0 p) (range_with_len 0 n)) (range_with_len 0 n)) (hop.parent.0 * n + hop.child.0) true
  square low low' =
      let m = hop.member.0 in
      let at : get_or (range_with_len 0 n) hop.parent.0 0 ≡ hop.parent.0 = get_or-range_with_len 0 n hop.parent.0 0 low' ∙ (let e : 0 + hop.parent.0 ≡ hop.parent.0 = omega arith in e) in
      pieces-set (λ p. map (has_hop hops m p) (range_with_len 0 n)) (λ p. map (has_hop (hops ++ hop ∷ []) m p) (range_with_len 0 n)) n (λ p. length-map-range_with_len (has_hop hops m p) 0 n)
      (range_with_len 0 n) hop.parent.0 hop.child.0 0 true (omega (arith, length-range_with_len 0 n)) low
      (λ j in' other.
      let there = get_or-range_with_len 0 n j 0 (omega (arith, length-range_with_len 0 n)) in
      range-agree (has_hop hops m (get_or (range_with_len 0 n) j 0)) (has_hop (hops ++ hop ∷ []) m (get_or (range_with_len 0 n) j 0)) 0 n
      (λ d from to. other-parent m (get_or (range_with_len 0 n) j 0) d (λ is. other (omega (arith, is, there)))))
      (subst (λ p. map (has_hop (hops ++ hop ∷ []) m p) (range_with_len 0 n) ≡ set (map (has_hop hops m p) (range_with_len 0 n)) hop.child.0 true) (sym at) (line low))

  other-square : (m : ℕ) → (hop.member.0 ≡ m → ⊥)
      → flat_map (λ p. map (has_hop (hops ++ hop ∷ []) m p) (range_with_len 0 n)) (range_with_len 0 n) ≡ flat_map (λ p. map (has_hop hops m p) (range_with_len 0 n)) (range_with_len 0 n)
  other-square m apart =
      pieces-agree (λ p. map (has_hop hops m p) (range_with_len 0 n)) (λ p. map (has_hop (hops ++ hop ∷ []) m p) (range_with_len 0 n)) 0 (range_with_len 0 n)
      (λ j in'.
      range-agree (has_hop hops m (get_or (range_with_len 0 n) j 0)) (has_hop (hops ++ hop ∷ []) m (get_or (range_with_len 0 n) j 0)) 0 n
      (λ d from to. other-member m (get_or (range_with_len 0 n) j 0) d apart))

-- members in different centres
apart-at : (ms : List Demand) → AllPairs (λ a b. a.dc.0 ≢ b.dc.0) ms → (i j : ℕ) → i < length ms → j < length ms → (i ≡ j → ⊥) → (get_or ms i nobody).dc.0 ≡ (get_or ms j nobody).dc.0 → ⊥
apart-at ms apart i j in' there other same = elim (cases_order i j) [
  | inl is ↦ other is
  | inr order ↦ elim order [
    | inl before ↦ apart i j nobody before there same
    | inr after ↦ apart j i nobody after in' (sym same)
  ]
]

-- one hop more
pub hops-next : (w : Lists) (set' : ℕ) (hops : List Hop) (hop : Hop) (a : ℕ) → AllPairs (λ a b. a.dc.0 ≢ b.dc.0) (members_of w set') → a < length (members_of w set') → (get_or (members_of w set') a nobody).dc.0 ≡ hop.member.0
    → hop.child.0 < centre_count w → hop.parent.0 < centre_count w
    → hop_bits w set' (hops ++ hop ∷ []) ≡ set (hop_bits w set' hops) (a * (centre_count w * centre_count w) + (hop.parent.0 * centre_count w + hop.child.0)) true
hops-next w set' hops hop a apart in' is low low' =
    let n = centre_count w in
    let members = members_of w set' in
    let inside : (hop.parent.0 + 1) * n ≤ n * n = mul-le (hop.parent.0 + 1) n n n (omega arith) (omega arith) in
    pieces-set (λ (m : Demand). member_hop_bits w hops m.dc.0) (λ (m : Demand). member_hop_bits w (hops ++ hop ∷ []) m.dc.0) (n * n) (λ m. length-square (has_hop hops m.dc.0) n)
    members a (hop.parent.0 * n + hop.child.0) nobody true in' (omega (arith, inside, low))
    (λ j there other. other-square n hops hop (get_or members j nobody).dc.0 (λ same. apart-at members apart a j in' there (λ e. other (omega (arith, e))) (is ∙ same)))
    (subst (λ m. member_hop_bits w (hops ++ hop ∷ []) m ≡ set (member_hop_bits w hops m) (hop.parent.0 * n + hop.child.0) true) (sym is) (square n hops hop low low'))

-- an item of a list passes a test
record Passing {X : Type 0} (t : X → Bool) (d : X) (xs : List X) : Type 0 where
  place : ℕ
  low : place < length xs
  passes : t (get_or xs place d) ≡ true

passing-of : {X : Type 0} (t : X → Bool) (d x : X) (xs : List X) (b : Bool) → t x ≡ b → (list_any t xs ≡ true → Passing t d xs) → (b || list_any t xs) ≡ true → Passing t d (x ∷ xs)
passing-of t d x xs true is later h = record { place = 0; low = omega arith; passes = is }
passing-of t d x xs false is later h = let rest = later h in record { place = suc rest.place; low = omega (arith, rest.low); passes = rest.passes }

passing : {X : Type 0} (t : X → Bool) (d : X) (xs : List X) → list_any t xs ≡ true → Passing t d xs
passing t d [] h = cc
passing t d (x ∷ xs) h = passing-of t d x xs (t x) refl (passing t d xs) h

-- without a hop all bits are 0
zeros : {Y : Type 0} (f : Y → List Bool) (size : ℕ) → ((y : Y) → f y ≡ replicate size false) → (ys : List Y) → flat_map f ys ≡ replicate (length ys * size) false
zeros f size each [] = ap (λ k. replicate k false) (let e : 0 ≡ 0 * size = omega arith in e)
zeros f size each (y ∷ ys) =
    let more : size + length ys * size ≡ suc (length ys) * size = omega arith in
    ap (λ b. b ++ flat_map f ys) (each y)
    ∙ ap (λ bs. replicate size false ++ bs) (zeros f size each ys)
    ∙ replicate-append-replicate size (length ys * size) false
    ∙ ap (λ k. replicate k false) more

line-zeros : (s n : ℕ) → map (λ (d : ℕ). false) (range_with_len s n) ≡ replicate n false
line-zeros s zero = refl
line-zeros s (suc n) = ap (λ bs. false ∷ bs) (line-zeros (s + 1) n)

pub no-hops : (w : Lists) (set' : ℕ) → hop_bits w set' [] ≡ replicate (length (members_of w set') * (centre_count w * centre_count w)) false
no-hops w set' =
    let n = centre_count w in
    let long : length (range_with_len 0 n) * n ≡ n * n = ap (λ k. k * n) (length-range_with_len 0 n) in
    zeros (λ (m : Demand). member_hop_bits w [] m.dc.0) (n * n)
    (λ m. zeros (λ p. map (has_hop [] m.dc.0 p) (range_with_len 0 n)) n (λ p. line-zeros 0 n) (range_with_len 0 n) ∙ ap (λ k. replicate k false) long) (members_of w set')

-- a hop's member, by the number at its centre
pub record IsAt (w : Lists) (set' : ℕ) (numbers : List ℕ) (hop : Hop) : Type 0 where
  pub low : get_or numbers hop.member.0 0 < length (members_of w set')
  pub is : (get_or (members_of w set') (get_or numbers hop.member.0 0) nobody).dc.0 ≡ hop.member.0

pub member-at : (w : Lists) (set' : ℕ) (numbers : List ℕ) (hop : Hop) → AreNumbers w set' numbers → IsHopOf w set' hop → IsAt w set' numbers hop
member-at w set' numbers hop numbered is =
    let members = members_of w set' in
    let there = passing (λ dc. dc == hop.member.0) 0 (centres_asking members) is.member in
    let low : there.place < length members = omega (arith, there.low, length-map members (λ m. m.dc.0)) in
    let same : (get_or members there.place nobody).dc.0 ≡ hop.member.0 = sym (get_or-map (λ m. m.dc.0) members there.place nobody 0 low) ∙ eqb-true (get_or (centres_asking members) there.place 0) hop.member.0 there.passes in
    let number : get_or numbers hop.member.0 0 ≡ there.place = ap (λ k. get_or numbers k 0) (sym same) ∙ numbered.each there.place low in
    record { low = omega (arith, low, number); is = ap (λ a. (get_or members a nobody).dc.0) number ∙ same }

-- how many bits of hops there are
pub long-hops : (w : Lists) (set' : ℕ) (hops : List Hop) → length (hop_bits w set' hops) ≡ length (members_of w set') * (centre_count w * centre_count w)
long-hops w set' hops = length-pieces (λ (m : Demand). member_hop_bits w hops m.dc.0) (centre_count w * centre_count w) (λ m. length-square (has_hop hops m.dc.0) (centre_count w)) (members_of w set')

-- a hop's place is among them
pub place-inside : (w : Lists) (set' : ℕ) (a p d : ℕ) → a < length (members_of w set') → p < centre_count w → d < centre_count w
    → a * (centre_count w * centre_count w) + (p * centre_count w + d) < length (members_of w set') * (centre_count w * centre_count w)
place-inside w set' a p d in' low low' =
    let n = centre_count w in
    let k = length (members_of w set') in
    let line : (p + 1) * n ≤ n * n = mul-le (p + 1) n n n (omega arith) (omega arith) in
    let square : (a + 1) * (n * n) ≤ k * (n * n) = mul-le (a + 1) (n * n) k (n * n) (omega arith) (omega arith) in
    omega (arith, line, square, low')

-- no hop
abbrev pub no_hop : Hop
no_hop = record { member = record { 0 = 0 }; child = record { 0 = 0 }; parent = record { 0 = 0 } }

-- behind other bits, one hop more is one bit more that is 1
pub bits-next : (w : Lists) (set' : ℕ) (before : List Bool) (hops : List Hop) (hop : Hop) (i a : ℕ) → AllPairs (λ a b. a.dc.0 ≢ b.dc.0) (members_of w set') → i < length hops → hop ≡ get_or hops i no_hop → a < length (members_of w set') → (get_or (members_of w set') a nobody).dc.0 ≡ hop.member.0
    → hop.child.0 < centre_count w → hop.parent.0 < centre_count w
    → set (before ++ hop_bits w set' (take i hops)) (length before + (a * (centre_count w * centre_count w) + (hop.parent.0 * centre_count w + hop.child.0))) true ≡ before ++ hop_bits w set' (take (i + 1) hops)
bits-next w set' before hops hop i a apart in' here low is low' low'' =
    let place = a * (centre_count w * centre_count w) + (hop.parent.0 * centre_count w + hop.child.0) in
    set-right before (hop_bits w set' (take i hops)) (length before) place true refl
    ∙ ap (λ bits. before ++ bits) (sym (hops-next w set' (take i hops) hop a apart low is low' low''))
    ∙ ap (λ hs. before ++ hop_bits w set' hs) (sym (take_more hops i no_hop in' ∙ ap (λ h. take i hops ++ h ∷ []) (sym here)))

-- one member's number more
pub numbers-next : (ms : List Demand) (numbers : List ℕ) (a at : ℕ) → length numbers ≡ 16 → AllPairs (λ a b. a.dc.0 ≢ b.dc.0) ms → a < length ms → at ≡ (get_or ms a nobody).dc.0 → at < 16
    → ((j : ℕ) → j < a → get_or numbers (get_or ms j nobody).dc.0 0 ≡ j) → (j : ℕ) → j < a + 1 → get_or (set numbers at a) (get_or ms j nobody).dc.0 0 ≡ j
numbers-next ms numbers a at long apart in' is low each j inside = elim (cases_lt j a) [
  | inl before ↦
      get_or-set_other numbers at (get_or ms j nobody).dc.0 a 0 (λ same. apart-at ms apart j a (omega (arith, before, in')) in' (λ e. omega (arith, e, before)) (same ∙ is)) ∙ each j before
  | inr last ↦
      let here : a ≡ j = omega (arith, inside, last) in
      subst (λ k. get_or (set numbers at a) (get_or ms k nobody).dc.0 0 ≡ k) here (get_or-set_at numbers at (get_or ms a nobody).dc.0 a 0 (sym is) (omega (arith, long, low)))
]

-- a member's centre is one of 16
pub member-low : (w : Lists) (set' : ℕ) → IsEventualSet w set' → (a : ℕ) → a < length (members_of w set') → (get_or (members_of w set') a nobody).dc.0 < 16
member-low w set' s a in' = omega (arith, ((set_within w set' s).members a nobody in').dc, s.complete.few_centres)
