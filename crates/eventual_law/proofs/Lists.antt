-- What a map, a filter and a search of a list have of it.
use Rattle.std.proofs.Common.{◌≡◌, inl, inr, Bool, cond, true, false, List, [], ◌∷◌, refl, sym, subst}
use Rattle.std.specs.Prelude.{map, find, Some, Contains}
use Rattle.std.specs.List.{filter}
use Rattle.register_order.proofs.Members.{Contains-here, Contains-there, among, none_among}

pub in_map : {X Y : Type 0} → (f : X → Y) (xs : List X) (y : Y) → Contains (map f xs) y → (x : X) × Contains xs x × (y ≡ f x)
in_map {X} {Y} f [] y c = absurd (none_among y c)
in_map {X} {Y} f (x ∷ xs) y c = elim (among (f x) (map f xs) y c) as (λ _. (e : X) × Contains (x ∷ xs) e × (y ≡ f e)) [
  | inl is ↦ (x, Contains-here x xs, is)
  | inr more ↦ (let rest = in_map f xs y more in (rest.0, Contains-there x xs rest.0 rest.1, rest.2))
]

pub into_map : {X Y : Type 0} → (f : X → Y) (xs : List X) (x : X) → Contains xs x → Contains (map f xs) (f x)
into_map {X} {Y} f [] x c = absurd (none_among x c)
into_map {X} {Y} f (y ∷ ys) x c = elim (among y ys x c) as (λ _. Contains (f y ∷ map f ys) (f x)) [
  | inl is ↦ subst (λ (v : X). Contains (f y ∷ map f ys) (f v)) (sym is) (Contains-here (f y) (map f ys))
  | inr more ↦ Contains-there (f y) (map f ys) (f x) (into_map f ys x more)
]

pub into_filter : {X : Type 0} → (test : X → Bool) (xs : List X) (x : X) → Contains xs x → test x ≡ true → Contains (filter test xs) x
into_filter {X} test [] x c t = absurd (none_among x c)
into_filter {X} test (y ∷ ys) x c t = by (λ more. into_filter test ys x more t) (test y) refl
  where
    by : (Contains ys x → Contains (filter test ys) x) → (b : Bool) → test y ≡ b → Contains (cond b (y ∷ filter test ys) (filter test ys)) x
    by later true is = elim (among y ys x c) as (λ _. Contains (y ∷ filter test ys) x) [ inl same ↦ subst (Contains (y ∷ filter test ys)) (sym same) (Contains-here y (filter test ys)) | inr more ↦ Contains-there y (filter test ys) x (later more) ]
    by later false is = elim (among y ys x c) as (λ _. Contains (filter test ys) x) [ inl same ↦ absurd (let z = subst (λ (v : X). test v ≡ true) same t in cc) | inr more ↦ later more ]

-- a search finds what it finds: an element that passes
pub found_in : {X : Type 0} → (test : X → Bool) (xs : List X) (x : X) → find test xs ≡ Some x → Contains xs x × (test x ≡ true)
found_in {X} test [] x e = absurd (cc)
found_in {X} test (y ∷ ys) x e = by (λ z. found_in test ys x z) (test y) refl e
  where
    by : (find test ys ≡ Some x → Contains ys x × (test x ≡ true)) → (b : Bool) → test y ≡ b → cond b (Some y) (find test ys) ≡ Some x → Contains (y ∷ ys) x × (test x ≡ true)
    by later true is z = let same : y ≡ x = cc in (subst (Contains (y ∷ ys)) same (Contains-here y ys), subst (λ (v : X). test v ≡ true) same is)
    by later false is z = let rest = later z in (Contains-there y ys x rest.0, rest.1)

-- and it finds one where one passes
pub finds_some : {X : Type 0} → (test : X → Bool) (xs : List X) (x : X) → Contains xs x → test x ≡ true → (y : X) × (find test xs ≡ Some y)
finds_some {X} test [] x c t = absurd (none_among x c)
finds_some {X} test (y ∷ ys) x c t = by (λ more. finds_some test ys x more t) (test y) refl
  where
    by : (Contains ys x → (z : X) × (find test ys ≡ Some z)) → (b : Bool) → test y ≡ b → (z : X) × (cond b (Some y) (find test ys) ≡ Some z)
    by later true is = (y, refl)
    by later false is = elim (among y ys x c) as (λ _. (z : X) × (find test ys ≡ Some z)) [ inl same ↦ absurd (let q = subst (λ (v : X). test v ≡ true) same t in cc) | inr more ↦ later more ]
