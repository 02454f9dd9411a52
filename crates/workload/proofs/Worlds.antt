-- Tables and sets without a gap make a complete world.
use Rattle.std.proofs.Common.{get_or, cond, ◌&&◌, nat_lt, true, false, inl, inr, zero, suc, ◌≡◌, ◌≢◌, ℕ, ◌+◌, ◌*◌, ◌<◌, ◌≤◌, List, [], ◌∷◌, ◌++◌, map, length, Option, Some, None, refl, sym, ap, ◌∙◌, subst, arith, All, slice_index_or}
use Rattle.std.specs.List.{flat_map, range_with_len}
use Rattle.std.proofs.lemmas.List.{length-append, get_or-append-add, get_or_append_left, get_or_default, get_or_past}
use Rattle.std.proofs.lemmas.Bool.{and_parts, ltb-true, cases_lt, cases_Bool}
use Rattle.std.proofs.lemmas.List.FromFn.{length-map-range_with_len, get_or-map-range_with_len}
use Rattle.std.proofs.lemmas.List.Elements.{All-append, All-cons, All-nil}
use Rattle.price_tables.specs.declared.prices.Fare.{Fare}
use Rattle.price_tables.specs.Limits.{IsPriceWithin, IsFareWithin}
use Rattle.price_tables.specs.Tables.{Tabled, IsTabled, IsLinkWithin, AreAllLinked, count_of, link_at, link_between, no_centre}
use Rattle.workload.specs.declared.rules.Demand.{Demand}
use Rattle.workload.specs.declared.rules.AccessSet.{AccessSet}
use Rattle.workload.specs.Load.{AreLoaded, IsSetLoaded, set_at, no_set}
use Rattle.workload.specs.World.{Lists, IsComplete, IsSetWithin, world_of, centre_count, price_of, fare_or_none, no_fare, fare_of}
use Rattle.workload.specs.Gaps.{AreInCentres}

-- rows of n items, laid end to end, have n items each
pub length-rows : {X : Type 0} (g : ℕ → ℕ → X) (n start m : ℕ) → length (flat_map (λ a. map (g a) (range_with_len 0 n)) (range_with_len start m)) ≡ m * n
length-rows g n start zero = omega arith
length-rows g n start (suc m) =
    let row = length-map-range_with_len (g start) 0 n in
    let rest = length-rows g n (start + 1) m in
    let both : n + m * n ≡ suc m * n = omega arith in
    length-append (map (g start) (range_with_len 0 n)) _ ∙ rw (row, rest) both

-- and item b of row a stands at a * n + b
pub get_or-rows : {X : Type 0} (g : ℕ → ℕ → X) (n start m a b : ℕ) (d : X) → a < m → b < n
    → get_or (flat_map (λ a. map (g a) (range_with_len 0 n)) (range_with_len start m)) (a * n + b) d ≡ g (start + a) b
get_or-rows g n start zero a b d low within = absurd (omega arith)
get_or-rows g n start (suc m) zero b d low within =
    let row = length-map-range_with_len (g start) 0 n in
    let here : zero * n + b ≡ b = omega arith in
    let first : start + zero ≡ start = omega arith in
    let inside : b < length (map (g start) (range_with_len 0 n)) = rw row within in
    rw (here, first) (get_or_append_left (map (g start) (range_with_len 0 n)) _ d b inside ∙ get_or-map-range_with_len (g start) 0 n b b d within (omega arith))
get_or-rows g n start (suc m) (suc a) b d low within =
    let row = length-map-range_with_len (g start) 0 n in
    let there : suc a * n + b ≡ n + (a * n + b) = omega arith in
    let next : start + suc a ≡ (start + 1) + a = omega arith in
    rw (there, next)
    (ap (λ k. get_or (map (g start) (range_with_len 0 n) ++ flat_map (λ a. map (g a) (range_with_len 0 n)) (range_with_len (start + 1) m)) (k + (a * n + b)) d) (sym row)
    ∙ get_or-append-add (map (g start) (range_with_len 0 n)) _ (a * n + b) d
    ∙ get_or-rows g n (start + 1) m a b d (omega arith) within)

all-row : {X : Type 0} (P : X → Type 0) (g : ℕ → X) → ((b : ℕ) → P (g b)) → (start n : ℕ) → All P (map g (range_with_len start n))
all-row P g h start zero = All-nil P
all-row P g h start (suc n) = All-cons P (g start) (map g (range_with_len (start + 1) n)) (h start) (all-row P g h (start + 1) n)

all-rows : {X : Type 0} (P : X → Type 0) (g : ℕ → ℕ → X) → ((a b : ℕ) → P (g a b)) → (n start m : ℕ) → All P (flat_map (λ a. map (g a) (range_with_len 0 n)) (range_with_len start m))
all-rows P g h n start zero = All-nil P
all-rows P g h n start (suc m) =
    All-append P (map (g start) (range_with_len 0 n)) (flat_map (λ a. map (g a) (range_with_len 0 n)) (range_with_len (start + 1) m))
    (all-row P (g start) (h start) 0 n) (all-rows P g h n (start + 1) m)

-- the fare of a link, or nothing, is within the limits
fare-within : (link : Option Fare) → IsLinkWithin link → IsFareWithin (fare_or_none link)
fare-within (Some fare) h = h
fare-within None h = record { transfer = omega arith; latency = omega arith }

link-within : (links : List (Option Fare)) (k : ℕ) → All IsLinkWithin links → IsLinkWithin (slice_index_or links k None)
link-within [] k h = tt
link-within (link ∷ links) zero h = h 0 None (omega arith)
link-within (link ∷ links) (suc k) h = link-within links k (λ i d within. h (suc i) d (omega arith))

some-member : (members : List Demand) → members ≢ [] → 1 ≤ length members
some-member [] h = absurd (h refl)
some-member (m ∷ ms) h = omega arith

-- a set with a member, all in the centres, is within the limits
set-within : (count : ℕ) (set : AccessSet) → IsSetLoaded set → set.members ≢ [] → All (λ demand. demand.dc.0 < count) set.members → IsSetWithin count set
set-within count set loaded some inside = record {
  rule = loaded.rule;
  some_member = some-member set.members some;
  few_members = loaded.few;
  members = λ k d within. record { dc = inside k d within; counts = loaded.counts k d within };
}

has-members : (sets : List AccessSet) → ((s : ℕ) → s < length sets → (set_at sets s).members ≢ []) → (k : ℕ) (d : AccessSet) → k < length sets → (get_or sets k d).members ≢ []
has-members sets some k d within = subst (λ s. s.members ≢ []) (get_or_default sets k no_set d within) (some k within)

-- tables in order with every link, and sets in order with members in their centres
pub world_complete : (t : Tabled) (sets : List AccessSet) → IsTabled t → AreLoaded sets → AreAllLinked t
    → ((s : ℕ) → s < length sets → (set_at sets s).members ≢ []) → AreInCentres (count_of t) sets → IsComplete (world_of t sets)
world_complete t sets tabled loaded linked some inside = record {
  few_centres = tabled.few;
  few_sets = loaded.few;
  every_fare = length-rows (λ a b. fare_or_none (link_at t a b)) (count_of t) 0 (count_of t);
  prices = tabled.prices;
  fares = all-rows IsFareWithin (λ a b. fare_or_none (link_at t a b)) (λ a b. fare-within (link_at t a b) (link-within t.links (a * 16 + b) tabled.fares)) (count_of t) 0 (count_of t);
  sets = λ k d within. set-within (count_of t) (get_or sets k d) (loaded.each k d within) (has-members sets some k d within) (inside k d within);
}

-- the fare of the world between two centres is the link's
pub fare_is : (t : Tabled) (sets : List AccessSet) (from to : ℕ) → fare_of (world_of t sets) from to ≡ fare_or_none (link_between t from to)
fare_is t sets from to =
    let n = count_of t in
    let fares = flat_map (λ a. map (λ b. fare_or_none (link_at t a b)) (range_with_len 0 n)) (range_with_len 0 n) in
    elim (cases_Bool (nat_lt from n && nat_lt to n)) [
      | inl inside ↦
          let parts = and_parts (nat_lt from n) (nat_lt to n) inside in
          let here : 0 + from ≡ from = omega arith in
          ap (λ b. cond b (get_or fares (from * n + to) no_fare) no_fare) inside
          ∙ get_or-rows (λ a b. fare_or_none (link_at t a b)) n 0 n from to no_fare (ltb-true from n parts.0) (ltb-true to n parts.1)
          ∙ ap (λ a. fare_or_none (link_at t a to)) here
          ∙ sym (ap (λ b. fare_or_none (cond b (link_at t from to) None)) inside)
      | inr outside ↦
          ap (λ b. cond b (get_or fares (from * n + to) no_fare) no_fare) outside
          ∙ sym (ap (λ b. fare_or_none (cond b (link_at t from to) None)) outside)
    ]

-- what a centre of any number asks is within the limits
pub price_within : (w : Lists) → IsComplete w → (d : ℕ) → IsPriceWithin (price_of w d)
price_within w complete d = elim (cases_lt d (centre_count w)) [
  | inl low ↦ complete.prices d no_centre low
  | inr past ↦ subst (λ c. IsPriceWithin c.price) (sym (get_or_past w.centres d no_centre past)) (record { store = omega arith; get = omega arith; put = omega arith })
]

no_fare_within : IsFareWithin no_fare
no_fare_within = record { transfer = omega arith; latency = omega arith }

listed_within : (w : Lists) → IsComplete w → (place : ℕ) → IsFareWithin (get_or w.fares place no_fare)
listed_within w complete place = elim (cases_lt place (length w.fares)) [
  | inl low ↦ complete.fares place no_fare low
  | inr past ↦ subst IsFareWithin (sym (get_or_past w.fares place no_fare past)) no_fare_within
]

-- and so is the fare between centres of any two numbers
pub fare_within : (w : Lists) → IsComplete w → (from to : ℕ) → IsFareWithin (fare_of w from to)
fare_within w complete from to =
    elim (nat_lt from (centre_count w) && nat_lt to (centre_count w)) as (λ b. IsFareWithin (cond b (get_or w.fares (from * centre_count w + to) no_fare) no_fare)) [
      | true ↦ listed_within w complete (from * centre_count w + to)
      | false ↦ no_fare_within
    ]
