-- What was read of a world stays in order, record by record.
use Rattle.std.proofs.Common.{◌≡◌, ℕ, ◌+◌, ◌*◌, ◌<◌, ◌≤◌, Bool, true, false, cond, List, [], ◌∷◌, ◌++◌, length, map, get_or, replicate, nat_eq, Option, Some, None, Result, Ok, Err, All, refl, ◌∙◌, subst, arith}
use Rattle.std.specs.Prelude.{nat_lt, is_some}
use Rattle.std.specs.Cmp.Lexicographic.{pointwise}
use Rattle.std.specs.List.{position}
use Rattle.std.proofs.lemmas.Bool.{ltb-true}
use Rattle.std.proofs.lemmas.List.{length-append, length-set, length-map}
use Rattle.std.proofs.lemmas.List.Quantifiers.{position-Some}
use Rattle.std.proofs.lemmas.List.Elements.{All-nil, All-set}
use Rattle.span_base.specs.Name.{IsName}
use Rattle.span_base.specs.declared.words.What.TheVariants as what
use Rattle.price_tables.specs.declared.prices.Centre.{Centre}
use Rattle.price_tables.specs.declared.prices.Fare.{Fare}
use Rattle.price_tables.specs.Limits.{IsPriceWithin, IsFareWithin}
use Rattle.price_tables.specs.Tables.{Tabled, IsTabled, IsLinkWithin, count_of, number_of, link_at, with_centre, with_link}
use Rattle.price_tables.proofs.Keeping.{tabled_more, nothing_kept}
use Rattle.workload.specs.declared.rules.SetRule.{SetRule}
use Rattle.workload.specs.declared.rules.Demand.{Demand}
use Rattle.workload.specs.declared.rules.AccessSet.{AccessSet}
use Rattle.workload.specs.Faults.{has_member}
use Rattle.workload.specs.Gaps.{AreInCentres}
use Rattle.workload.specs.Limits.{IsRuleWithin, AreCountsWithin}
use Rattle.workload.specs.Load.{AreLoaded, set_at, set_number, with_set, with_demand}
use Rattle.workload.proofs.Keeping.{loaded_none, loaded_more, loaded_member}
use Rattle.world_text.specs.declared.fault.Fault.{Fault}
use Rattle.world_text.specs.declared.fault.Fault.TheVariants.{Limit}
use Rattle.world_text.specs.declared.draft.Draft.{Draft}
use Rattle.world_text.specs.Steps.{◌>>=◌}
use Rattle.world_text.specs.Added.{known, not_twice, room, centre_added, link_added, set_added, member_added}
use Rattle.world_text.specs.Judged.{nothing_read}
use Rattle.world_text.proofs.Adding.{one_more_set, one_more_member}

-- tables and sets in order, each member of a set in one of the centres
pub record AreInOrder (t : Tabled) (sets : List AccessSet) : Type 0 where
  pub tabled : IsTabled t
  pub loaded : AreLoaded sets
  pub inside : AreInCentres (count_of t) sets

abbrev pub IsInOrder : Draft → Type 0
IsInOrder d = AreInOrder d.tables d.load

-- there is room for one more, as a test says
abbrev fits : Bool → Fault → Result (Unit {0}) Fault
fits b fault = cond b (Ok tt) (Err fault)

-- a number of a name is below how many there are
number_below : (name : List ℕ) (names : List (List ℕ)) (k : ℕ) → position (pointwise nat_eq name) names ≡ Some k → k < length names
number_below name names k is = (position-Some (pointwise nat_eq name) names k [] is).0

-- one more centre
wider : (n m : ℕ) (sets : List AccessSet) → n ≤ m → AreInCentres n sets → AreInCentres m sets
wider n m sets up inside = λ k d within j e among. let low : (get_or (get_or sets k d).members j e).dc.0 < n = inside k d within j e among in omega (arith, low, up)

pub centre_in_order : (t new : Tabled) (sets : List AccessSet) (c : Centre) → AreInOrder t sets → IsName c.name → IsName c.provider → IsPriceWithin c.price
    → centre_added t c ≡ Ok new → AreInOrder new sets
unfolding centre_added
centre_in_order t new sets c order name provider price h = by (number_of t c.name) refl (nat_lt (count_of t) 16) refl h
  where
    by : (o : Option ℕ) → number_of t c.name ≡ o → (b : Bool) → nat_lt (count_of t) 16 ≡ b
        → (not_twice (is_some o) >>= λ fresh. fits b (Limit what.Centres (count_of t + 1)) >>= λ done. Ok (with_centre t c)) ≡ Ok new → AreInOrder new sets
    by (Some k) is b low e = absurd (cc e)
    by None is false low e = absurd (cc e)
    by None is true low e =
        let same : with_centre t c ≡ new = cc in
        let P : Tabled → Type 0 = λ x. AreInOrder x sets in
        let longer : length (t.centres ++ c ∷ []) ≡ length t.centres + 1 = length-append t.centres (c ∷ []) in
        subst P same (record {
          tabled = tabled_more t c order.tabled is (ltb-true (count_of t) 16 low) name provider price;
          loaded = order.loaded;
          inside = wider (count_of t) (count_of (with_centre t c)) sets (omega (arith, longer)) order.inside;
        })

-- one more link
pub link_in_order : (t new : Tabled) (sets : List AccessSet) (from to : List ℕ) (fare : Fare) → AreInOrder t sets → IsFareWithin fare
    → link_added t from to fare ≡ Ok new → AreInOrder new sets
unfolding link_added
link_in_order t new sets from to fare order within h = go (number_of t from) (number_of t to) h
  where
    linked : (a b : ℕ) → with_link t a b fare ≡ new → AreInOrder new sets
    linked a b same =
        let P : Tabled → Type 0 = λ x. AreInOrder x sets in
        let old = order.tabled in
        subst P same (record {
          tabled = record {
            few = old.few;
            places = length-set t.links (a * 16 + b) (Some fare) ∙ old.places;
            distinct = old.distinct;
            names = old.names;
            providers = old.providers;
            prices = old.prices;
            fares = All-set IsLinkWithin t.links (a * 16 + b) (Some fare) within old.fares;
          };
          loaded = order.loaded;
          inside = order.inside;
        })

    by : (a b : ℕ) (o : Option Fare) → (not_twice (is_some o) >>= λ fresh. Ok (with_link t a b fare)) ≡ Ok new → AreInOrder new sets
    by a b (Some f) e = absurd (cc e)
    by a b None e = let same : with_link t a b fare ≡ new = cc in linked a b same

    go : (a b : Option ℕ) → (known a >>= λ x. known b >>= λ y. not_twice (is_some (link_at t x y)) >>= λ fresh. Ok (with_link t x y fare)) ≡ Ok new → AreInOrder new sets
    go None b e = absurd (cc e)
    go (Some x) None e = absurd (cc e)
    go (Some x) (Some y) e = by x y (link_at t x y) e

-- one more set
pub set_in_order : (t : Tabled) (sets new : List AccessSet) (name : List ℕ) (rule : SetRule) → AreInOrder t sets → IsName name → IsRuleWithin rule
    → set_added sets name rule ≡ Ok new → AreInOrder t new
unfolding set_added
set_in_order t sets new name rule order named within h = by (set_number sets name) refl (nat_lt (length sets) 1000) refl h
  where
    by : (o : Option ℕ) → set_number sets name ≡ o → (b : Bool) → nat_lt (length sets) 1000 ≡ b
        → (not_twice (is_some o) >>= λ fresh. fits b (Limit what.Sets (length sets + 1)) >>= λ done. Ok (with_set sets name rule)) ≡ Ok new → AreInOrder t new
    by (Some k) is b low e = absurd (cc e)
    by None is false low e = absurd (cc e)
    by None is true low e =
        let same : with_set sets name rule ≡ new = cc in
        subst (AreInOrder t) same (record {
          tabled = order.tabled;
          loaded = loaded_more sets name rule order.loaded is (ltb-true (length sets) 1000 low) named within;
          inside = one_more_set (count_of t) sets name rule order.inside;
        })

-- one more member
pub member_in_order : (t : Tabled) (sets new : List AccessSet) (name : List ℕ) (m : Demand) → AreInOrder t sets → AreCountsWithin m → m.dc.0 < count_of t
    → member_added sets name m ≡ Ok new → AreInOrder t new
unfolding member_added
member_in_order t sets new name m order counts there h = go (set_number sets name) refl h
  where
    by : (s : ℕ) → s < length sets → (b : Bool) → has_member (set_at sets s).members m.dc.0 ≡ b → (f : Bool) → nat_lt (length (set_at sets s).members) 8 ≡ f
        → (not_twice b >>= λ fresh. fits f (Limit what.Members (length (set_at sets s).members + 1)) >>= λ done. Ok (with_demand sets s m)) ≡ Ok new → AreInOrder t new
    by s low true is f few e = absurd (cc e)
    by s low false is false few e = absurd (cc e)
    by s low false is true few e =
        let same : with_demand sets s m ≡ new = cc in
        subst (AreInOrder t) same (record {
          tabled = order.tabled;
          loaded = loaded_member sets s m order.loaded low counts is (ltb-true (length (set_at sets s).members) 8 few);
          inside = one_more_member sets s m (count_of t) there order.inside;
        })

    go : (o : Option ℕ) → set_number sets name ≡ o
        → (known o >>= λ s. not_twice (has_member (set_at sets s).members m.dc.0) >>= λ fresh. room what.Members 8 (length (set_at sets s).members) >>= λ done. Ok (with_demand sets s m)) ≡ Ok new → AreInOrder t new
    go None is e = absurd (cc e)
    go (Some s) is e =
        let below : s < length (map (λ (x : AccessSet). x.name) sets) = number_below name (map (λ (x : AccessSet). x.name) sets) s is in
        let count = length-map sets (λ (x : AccessSet). x.name) in
        by s (omega (arith, below, count)) (has_member (set_at sets s).members m.dc.0) refl (nat_lt (length (set_at sets s).members) 8) refl e

-- a known centre is one of those that there are
pub centre_below : (t : Tabled) (name : List ℕ) (k : ℕ) → number_of t name ≡ Some k → k < count_of t
centre_below t name k is =
    let below : k < length (map (λ (c : Centre). c.name) t.centres) = number_below name (map (λ (c : Centre). c.name) t.centres) k is in
    let count = length-map t.centres (λ (c : Centre). c.name) in
    omega (arith, below, count)

-- nothing is in order
pub nothing_in_order : IsInOrder nothing_read
nothing_in_order = record {
  tabled = (nothing_kept [] (replicate 256 None) refl refl).tabled;
  loaded = loaded_none;
  inside = All-nil (λ (s : AccessSet). All (λ (m : Demand). m.dc.0 < 0) s.members);
}
