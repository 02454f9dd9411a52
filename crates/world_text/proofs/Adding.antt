-- What the tables and the sets refuse is what the record is refused for.
use Rattle.std.proofs.Common.{◌≡◌, ℕ, ◌+◌, ◌<◌, ◌≤◌, ◌^◌, Bool, true, false, cond, List, [], ◌∷◌, length, Option, Some, None, Result, Ok, Err, refl, sym, ap, ◌∙◌, subst, All, ⊎_elim}
use Rattle.std.specs.Prelude.{nat_lt, is_some, unwrap_or}
use Rattle.std.proofs.lemmas.Bool.{le-ltb, cases_lt}
use Rattle.std.proofs.lemmas.List.{get_or_past}
use Rattle.std.proofs.lemmas.List.Elements.{All-append, All-cons, All-nil, All-set, All-get_or}
use Rattle.span_base.specs.declared.words.What.{What}
use Rattle.span_base.specs.declared.words.What.TheVariants as what
use Rattle.span_base.specs.declared.words.Cause.TheVariants as cause
use Rattle.price_tables.specs.declared.prices.DcPrice.{DcPrice}
use Rattle.price_tables.specs.declared.prices.Fare.{Fare}
use Rattle.price_tables.specs.declared.prices.Centre.{Centre}
use Rattle.price_tables.specs.declared.fault.TableFault.{TableFault}
use Rattle.price_tables.specs.declared.fault.TableFault.TheVariants as table
use Rattle.price_tables.specs.Limits.{IsPriceWithin, IsFareWithin}
use Rattle.price_tables.specs.Tables.{Tabled, count_of, number_of, link_at, with_centre, with_link}
use Rattle.price_tables.specs.Faults as tables
use Rattle.workload.specs.declared.rules.SetRule.{SetRule}
use Rattle.workload.specs.declared.rules.Demand.{Demand}
use Rattle.workload.specs.declared.rules.AccessSet.{AccessSet}
use Rattle.workload.specs.declared.fault.LoadFault.{LoadFault}
use Rattle.workload.specs.declared.fault.LoadFault.TheVariants as load
use Rattle.workload.specs.Limits.{IsRuleWithin}
use Rattle.workload.specs.Load.{set_at, set_number, with_set, with_demand, with_member, no_set}
use Rattle.workload.specs.Faults as sets
use Rattle.workload.specs.Gaps.{AreInCentres}
use Rattle.world_text.specs.declared.fault.Fault.{Fault}
use Rattle.world_text.specs.declared.fault.Fault.TheVariants.{Bad, Limit}
use Rattle.world_text.specs.Steps.{◌>>=◌, IsDue}
use Rattle.world_text.specs.Faults.{table_refusal, load_refusal}
use Rattle.world_text.specs.Added.{known, not_twice, room, centre_added, link_added, set_added, member_added}

-- what is told of a fault of the tables, or what was made where there is none
table_told : {X : Type 0} → Option TableFault → X → Result X Fault
table_told None x = Ok x
table_told (Some (table.Limit what number)) x = Err (Limit what number)
table_told (Some table.Twice) x = Err (Bad cause.Twice)
table_told (Some table.UnknownFrom) x = Err (Bad cause.Unknown)
table_told (Some table.UnknownTo) x = Err (Bad cause.Unknown)
table_told (Some (table.NoMemory e)) x = Ok x

load_told : {X : Type 0} → Option LoadFault → X → Result X Fault
load_told None x = Ok x
load_told (Some (load.Limit what number)) x = Err (Limit what number)
load_told (Some load.Unknown) x = Err (Bad cause.Unknown)
load_told (Some load.Twice) x = Err (Bad cause.Twice)
load_told (Some (load.NoMemory e)) x = Ok x

-- there is room for one more, as a test says
abbrev fits : Bool → Fault → Result (Unit {0}) Fault
fits b fault = cond b (Ok tt) (Err fault)

table_ok : {X : Type 0} (due : Option TableFault) (x : X) → due ≡ None → table_told due x ≡ Ok x
unfolding table_told
table_ok due x h = rw h refl

table_err : {X : Type 0} (due : Option TableFault) (x : X) (e : TableFault) → tables.IsDue due e → IsDue (table_told due x) (table_refusal e)
unfolding table_told
table_err due x (table.Limit what number) h = rw h refl
table_err due x table.Twice h = rw h refl
table_err due x table.UnknownFrom h = rw h refl
table_err due x table.UnknownTo h = rw h refl
table_err due x (table.NoMemory e) h = tt

load_ok : {X : Type 0} (due : Option LoadFault) (x : X) → due ≡ None → load_told due x ≡ Ok x
unfolding load_told
load_ok due x h = rw h refl

load_err : {X : Type 0} (due : Option LoadFault) (x : X) (e : LoadFault) → sets.IsDue due e → IsDue (load_told due x) (load_refusal e)
unfolding load_told
load_err due x (load.Limit what number) h = rw h refl
load_err due x load.Unknown h = rw h refl
load_err due x load.Twice h = rw h refl
load_err due x (load.NoMemory e) h = tt

-- numbers within their limits are not refused
table_over : (w : What) (limit n : ℕ) (next : Option TableFault) → n ≤ limit → tables.over w limit n next ≡ next
table_over w limit n next h = rw (le-ltb limit n h) refl

price_over : (p : DcPrice) (next : Option TableFault) → IsPriceWithin p → tables.price_over p next ≡ next
price_over p next h =
    table_over what.Price (10 ^ 9) p.store _ h.store ∙ table_over what.Price (10 ^ 9) p.get _ h.get ∙ table_over what.Price (10 ^ 9) p.put next h.put

fare_over : (f : Fare) (next : Option TableFault) → IsFareWithin f → tables.fare_over f next ≡ next
fare_over f next h = table_over what.Price (10 ^ 9) f.transfer _ h.transfer ∙ table_over what.Latency (10 ^ 6) f.latency next h.latency

load_over : (w : What) (limit n : ℕ) (next : Option LoadFault) → n ≤ limit → sets.over w limit n next ≡ next
load_over w limit n next h = rw (le-ltb limit n h) refl

rule_over : (r : SetRule) (next : Option LoadFault) → IsRuleWithin r → sets.rule_over r next ≡ next
rule_over r next h =
    load_over what.F 3 r.f _ h.f
    ∙ load_over what.Latency (10 ^ 6) r.read_slo _ h.read_slo
    ∙ load_over what.Latency (10 ^ 6) r.write_slo _ h.write_slo
    ∙ load_over what.Stored (10 ^ 12) r.stored _ h.stored
    ∙ load_over what.Object (10 ^ 5) r.object _ h.object
    ∙ load_over what.Providers 16 r.providers next h.providers

demand_over : (d : Demand) (next : Option LoadFault) → d.gets ≤ 10 ^ 9 → d.puts ≤ 10 ^ 9 → sets.demand_over d next ≡ next
demand_over d next gets puts = load_over what.Count (10 ^ 9) d.gets _ gets ∙ load_over what.Count (10 ^ 9) d.puts next puts

-- one more centre
centre_is : (t : Tabled) (c : Centre) → IsPriceWithin c.price → centre_added t c ≡ table_told (tables.centre_fault t c.name c.price) (with_centre t c)
unfolding centre_added table_told
centre_is t c within = go (number_of t c.name) ∙ ap (λ o. table_told o (with_centre t c)) (sym (price_over c.price _ within))
  where
    go : (o : Option ℕ) → (not_twice (is_some o) >>= λ new. room what.Centres 16 (count_of t) >>= λ done. Ok (with_centre t c)) ≡ table_told (tables.name_fault o (count_of t)) (with_centre t c)
    go (Some n) = refl
    go None = by (nat_lt (count_of t) 16)
      where
        by : (b : Bool) → (fits b (Limit what.Centres (count_of t + 1)) >>= λ done. Ok (with_centre t c)) ≡ table_told (cond b None (Some (table.Limit what.Centres (count_of t + 1)))) (with_centre t c)
        by true = refl
        by false = refl

pub centre_ok : (t : Tabled) (c : Centre) → IsPriceWithin c.price → tables.centre_fault t c.name c.price ≡ None → centre_added t c ≡ Ok (with_centre t c)
centre_ok t c within h = centre_is t c within ∙ table_ok _ (with_centre t c) h

pub centre_err : (t : Tabled) (c : Centre) (e : TableFault) → IsPriceWithin c.price → tables.IsDue (tables.centre_fault t c.name c.price) e → IsDue (centre_added t c) (table_refusal e)
centre_err t c e within h = rw (centre_is t c within) (table_err (tables.centre_fault t c.name c.price) (with_centre t c) e h)

-- one more link
link_is : (t : Tabled) (from to : List ℕ) (fare : Fare) → IsFareWithin fare
    → link_added t from to fare ≡ table_told (tables.link_fault t from to fare) (with_link t (unwrap_or (number_of t from) 0) (unwrap_or (number_of t to) 0) fare)
unfolding link_added table_told
link_is t from to fare within = go (number_of t from) (number_of t to) ∙ ap (λ o. table_told o (with_link t (unwrap_or (number_of t from) 0) (unwrap_or (number_of t to) 0) fare)) (sym (fare_over fare _ within))
  where
    go : (a b : Option ℕ) → (known a >>= λ x. known b >>= λ y. not_twice (is_some (link_at t x y)) >>= λ new. Ok (with_link t x y fare)) ≡ table_told (tables.pair_fault t a b) (with_link t (unwrap_or a 0) (unwrap_or b 0) fare)
    go None b = refl
    go (Some x) None = refl
    go (Some x) (Some y) = by (link_at t x y)
      where
        by : (o : Option Fare) → (not_twice (is_some o) >>= λ new. Ok (with_link t x y fare)) ≡ table_told (elim o as (λ _. Option TableFault) [ Some f ↦ Some table.Twice | None ↦ None ]) (with_link t x y fare)
        by (Some f) = refl
        by None = refl

pub link_err : (t : Tabled) (from to : List ℕ) (fare : Fare) (e : TableFault) → IsFareWithin fare → tables.IsDue (tables.link_fault t from to fare) e → IsDue (link_added t from to fare) (table_refusal e)
link_err t from to fare e within h =
    rw (link_is t from to fare within) (table_err (tables.link_fault t from to fare) (with_link t (unwrap_or (number_of t from) 0) (unwrap_or (number_of t to) 0) fare) e h)

-- both names are known where there is no fault
linked : (t new : Tabled) (fare : Fare) (a b : Option ℕ) → tables.pair_fault t a b ≡ None
    → ((x y : ℕ) → a ≡ Some x → b ≡ Some y → new ≡ with_link t x y fare) → new ≡ with_link t (unwrap_or a 0) (unwrap_or b 0) fare
linked t new fare None b h made = absurd (cc h)
linked t new fare (Some x) None h made = absurd (cc h)
linked t new fare (Some x) (Some y) h made = made x y refl refl

pub link_ok : (t new : Tabled) (from to : List ℕ) (fare : Fare) → IsFareWithin fare → tables.link_fault t from to fare ≡ None
    → ((x y : ℕ) → number_of t from ≡ Some x → number_of t to ≡ Some y → new ≡ with_link t x y fare)
    → (link_added t from to fare ≡ Ok new) × (new.centres ≡ t.centres)
link_ok t new from to fare within h made =
    let none : tables.pair_fault t (number_of t from) (number_of t to) ≡ None = sym (fare_over fare _ within) ∙ h in
    let is : new ≡ with_link t (unwrap_or (number_of t from) 0) (unwrap_or (number_of t to) 0) fare = linked t new fare (number_of t from) (number_of t to) none made in
    (link_is t from to fare within ∙ table_ok (tables.link_fault t from to fare) _ h ∙ ap Ok (sym is), ap (λ (x : Tabled). x.centres) is)

-- one more set
set_is : (ss : List AccessSet) (name : List ℕ) (rule : SetRule) → IsRuleWithin rule → set_added ss name rule ≡ load_told (sets.set_fault ss name rule) (with_set ss name rule)
unfolding set_added load_told
set_is ss name rule within = go (set_number ss name) ∙ ap (λ o. load_told o (with_set ss name rule)) (sym (rule_over rule _ within))
  where
    go : (o : Option ℕ) → (not_twice (is_some o) >>= λ new. room what.Sets 1000 (length ss) >>= λ done. Ok (with_set ss name rule)) ≡ load_told (sets.name_fault o (length ss)) (with_set ss name rule)
    go (Some n) = refl
    go None = by (nat_lt (length ss) 1000)
      where
        by : (b : Bool) → (fits b (Limit what.Sets (length ss + 1)) >>= λ done. Ok (with_set ss name rule)) ≡ load_told (cond b None (Some (load.Limit what.Sets (length ss + 1)))) (with_set ss name rule)
        by true = refl
        by false = refl

pub set_ok : (ss : List AccessSet) (name : List ℕ) (rule : SetRule) → IsRuleWithin rule → sets.set_fault ss name rule ≡ None → set_added ss name rule ≡ Ok (with_set ss name rule)
set_ok ss name rule within h = set_is ss name rule within ∙ load_ok _ (with_set ss name rule) h

pub set_err : (ss : List AccessSet) (name : List ℕ) (rule : SetRule) (e : LoadFault) → IsRuleWithin rule → sets.IsDue (sets.set_fault ss name rule) e → IsDue (set_added ss name rule) (load_refusal e)
set_err ss name rule e within h = rw (set_is ss name rule within) (load_err (sets.set_fault ss name rule) (with_set ss name rule) e h)

-- one more member
member_is : (ss : List AccessSet) (name : List ℕ) (d : Demand) → d.gets ≤ 10 ^ 9 → d.puts ≤ 10 ^ 9
    → member_added ss name d ≡ load_told (sets.demand_fault ss name d) (with_demand ss (unwrap_or (set_number ss name) 0) d)
unfolding member_added load_told
member_is ss name d gets puts = go (set_number ss name) ∙ ap (λ o. load_told o (with_demand ss (unwrap_or (set_number ss name) 0) d)) (sym (demand_over d _ gets puts))
  where
    go : (o : Option ℕ)
        → (known o >>= λ s. not_twice (sets.has_member (set_at ss s).members d.dc.0) >>= λ new. room what.Members 8 (length (set_at ss s).members) >>= λ done. Ok (with_demand ss s d))
        ≡ load_told (sets.member_fault_of ss o d.dc.0) (with_demand ss (unwrap_or o 0) d)
    go None = refl
    go (Some s) = by (sets.has_member (set_at ss s).members d.dc.0) (nat_lt (length (set_at ss s).members) 8)
      where
        by : (b f : Bool)
            → (not_twice b >>= λ new. fits f (Limit what.Members (length (set_at ss s).members + 1)) >>= λ done. Ok (with_demand ss s d))
            ≡ load_told (cond b (Some load.Twice) (cond f None (Some (load.Limit what.Members (length (set_at ss s).members + 1))))) (with_demand ss s d)
        by true f = refl
        by false true = refl
        by false false = refl

pub member_err : (ss : List AccessSet) (name : List ℕ) (d : Demand) (e : LoadFault) → d.gets ≤ 10 ^ 9 → d.puts ≤ 10 ^ 9 → sets.IsDue (sets.demand_fault ss name d) e → IsDue (member_added ss name d) (load_refusal e)
member_err ss name d e gets puts h =
    rw (member_is ss name d gets puts) (load_err (sets.demand_fault ss name d) (with_demand ss (unwrap_or (set_number ss name) 0) d) e h)

joined : (ss new : List AccessSet) (d : Demand) (o : Option ℕ) → sets.member_fault_of ss o d.dc.0 ≡ None
    → ((s : ℕ) → o ≡ Some s → new ≡ with_demand ss s d) → new ≡ with_demand ss (unwrap_or o 0) d
joined ss new d None h made = absurd (cc h)
joined ss new d (Some s) h made = made s refl

-- the centres of the members of a set, one of those that there are or one past them
members_in : (ys : List AccessSet) (k n : ℕ) → AreInCentres n ys → All (λ (x : Demand). x.dc.0 < n) (set_at ys k).members
members_in ys k n h = ⊎_elim
    (λ (low : k < length ys). All-get_or (λ (s : AccessSet). All (λ (x : Demand). x.dc.0 < n) s.members) ys k no_set low h)
    (λ (past : length ys ≤ k). subst (λ (s : AccessSet). All (λ (x : Demand). x.dc.0 < n) s.members) (sym (get_or_past ys k no_set past)) (All-nil (λ (x : Demand). x.dc.0 < n)))
    (cases_lt k (length ys))

pub one_more_member : (xs : List AccessSet) (s : ℕ) (m : Demand) (n : ℕ) → m.dc.0 < n → AreInCentres n xs → AreInCentres n (with_demand xs s m)
one_more_member xs s m n low all =
    let P : Demand → Type 0 = λ x. x.dc.0 < n in
    All-set (λ (set : AccessSet). All P set.members) xs s (with_member (set_at xs s) m)
    (All-append P (set_at xs s).members (m ∷ []) (members_in xs s n all) (All-cons P m [] low (All-nil P))) all

-- the sets with one more member, in one of the centres
pub member_ok : (ss new : List AccessSet) (name : List ℕ) (d : Demand) (count : ℕ) → d.gets ≤ 10 ^ 9 → d.puts ≤ 10 ^ 9 → sets.demand_fault ss name d ≡ None
    → ((s : ℕ) → set_number ss name ≡ Some s → new ≡ with_demand ss s d)
    → d.dc.0 < count → AreInCentres count ss
    → (member_added ss name d ≡ Ok new) × AreInCentres count new
member_ok ss new name d count gets puts h made low all =
    let s : ℕ = unwrap_or (set_number ss name) 0 in
    let none : sets.member_fault_of ss (set_number ss name) d.dc.0 ≡ None = sym (demand_over d _ gets puts) ∙ h in
    let is : new ≡ with_demand ss s d = joined ss new d (set_number ss name) none made in (
      member_is ss name d gets puts ∙ load_ok (sets.demand_fault ss name d) _ h ∙ ap Ok (sym is),
      subst (AreInCentres count) (sym is) (one_more_member ss s d count low all),
    )

pub one_more_set : (n : ℕ) (ss : List AccessSet) (name : List ℕ) (rule : SetRule) → AreInCentres n ss → AreInCentres n (with_set ss name rule)
one_more_set n ss name rule all = All-append (λ (s : AccessSet). All (λ (x : Demand). x.dc.0 < n) s.members) ss _ all
    (All-cons (λ (s : AccessSet). All (λ (x : Demand). x.dc.0 < n) s.members) (record { name = name; rule = rule; members = [] }) [] (All-nil (λ (x : Demand). x.dc.0 < n)) (All-nil (λ (s : AccessSet). All (λ (x : Demand). x.dc.0 < n) s.members)))
