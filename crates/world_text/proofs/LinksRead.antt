-- The records of a world's links are read.
use Rattle.std.proofs.Common.{◌≡◌, ℕ, zero, suc, ◌+◌, ◌*◌, ◌<◌, ◌≤◌, ◌∙◌, ⊎_elim, List, [], ◌∷◌, length, map, get_or, Some, None, Ok, refl, sym, ap, subst, arith, mul-le-mul_right}
use Rattle.std.specs.Prelude.{codes}
use Rattle.std.specs.List.{flat_map, range_with_len}
use Rattle.std.specs.Fmt.{decimal}
use Rattle.std.proofs.lemmas.Bool.{cases_lt, lt-ltb}
use Rattle.std.proofs.lemmas.List.{length-set, get_or-set_same, get_or-set_other, get_or-map, length-map}
use Rattle.span_base.specs.Name.{IsName}
use Rattle.price_tables.specs.declared.prices.Fare.{Fare}
use Rattle.price_tables.specs.declared.prices.Centre.{Centre}
use Rattle.price_tables.specs.Limits.{IsFareWithin}
use Rattle.price_tables.specs.Tables.{Tabled, number_of, link_at, with_link, no_centre}
use Rattle.workload.specs.World.{Lists, IsComplete, IsNamed, centre_count, fare_of, no_fare}
use Rattle.world_text.specs.declared.kinds.Kind.TheVariants as kind
use Rattle.world_text.specs.declared.kinds.Version.{Version}
use Rattle.world_text.specs.declared.draft.Draft.{Draft}
use Rattle.workload.specs.World.{name_of}
use Rattle.world_text.specs.Records.{link_record, links_from, link_records}
use Rattle.world_text.specs.Added.{link_added}
use Rattle.world_text.specs.Judged.{judged}
use Rattle.world_text.proofs.AnySteps.{kind_is}
use Rattle.world_text.proofs.LinkSteps.{link_taken}
use Rattle.world_text.proofs.FieldsRead.{name_read, fare_read, kind_link}
use Rattle.world_text.proofs.Places.{place_of}
use Rattle.world_text.proofs.Walking.{Leads, leads_none, leads_more, leads_on}

-- a draft of the centres of a world and of its links before the pair, without sets
pub record HasLinksBefore (v : Version) (w : Lists) (from to : ℕ) (d : Draft) : Type 0 where
  pub version : d.version ≡ Some v
  pub centres : d.tables.centres ≡ w.centres
  pub places : length d.tables.links ≡ 256
  pub before : (a b : ℕ) → a < centre_count w → b < centre_count w → a * 16 + b < from * 16 + to → link_at d.tables a b ≡ Some (fare_of w a b)
  pub none : (k : ℕ) → from * 16 + to ≤ k → get_or d.tables.links k None ≡ None
  pub load : d.load ≡ []

-- a centre of the world is found by its name
pub centre_found : (w : Lists) (t : Tabled) (dc : ℕ) → IsNamed w → t.centres ≡ w.centres → dc < centre_count w → number_of t (name_of w dc) ≡ Some dc
centre_found w t dc named is within = go (place_of names dc named.distinct inside)
  where
    names : List (List ℕ)
    names = map (λ (c : Centre). c.name) w.centres

    inside : dc < length names
    inside = omega (arith, length-map w.centres (λ (c : Centre). c.name))

    name : get_or names dc [] ≡ name_of w dc
    name = get_or-map (λ (c : Centre). c.name) w.centres dc no_centre [] within

    go : number_of (record { centres = w.centres; links = t.links }) (get_or names dc []) ≡ Some dc → number_of t (name_of w dc) ≡ Some dc
    go h =
        ap (λ (cs : List Centre). number_of (record { centres = cs; links = t.links }) (name_of w dc)) is
        ∙ ap (number_of (record { centres = w.centres; links = t.links })) (sym name)
        ∙ h

link_fits : (t : Tabled) (from to : List ℕ) (fare : Fare) (a b : ℕ) → number_of t from ≡ Some a → number_of t to ≡ Some b → link_at t a b ≡ None
    → link_added t from to fare ≡ Ok (with_link t a b fare)
unfolding link_added
link_fits t from to fare a b first second new = rw (first, second, new) refl

-- what the names and the fare of a link must be
record CanLink (v : Version) (d : Draft) (from to : List ℕ) (fare : Fare) (a b : ℕ) : Type 0 where
  version : d.version ≡ Some v
  from_name : IsName from
  to_name : IsName to
  within : IsFareWithin fare
  from_found : number_of d.tables from ≡ Some a
  to_found : number_of d.tables to ≡ Some b
  new : link_at d.tables a b ≡ None

link_read : (v : Version) (d : Draft) (from to : List ℕ) (fare : Fare) (a b : ℕ) → CanLink v d from to fare a b
    → judged d (link_record from to fare) ≡ Ok (record d { tables = with_link d.tables a b fare })
link_read v d from to fare a b h =
    kind_is d v (link_record from to fare) (codes "link") (from ∷ to ∷ decimal fare.transfer ∷ decimal fare.latency ∷ []) kind.Link h.version refl kind_link
    ∙ link_taken d (from ∷ to ∷ decimal fare.transfer ∷ decimal fare.latency ∷ []) from to (decimal fare.transfer) (decimal fare.latency) from to fare (with_link d.tables a b fare)
    refl (name_read from h.from_name) (name_read to h.to_name) (fare_read fare h.within) (link_fits d.tables from to fare a b h.from_found h.to_found h.new)

-- one more link
next_link : (v : Version) (w : Lists) (a b : ℕ) (d : Draft) → centre_count w ≤ 16 → a < centre_count w → b < centre_count w
    → HasLinksBefore v w a b d → HasLinksBefore v w a (b + 1) (record d { tables = with_link d.tables a b (fare_of w a b) })
next_link v w a b d few low within h = record {
  version = h.version;
  centres = h.centres;
  places = length-set d.tables.links (a * 16 + b) (Some (fare_of w a b)) ∙ h.places;
  before = before;
  none = λ k up. get_or-set_other d.tables.links (a * 16 + b) k (Some (fare_of w a b)) None (omega arith) ∙ h.none k (omega arith);
  load = h.load;
}
  where
    place : a * 16 + b < length d.tables.links
    place = omega (arith, h.places)

    same : (x y : ℕ) → x ≡ a → y ≡ b → link_at (with_link d.tables a b (fare_of w a b)) x y ≡ Some (fare_of w x y)
    same x y e f = rw (e, f) (get_or-set_same d.tables.links (a * 16 + b) (Some (fare_of w a b)) None place)

    before : (x y : ℕ) → x < centre_count w → y < centre_count w → x * 16 + y < a * 16 + (b + 1) → link_at (with_link d.tables a b (fare_of w a b)) x y ≡ Some (fare_of w x y)
    before x y low' within' early = ⊎_elim
        (λ (sooner : x * 16 + y < a * 16 + b). get_or-set_other d.tables.links (a * 16 + b) (x * 16 + y) (Some (fare_of w a b)) None (omega arith) ∙ h.before x y low' within' sooner)
        (λ (later : a * 16 + b ≤ x * 16 + y). same x y (omega arith) (omega arith))
        (cases_lt (x * 16 + y) (a * 16 + b))

-- the fare of a link is within the limits
fare_within : (w : Lists) (a b : ℕ) → IsComplete w → a < centre_count w → b < centre_count w → IsFareWithin (fare_of w a b)
fare_within w a b complete low within = rw (lt-ltb a (centre_count w) low, lt-ltb b (centre_count w) within) (complete.fares (a * centre_count w + b) no_fare inside)
  where
    rows : a * centre_count w + centre_count w ≤ centre_count w * centre_count w
    rows = let up : a + 1 ≤ centre_count w = omega arith in omega (arith, mul-le-mul_right (centre_count w) up)

    inside : a * centre_count w + b < length w.fares
    inside = omega (arith, rows, complete.every_fare)

can_link : (v : Version) (w : Lists) (a b : ℕ) (d : Draft) → IsComplete w → IsNamed w → a < centre_count w → b < centre_count w
    → HasLinksBefore v w a b d → CanLink v d (name_of w a) (name_of w b) (fare_of w a b) a b
can_link v w a b d complete named low within h = record {
  version = h.version;
  from_name = named.names a no_centre low;
  to_name = named.names b no_centre within;
  within = fare_within w a b complete low within;
  from_found = centre_found w d.tables a named h.centres low;
  to_found = centre_found w d.tables b named h.centres within;
  new = h.none (a * 16 + b) (omega arith);
}

-- the links from a centre to the others from this one on
row_read : (v : Version) (w : Lists) (a b n : ℕ) (d : Draft) → IsComplete w → IsNamed w → a < centre_count w → b + n ≡ centre_count w → HasLinksBefore v w a b d
    → Leads d (map (λ to. link_record (name_of w a) (name_of w to) (fare_of w a to)) (range_with_len b n)) (HasLinksBefore v w a (centre_count w))
row_read v w a b zero d complete named low e h =
    leads_none d (HasLinksBefore v w a (centre_count w)) (subst (λ k. HasLinksBefore v w a k d) (omega arith) h)
row_read v w a b (suc n) d complete named low e h =
    let within : b < centre_count w = omega arith in
    let next : Draft = record d { tables = with_link d.tables a b (fare_of w a b) } in
    leads_more d next (link_record (name_of w a) (name_of w b) (fare_of w a b)) (map (λ to. link_record (name_of w a) (name_of w to) (fare_of w a to)) (range_with_len (b + 1) n)) (HasLinksBefore v w a (centre_count w))
    (link_read v d (name_of w a) (name_of w b) (fare_of w a b) a b (can_link v w a b d complete named low within h))
    (row_read v w a (b + 1) n next complete named low (omega arith) (next_link v w a b d complete.few_centres low within h))

-- after the last link from a centre come those from the next
next_row : (v : Version) (w : Lists) (a : ℕ) (d : Draft) → centre_count w ≤ 16 → HasLinksBefore v w a (centre_count w) d → HasLinksBefore v w (a + 1) 0 d
next_row v w a d few h = record {
  version = h.version;
  centres = h.centres;
  places = h.places;
  before = λ x y low within early. h.before x y low within (omega arith);
  none = λ k up. h.none k (omega arith);
  load = h.load;
}

rows_read : (v : Version) (w : Lists) (a n : ℕ) (d : Draft) → IsComplete w → IsNamed w → a + n ≡ centre_count w → HasLinksBefore v w a 0 d
    → Leads d (flat_map (links_from w) (range_with_len a n)) (HasLinksBefore v w (centre_count w) 0)
rows_read v w a zero d complete named e h =
    leads_none d (HasLinksBefore v w (centre_count w) 0) (subst (λ k. HasLinksBefore v w k 0 d) (omega arith) h)
rows_read v w a (suc n) d complete named e h =
    leads_on d (links_from w a) (flat_map (links_from w) (range_with_len (a + 1) n)) (HasLinksBefore v w a (centre_count w)) (HasLinksBefore v w (centre_count w) 0)
    (row_read v w a 0 (centre_count w) d complete named (omega arith) (omega arith) h)
    (λ m reached. rows_read v w (a + 1) n m complete named (omega arith) (next_row v w a m complete.few_centres reached))

pub links_read : (v : Version) (w : Lists) (d : Draft) → IsComplete w → IsNamed w → HasLinksBefore v w 0 0 d → Leads d (link_records w) (HasLinksBefore v w (centre_count w) 0)
links_read v w d complete named h = rows_read v w 0 (centre_count w) d complete named (omega arith) h
