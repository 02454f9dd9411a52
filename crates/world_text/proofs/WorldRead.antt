-- The records of a world say that world.
use Rattle.std.proofs.Common.{◌≡◌, ℕ, zero, suc, ⊎_elim, ◌+◌, ◌*◌, ◌/◌, ◌%◌, ◌<◌, ◌≤◌, ◌==◌, ◌∙◌, Bool, true, false, cond, List, [], ◌∷◌, ◌++◌, length, map, get_or, replicate, Option, IsSome, Some, None, Ok, All, refl, sym, ap, subst, arith}
use Rattle.std.specs.List.{flat_map, range_with_len, list_all}
use Rattle.std.proofs.lemmas.Bool.{lt-ltb, and_parts, eqb-true, cases_lt}
use Rattle.std.proofs.lemmas.List.{length-replicate, get_or-replicate, ext_get_or, get_or_past}
use Rattle.std.proofs.lemmas.List.Elements.{All-nil, All-cons}
use Rattle.std.proofs.Math.Nat.{div-lt_iff_lt-mul}
use Rattle.price_tables.specs.declared.prices.Fare.{Fare}
use Rattle.price_tables.specs.declared.prices.Centre.{Centre}
use Rattle.price_tables.specs.Tables.{Tabled, count_of, link_at, nothing_tabled, AreAllLinked}
use Rattle.workload.specs.declared.rules.AccessSet.{AccessSet}
use Rattle.workload.specs.declared.rules.Demand.{Demand}
use Rattle.workload.specs.World.{Lists, IsComplete, IsNamed, centre_count, fare_of, fare_or_none, fares_from, world_of, no_fare}
use Rattle.workload.specs.Load.{no_set}
use Rattle.workload.specs.Gaps.{HaveMembersBefore}
use Rattle.workload.proofs.Worlds.{get_or-rows, length-rows}
use Rattle.world_text.specs.declared.kinds.Version.{Version}
use Rattle.world_text.specs.declared.kinds.Version.TheVariants as version
use Rattle.world_text.specs.declared.draft.Draft.{Draft}
use Rattle.world_text.specs.Records.{Record, printed_version, version_record, centre_record, link_records, set_record, use_records, records_of}
use Rattle.world_text.specs.Judged.{judged, nothing_read}
use Rattle.world_text.specs.ReadWorld.{completed, read_records}
use Rattle.world_text.proofs.AnySteps.{first_is}
use Rattle.world_text.proofs.Completing.{whole_due}
use Rattle.world_text.proofs.CentresRead.{AreCentres, HasCentres, centres_read}
use Rattle.world_text.proofs.FieldsRead.{TellsProviders, version_read}
use Rattle.world_text.proofs.LinksRead.{HasLinksBefore, links_read}
use Rattle.world_text.proofs.MembersRead.{members_read}
use Rattle.world_text.proofs.SetsRead.{HasSets, bare, sets_read}
use Rattle.world_text.proofs.Walking.{Leads, leads_more, leads_on, whole_read}

-- the fares of all links, row by row, are those of the world
fares_are : (w : Lists) (t : Tabled) → IsComplete w → t.centres ≡ w.centres
    → ((a b : ℕ) → a < centre_count w → b < centre_count w → link_at t a b ≡ Some (fare_of w a b))
    → flat_map (fares_from t) (range_with_len 0 (count_of t)) ≡ w.fares
fares_are w t complete same linked = ext_get_or no_fare rows w.fares (size ∙ sym complete.every_fare) each
  where
    n : ℕ
    n = centre_count w

    count : count_of t ≡ n
    count = ap length same

    rows : List Fare
    rows = flat_map (fares_from t) (range_with_len 0 (count_of t))

    size : length rows ≡ n * n
    size = length-rows (λ a b. fare_or_none (link_at t a b)) (count_of t) 0 (count_of t) ∙ ap (λ k. k * k) count

    -- the fare of a pair of centres
    at_pair : (a b : ℕ) → a < n → b < n → get_or rows (a * n + b) no_fare ≡ get_or w.fares (a * n + b) no_fare
    at_pair a b low within =
        let here : 0 + a ≡ a = omega arith in
        ap (λ k. get_or rows (a * k + b) no_fare) (sym count)
        ∙ get_or-rows (λ a b. fare_or_none (link_at t a b)) (count_of t) 0 (count_of t) a b no_fare (omega (arith, count)) (omega (arith, count))
        ∙ ap (λ k. fare_or_none (link_at t k b)) here
        ∙ ap fare_or_none (linked a b low within)
        ∙ rw (lt-ltb a n low, lt-ltb b n within) refl

    each : (k : ℕ) → k < length rows → get_or rows k no_fare ≡ get_or w.fares k no_fare
    each k within =
        let inside : k < n * n = omega (arith, within, size) in
        let some : 0 < n = positive n k inside in
        let low : k / n < n = (div-lt_iff_lt-mul {k = n} {x = k} {y = n} some).1 inside in
        let split : k / n * n + k % n ≡ k = omega arith in
        subst (λ j. get_or rows j no_fare ≡ get_or w.fares j no_fare) split (at_pair (k / n) (k % n) low (omega arith))
      where
        positive : (m j : ℕ) → j < m * m → 0 < m
        positive zero j below = absurd (omega arith)
        positive (suc m) j below = omega arith

world_is : (w : Lists) (v : Version) (d : Draft) → IsComplete w → HasSets v w w.sets d → w ≡ world_of d.tables d.load
world_is w v d complete h =
    same w d.tables.centres (flat_map (fares_from d.tables) (range_with_len 0 (count_of d.tables))) d.load h.centres (fares_are w d.tables complete h.centres h.linked) h.load
  where
    same : (x : Lists) (centres : List Centre) (fares : List Fare) (sets : List AccessSet) → centres ≡ x.centres → fares ≡ x.fares → sets ≡ x.sets
        → x ≡ record { centres = centres; fares = fares; sets = sets }
    same x centres fares sets e f g = sym (rw (e, f, g) refl)

whole : (w : Lists) (v : Version) (d : Draft) → IsComplete w → HasSets v w w.sets d → completed d ≡ Ok w
whole w v d complete h = whole_due d v w h.version (world_is w v d complete h) linked (subst (λ (sets : List AccessSet). HaveMembersBefore sets (length sets)) (sym h.load) members)
  where
    members : HaveMembersBefore w.sets (length w.sets)
    members s within none = omega (arith, ap (λ (ms : List Demand). length ms) none, (complete.sets s no_set within).some_member)

    count : count_of d.tables ≡ centre_count w
    count = ap length h.centres

    linked : AreAllLinked d.tables
    linked a b low within = subst IsSome (sym (h.linked a b (omega (arith, count)) (omega (arith, count)))) refl

-- the version in which a world is printed tells how many providers each set asks for
told_of : (w : Lists) → All (λ s. TellsProviders (printed_version w) s.rule.providers) w.sets
told_of w = by (list_all (λ (s : AccessSet). s.rule.providers == 1) w.sets) refl
  where
    ones : (sets : List AccessSet) → list_all (λ (s : AccessSet). s.rule.providers == 1) sets ≡ true → All (λ (s : AccessSet). s.rule.providers ≡ 1) sets
    ones [] h = All-nil (λ (s : AccessSet). s.rule.providers ≡ 1)
    ones (s ∷ ss) h =
        let both : ((s.rule.providers == 1) ≡ true) × (list_all (λ (s : AccessSet). s.rule.providers == 1) ss ≡ true) = and_parts (s.rule.providers == 1) _ h in
        All-cons (λ (s : AccessSet). s.rule.providers ≡ 1) s ss (eqb-true s.rule.providers 1 both.0) (ones ss both.1)

    by : (b : Bool) → list_all (λ (s : AccessSet). s.rule.providers == 1) w.sets ≡ b → All (λ (s : AccessSet). TellsProviders (cond b version.One version.Two) s.rule.providers) w.sets
    by true e = ones w.sets e
    by false e = λ k d within. tt

centres_of : (w : Lists) → IsComplete w → IsNamed w → AreCentres w.centres
centres_of w complete named = record {
  few = complete.few_centres;
  names = named.names;
  providers = named.providers;
  prices = complete.prices;
  distinct = named.distinct;
}

-- a draft of the version alone
abbrev opened : Version → Draft
opened v = record { version = Some v; tables = nothing_tabled; load = [] }

first_read : (v : Version) → judged nothing_read (version_record v) ≡ Ok (opened v)
first_read v = first_is nothing_read (version_record v) refl ∙ rw (version_read v) refl

-- a list of one item, and that item past its end
same_everywhere : {X : Type 0} (n k : ℕ) (x : X) → get_or (replicate n x) k x ≡ x
same_everywhere n k x = ⊎_elim
    (λ (low : k < n). get_or-replicate n k x x low)
    (λ (past : n ≤ k). get_or_past (replicate n x) k x (omega (arith, length-replicate n x)))
    (cases_lt k n)

-- the phases, one after the other
linked_read : (w : Lists) (v : Version) → IsComplete w → IsNamed w
    → Leads (opened v) (map centre_record w.centres ++ link_records w) (HasLinksBefore v w (centre_count w) 0)
linked_read w v complete named =
    leads_on (opened v) (map centre_record w.centres) (link_records w) (HasCentres v (replicate 256 None) w.centres) (HasLinksBefore v w (centre_count w) 0)
    (centres_read v (replicate 256 None) w.centres [] w.centres (opened v) refl (centres_of w complete named) (record { version = refl; centres_are = refl; links_are = refl; load = refl }))
    (λ d h. links_read v w d complete named (start d h))
  where
    start : (d : Draft) → HasCentres v (replicate 256 None) w.centres d → HasLinksBefore v w 0 0 d
    start d h = record {
      version = h.version;
      centres = h.centres_are;
      places = let none : Option Fare = None in ap length h.links_are ∙ length-replicate 256 none;
      before = λ a b low within early. absurd (omega arith);
      none = λ k up. ap (λ (l : List (Option Fare)). get_or l k None) h.links_are ∙ same_everywhere 256 k None;
      load = h.load;
    }

linked_all : (w : Lists) (v : Version) (d : Draft) → IsComplete w → HasLinksBefore v w (centre_count w) 0 d → HasSets v w [] d
linked_all w v d complete h = record {
  version = h.version;
  centres = h.centres;
  linked = λ a b low within. h.before a b low within (fits a b low within complete.few_centres);
  load = h.load;
}
  where
    fits : (a b : ℕ) → a < centre_count w → b < centre_count w → centre_count w ≤ 16 → a * 16 + b < centre_count w * 16 + 0
    fits a b low within few = omega arith

filled_read : (w : Lists) (v : Version) → IsComplete w → IsNamed w → All (λ s. TellsProviders v s.rule.providers) w.sets
    → Leads (opened v) (((map centre_record w.centres ++ link_records w) ++ map (set_record v) w.sets) ++ use_records w) (HasSets v w w.sets)
filled_read w v complete named told =
    leads_on (opened v) ((map centre_record w.centres ++ link_records w) ++ map (set_record v) w.sets) (use_records w) (HasSets v w (map bare w.sets)) (HasSets v w w.sets)
    (leads_on (opened v) (map centre_record w.centres ++ link_records w) (map (set_record v) w.sets) (HasLinksBefore v w (centre_count w) 0) (HasSets v w (map bare w.sets))
    (linked_read w v complete named)
    (λ d h. sets_read v w w.sets [] w.sets d refl named.sets told (linked_all w v d complete h)))
    (λ d h. members_read v w [] w.sets d complete named refl h)

pub world_read : (w : Lists) → IsComplete w → IsNamed w → read_records (records_of w) ≡ Ok w
world_read w complete named =
    let v : Version = printed_version w in
    let body : List Record = ((map centre_record w.centres ++ link_records w) ++ map (set_record v) w.sets) ++ use_records w in
    let filled : Leads (opened v) body (HasSets v w w.sets) = filled_read w v complete named (told_of w) in
    let all : Leads nothing_read (version_record v ∷ body) (HasSets v w w.sets) = leads_more nothing_read (opened v) (version_record v) body (HasSets v w w.sets) (first_read v) filled in
    whole_read 1 nothing_read all.last (version_record v ∷ body) w all.taken (whole w v all.last complete all.holds)
