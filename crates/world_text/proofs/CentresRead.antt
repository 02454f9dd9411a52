-- The records of a world's centres are read.
use Rattle.std.proofs.Common.{◌≡◌, ◌<◌, ◌≤◌, ◌∙◌, List, [], ◌∷◌, ◌++◌, length, map, nat_eq, Option, Some, None, Ok, All, refl, sym, ap, arith, append_assoc}
use Rattle.std.specs.Prelude.{codes}
use Rattle.std.specs.List.{IsDistinct}
use Rattle.std.specs.Fmt.{decimal}
use Rattle.std.specs.Cmp.Lexicographic.{pointwise}
use Rattle.std.proofs.lemmas.Bool.{lt-ltb}
use Rattle.std.proofs.lemmas.List.{map-append, append-nil}
use Rattle.span_base.specs.Name.{IsName}
use Rattle.price_tables.specs.declared.prices.Fare.{Fare}
use Rattle.price_tables.specs.declared.prices.Centre.{Centre}
use Rattle.price_tables.specs.Limits.{IsPriceWithin}
use Rattle.price_tables.specs.Tables.{Tabled, count_of, number_of, with_centre}
use Rattle.world_text.specs.declared.kinds.Kind.TheVariants as kind
use Rattle.world_text.specs.declared.kinds.Version.{Version}
use Rattle.world_text.specs.declared.draft.Draft.{Draft}
use Rattle.world_text.specs.Records.{centre_record}
use Rattle.world_text.specs.Added.{centre_added}
use Rattle.world_text.specs.Judged.{judged}
use Rattle.world_text.proofs.AnySteps.{kind_is}
use Rattle.world_text.proofs.DcSteps.{dc_taken}
use Rattle.world_text.proofs.FieldsRead.{name_read, price_read, kind_dc}
use Rattle.world_text.proofs.Places.{holds_here, below_here, new_here}
use Rattle.world_text.proofs.Walking.{Leads, leads_none, leads_more}

-- centres that tables can have
pub record AreCentres (centres : List Centre) : Type 0 where
  pub few : length centres ≤ 16
  pub names : All (λ c. IsName c.name) centres
  pub providers : All (λ c. IsName c.provider) centres
  pub prices : All (λ c. IsPriceWithin c.price) centres
  pub distinct : IsDistinct (pointwise nat_eq) (map (λ c. c.name) centres)

-- a draft of these centres and links, without sets
pub record HasCentres (v : Version) (links : List (Option Fare)) (centres : List Centre) (d : Draft) : Type 0 where
  pub version : d.version ≡ Some v
  pub centres_are : d.tables.centres ≡ centres
  pub links_are : d.tables.links ≡ links
  pub load : d.load ≡ []

centre_fits : (t : Tabled) (c : Centre) → number_of t c.name ≡ None → count_of t < 16 → centre_added t c ≡ Ok (with_centre t c)
unfolding centre_added
centre_fits t c new room = rw (new, lt-ltb (count_of t) 16 room) refl

centre_read : (v : Version) (d : Draft) (c : Centre) → d.version ≡ Some v → IsName c.name → IsName c.provider → IsPriceWithin c.price
    → number_of d.tables c.name ≡ None → count_of d.tables < 16 → judged d (centre_record c) ≡ Ok (record d { tables = with_centre d.tables c })
centre_read v d c version name provider price new room =
    kind_is d v (centre_record c) (codes "dc") (c.name ∷ c.provider ∷ decimal c.price.store ∷ decimal c.price.get ∷ decimal c.price.put ∷ []) kind.Centre version refl kind_dc
    ∙ dc_taken d (c.name ∷ c.provider ∷ decimal c.price.store ∷ decimal c.price.get ∷ decimal c.price.put ∷ []) c.name c.provider (decimal c.price.store) (decimal c.price.get) (decimal c.price.put)
    c.name c.provider c.price (with_centre d.tables c) refl (name_read c.name name) (name_read c.provider provider) (price_read c.price price) (centre_fits d.tables c new room)

new_centre : (done todo all : List Centre) (c : Centre) → done ++ c ∷ todo ≡ all → IsDistinct (pointwise nat_eq) (map (λ c. c.name) all)
    → (t : Tabled) → t.centres ≡ done → number_of t c.name ≡ None
new_centre done todo all c e distinct t is = go (new_here (map (λ (c : Centre). c.name) done) (map (λ (c : Centre). c.name) todo) (map (λ (c : Centre). c.name) all) c.name names distinct)
  where
    names : map (λ (c : Centre). c.name) done ++ c.name ∷ map (λ (c : Centre). c.name) todo ≡ map (λ (c : Centre). c.name) all
    names = sym (map-append (λ (c : Centre). c.name) done (c ∷ todo)) ∙ ap (map (λ (c : Centre). c.name)) e

    go : number_of (record { centres = done; links = t.links }) c.name ≡ None → number_of t c.name ≡ None
    go h = ap (λ (cs : List Centre). number_of (record { centres = cs; links = t.links }) c.name) is ∙ h

pub centres_read : (v : Version) (links : List (Option Fare)) (all done todo : List Centre) (d : Draft) → done ++ todo ≡ all → AreCentres all
    → HasCentres v links done d → Leads d (map centre_record todo) (HasCentres v links all)
centres_read v links all done [] d e good h =
    let same : done ≡ all = sym (append-nil done) ∙ e in
    leads_none d (HasCentres v links all) (record { version = h.version; centres_are = h.centres_are ∙ same; links_are = h.links_are; load = h.load })
centres_read v links all done (c ∷ cs) d e good h =
    let within : length done < length all = below_here done cs all c e in
    let few : length all ≤ 16 = good.few in
    let count : count_of d.tables ≡ length done = ap length h.centres_are in
    let next : Draft = record d { tables = with_centre d.tables c } in
    leads_more d next (centre_record c) (map centre_record cs) (HasCentres v links all)
    (centre_read v d c h.version
    (holds_here (λ (x : Centre). IsName x.name) done cs all c e good.names)
    (holds_here (λ (x : Centre). IsName x.provider) done cs all c e good.providers)
    (holds_here (λ (x : Centre). IsPriceWithin x.price) done cs all c e good.prices)
    (new_centre done cs all c e good.distinct d.tables h.centres_are)
    (omega arith))
    (centres_read v links all (done ++ c ∷ []) cs next (append_assoc done (c ∷ []) cs ∙ e) good
    (record { version = h.version; centres_are = ap (λ (xs : List Centre). xs ++ c ∷ []) h.centres_are; links_are = h.links_are; load = h.load }))
