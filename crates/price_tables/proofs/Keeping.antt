-- The tables stay in order as centres are added.
use Rattle.std.proofs.Common.{get_or, ◌≡◌, ℕ, ◌+◌, ◌<◌, ◌≤◌, List, [], ◌∷◌, ◌++◌, map, length, nat_eq, Option, None, replicate, refl, sym, ap, ◌∙◌, subst, arith, All}
use Rattle.std.specs.List.{position, IsDistinct}
use Rattle.std.specs.Cmp.Lexicographic.{pointwise}
use Rattle.std.specs.Global.{Vec}
use Rattle.std.proofs.lemmas.List.{map-append, length-append, replicate-append-replicate, get_or-replicate}
use Rattle.std.proofs.lemmas.List.Elements.{All-append, All-cons, All-nil}
use Rattle.span_base.specs.Name.{IsName}
use Rattle.price_tables.specs.declared.prices.Fare.{Fare}
use Rattle.price_tables.specs.declared.prices.Centre.{Centre}
use Rattle.price_tables.specs.Tables.{Tabled, IsTabled, IsLinkWithin, nothing_tabled, with_centre, number_of, count_of}
use Rattle.price_tables.specs.Kept.{Entry, IsKept, centres_of}
use Rattle.price_tables.specs.Limits.{IsPriceWithin}
use Rattle.price_tables.proofs.Names.{distinct_more}

-- one more centre with a new name
pub tabled_more : (t : Tabled) (c : Centre) → IsTabled t → number_of t c.name ≡ None → count_of t < 16
    → IsName c.name → IsName c.provider → IsPriceWithin c.price → IsTabled (with_centre t c)
tabled_more t c tabled none few name provider price = record {
  few = more (length-append t.centres _);
  places = tabled.places;
  distinct = subst (IsDistinct (pointwise nat_eq)) (sym (map-append (λ (x : Centre). x.name) t.centres _)) (distinct_more c.name _ tabled.distinct none);
  names = All-append (λ (x : Centre). IsName x.name) t.centres _ tabled.names (one (λ (x : Centre). IsName x.name) name);
  providers = All-append (λ (x : Centre). IsName x.provider) t.centres _ tabled.providers (one (λ (x : Centre). IsName x.provider) provider);
  prices = All-append (λ (x : Centre). IsPriceWithin x.price) t.centres _ tabled.prices (one (λ (x : Centre). IsPriceWithin x.price) price);
  fares = tabled.fares;
}
  where
    more : length (t.centres ++ c ∷ []) ≡ length t.centres + 1 → length (t.centres ++ c ∷ []) ≤ 16
    more e = omega arith

    one : (P : Centre → Type 0) → P c → All P (c ∷ [])
    one P p = All-cons P c [] p (All-nil P)

-- one more centre, under its own new name
pub kept_more : (entries : List Entry) (links : List (Option Fare)) (key : Vec ℕ) (c : Centre) → IsKept entries links
    → key.items ≡ c.name → number_of (record { centres = centres_of entries; links = links }) c.name ≡ None
    → length (centres_of entries) < 16 → IsName c.name → IsName c.provider → IsPriceWithin c.price → IsKept (entries ++ (key, c) ∷ []) links
kept_more entries links key c kept same none few name provider price = record {
  keys = map-append (λ (e : Entry). e.0.items) entries _ ∙ ap2 kept.keys same ∙ sym (map-append (λ (e : Entry). e.1.name) entries _);
  tabled = subst (λ cs. IsTabled (record { centres = cs; links = links })) (sym (map-append (λ (e : Entry). e.1) entries _)) (tabled_more (record { centres = centres_of entries; links = links }) c kept.tabled none few name provider price);
}
  where
    ap2 : {ks ns : List (List ℕ)} → ks ≡ ns → key.items ≡ c.name → ks ++ key.items ∷ [] ≡ ns ++ c.name ∷ []
    ap2 p q = rw (p, q) refl

-- one more place without a fare
pub one_more_none : (n : ℕ) → replicate {A = Option Fare} (n + 1) None ≡ replicate n None ++ None ∷ []
one_more_none n = sym (replicate-append-replicate n 1 None)

no_names : IsDistinct (pointwise nat_eq) []
unfolding IsDistinct
no_names = tt

-- no centre and no link
tabled_none : IsTabled nothing_tabled
tabled_none = record {
  few = omega arith;
  places = refl;
  distinct = no_names;
  names = All-nil (λ (c : Centre). IsName c.name);
  providers = All-nil (λ (c : Centre). IsName c.provider);
  prices = All-nil (λ (c : Centre). IsPriceWithin c.price);
  fares = λ k d within. none k d within;
}
  where
    none : (k : ℕ) (d : Option Fare) → k < 256 → IsLinkWithin (get_or (replicate {A = Option Fare} 256 None) k d)
    none k d within = subst IsLinkWithin (sym (get_or-replicate 256 k None d within)) tt

pub nothing_kept : (entries : List Entry) (links : List (Option Fare)) → entries ≡ [] → links ≡ replicate 256 None
    → IsKept entries links
nothing_kept entries links e f = rw (e, f) (record { keys = refl; tabled = tabled_none })
