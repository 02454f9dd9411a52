-- The record of a link, field by field.
use Rattle.std.proofs.Common.{◌≡◌, ◌≢◌, ℕ, List, [], ◌∷◌, length, Ok, Err, refl}
use Rattle.span_base.specs.declared.words.Cause.TheVariants as cause
use Rattle.world_text.specs.declared.fault.Fault.{Fault}
use Rattle.world_text.specs.declared.fault.Fault.TheVariants.{Bad}
use Rattle.world_text.specs.declared.fault.Refusal.{Refusal}
use Rattle.world_text.specs.declared.fault.Refusal.TheVariants as refusal
use Rattle.world_text.specs.declared.draft.Draft.{Draft}
use Rattle.world_text.specs.Records.{Record}
use Rattle.world_text.specs.Steps.{IsDue}
use Rattle.price_tables.specs.declared.prices.Fare.{Fare}
use Rattle.price_tables.specs.Tables.{Tabled}
use Rattle.world_text.specs.Spelled.{name_of, fare_of}
use Rattle.world_text.specs.Added.{link_added}
use Rattle.world_text.specs.Judged.{link_judged}

pub link_fields : (d : Draft) (r : Record) → length r ≢ 4 → link_judged d r ≡ Err (Bad cause.Fields)
unfolding link_judged
link_fields d [] h = refl
link_fields d (a ∷ []) h = refl
link_fields d (a ∷ b ∷ []) h = refl
link_fields d (a ∷ b ∷ x ∷ []) h = refl
link_fields d (a ∷ b ∷ x ∷ y ∷ []) h = absurd (h refl)
link_fields d (a ∷ b ∷ x ∷ y ∷ z ∷ rest) h = refl

pub link_from : (d : Draft) (r : Record) (a b x y : List ℕ) (e : Refusal) → r ≡ a ∷ b ∷ x ∷ y ∷ [] → IsDue (name_of a) e → IsDue (link_judged d r) e
unfolding link_judged
link_from d r a b x y (refusal.NoMemory m) all h = tt
link_from d r a b x y (refusal.Fault f) all h = rw (all, h) refl

pub link_to : (d : Draft) (r : Record) (a b x y n : List ℕ) (e : Refusal) → r ≡ a ∷ b ∷ x ∷ y ∷ [] → name_of a ≡ Ok n → IsDue (name_of b) e → IsDue (link_judged d r) e
unfolding link_judged
link_to d r a b x y n (refusal.NoMemory m) all from h = tt
link_to d r a b x y n (refusal.Fault f) all from h = rw (all, from, h) refl

pub link_fare : (d : Draft) (r : Record) (a b x y n p : List ℕ) (f : Fault) → r ≡ a ∷ b ∷ x ∷ y ∷ [] → name_of a ≡ Ok n → name_of b ≡ Ok p → fare_of x y ≡ Err f → link_judged d r ≡ Err f
unfolding link_judged
link_fare d r a b x y n p f all from to h = rw (all, from, to, h) refl

pub link_refused : (d : Draft) (r : Record) (a b x y n p : List ℕ) (fare : Fare) (e : Refusal) → r ≡ a ∷ b ∷ x ∷ y ∷ [] → name_of a ≡ Ok n → name_of b ≡ Ok p → fare_of x y ≡ Ok fare
    → IsDue (link_added d.tables n p fare) e → IsDue (link_judged d r) e
unfolding link_judged
link_refused d r a b x y n p fare (refusal.NoMemory m) all from to is h = tt
link_refused d r a b x y n p fare (refusal.Fault f) all from to is h = rw (all, from, to, is, h) refl

pub link_taken : (d : Draft) (r : Record) (a b x y n p : List ℕ) (fare : Fare) (t : Tabled) → r ≡ a ∷ b ∷ x ∷ y ∷ [] → name_of a ≡ Ok n → name_of b ≡ Ok p → fare_of x y ≡ Ok fare
    → link_added d.tables n p fare ≡ Ok t → link_judged d r ≡ Ok (record d { tables = t })
unfolding link_judged
link_taken d r a b x y n p fare t all from to is h = rw (all, from, to, is, h) refl
