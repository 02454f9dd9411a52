-- The record of a centre, field by field.
use Rattle.std.proofs.Common.{◌≡◌, ◌≢◌, ℕ, List, [], ◌∷◌, length, Ok, Err, refl}
use Rattle.span_base.specs.declared.words.Cause.TheVariants as cause
use Rattle.world_text.specs.declared.fault.Fault.{Fault}
use Rattle.world_text.specs.declared.fault.Fault.TheVariants.{Bad}
use Rattle.world_text.specs.declared.fault.Refusal.{Refusal}
use Rattle.world_text.specs.declared.fault.Refusal.TheVariants as refusal
use Rattle.world_text.specs.declared.draft.Draft.{Draft}
use Rattle.world_text.specs.Records.{Record}
use Rattle.world_text.specs.Steps.{IsDue}
use Rattle.price_tables.specs.declared.prices.DcPrice.{DcPrice}
use Rattle.price_tables.specs.Tables.{Tabled}
use Rattle.world_text.specs.Spelled.{name_of, price_of}
use Rattle.world_text.specs.Added.{centre_added}
use Rattle.world_text.specs.Judged.{dc_judged}

pub dc_fields : (d : Draft) (r : Record) → length r ≢ 5 → dc_judged d r ≡ Err (Bad cause.Fields)
unfolding dc_judged
dc_fields d [] h = refl
dc_fields d (a ∷ []) h = refl
dc_fields d (a ∷ b ∷ []) h = refl
dc_fields d (a ∷ b ∷ x ∷ []) h = refl
dc_fields d (a ∷ b ∷ x ∷ y ∷ []) h = refl
dc_fields d (a ∷ b ∷ x ∷ y ∷ z ∷ []) h = absurd (h refl)
dc_fields d (a ∷ b ∷ x ∷ y ∷ z ∷ w ∷ rest) h = refl

pub dc_name : (d : Draft) (r : Record) (a b x y z : List ℕ) (e : Refusal) → r ≡ a ∷ b ∷ x ∷ y ∷ z ∷ [] → IsDue (name_of a) e → IsDue (dc_judged d r) e
unfolding dc_judged
dc_name d r a b x y z (refusal.NoMemory m) all h = tt
dc_name d r a b x y z (refusal.Fault f) all h = rw (all, h) refl

pub dc_provider : (d : Draft) (r : Record) (a b x y z n : List ℕ) (e : Refusal) → r ≡ a ∷ b ∷ x ∷ y ∷ z ∷ [] → name_of a ≡ Ok n → IsDue (name_of b) e → IsDue (dc_judged d r) e
unfolding dc_judged
dc_provider d r a b x y z n (refusal.NoMemory m) all name h = tt
dc_provider d r a b x y z n (refusal.Fault f) all name h = rw (all, name, h) refl

pub dc_price : (d : Draft) (r : Record) (a b x y z n p : List ℕ) (f : Fault) → r ≡ a ∷ b ∷ x ∷ y ∷ z ∷ [] → name_of a ≡ Ok n → name_of b ≡ Ok p → price_of x y z ≡ Err f → dc_judged d r ≡ Err f
unfolding dc_judged
dc_price d r a b x y z n p f all name provider h = rw (all, name, provider, h) refl

pub dc_refused : (d : Draft) (r : Record) (a b x y z n p : List ℕ) (price : DcPrice) (e : Refusal) → r ≡ a ∷ b ∷ x ∷ y ∷ z ∷ [] → name_of a ≡ Ok n → name_of b ≡ Ok p → price_of x y z ≡ Ok price
    → IsDue (centre_added d.tables (record { name = n; provider = p; price = price })) e → IsDue (dc_judged d r) e
unfolding dc_judged
dc_refused d r a b x y z n p price (refusal.NoMemory m) all name provider is h = tt
dc_refused d r a b x y z n p price (refusal.Fault f) all name provider is h = rw (all, name, provider, is, h) refl

pub dc_taken : (d : Draft) (r : Record) (a b x y z n p : List ℕ) (price : DcPrice) (t : Tabled) → r ≡ a ∷ b ∷ x ∷ y ∷ z ∷ [] → name_of a ≡ Ok n → name_of b ≡ Ok p → price_of x y z ≡ Ok price
    → centre_added d.tables (record { name = n; provider = p; price = price }) ≡ Ok t → dc_judged d r ≡ Ok (record d { tables = t })
unfolding dc_judged
dc_taken d r a b x y z n p price t all name provider is h = rw (all, name, provider, is, h) refl
