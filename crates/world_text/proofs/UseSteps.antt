-- The record of a member, field by field.
use Rattle.std.proofs.Common.{◌≡◌, ◌≢◌, ℕ, List, [], ◌∷◌, length, Some, Ok, Err, refl}
use Rattle.span_base.specs.declared.words.Cause.TheVariants as cause
use Rattle.world_text.specs.declared.fault.Fault.{Fault}
use Rattle.world_text.specs.declared.fault.Fault.TheVariants.{Bad}
use Rattle.world_text.specs.declared.fault.Refusal.{Refusal}
use Rattle.world_text.specs.declared.fault.Refusal.TheVariants as refusal
use Rattle.world_text.specs.declared.draft.Draft.{Draft}
use Rattle.world_text.specs.Records.{Record}
use Rattle.world_text.specs.Steps.{IsDue}
use Rattle.std.proofs.Common.{None}
use Rattle.price_tables.specs.Tables.{number_of}
use Rattle.workload.specs.declared.rules.AccessSet.{AccessSet}
use Rattle.world_text.specs.Spelled.{name_of, counts_of}
use Rattle.world_text.specs.Added.{member_added}
use Rattle.world_text.specs.Judged.{use_judged}

pub use_fields : (d : Draft) (r : Record) → length r ≢ 4 → use_judged d r ≡ Err (Bad cause.Fields)
unfolding use_judged
use_fields d [] h = refl
use_fields d (a ∷ []) h = refl
use_fields d (a ∷ b ∷ []) h = refl
use_fields d (a ∷ b ∷ x ∷ []) h = refl
use_fields d (a ∷ b ∷ x ∷ y ∷ []) h = absurd (h refl)
use_fields d (a ∷ b ∷ x ∷ y ∷ z ∷ rest) h = refl

pub use_set : (d : Draft) (r : Record) (a b x y : List ℕ) (e : Refusal) → r ≡ a ∷ b ∷ x ∷ y ∷ [] → IsDue (name_of a) e → IsDue (use_judged d r) e
unfolding use_judged
use_set d r a b x y (refusal.NoMemory m) all h = tt
use_set d r a b x y (refusal.Fault f) all h = rw (all, h) refl

pub use_centre : (d : Draft) (r : Record) (a b x y n : List ℕ) (e : Refusal) → r ≡ a ∷ b ∷ x ∷ y ∷ [] → name_of a ≡ Ok n → IsDue (name_of b) e → IsDue (use_judged d r) e
unfolding use_judged
use_centre d r a b x y n (refusal.NoMemory m) all set h = tt
use_centre d r a b x y n (refusal.Fault f) all set h = rw (all, set, h) refl

pub use_counts : (d : Draft) (r : Record) (a b x y n p : List ℕ) (f : Fault) → r ≡ a ∷ b ∷ x ∷ y ∷ [] → name_of a ≡ Ok n → name_of b ≡ Ok p → counts_of x y ≡ Err f → use_judged d r ≡ Err f
unfolding use_judged
use_counts d r a b x y n p f all set centre h = rw (all, set, centre, h) refl

pub use_unknown : (d : Draft) (r : Record) (a b x y n p : List ℕ) (counts : ℕ × ℕ) → r ≡ a ∷ b ∷ x ∷ y ∷ [] → name_of a ≡ Ok n → name_of b ≡ Ok p → counts_of x y ≡ Ok counts
    → number_of d.tables p ≡ None → use_judged d r ≡ Err (Bad cause.Unknown)
unfolding use_judged
use_unknown d r a b x y n p counts all set centre is none = rw (all, set, centre, is, none) refl

pub use_refused : (d : Draft) (r : Record) (a b x y n p : List ℕ) (g u k : ℕ) (e : Refusal) → r ≡ a ∷ b ∷ x ∷ y ∷ [] → name_of a ≡ Ok n → name_of b ≡ Ok p → counts_of x y ≡ Ok (g, u)
    → number_of d.tables p ≡ Some k → IsDue (member_added d.load n (record { dc = record { 0 = k }; gets = g; puts = u })) e → IsDue (use_judged d r) e
unfolding use_judged
use_refused d r a b x y n p g u k (refusal.NoMemory m) all set centre is dc h = tt
use_refused d r a b x y n p g u k (refusal.Fault f) all set centre is dc h = rw (all, set, centre, is, dc, h) refl

pub use_taken : (d : Draft) (r : Record) (a b x y n p : List ℕ) (g u k : ℕ) (sets : List AccessSet) → r ≡ a ∷ b ∷ x ∷ y ∷ [] → name_of a ≡ Ok n → name_of b ≡ Ok p → counts_of x y ≡ Ok (g, u)
    → number_of d.tables p ≡ Some k → member_added d.load n (record { dc = record { 0 = k }; gets = g; puts = u }) ≡ Ok sets → use_judged d r ≡ Ok (record d { load = sets })
unfolding use_judged
use_taken d r a b x y n p g u k sets all set centre is dc h = rw (all, set, centre, is, dc, h) refl
