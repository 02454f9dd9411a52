-- The record of a set, field by field.
use Rattle.std.proofs.Common.{◌≡◌, ◌≢◌, ℕ, List, [], ◌∷◌, length, Result, Ok, Err, refl}
use Rattle.span_base.specs.declared.words.Cause.TheVariants as cause
use Rattle.world_text.specs.declared.fault.Fault.{Fault}
use Rattle.world_text.specs.declared.fault.Fault.TheVariants.{Bad}
use Rattle.world_text.specs.declared.fault.Refusal.{Refusal}
use Rattle.world_text.specs.declared.fault.Refusal.TheVariants as refusal
use Rattle.world_text.specs.declared.draft.Draft.{Draft}
use Rattle.world_text.specs.Records.{Record}
use Rattle.world_text.specs.Steps.{IsDue}
use Rattle.workload.specs.declared.rules.SetRule.{SetRule}
use Rattle.workload.specs.declared.rules.AccessSet.{AccessSet}
use Rattle.world_text.specs.declared.kinds.Version.{Version}
use Rattle.world_text.specs.Spelled.{name_of, rule_of}
use Rattle.world_text.specs.Added.{set_added}
use Rattle.world_text.specs.Judged.{set_judged, of_eight, with_providers}

not_eight : {X : Type 0} (make : List ℕ → List ℕ → List ℕ → List ℕ → List ℕ → List ℕ → List ℕ → List ℕ → Result X Fault) (r : Record) → length r ≢ 8 → of_eight make r ≡ Err (Bad cause.Fields)
not_eight make [] other = refl
not_eight make (a ∷ []) other = refl
not_eight make (a ∷ b ∷ []) other = refl
not_eight make (a ∷ b ∷ c ∷ []) other = refl
not_eight make (a ∷ b ∷ c ∷ d ∷ []) other = refl
not_eight make (a ∷ b ∷ c ∷ d ∷ e ∷ []) other = refl
not_eight make (a ∷ b ∷ c ∷ d ∷ e ∷ f ∷ []) other = refl
not_eight make (a ∷ b ∷ c ∷ d ∷ e ∷ f ∷ g ∷ []) other = refl
not_eight make (a ∷ b ∷ c ∷ d ∷ e ∷ f ∷ g ∷ h ∷ []) other = absurd (other refl)
not_eight make (a ∷ b ∷ c ∷ d ∷ e ∷ f ∷ g ∷ h ∷ i ∷ rest) other = refl

pub set_fields : (v : Version) (d : Draft) (r : Record) → length (with_providers v r) ≢ 8 → set_judged v d r ≡ Err (Bad cause.Fields)
unfolding set_judged
set_fields v d r h = not_eight _ (with_providers v r) h

pub set_name : (v : Version) (d : Draft) (r : Record) (a b c g h i j k : List ℕ) (e : Refusal) → with_providers v r ≡ a ∷ b ∷ c ∷ g ∷ h ∷ i ∷ j ∷ k ∷ [] → IsDue (name_of a) e → IsDue (set_judged v d r) e
unfolding set_judged
set_name v d r a b c g h i j k (refusal.NoMemory m) all due = tt
set_name v d r a b c g h i j k (refusal.Fault f) all due = rw (all, due) refl

pub set_rule : (v : Version) (d : Draft) (r : Record) (a b c g h i j k n : List ℕ) (f : Fault) → with_providers v r ≡ a ∷ b ∷ c ∷ g ∷ h ∷ i ∷ j ∷ k ∷ [] → name_of a ≡ Ok n → rule_of b c g h i j k ≡ Err f → set_judged v d r ≡ Err f
unfolding set_judged
set_rule v d r a b c g h i j k n f all name due = rw (all, name, due) refl

pub set_refused : (v : Version) (d : Draft) (r : Record) (a b c g h i j k n : List ℕ) (rule : SetRule) (e : Refusal) → with_providers v r ≡ a ∷ b ∷ c ∷ g ∷ h ∷ i ∷ j ∷ k ∷ [] → name_of a ≡ Ok n → rule_of b c g h i j k ≡ Ok rule
    → IsDue (set_added d.load n rule) e → IsDue (set_judged v d r) e
unfolding set_judged
set_refused v d r a b c g h i j k n rule (refusal.NoMemory m) all name is due = tt
set_refused v d r a b c g h i j k n rule (refusal.Fault f) all name is due = rw (all, name, is, due) refl

pub set_taken : (v : Version) (d : Draft) (r : Record) (a b c g h i j k n : List ℕ) (rule : SetRule) (sets : List AccessSet) → with_providers v r ≡ a ∷ b ∷ c ∷ g ∷ h ∷ i ∷ j ∷ k ∷ [] → name_of a ≡ Ok n → rule_of b c g h i j k ≡ Ok rule
    → set_added d.load n rule ≡ Ok sets → set_judged v d r ≡ Ok (record d { load = sets })
unfolding set_judged
set_taken v d r a b c g h i j k n rule sets all name is due = rw (all, name, is, due) refl
