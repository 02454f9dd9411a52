-- What the end of a replica's take tells of its journal.
use Rattle.std.proofs.Common.{◌≡◌, ℕ, Bool, true, false, IsTrue, ◌↔◌, refl, sym, ap, ◌∙◌, subst}
use Rattle.std.specs.Prelude.{Result, Err, ◌||◌, IsErrOf}
use Rattle.replica_core.specs.declared.journal.TakeFault.{TakeFault}
use Rattle.replica_core.specs.declared.journal.TakeFault.TheVariants.{DiskFault, Shut, Full}
use Rattle.replica_core.specs.Taking.{is_disk_fault, IsRefusal}

abbrev Taken : Type 0
Taken = Result (Unit {0}) TakeFault

-- one that isn't told to be shut isn't
pub not_shut : (result : Taken) (shut : Bool) → IsErrOf result Shut ↔ IsTrue shut → (result ≡ Err Shut → ⊥) → shut ≡ false
not_shut result true told never = absurd (never (told.1 refl))
not_shut result false told never = refl

-- one whose disk failed isn't calm
pub not_calm : (result : Taken) (calm later : Bool) → (IsTrue calm → (IsErrOf result DiskFault → ⊥) × IsTrue later) → result ≡ Err DiskFault → calm ≡ false
not_calm result true later told failed = absurd ((told refl).0 failed)
not_calm result false later told failed = refl

-- whether it is shut afterwards
pub shut_after : (result end : Taken) (was now : Bool) → now ≡ (was || is_disk_fault result) → was ≡ false → result ≡ end → now ≡ is_disk_fault end
shut_after result end was now told open_before is = told ∙ ap (λ b. b || is_disk_fault result) open_before ∙ ap is_disk_fault is

pub refused_full : (result : Taken) (bytes : ℕ) → result ≡ Err (Full bytes) → IsRefusal result
refused_full result bytes is = subst IsRefusal (sym is) tt
