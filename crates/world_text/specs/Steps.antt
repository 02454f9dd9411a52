-- Judging from left to right, with the first fault that is met.
use Rattle.std.specs.Prelude.{◌≡◌, Result, Ok, Err}
use Rattle.world_text.specs.declared.fault.Fault.{Fault}
use Rattle.world_text.specs.declared.fault.Refusal.{Refusal}
use Rattle.world_text.specs.declared.fault.Refusal.TheVariants as refusal

-- a step and what follows it, unless it is refused
infixl 10 ◌>>=◌
abbrev pub ◌>>=◌ : {A B : Type 0} → Result A Fault → (A → Result B Fault) → Result B Fault
(Ok x) >>= f = f x
(Err e) >>= f = Err e

-- the refusal is for the fault that is due, or for want of memory
abbrev pub IsDue : {X : Type 0} → Result X Fault → Refusal → Type 0
IsDue due (refusal.NoMemory e) = Unit {0}
IsDue due (refusal.Fault fault) = due ≡ Err fault

-- what is due was given, but for want of memory
abbrev pub Gives : {X : Type 0} → Result X Fault → Result X Refusal → Type 0
Gives due (Ok x) = due ≡ Ok x
Gives due (Err e) = IsDue due e
