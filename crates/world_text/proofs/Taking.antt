-- Entries taken one after the other.
use Rattle.std.proofs.Common.{◌≡◌, ℕ, ◌+◌, ◌<◌, List, [], ◌∷◌, ◌++◌, length, map, drop, get_or, Result, Ok, Err, refl, sym, ap, subst, ◌∙◌, append_assoc}
use Rattle.std.proofs.lemmas.List.{drop_more}
use Rattle.toml.specs.declared.value.Value.{Value}
use Rattle.workload.specs.World.{Lists}
use Rattle.world_text.specs.declared.fault.Fault.{Fault}
use Rattle.world_text.specs.declared.fault.Fault.TheVariants.{Bad, Limit}
use Rattle.world_text.specs.declared.fault.Refusal.{Refusal}
use Rattle.world_text.specs.declared.fault.Refusal.TheVariants as refusal
use Rattle.world_text.specs.declared.fault.WorldFault.{WorldFault}
use Rattle.world_text.specs.declared.draft.Draft.{Draft}
use Rattle.world_text.specs.Steps.{IsDue}
use Rattle.world_text.specs.Faults.{at_line}
use Rattle.world_text.specs.ReadWorld.{Entry, LineFault, read_from, entry_judged, completed, Reads}
use Rattle.world_text.specs.Taken.{Leads, IsRefused}

-- what entries say, where the next one is taken or refused, and at the end
pub taken_from : (line : ℕ) (d next : Draft) (e : Entry) (es : List Entry) → entry_judged d e ≡ Ok next → read_from line d (e ∷ es) ≡ read_from (line + 1) next es
unfolding read_from
taken_from line d next e es h = rw h refl

pub refused_from : (line : ℕ) (d : Draft) (fault : Fault) (e : Entry) (es : List Entry) → entry_judged d e ≡ Err fault → read_from line d (e ∷ es) ≡ Err (line, fault)
unfolding read_from
refused_from line d fault e es h = rw h refl

pub world_from : (line : ℕ) (d : Draft) (w : Lists) → completed d ≡ Ok w → read_from line d [] ≡ Ok w
unfolding read_from
world_from line d w h = rw h refl

pub gap_from : (line : ℕ) (d : Draft) (fault : Fault) → completed d ≡ Err fault → read_from line d [] ≡ Err (line, fault)
unfolding read_from
gap_from line d fault h = rw h refl

-- a refusal is told at its line, where the fault that is due is what the text says
pub told : {X : Type 0} (says : Result Lists LineFault) (line : ℕ) (due : Result X Fault) (e : Refusal)
    → ((fault : Fault) → due ≡ Err fault → says ≡ Err (line, fault)) → IsDue due e → Reads says (Err (at_line line e))
told says line due (refusal.NoMemory e) is h = tt
told says line due (refusal.Fault (Bad cause)) is h = is (Bad cause) h
told says line due (refusal.Fault (Limit what number)) is h = is (Limit what number) h

-- two texts that say the same are read the same
pub said : (result : Result Lists WorldFault) {a b : Result Lists LineFault} → a ≡ b → Reads b result → Reads a result
said result same reads = subst (λ says. Reads says result) (sym same) reads

-- the entry of the next value stands before those of the values after it
pub next_entry : (entry : Value → Entry) (values : List Value) (i : ℕ) (value : Value) (more : List Entry) → i < length values → value ≡ get_or values i value
    → map entry (drop i values) ++ more ≡ entry value ∷ (map entry (drop (i + 1) values) ++ more)
next_entry entry values i value more within is = rw (drop_more values i value within) (ap (λ v. entry v ∷ (map entry (drop (i + 1) values) ++ more)) (sym is))

-- entries after others
pub leads_then : (a b : List Entry) (l m n : ℕ) (d e f : Draft) → Leads a l d m e → Leads b m e n f → Leads (a ++ b) l d n f
leads_then a b l m n d e f first second = λ more. rw append_assoc (first (b ++ more) ∙ second more)

pub refused_then : (a b : List Entry) (l m : ℕ) (d e : Draft) (fault : WorldFault) → Leads a l d m e → IsRefused b m e fault → IsRefused (a ++ b) l d fault
refused_then a b l m d e fault first second = λ more. said (Err fault) (ap (read_from l d) (append_assoc a b more) ∙ first (b ++ more)) (second more)

pub refused_before : (a b : List Entry) (l : ℕ) (d : Draft) (fault : WorldFault) → IsRefused a l d fault → IsRefused (a ++ b) l d fault
refused_before a b l d fault refused = λ more. said (Err fault) (ap (read_from l d) (append_assoc a b more)) (refused (b ++ more))
