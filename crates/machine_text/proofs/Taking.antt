-- Records taken one after the other: what each step says, and what they say together.
use Rattle.std.proofs.Common.{◌≡◌, ℕ, ◌+◌, List, [], ◌∷◌, length, Result, Ok, Err, refl}
use Rattle.workload.specs.World.{Lists}
use Rattle.machine_text.specs.Spelled.{Record}
use Rattle.machine_text.specs.declared.fault.Fault.{Fault}
use Rattle.machine_text.specs.declared.fault.Fault.TheVariants.{Bad, Limit}
use Rattle.machine_text.specs.declared.fault.MachineFault.{MachineFault}
use Rattle.machine_text.specs.declared.fault.MachineFault.TheVariants as refused
use Rattle.machine_text.specs.declared.machines.Machine.{Machine}
use Rattle.machine_text.specs.Spelled.{opening_of, unit_of}
use Rattle.machine_text.specs.ReadMachines.{next_as, machines_at, ended, machines_in, at_line, Reads}
use Rattle.machine_text.specs.Rows.{IsLacking, IsDue}

-- there is no next record
pub lacking : {X : Type 0} (spelled : Record → Result X Fault) (line : ℕ) (records : List Record) (fault : MachineFault) → IsLacking line records fault → IsDue (next_as spelled line records) fault
unfolding next_as
lacking spelled line records (refused.Bad at) h = rw (h.0, h.1) refl
lacking spelled line records (refused.Limit at what number) h = absurd h
lacking spelled line records (refused.NoMemory e) h = tt

-- the next record spells what it has to, or is refused
pub next_ok : {X : Type 0} (spelled : Record → Result X Fault) (line : ℕ) (records rest : List Record) (r : Record) (x : X) → records ≡ r ∷ rest → spelled r ≡ Ok x → next_as spelled line records ≡ Ok (x, rest)
unfolding next_as
next_ok spelled line records rest r x is taken = rw (is, taken) refl

pub next_err : {X : Type 0} (spelled : Record → Result X Fault) (line : ℕ) (records rest : List Record) (r : Record) (fault : Fault) → records ≡ r ∷ rest → spelled r ≡ Err fault → IsDue (next_as spelled line records) (at_line line fault)
unfolding next_as
next_err spelled line records rest r Bad is refused = rw (is, refused) refl
next_err spelled line records rest r (Limit what number) is refused = rw (is, refused) refl

-- no record is left, or one is
pub end_ok : (line : ℕ) (records : List Record) → records ≡ [] → ended line records ≡ Ok tt
unfolding ended
end_ok line records none = rw none refl

pub end_err : (line : ℕ) (records rest : List Record) (r : Record) → records ≡ r ∷ rest → IsDue (ended line records) (refused.Bad line)
unfolding ended
end_err line records rest r is = rw is refl

-- the steps of a whole file
pub all_taken : (w : Lists) (a b c d : List Record) (unit : ℕ) (machines : List Machine) → next_as opening_of 1 a ≡ Ok (tt, b) → next_as unit_of 2 b ≡ Ok (unit, c) → machines_at 3 w.centres c ≡ Ok (machines, d)
    → ended (3 + length w.centres) d ≡ Ok tt → machines_in w a ≡ Ok (record { unit = unit; each = machines })
unfolding machines_in
all_taken w a b c d unit machines e f g h = rw (e, f, g, h) refl

pub no_opening : (w : Lists) (a : List Record) (fault : MachineFault) → IsDue (next_as opening_of 1 a) fault → Reads (machines_in w a) (Err fault)
unfolding machines_in
no_opening w a (refused.Bad line) e = rw e refl
no_opening w a (refused.Limit line what number) e = rw e refl
no_opening w a (refused.NoMemory m) e = tt

pub no_unit : (w : Lists) (a b : List Record) (fault : MachineFault) → next_as opening_of 1 a ≡ Ok (tt, b) → IsDue (next_as unit_of 2 b) fault → Reads (machines_in w a) (Err fault)
unfolding machines_in
no_unit w a b (refused.Bad line) e f = rw (e, f) refl
no_unit w a b (refused.Limit line what number) e f = rw (e, f) refl
no_unit w a b (refused.NoMemory m) e f = tt

pub no_machine : (w : Lists) (a b c : List Record) (unit : ℕ) (fault : MachineFault) → next_as opening_of 1 a ≡ Ok (tt, b) → next_as unit_of 2 b ≡ Ok (unit, c) → IsDue (machines_at 3 w.centres c) fault → Reads (machines_in w a) (Err fault)
unfolding machines_in
no_machine w a b c unit (refused.Bad line) e f g = rw (e, f, g) refl
no_machine w a b c unit (refused.Limit line what number) e f g = rw (e, f, g) refl
no_machine w a b c unit (refused.NoMemory m) e f g = tt

pub no_end : (w : Lists) (a b c d : List Record) (unit : ℕ) (machines : List Machine) (fault : MachineFault) → next_as opening_of 1 a ≡ Ok (tt, b) → next_as unit_of 2 b ≡ Ok (unit, c) → machines_at 3 w.centres c ≡ Ok (machines, d)
    → IsDue (ended (3 + length w.centres) d) fault → Reads (machines_in w a) (Err fault)
unfolding machines_in
no_end w a b c d unit machines (refused.Bad line) e f g h = rw (e, f, g, h) refl
no_end w a b c d unit machines (refused.Limit line what number) e f g h = rw (e, f, g, h) refl
no_end w a b c d unit machines (refused.NoMemory m) e f g h = tt
