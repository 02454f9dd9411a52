-- The machines of centres, taken one by one.
use Rattle.std.proofs.Common.{◌≡◌, ℕ, ◌+◌, ◌<◌, List, [], ◌∷◌, ◌++◌, length, drop, get_or, Result, Ok, Err, refl, sym, ap, ◌∙◌, arith, append_assoc}
use Rattle.std.proofs.lemmas.List.{drop_more, append-nil}
use Rattle.price_tables.specs.declared.prices.Centre.{Centre}
use Rattle.machine_text.specs.Spelled.{Record}
use Rattle.machine_text.specs.declared.machines.Machine.{Machine}
use Rattle.machine_text.specs.declared.fault.MachineFault.{MachineFault}
use Rattle.machine_text.specs.declared.fault.MachineFault.TheVariants as refused
use Rattle.machine_text.specs.Spelled.{◌>>=◌, machine_of}
use Rattle.machine_text.specs.ReadMachines.{LineFault, next_as, machines_at}
use Rattle.machine_text.specs.Rows.{IsDue}

-- these machines, and those that are taken after them
abbrev pub joined : List Machine → Result (List Machine × List Record) LineFault → Result (List Machine × List Record) LineFault
joined front (Ok (machines, left)) = Ok (front ++ machines, left)
joined front (Err e) = Err e

pub joined_none : (due : Result (List Machine × List Record) LineFault) → joined [] due ≡ due
joined_none (Ok (machines, left)) = refl
joined_none (Err e) = refl

joined_one : (front : List Machine) (m : Machine) (due : Result (List Machine × List Record) LineFault) → joined front (joined (m ∷ []) due) ≡ joined (front ++ m ∷ []) due
joined_one front m (Ok (machines, left)) = ap (λ ms. Ok (ms, left)) (sym (append_assoc front (m ∷ []) machines))
joined_one front m (Err e) = refl

-- no centre is left
pub taken_all : (line : ℕ) (records : List Record) (front : List Machine) (cs : List Centre) → cs ≡ [] → joined front (machines_at line cs records) ≡ Ok (front, records)
unfolding machines_at
taken_all line records front cs none = rw (none, append-nil front) refl

first_taken : (line : ℕ) (c : Centre) (cs : List Centre) (old new : List Record) (m : Machine) → next_as (machine_of c.name) line old ≡ Ok (m, new) → machines_at line (c ∷ cs) old ≡ joined (m ∷ []) (machines_at (line + 1) cs new)
unfolding machines_at
first_taken line c cs old new m taken = rw taken (by (machines_at (line + 1) cs new))
  where
    by : (due : Result (List Machine × List Record) LineFault) → (due >>= λ others. Ok (m ∷ others.0, others.1)) ≡ joined (m ∷ []) due
    by (Ok x) = refl
    by (Err e) = refl

-- the machines of one centre more were taken
pub taken_more : (all : List Centre) (c : Centre) (d line : ℕ) (old new : List Record) (front : List Machine) (m : Machine) → d < length all
    → next_as (machine_of (get_or all d c).name) (line + d) old ≡ Ok (m, new)
    → joined front (machines_at (line + d) (drop d all) old) ≡ joined (front ++ m ∷ []) (machines_at (line + (d + 1)) (drop (d + 1) all) new)
taken_more all c d line old new front m within taken =
    let next : (line + d) + 1 ≡ line + (d + 1) = omega arith in
    ap (λ cs. joined front (machines_at (line + d) cs old)) (drop_more all d c within)
    ∙ ap (joined front) (first_taken (line + d) (get_or all d c) (drop (d + 1) all) old new m taken)
    ∙ joined_one front m (machines_at ((line + d) + 1) (drop (d + 1) all) new)
    ∙ ap (λ l. joined (front ++ m ∷ []) (machines_at l (drop (d + 1) all) new)) next

first_refused : (line : ℕ) (c : Centre) (cs : List Centre) (old : List Record) (e : LineFault) → next_as (machine_of c.name) line old ≡ Err e → machines_at line (c ∷ cs) old ≡ Err e
unfolding machines_at
first_refused line c cs old e refused = rw refused refl

-- those of the next centre are refused
pub refused_more : (all : List Centre) (c : Centre) (d line : ℕ) (old : List Record) (front : List Machine) (due : Result (List Machine × List Record) LineFault) (fault : MachineFault) → d < length all
    → due ≡ joined front (machines_at (line + d) (drop d all) old) → IsDue (next_as (machine_of (get_or all d c).name) (line + d) old) fault → IsDue due fault
refused_more all c d line old front due (refused.NoMemory e) within is h = tt
refused_more all c d line old front due (refused.Bad at) within is h =
    is ∙ ap (λ cs. joined front (machines_at (line + d) cs old)) (drop_more all d c within) ∙ ap (joined front) (first_refused (line + d) (get_or all d c) (drop (d + 1) all) old _ h)
refused_more all c d line old front due (refused.Limit at what number) within is h =
    is ∙ ap (λ cs. joined front (machines_at (line + d) cs old)) (drop_more all d c within) ∙ ap (joined front) (first_refused (line + d) (get_or all d c) (drop (d + 1) all) old _ h)
