-- The rows of a set's program speak of its own variables, which rise in each: else the making of the
-- program would find the first that doesn't.
use Rattle.std.proofs.Common.{◌≡◌, ℕ, zero, suc, ◌<◌, ◌≤◌, inl, inr, List, [], ◌∷◌, length, take, map, Some, refl, sym, subst, ◌∙◌, arith}
use Rattle.std.specs.Prelude.{◌⊎◌, slice_get}
use Rattle.std.specs.List.{AllByRecursion}
use Rattle.std.proofs.lemmas.Bool.{cases_lt}
use Rattle.std.proofs.lemmas.List.Elements.{All-from_recursion, recursion_from_All}
use Rattle.span_base.specs.declared.words.What.TheVariants.{Variables}
use Rattle.workload.specs.World.{Lists, rule_of}
use Rattle.workload.specs.declared.rules.Mode.{Mode}
use Rattle.workload.specs.declared.rules.Mode.TheVariants as mode
use Rattle.zero_one.specs.declared.rows.Entry.{Entry}
use Rattle.zero_one.specs.declared.rows.Row.{Row}
use Rattle.zero_one.specs.declared.programs.ProgramFault.{ProgramFault}
use Rattle.zero_one.specs.declared.programs.ProgramFault.TheVariants.{NoSuchVar, Unsorted, Limit}
use Rattle.zero_one.specs.Contents.{Contents}
use Rattle.zero_one.specs.Rows.{KnowsItsVars, HasRisingVars}
use Rattle.zero_one.specs.Faults.{HasFault}
use Rattle.placement_relay.specs.Programs as relay
use Rattle.placement_relay.specs.Laws.{IsEventualSet}
use Rattle.placement_relay.proofs.Limits as eventual
use Rattle.placement_strong.specs.Programs as strong
use Rattle.placement_strong.specs.Laws.{IsStrongSet}
use Rattle.placement_strong.proofs.Limits as quorums
use Rattle.placement.specs.Placement.{IsSet, program_by, program_of}
use Rattle.joint_placement.proofs.Rising.{rise-or-not}

-- the first element that isn't as asked
record Breach {X : Type 0} (Asked : X → Type 0) (xs : List X) : Type 0 where
  at : ℕ
  before : AllByRecursion Asked (take at xs)
  item : X
  there : slice_get xs at ≡ Some item
  not_so : ¬ (Asked item)

later : {X : Type 0} (Asked : X → Type 0) (x : X) (xs : List X) → Asked x → AllByRecursion Asked xs ⊎ Breach Asked xs → AllByRecursion Asked (x ∷ xs) ⊎ Breach Asked (x ∷ xs)
later Asked x xs here (inl all) = inl (here, all)
later Asked x xs here (inr b) = inr (record { at = suc b.at; before = (here, b.before); item = b.item; there = b.there; not_so = b.not_so })

decided : {X : Type 0} (Asked : X → Type 0) → ((x : X) → Asked x ⊎ ¬ (Asked x)) → (xs : List X) → AllByRecursion Asked xs ⊎ Breach Asked xs
decided Asked test [] = inl tt
decided Asked test (x ∷ xs) = elim (test x) [
  | inl here ↦ later Asked x xs here (decided Asked test xs)
  | inr not ↦ inr (record { at = 0; before = tt; item = x; there = refl; not_so = not })
]

below : (n v : ℕ) → (v < n) ⊎ ¬ (v < n)
below n v = elim (cases_lt v n) [
  | inl low ↦ inl low
  | inr high ↦ inr (λ low. omega arith)
]

breach_kept : {X : Type 0} (Asked : X → Type 0) (xs : List X) → Breach Asked xs → ¬ (AllByRecursion Asked xs)
breach_kept Asked xs b all = b.not_so (at_place xs b.at all b.there)
  where
    at_place : (xs : List _) (at : ℕ) → AllByRecursion Asked xs → slice_get xs at ≡ Some b.item → Asked b.item
    at_place [] at all e = absurd (cc)
    at_place (x ∷ xs) zero all e = let same : x ≡ b.item = cc in subst Asked same all.0
    at_place (x ∷ xs) (suc at) all e = at_place xs at all.1 e

knows : (n : ℕ) (row : Row) → KnowsItsVars n row ⊎ ¬ (KnowsItsVars n row)
knows n row = elim (decided (λ (e : Entry). e.var < n) (λ e. below n e.var) row.entries) [
  | inl all ↦ inl (All-from_recursion (λ (e : Entry). e.var < n) row.entries all)
  | inr b ↦ inr (λ known. breach_kept (λ (e : Entry). e.var < n) row.entries b (recursion_from_All (λ (e : Entry). e.var < n) row.entries known))
]

-- the rows of a program are in order
pub record AreInOrder (p : Contents) : Type 0 where
  pub known : AllByRecursion (KnowsItsVars (length p.costs)) p.rows
  pub rising : AllByRecursion HasRisingVars p.rows
  pub few : length p.costs ≤ 4096

-- where no row is at fault, all are in order
all_known : (p : Contents) → ((fault : ProgramFault) → HasFault p.costs p.rows fault → ⊥) → AllByRecursion (KnowsItsVars (length p.costs)) p.rows
all_known p none = elim (decided (KnowsItsVars (length p.costs)) (knows (length p.costs)) p.rows) [
  | inl all ↦ all
  | inr b ↦ absurd (none (NoSuchVar b.at) (record { before = All-from_recursion (KnowsItsVars (length p.costs)) (take b.at p.rows) b.before; broken = (b.item, b.there, b.not_so) }))
]

all_rising : (p : Contents) → ((fault : ProgramFault) → HasFault p.costs p.rows fault → ⊥) → AllByRecursion (KnowsItsVars (length p.costs)) p.rows → AllByRecursion HasRisingVars p.rows
all_rising p none known = elim (decided HasRisingVars (λ row. rise-or-not (map (λ (e : Entry). e.var) row.entries)) p.rows) [
  | inl all ↦ all
  | inr b ↦ absurd (none (Unsorted b.at) (All-from_recursion (KnowsItsVars (length p.costs)) p.rows known, record { before = All-from_recursion HasRisingVars (take b.at p.rows) b.before; broken = (b.item, b.there, b.not_so) }))
]

all_few : (p : Contents) → ((fault : ProgramFault) → HasFault p.costs p.rows fault → ⊥) → AllByRecursion (KnowsItsVars (length p.costs)) p.rows → AllByRecursion HasRisingVars p.rows → length p.costs ≤ 4096
all_few p none known rising = elim (cases_lt 4096 (length p.costs)) [
  | inl many ↦
      absurd
      (none (Limit Variables (length p.costs)) (
        All-from_recursion (KnowsItsVars (length p.costs)) p.rows known,
        All-from_recursion HasRisingVars p.rows rising,
        inl (refl, refl, many),
      ))
  | inr few ↦ few
]

in_order : (p : Contents) → ((fault : ProgramFault) → HasFault p.costs p.rows fault → ⊥) → AreInOrder p
in_order p none =
    let known = all_known p none in
    let rising = all_rising p none known in
    record { known = known; rising = rising; few = all_few p none known rising }

eventual_order : (w : Lists) (set : ℕ) → IsEventualSet w set → AreInOrder (relay.set_program w set)
unfolding relay.set_program
eventual_order w set s = in_order (relay.set_program w set) (eventual.no_fault w set s (relay.set_costs w set) (relay.set_rows w set) refl refl)

strong_order : (w : Lists) (set : ℕ) → IsStrongSet w set → AreInOrder (strong.set_program w set)
unfolding strong.set_program
strong_order w set s = in_order (strong.set_program w set) (quorums.no_fault w set s (strong.set_costs w set) (strong.set_rows w set) refl refl)

by_mode : (m : Mode) (w : Lists) (set : ℕ) → (rule_of w set).mode ≡ m → IsSet w set → AreInOrder (program_by m w set)
by_mode mode.Direct w set is s = eventual_order w set (record { complete = s.complete; named = s.named; there = s.there; mode = λ strong. let e : mode.Direct ≡ mode.Strong = sym is ∙ strong in cc })
by_mode mode.Relay w set is s = eventual_order w set (record { complete = s.complete; named = s.named; there = s.there; mode = λ strong. let e : mode.Relay ≡ mode.Strong = sym is ∙ strong in cc })
by_mode mode.Strong w set is s = strong_order w set (record { complete = s.complete; there = s.there; mode = is })

pub rows-in-order : (w : Lists) (set : ℕ) → IsSet w set → AreInOrder (program_of w set)
rows-in-order w set s = by_mode (rule_of w set).mode w set refl s

pub known_rows : (w : Lists) (set : ℕ) → IsSet w set → AllByRecursion (KnowsItsVars (length (program_of w set).costs)) (program_of w set).rows
known_rows w set s = (rows-in-order w set s).known
