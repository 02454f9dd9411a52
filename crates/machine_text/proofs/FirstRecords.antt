-- The records that are left of a text: the next one is the first of them.
use Rattle.std.proofs.Common.{◌≡◌, ℕ, ◌+◌, ◌<◌, zero, suc, List, [], ◌∷◌, length, Option, Some, None, Bor, true, false, refl, sym, ap, ◌∙◌, arith, inl}
use Rattle.std.specs.Prelude.{IsSome}
use Rattle.csv.specs.Machine.{Read, next_record, ends_at_end}
use Rattle.csv.specs.Reading.{Reached, ReadRecord, records, records_from, default_config, strip_bom}
use Rattle.csv.specs.Records.{Row, fields_of}
use Rattle.csv.specs.declared.parser.State.{State}
use Rattle.csv.specs.declared.parser.State.TheVariants as st
use Rattle.csv.proofs.ReadFacts.{rows-more, rows-end}
use Rattle.machine_text.specs.Spelled.{Record}
use Rattle.machine_text.specs.Rows.{ByteRows, bytes_left, records_after, records_left, IsReading, IsNext}
use Rattle.machine_text.proofs.Between.{read_between, left_fewer}

-- more turns than there are bytes read no more records
enough_after : (m n : ℕ) (s : State) (y : List ℕ) (o : Option Read) → next_record default_config s [] [] y ≡ o → ((p : Read) → o ≡ Some p → records_from default_config m p.1 p.2 ≡ records_from default_config n p.1 p.2)
    → records_from default_config (suc m) s y ≡ records_from default_config (suc n) s y
unfolding records_from
enough_after m n s y None none later = rw none refl
enough_after m n s y (Some p) next later = rw next (ap (λ rs. p.0 ∷ rs) (later p refl))

enough : (m n : ℕ) (s : State) (y : List ℕ) → ends_at_end s ≡ false → length y < m → length y < n → records_from default_config m s y ≡ records_from default_config n s y
enough zero n s y between low high = absurd (omega arith)
enough (suc m) zero s y between low high = absurd (omega arith)
enough (suc m) (suc n) s y between low high =
    enough_after m n s y (next_record default_config s [] [] y) refl
    (λ p next.
    let fewer = left_fewer default_config s y p between next in
    enough m n p.1 p.2 (read_between default_config y s [] [] p next) (omega arith) (omega arith))

one_left : (s : State) (y : List ℕ) (p : Read) → ends_at_end s ≡ false → next_record default_config s [] [] y ≡ Some p → records_from default_config (length y + 1) s y ≡ p.0 ∷ records_from default_config (length p.2 + 1) p.1 p.2
unfolding records_from
one_left s y p between next =
    let fewer = left_fewer default_config s y p between next in
    let later = enough (length y) (length p.2 + 1) p.1 p.2 (read_between default_config y s [] [] p next) fewer (omega arith) in
    let turns : length y + 1 ≡ suc (length y) = omega arith in
    rw (turns, next) (ap (λ rs. p.0 ∷ rs) later)

none_left : (s : State) (y : List ℕ) → next_record default_config s [] [] y ≡ None → records_from default_config (length y + 1) s y ≡ []
unfolding records_from
none_left s y none = let turns : length y + 1 ≡ suc (length y) = omega arith in rw (turns, none) refl

-- the first record, and where it leads
first_left : (s s' : State) (y z : List ℕ) (r : Record) → ends_at_end s ≡ false → Reached default_config s y (r ∷ []) s' z
    → (records_after s (Some y) ≡ r ∷ records_after s' (Some z)) × (ends_at_end s' ≡ false)
unfolding Reached
first_left s s' y z r between reached =
    let (p, next, head, (state, bytes)) = reached in (
      rw (head, ← state, ← bytes) (one_left s y p between next),
      rw (← state) (read_between default_config y s [] [] p next),
    )

reached_none : (s : State) (y : List ℕ) → Reached default_config s y [] s y
unfolding Reached
reached_none s y = (refl, refl)

-- bytes that are known
some_bytes : (o : Option (List ℕ)) → IsSome o → (y : List ℕ) × (o ≡ Some y)
some_bytes (Some y) known = (y, refl)
some_bytes None known = absurd (cc known)

are_known : (o : Option (List ℕ)) (y : List ℕ) → o ≡ Some y → IsSome o
are_known (Some x) y e = refl
are_known None y e = absurd (cc)

-- a record was read
pub taken : (a b : ByteRows) (row : Row) → IsReading a → ReadRecord (λ (s : Bor (List ℕ)). Some s.now) a.rdr b.rdr true (fields_of row) × (b.rdr.first ≡ true) × (0 < b.left)
    → IsNext (Some row) (records_left a) (records_left b) × IsReading b
taken a b row reading step =
    let (y, bytes) = some_bytes (bytes_left a.rdr) reading.known in
    let (z, left, reached) = rows-more (λ (s : Bor (List ℕ)). Some s.now) a.rdr b.rdr (fields_of row) default_config a.rdr.state y y [] reading.config bytes (reached_none a.rdr.state y) step.0 in
    let (first, between) = first_left a.rdr.state b.rdr.state y z (fields_of row) reading.between reached in (
      ap (records_after a.rdr.state) bytes ∙ first ∙ ap (λ o. fields_of row ∷ records_after b.rdr.state o) (sym left),
      record {
        plain = step.0.3 ∙ reading.plain;
        ready = inl step.1;
        turns = step.2;
        config = step.0.2 ∙ reading.config;
        known = are_known (bytes_left b.rdr) z left;
        between = between;
      },
    )

-- no record was there
pub none_taken : (a b : ByteRows) → IsReading a → ReadRecord (λ (s : Bor (List ℕ)). Some s.now) a.rdr b.rdr false [] → IsNext None (records_left a) (records_left b)
none_taken a b reading step =
    let (y, bytes) = some_bytes (bytes_left a.rdr) reading.known in
    let none = rows-end (λ (s : Bor (List ℕ)). Some s.now) a.rdr b.rdr [] default_config y reading.config bytes step in
    ap (records_after a.rdr.state) bytes ∙ none_left a.rdr.state y none

-- at the start all records are left
pub all_left : (rows : ByteRows) (text : List ℕ) → rows.rdr.state ≡ st.StartRecord → bytes_left rows.rdr ≡ Some (strip_bom text) → records_left rows ≡ records default_config (strip_bom text)
all_left rows text state bytes = rw (state, bytes) refl

pub known_start : (rows : ByteRows) (text : List ℕ) → bytes_left rows.rdr ≡ Some (strip_bom text) → IsSome (bytes_left rows.rdr)
known_start rows text bytes = are_known (bytes_left rows.rdr) (strip_bom text) bytes
