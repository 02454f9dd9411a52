-- The records of a text in CSV, taken one by one.
use Rattle.std.proofs.Common.{◌≡◌, ℕ, ◌+◌, ◌<◌, ◌≤◌, zero, suc, List, [], ◌∷◌, length, map, Some, None, Bool, true, false, Result, Ok, Err, refl, sym, ap, ◌∙◌, arith}
use Rattle.std.specs.Prelude.{◌==◌, ◌&&◌, if◌then◌else◌}
use Rattle.std.proofs.lemmas.Bool.{false≢true}
use Rattle.price_tables.specs.Tables.{count_of}
use Rattle.workload.specs.Gaps.{AreInCentres}
use Rattle.workload.specs.World.{Lists}
use Rattle.csv.specs.Machine.{Read, next_record, step, in_field, start_field, start_record, after_end, ends_with, is_byte, is_end, ends_at_end, fields_after, field_after, carriage_return, line_feed}
use Rattle.csv.specs.Reading.{Reached, records_from, default_config, strip_bom}
use Rattle.csv.specs.declared.parser.Config.{Config}
use Rattle.csv.specs.declared.parser.Terminator.{Terminator}
use Rattle.csv.specs.declared.parser.Terminator.TheVariants as term
use Rattle.csv.specs.declared.parser.State.{State}
use Rattle.csv.specs.declared.parser.State.TheVariants as st
use Rattle.csv.specs.declared.parser.Action.{Action}
use Rattle.csv.specs.declared.parser.Action.TheVariants as act
use Rattle.world_text.specs.declared.fault.WorldFault.{WorldFault}
use Rattle.world_text.specs.declared.draft.Draft.{Draft}
use Rattle.world_text.specs.Records.{Record, records_in}
use Rattle.world_text.specs.Judged.{judged, nothing_read}
use Rattle.world_text.specs.ReadWorld.{read_from, csv_says, Reads}
use Rattle.world_text.specs.Taken.{IsRefused}
use Rattle.world_text.proofs.Taking.{taken_from, said}

-- no record takes a text nowhere
pub reached_none : (cfg : Config) (s : State) (y : List ℕ) → Reached cfg s y [] s y
unfolding Reached
reached_none cfg s y = (refl, refl)

-- a byte that ends a record leads between records
record Between (after : State × Action) : Type 0 where
  pub ends : is_end after.1 ≡ true → ends_at_end after.0 ≡ false

within : (s : State) (a : Action) → is_end a ≡ false → Between (s, a)
within s a none = record { ends = λ h. absurd (false≢true (sym none ∙ h)) }

either : (test : Bool) (x y : State × Action) → Between x → Between y → Between (if test then x else y)
either true x y a b = a
either false x y a b = b

end_between : (t : Terminator) (c : ℕ) → Between (after_end t c, act.EndRecord)
end_between term.CRLF c = by (c == carriage_return)
  where
    by : (b : Bool) → Between (if b then st.AfterCr else st.StartRecord, act.EndRecord)
    by true = record { ends = λ h. refl }
    by false = record { ends = λ h. refl }
end_between (term.Any t) c = record { ends = λ h. refl }

field_between : (cfg : Config) (c : ℕ) → Between (in_field cfg c)
field_between cfg c =
    either (c == cfg.delimiter) _ _ (within st.StartField act.EndField refl)
    (either (ends_with cfg.terminator c) _ _ (end_between cfg.terminator c) (within st.InField act.Copy refl))

first_between : (cfg : Config) (c : ℕ) → Between (start_field cfg c)
first_between cfg c = either (cfg.quoting && (c == cfg.quote)) _ _ (within st.InQuoted act.Skip refl) (field_between cfg c)

record_between : (cfg : Config) (c : ℕ) → Between (start_record cfg c)
record_between cfg c =
    either (ends_with cfg.terminator c) _ _ (within st.StartRecord act.Skip refl)
    (either (is_byte cfg.comment c) _ _ (within st.InComment act.Skip refl) (first_between cfg c))

step_between : (cfg : Config) (s : State) (c : ℕ) → Between (step cfg s c)
step_between cfg st.StartRecord c = record_between cfg c
step_between cfg st.StartField c = first_between cfg c
step_between cfg st.InField c = field_between cfg c
step_between cfg st.InQuoted c =
    either (cfg.quoting && (c == cfg.quote)) _ _ (within st.AfterQuote act.Skip refl)
    (either (cfg.quoting && is_byte cfg.escape c) _ _ (within st.InEscape act.Skip refl) (within st.InQuoted act.Copy refl))
step_between cfg st.InEscape c = within st.InQuoted act.Copy refl
step_between cfg st.AfterQuote c = either (cfg.quoting && cfg.double_quote && (c == cfg.quote)) _ _ (within st.InQuoted act.Copy refl) (field_between cfg c)
step_between cfg st.InComment c = either (c == line_feed) _ _ (within st.StartRecord act.Skip refl) (within st.InComment act.Skip refl)
step_between cfg st.AfterCr c = either (c == line_feed) _ _ (within st.StartRecord act.Skip refl) (record_between cfg c)

-- a record's read ends between records
read_between : (cfg : Config) (y : List ℕ) (s : State) (fields : List (List ℕ)) (field : List ℕ) (p : Read) → next_record cfg s fields field y ≡ Some p → ends_at_end p.1 ≡ false
unfolding next_record
read_between cfg [] s fields field p next = by (ends_at_end s) refl
  where
    by : (b : Bool) → ends_at_end s ≡ b → ends_at_end p.1 ≡ false
    by true e = let same : p.1 ≡ st.StartRecord = cc (rw e at next) in rw same refl
    by false e = absurd (cc (rw e at next))
read_between cfg (c ∷ rest) s fields field p next = by (is_end (step cfg s c).1) refl (read_between cfg rest _ _ _ p)
  where
    by : (b : Bool) → is_end (step cfg s c).1 ≡ b
        → (next_record cfg (step cfg s c).0 (fields_after (step cfg s c).1 fields field) (field_after (step cfg s c).1 c field) rest ≡ Some p → ends_at_end p.1 ≡ false)
        → ends_at_end p.1 ≡ false
    by true e more = let same : p.1 ≡ (step cfg s c).0 = cc (rw e at next) in rw same ((step_between cfg s c).ends e)
    by false e more = more (rw e at next)

-- what a record's read leaves is no longer than what was there
left_at_most : (cfg : Config) (y : List ℕ) (s : State) (fields : List (List ℕ)) (field : List ℕ) (p : Read) → next_record cfg s fields field y ≡ Some p → length p.2 ≤ length y
unfolding next_record
left_at_most cfg [] s fields field p next = by (ends_at_end s) refl
  where
    by : (b : Bool) → ends_at_end s ≡ b → length p.2 ≤ 0
    by true e = let none : p.2 ≡ [] = cc (rw e at next) in rw none (omega arith)
    by false e = absurd (cc (rw e at next))
left_at_most cfg (c ∷ rest) s fields field p next = by (is_end (step cfg s c).1) refl (left_at_most cfg rest _ _ _ p)
  where
    by : (b : Bool) → is_end (step cfg s c).1 ≡ b
        → (next_record cfg (step cfg s c).0 (fields_after (step cfg s c).1 fields field) (field_after (step cfg s c).1 c field) rest ≡ Some p → length p.2 ≤ length rest)
        → length p.2 ≤ suc (length rest)
    by true e more = let same : p.2 ≡ rest = cc (rw e at next) in rw same (omega arith)
    by false e more = let less = more (rw e at next) in omega arith

-- and shorter, where the read began between records
left_fewer : (cfg : Config) (s : State) (y : List ℕ) (p : Read) → ends_at_end s ≡ false → next_record cfg s [] [] y ≡ Some p → length p.2 < length y
unfolding next_record
left_fewer cfg s [] p between next = absurd (cc (rw between at next))
left_fewer cfg s (c ∷ rest) p between next = by (is_end (step cfg s c).1) refl
  where
    by : (b : Bool) → is_end (step cfg s c).1 ≡ b → length p.2 < suc (length rest)
    by true e = let same : p.2 ≡ rest = cc (rw e at next) in rw same (omega arith)
    by false e = let less = left_at_most cfg rest _ _ _ p (rw e at next) in omega arith

-- the records that are left, where one more is read, and where none is
one_left : (fuel : ℕ) (s : State) (y : List ℕ) (p : Read) → length y < fuel → ends_at_end s ≡ false → next_record default_config s [] [] y ≡ Some p
    → (less : ℕ) × (length p.2 < less) × (ends_at_end p.1 ≡ false) × (records_from default_config fuel s y ≡ p.0 ∷ records_from default_config less p.1 p.2)
unfolding records_from
one_left zero s y p enough between next = absurd (omega arith)
one_left (suc less) s y p enough between next =
    let fewer = left_fewer default_config s y p between next in
    (less, omega arith, read_between default_config y s [] [] p next, rw next refl)

none_left : (fuel : ℕ) (s : State) (y : List ℕ) → next_record default_config s [] [] y ≡ None → records_from default_config fuel s y ≡ []
unfolding records_from
none_left zero s y none = refl
none_left (suc less) s y none = rw none refl

-- there is no member yet
pub none_in_centres : (d : Draft) → d ≡ nothing_read → AreInCentres (count_of d.tables) d.load
none_in_centres d fresh = rw fresh (λ k set within. absurd (omega arith))

-- what the text says is what the records that are left make of the draft: those of the bytes y from
-- the state s, with fuel for as many as there are bytes
abbrev pub GoesOn : (text y : List ℕ) → State → ℕ → Draft → Type 0
GoesOn text y s line d =
    (fuel : ℕ) × (length y < fuel) × (ends_at_end s ≡ false) × (csv_says text ≡ read_from line d (map Some (records_from default_config fuel s y)))

pub at_start : (text : List ℕ) (d : Draft) → d ≡ nothing_read → GoesOn text (strip_bom text) st.StartRecord 1 d
unfolding records_in
at_start text d fresh = (length (strip_bom text) + 1, omega arith, refl, rw fresh refl)

-- the next record stands before those that are left after it
next_is : (text y z : List ℕ) (s s' : State) (line : ℕ) (d : Draft) (r : Record) → GoesOn text y s line d → Reached default_config s y (r ∷ []) s' z
    → (less : ℕ) × (length z < less) × (ends_at_end s' ≡ false) × (csv_says text ≡ read_from line d (Some r ∷ map Some (records_from default_config less s' z)))
unfolding Reached
next_is text y z s s' line d r before reached =
    let (fuel, enough, between, says) = before in
    let (p, next, head, (state, bytes)) = reached in
    let (less, fewer, after, left) = one_left fuel s y p enough between next in
    (less, rw (← bytes) fewer, rw (← state) after, rw (head, ← state, ← bytes) (says ∙ ap (λ rs. read_from line d (map Some rs)) left))

-- one record more is taken
pub goes_on : (text y z : List ℕ) (s s' : State) (line : ℕ) (d next : Draft) (r : Record) → GoesOn text y s line d → Reached default_config s y (r ∷ []) s' z
    → judged d r ≡ Ok next → GoesOn text z s' (line + 1) next
goes_on text y z s s' line d next r before reached taken =
    let (less, fewer, between, says) = next_is text y z s s' line d r before reached in
    (less, fewer, between, says ∙ taken_from line d next (Some r) (map Some (records_from default_config less s' z)) taken)

-- the next record is refused
pub refused : (text y z : List ℕ) (s s' : State) (line : ℕ) (d : Draft) (r : Record) (e : WorldFault) → GoesOn text y s line d → Reached default_config s y (r ∷ []) s' z
    → IsRefused (Some r ∷ []) line d e → Reads (csv_says text) (Err e)
refused text y z s s' line d r e before reached is_refused =
    let (less, fewer, between, says) = next_is text y z s s' line d r before reached in
    said (Err e) says (is_refused (map Some (records_from default_config less s' z)))

-- there is no more record
pub ends : (text y : List ℕ) (s : State) (line : ℕ) (d : Draft) (result : Result Lists WorldFault) → GoesOn text y s line d → next_record default_config s [] [] y ≡ None
    → Reads (read_from line d []) result → Reads (csv_says text) result
ends text y s line d result before none whole =
    said result (before.3 ∙ ap (λ rs. read_from line d (map Some rs)) (none_left before.0 s y none)) whole
