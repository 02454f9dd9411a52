-- A record's read ends between two records, and takes a byte at least.
use Rattle.std.proofs.Common.{◌≡◌, ℕ, ◌<◌, ◌≤◌, suc, List, [], ◌∷◌, length, Some, Bool, true, false, refl, sym, ◌∙◌, arith}
use Rattle.std.specs.Prelude.{◌==◌, ◌&&◌, if◌then◌else◌}
use Rattle.std.proofs.lemmas.Bool.{false≢true}
use Rattle.csv.specs.Machine.{Read, next_record, step, in_field, start_field, start_record, after_end, ends_with, is_byte, is_end, ends_at_end, fields_after, field_after, carriage_return, line_feed}
use Rattle.csv.specs.declared.parser.Config.{Config}
use Rattle.csv.specs.declared.parser.Terminator.{Terminator}
use Rattle.csv.specs.declared.parser.Terminator.TheVariants as term
use Rattle.csv.specs.declared.parser.State.{State}
use Rattle.csv.specs.declared.parser.State.TheVariants as st
use Rattle.csv.specs.declared.parser.Action.{Action}
use Rattle.csv.specs.declared.parser.Action.TheVariants as act

-- a byte that ends a record leads between records
record Between (after : State × Action) : Type 0 where
  pub ends : is_end after.1 ≡ true → ends_at_end after.0 ≡ false

within : (s : State) (a : Action) → is_end a ≡ false → Between (s, a)
within s a none = record { ends = λ h. absurd (false≢true (sym none ∙ h)) }

either : (test : Bool) (x y : State × Action) → Between x → Between y → Between (if test then x else y)
either true x y a b = a
either false x y a b = b

end_between : (t : Terminator) (c : ℕ) → Between (after_end t c, act.EndRecord)
end_between term.CRLF c = by (c == carriage_return)
  where
    by : (b : Bool) → Between (if b then st.AfterCr else st.StartRecord, act.EndRecord)
    by true = record { ends = λ h. refl }
    by false = record { ends = λ h. refl }
end_between (term.Any t) c = record { ends = λ h. refl }

field_between : (cfg : Config) (c : ℕ) → Between (in_field cfg c)
field_between cfg c =
    either (c == cfg.delimiter) _ _ (within st.StartField act.EndField refl)
    (either (ends_with cfg.terminator c) _ _ (end_between cfg.terminator c) (within st.InField act.Copy refl))

first_between : (cfg : Config) (c : ℕ) → Between (start_field cfg c)
first_between cfg c = either (cfg.quoting && (c == cfg.quote)) _ _ (within st.InQuoted act.Skip refl) (field_between cfg c)

record_between : (cfg : Config) (c : ℕ) → Between (start_record cfg c)
record_between cfg c =
    either (ends_with cfg.terminator c) _ _ (within st.StartRecord act.Skip refl)
    (either (is_byte cfg.comment c) _ _ (within st.InComment act.Skip refl) (first_between cfg c))

step_between : (cfg : Config) (s : State) (c : ℕ) → Between (step cfg s c)
step_between cfg st.StartRecord c = record_between cfg c
step_between cfg st.StartField c = first_between cfg c
step_between cfg st.InField c = field_between cfg c
step_between cfg st.InQuoted c =
    either (cfg.quoting && (c == cfg.quote)) _ _ (within st.AfterQuote act.Skip refl)
    (either (cfg.quoting && is_byte cfg.escape c) _ _ (within st.InEscape act.Skip refl) (within st.InQuoted act.Copy refl))
step_between cfg st.InEscape c = within st.InQuoted act.Copy refl
step_between cfg st.AfterQuote c = either (cfg.quoting && cfg.double_quote && (c == cfg.quote)) _ _ (within st.InQuoted act.Copy refl) (field_between cfg c)
step_between cfg st.InComment c = either (c == line_feed) _ _ (within st.StartRecord act.Skip refl) (within st.InComment act.Skip refl)
step_between cfg st.AfterCr c = either (c == line_feed) _ _ (within st.StartRecord act.Skip refl) (record_between cfg c)

-- a record's read ends between records
pub read_between : (cfg : Config) (y : List ℕ) (s : State) (fields : List (List ℕ)) (field : List ℕ) (p : Read) → next_record cfg s fields field y ≡ Some p → ends_at_end p.1 ≡ false
unfolding next_record
read_between cfg [] s fields field p next = by (ends_at_end s) refl
  where
    by : (b : Bool) → ends_at_end s ≡ b → ends_at_end p.1 ≡ false
    by true e = let same : p.1 ≡ st.StartRecord = cc (rw e at next) in rw same refl
    by false e = absurd (cc (rw e at next))
read_between cfg (c ∷ rest) s fields field p next = by (is_end (step cfg s c).1) refl (read_between cfg rest _ _ _ p)
  where
    by : (b : Bool) → is_end (step cfg s c).1 ≡ b
        → (next_record cfg (step cfg s c).0 (fields_after (step cfg s c).1 fields field) (field_after (step cfg s c).1 c field) rest ≡ Some p → ends_at_end p.1 ≡ false)
        → ends_at_end p.1 ≡ false
    by true e more = let same : p.1 ≡ (step cfg s c).0 = cc (rw e at next) in rw same ((step_between cfg s c).ends e)
    by false e more = more (rw e at next)

-- what a record's read leaves is no longer than what was there
left_at_most : (cfg : Config) (y : List ℕ) (s : State) (fields : List (List ℕ)) (field : List ℕ) (p : Read) → next_record cfg s fields field y ≡ Some p → length p.2 ≤ length y
unfolding next_record
left_at_most cfg [] s fields field p next = by (ends_at_end s) refl
  where
    by : (b : Bool) → ends_at_end s ≡ b → length p.2 ≤ 0
    by true e = let none : p.2 ≡ [] = cc (rw e at next) in rw none (omega arith)
    by false e = absurd (cc (rw e at next))
left_at_most cfg (c ∷ rest) s fields field p next = by (is_end (step cfg s c).1) refl (left_at_most cfg rest _ _ _ p)
  where
    by : (b : Bool) → is_end (step cfg s c).1 ≡ b
        → (next_record cfg (step cfg s c).0 (fields_after (step cfg s c).1 fields field) (field_after (step cfg s c).1 c field) rest ≡ Some p → length p.2 ≤ length rest)
        → length p.2 ≤ suc (length rest)
    by true e more = let same : p.2 ≡ rest = cc (rw e at next) in rw same (omega arith)
    by false e more = let less = more (rw e at next) in omega arith

-- and shorter, where the read began between records
pub left_fewer : (cfg : Config) (s : State) (y : List ℕ) (p : Read) → ends_at_end s ≡ false → next_record cfg s [] [] y ≡ Some p → length p.2 < length y
unfolding next_record
left_fewer cfg s [] p between next = absurd (cc (rw between at next))
left_fewer cfg s (c ∷ rest) p between next = by (is_end (step cfg s c).1) refl
  where
    by : (b : Bool) → is_end (step cfg s c).1 ≡ b → length p.2 < suc (length rest)
    by true e = let same : p.2 ≡ rest = cc (rw e at next) in rw same (omega arith)
    by false e = let less = left_at_most cfg rest _ _ _ p (rw e at next) in omega arith
