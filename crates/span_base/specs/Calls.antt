-- The calls of an object in memory.
use Rattle.std.specs.Prelude.{ℕ, List, Bool, if◌then◌else◌, Contains}
use Rattle.span_base.specs.Counts.{next_count}

-- the numbers of the calls that fail, counted from 1, how many calls there were, and how many failed
pub record CallRecord : Type 0 where
  pub failing : List ℕ
  pub made : ℕ
  pub faults : ℕ

-- the next call is one that fails
abbrev pub NextFails : CallRecord → Type 0
NextFails calls = Contains calls.failing (next_count calls.made)

-- the calls and one more, that failed or didn't
abbrev pub after_call : CallRecord → Bool → CallRecord
after_call calls failed = record { failing = calls.failing; made = next_count calls.made; faults = if failed then next_count calls.faults else calls.faults }
