-- The calls of a disk in memory.
use Rattle.std.specs.Prelude.{ℕ, ◌-◌, Bool, ◌&&◌, ◌||◌, ◌==◌, nat_lt, if◌then◌else◌, List, []}
use Rattle.std.specs.List.{list_all, list_any}
use Rattle.span_base.specs.Counts.{next_count}

-- the numbers of the calls that fail, counted from 1, one more such call, counted from now (0 for
-- none), how many calls there were, and how many failed
pub record CallPlan : Type 0 where
  pub failing : List ℕ
  pub stop : ℕ
  pub made : ℕ
  pub faults : ℕ

-- whether the next call fails
unfoldable pub next_fails : CallPlan → Bool
next_fails plan = list_any (λ n. n == next_count plan.made) plan.failing || plan.stop == 1

-- whether no call is still to fail
unfoldable pub is_calm : CallPlan → Bool
is_calm plan = list_all (λ n. nat_lt n (next_count plan.made)) plan.failing && plan.stop == 0

-- no call was made, and none is to fail
abbrev pub no_calls : CallPlan
no_calls = record { failing = []; stop = 0; made = 0; faults = 0 }

-- one call more, that failed or didn't
abbrev pub after_call : CallPlan → Bool → CallPlan
after_call plan failed = record plan { stop = plan.stop - 1; made = next_count plan.made; faults = if failed then next_count plan.faults else plan.faults }

-- the call of this number, counted from now, is to fail
abbrev pub stop_in : CallPlan → ℕ → CallPlan
stop_in plan calls = record plan { stop = calls }
