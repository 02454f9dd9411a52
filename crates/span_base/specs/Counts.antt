-- Counts that never fall and stand still at the end of a `u64`.
use Rattle.std.specs.Prelude.{ℕ, ◌+◌, ◌-◌, ◌^◌, ◌≤◌, min, nat_lt, if◌then◌else◌}

-- one more, but a count at the end of a `u64` stands still
abbrev pub next_count : ℕ → ℕ
next_count count = if nat_lt count (2 ^ 64 - 1) then count + 1 else count

-- a count rose: it is at least one more than before, or stands at the end of a `u64`
abbrev pub Rose : ℕ → ℕ → Type 0
Rose before now = min (before + 1) (2 ^ 64 - 1) ≤ now
