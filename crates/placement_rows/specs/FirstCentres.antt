-- The first centres of providers, as a program's builder finds them once.
use Rattle.std.specs.Prelude.{◌≡◌, ℕ, ◌<◌, Bool, true, false, ◌==◌, List, slice_index}
use Rattle.std.specs.List.{filter, range_with_len, list_any}
use Rattle.workload.specs.World.{Lists, centre_count}
use Rattle.slo_rules.specs.Rules.{same_provider}
use Rattle.zero_one.specs.declared.rows.Row.{Row}
use Rattle.placement_rows.specs.declared.first_centres.FirstCentres.{FirstCentres}
use Rattle.placement_rows.specs.Providers.{asks_providers}
use Rattle.placement_rows.specs.Rows.{backed}

-- a centre is the first that is of one provider with another
pub record IsFirstOf (w : Lists) (d e : ℕ) : Type 0 where
  pub same : same_provider w d e ≡ true
  pub none_before : list_any (same_provider w d) (range_with_len 0 e) ≡ false

-- the first centre of each centre's provider is found where a set asks for more than one provider
pub record AreFound (w : Lists) (set : ℕ) (c : FirstCentres) : Type 0 where
  pub each : asks_providers w set ≡ true → (d : ℕ) → d < centre_count w → IsFirstOf w d (slice_index c.firsts d)

-- by these first centres a centre is the first of its provider
abbrev pub is_first : FirstCentres → ℕ → Bool
is_first c d = slice_index c.firsts d == d

-- and two centres are of one provider
abbrev pub is_same : FirstCentres → ℕ → ℕ → Bool
is_same c a b = slice_index c.firsts a == slice_index c.firsts b

-- the row that says that the provider with this first centre keeps a replica
abbrev pub kept_by : FirstCentres → List (ℕ × ℕ) → ℕ × ℕ → Row
kept_by c keeping (z, e) = backed (λ k. k.0) (filter (λ k. is_same c e k.1) keeping) z
