use Rattle.std.specs.Prelude.{ℕ, ◌-◌, List}
use Rattle.std.specs.List.{filter, range_with_len}
use Rattle.span_base.specs.declared.dc_set.DcSet.{DcSet}
use Rattle.span_base.specs.DcSet.{has}

-- the centres of a set from one on, in rising order
unfoldable pub centres_from : DcSet → ℕ → List ℕ
centres_from s d = filter (has s) (range_with_len d (16 - d))
