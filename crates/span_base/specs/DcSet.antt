-- What is said of a set of centres. A centre is a number below 16.
use Rattle.std.specs.Prelude.{ℕ, ◌^◌, Bool, ◌&&◌, nat_lt, ◌==◌, List, bit_and, bit_or}
use Rattle.std.specs.List.{filter, range_with_len}
use Rattle.std.specs.Int.{bit_at}
pub use Rattle.span_base.specs.declared.dc_set.DcSet.{DcSet}

-- the number that has the set's bits
abbrev pub bits_of : DcSet → ℕ
bits_of s = s.bits

-- the centre is in the set
abbrev pub has : DcSet → ℕ → Bool
has s d = nat_lt d 16 && bit_at (bits_of s) d == 1

-- the centres below n that are in the set, in rising order
unfoldable pub centres_below : DcSet → ℕ → List ℕ
centres_below s n = filter (has s) (range_with_len 0 n)

-- the centres of the set, in rising order
unfoldable pub centres_of : DcSet → List ℕ
centres_of s = centres_below s 16

-- the set without any centre
abbrev pub no_centre : DcSet
no_centre = record { bits = 0 }

-- the set with this centre in it too
abbrev pub insert : DcSet → ℕ → DcSet
insert s d = record { bits = bit_or (bits_of s) (2 ^ d) }

-- the centres that are in both sets
abbrev pub meet : DcSet → DcSet → DcSet
meet s t = record { bits = bit_and (bits_of s) (bits_of t) }

-- the centres that are in one of the sets, or in both
abbrev pub join : DcSet → DcSet → DcSet
join s t = record { bits = bit_or (bits_of s) (bits_of t) }
