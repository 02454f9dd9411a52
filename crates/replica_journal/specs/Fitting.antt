-- How much room a disk takes beside what it holds elsewhere.
use Rattle.std.specs.Prelude.{◌<◌, ◌≤◌}
use prog.Memory.{size, align}
use denote.RattleType.{RattleType}
use denote.Param.{layout}

-- a value of the type takes few bytes
abbrev pub IsSmall : RattleType → Type 0
IsSmall R = (size (layout R) ≤ 4294967296) × (0 < align (layout R)) × (align (layout R) ≤ 16)
