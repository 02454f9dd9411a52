use Rattle.std.specs.Prelude.{◌≡◌, ℕ, ◌+◌, ◌*◌, ◌^◌, ◌≤◌, ℤ, pos, ◌≤ℤ◌, unsigned_abs, List, length, All}
use Rattle.primal_dual.specs.Sizes.{Sizes}
use Rattle.primal_dual.specs.declared.coordinate.Coordinate.{Coordinate}

-- a coordinate of a local problem whose bounds are within the limit: the reflected steps keep its point within 15 times as much
pub record IsLocal (limit : ℕ) (coordinate : Coordinate) : Type 0 where
  pub force : unsigned_abs coordinate.force ≤ 2 ^ 60
  pub point : unsigned_abs coordinate.point ≤ 15 * limit + 8
  pub target : unsigned_abs coordinate.target ≤ limit
  pub moved : unsigned_abs coordinate.moved ≤ 16 * limit + 8
  pub below : coordinate.low ≤ℤ pos 0
  pub low : unsigned_abs coordinate.low ≤ limit
  pub above : pos 0 ≤ℤ coordinate.high
  pub high : unsigned_abs coordinate.high ≤ limit

-- what the other side may see of a coordinate
abbrev pub IsShown : ℕ → ℤ → Type 0
IsShown limit value = unsigned_abs value ≤ 17 * limit + 8

-- where a step may lead
abbrev pub IsTarget : ℕ → ℤ → Type 0
IsTarget limit target = unsigned_abs target ≤ limit

-- the local problem of a side with so many lines
pub record IsLocalProblem (limit : ℕ) (coordinates : List Coordinate) (shown : List ℤ) (targets : List ℤ) : Type 0 where
  pub least : 1 ≤ limit
  pub greatest : limit ≤ 2 ^ 50
  pub few : length coordinates ≤ 16384
  pub shown_count : length shown ≡ length coordinates
  pub target_count : length targets ≡ length coordinates
  pub local : All (IsLocal limit) coordinates
  pub visible : All (IsShown limit) shown
  pub reached : All (IsTarget limit) targets

-- what is known of a local problem: the number of its coordinates, and how far they may go
pub record Room : Type 0 where
  pub count : ℕ
  pub limit : ℕ

-- the lines are those of the local problem: as many, and of a size for which its sums are small
pub record AreItsLines (sizes : Sizes) (room : Room) : Type 0 where
  pub count : sizes.lines ≡ room.count
  pub near : room.limit ≤ 2 ^ 50
  pub small : sizes.size * room.limit ≤ 2 ^ 56
