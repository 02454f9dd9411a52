use Rattle.std.specs.Prelude.{◌≡◌, ℕ, List, length}
use Rattle.primal_dual.specs.Sizes.{Sizes}
use Rattle.primal_dual.specs.Locals.{Room, AreItsLines}
use Rattle.primal_dual.specs.Places.{Places}

-- what is known of a side: how large its lines are, how far a local change may go, the greatest place, and where its anchors stand and were kept
pub record SideView : Type 0 where
  pub sizes : Sizes
  pub limit : ℕ
  pub top : ℕ
  pub places : List ℕ
  pub kept : List ℕ

-- lines, a local problem and anchors of one side
pub record IsSide (sizes : Sizes) (room : Room) (anchors : Places) : Type 0 where
  pub lines : AreItsLines sizes room
  pub count : length anchors.places ≡ sizes.lines
  pub kept_count : length anchors.kept ≡ sizes.lines

-- the side is as before, but for where its anchors stand
pub record IsSameSide (old new : SideView) : Type 0 where
  pub sizes : new.sizes ≡ old.sizes
  pub limit : new.limit ≡ old.limit
  pub top : new.top ≡ old.top
  pub kept : new.kept ≡ old.kept
  pub count : length new.places ≡ length old.places
