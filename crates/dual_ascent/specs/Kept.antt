use Rattle.std.specs.Prelude.{◌≡◌, ℕ, ◌≤◌, length}
use Rattle.zero_one.specs.Contents.{Contents}
use Rattle.bound_cert.specs.declared.leaves.Leaf.{Leaf}
use Rattle.primal_dual.specs.Engines.{State}
use Rattle.dual_ascent.specs.Columns.{Extent}
use Rattle.dual_ascent.specs.Tallies.{Tallied}

-- what callers see of an ascent: for how many variables and rows it has room, and the leaf that it gave last
pub record Kept : Type 0 where
  pub variables : ℕ
  pub rows : ℕ
  pub leaf : Leaf

-- the ascent has the room that the program asks for
pub record IsFor (program : Contents) (ascent : Kept) : Type 0 where
  pub variables : ascent.variables ≡ length program.costs
  pub rows : ascent.rows ≡ length program.rows

-- the scout is for the program's variables and rows
pub record IsScoutFor (program : Contents) (scout : Extent) : Type 0 where
  pub variables : scout.variables ≡ length program.costs
  pub rows : scout.rows ≡ length program.rows

-- the engine and the rounding are for as many variables, each with a place, and rows
pub record AreOneSize (engine : State) (rounding : Tallied) (places : ℕ) : Type 0 where
  pub rounded : rounding.variables ≡ engine.variables
  pub tallied : rounding.rows ≡ engine.rows
  pub placed : places ≡ engine.variables

-- there is a bit and a place for each variable of the scout, whose rows are few
pub record IsRoomy (scout : Extent) (free places : ℕ) : Type 0 where
  pub bits : free ≡ scout.variables
  pub placed : places ≡ scout.variables
  pub few : scout.rows ≤ 16384
