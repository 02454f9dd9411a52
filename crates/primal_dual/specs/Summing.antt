use Rattle.std.specs.Prelude.{ℕ, ◌*◌, ◌^◌, ◌≤◌, ℤ, List, length, All}
use Rattle.primal_dual.specs.declared.table.Term.{Term}
use Rattle.primal_dual.specs.Tables.{terms_size, AreKnown}
use Rattle.primal_dual.specs.Locals.{IsShown}

-- the terms, each times the value of its line, can be added up: a line of a greater size takes smaller values
pub record AreSummable (terms : List Term) (values : List ℤ) : Type 0 where
  pub limit : ℕ
  pub known : AreKnown (length values) terms
  pub shown : All (IsShown limit) values
  pub light : terms_size terms ≤ 10 ^ 7
  pub small : terms_size terms * limit ≤ 2 ^ 56
