use Rattle.std.specs.Prelude.{◌≡◌, ℕ, ◌^◌, ◌≤◌, ◌⊎◌, Bool, List, length, Option, All}
use Rattle.zero_one.specs.Contents.{Contents}
use Rattle.primal_dual.specs.Sides.{SideView}

-- what callers see of an engine: the number of variables and rows that it is for, the multipliers of its leaf, by row, with how often the leaf takes the costs, and both as they were kept
pub record State : Type 0 where
  pub variables : ℕ
  pub rows : ℕ
  pub multipliers : List ℕ
  pub weight : ℕ
  pub kept : List ℕ
  pub kept_weight : ℕ

-- a leaf of the engine takes the costs a million times, or not at all
abbrev pub IsWeight : ℕ → Type 0
IsWeight weight = (weight ≡ 0) ⊎ (weight ≡ 1000000)

-- there is a multiplier for each row
pub record AreMultipliers (rows : ℕ) (multipliers : List ℕ) : Type 0 where
  pub count : length multipliers ≡ rows
  pub within : All (λ multiplier. multiplier ≤ 10 ^ 30) multipliers

-- the numbers of an engine are within their ranges
pub record HasRanges (engine : State) : Type 0 where
  pub multipliers : AreMultipliers engine.rows engine.multipliers
  pub weight : IsWeight engine.weight
  pub kept : AreMultipliers engine.rows engine.kept
  pub kept_weight : IsWeight engine.kept_weight

-- the engine is for the program
pub record IsFor (program : Contents) (engine : State) : Type 0 where
  pub variables : engine.variables ≡ length program.costs
  pub rows : engine.rows ≡ length program.rows

-- the engine is for the program, and there is a bit or none for each variable
pub record IsTask (program : Contents) (fixed : List (Option Bool)) (engine : State) : Type 0 where
  pub room : IsFor program engine
  pub vars : length fixed ≡ length program.costs

-- the engine is for as many variables and rows as before, and keeps what it kept
pub record KeepsRoom (old new : State) : Type 0 where
  pub variables : new.variables ≡ old.variables
  pub rows : new.rows ≡ old.rows
  pub kept : new.kept ≡ old.kept
  pub kept_weight : new.kept_weight ≡ old.kept_weight

-- two sides of one program
pub record ArePaired (variables multipliers : SideView) : Type 0 where
  pub columns : variables.sizes.others ≡ multipliers.sizes.lines
  pub rows : multipliers.sizes.others ≡ variables.sizes.lines
  pub limit : multipliers.limit ≡ variables.limit
  pub whole : variables.top ≡ 2 ^ 96
  pub greatest : multipliers.top ≡ 10 ^ 30

-- an engine
pub record IsEngine (variables multipliers : SideView) (places weight kept_weight kept_balance first_balance first_fine : ℕ) : Type 0 where
  pub paired : ArePaired variables multipliers
  pub scratch : places ≡ variables.sizes.lines
  pub now : IsWeight weight
  pub before : IsWeight kept_weight
  pub balance : kept_balance ≤ 100
  pub first : first_balance ≤ 98
  pub fine : first_fine ≤ 90
