-- The rows of which the programs of sets are made: sums of variables, and of some less one more.
use Rattle.std.specs.Prelude.{ℕ, pos, negsuc, List, [], ◌∷◌, ◌++◌, map}
use Rattle.zero_one.specs.declared.rows.Entry.{Entry}
use Rattle.zero_one.specs.declared.rows.Row.{Row}

-- an entry that adds a variable, and one that takes it away
abbrev pub plus : ℕ → Entry
plus var = record { var = var; coef = pos 1 }

abbrev pub minus : ℕ → Entry
minus var = record { var = var; coef = negsuc 0 }

-- at least so many of the variables of these items are 1
abbrev pub at_least : {X : Type 0} → ℕ → (X → ℕ) → List X → Row
at_least least var xs = record { entries = map (λ x. plus (var x)) xs; bound = pos least }

-- one of the variables of these items is 1 where the variable `last`, which follows them, is
abbrev pub backed : {X : Type 0} → (X → ℕ) → List X → ℕ → Row
backed var xs last = record { entries = map (λ x. plus (var x)) xs ++ minus last ∷ []; bound = pos 0 }

-- one of the variables of these items is 1 where the variable `first`, which precedes them, is
abbrev pub answered : {X : Type 0} → ℕ → (X → ℕ) → List X → Row
answered first var xs = record { entries = minus first ∷ map (λ x. plus (var x)) xs; bound = pos 0 }
