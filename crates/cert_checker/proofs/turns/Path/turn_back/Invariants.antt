use Rattle.std.proofs.Common.{◌≡◌, ◌-◌, length, drop}
use Rattle.cert_checker.specs.Paths.{turned_back, HoldsPath}
use Rattle.cert_checker.proofs.turns.Path.turn_back.Given as goal

abbrev pub invariant-loop-self : goal.invariant-loop-self
invariant-loop-self l =
    HoldsPath l.self-inside.turns.items l.self-inside.free l.self-inside.fixed
    × (length l.self-inside.turns.items ≡ l.fn.self.variables)
    × (turned_back l.fn.self.turns ≡ turned_back (drop l.self-inside.free l.self-inside.turns.items))

abbrev pub decreases-loop-self : goal.decreases-loop-self
decreases-loop-self l = length l.self-inside.turns.items - l.self-inside.free
