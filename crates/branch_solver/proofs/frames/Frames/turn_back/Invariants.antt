use Rattle.std.proofs.Common.{◌≡◌, ◌≤◌, length}
use Rattle.cert_checker.specs.Paths.{turned_back}
use Rattle.branch_solver.proofs.frames.Frames.turn_back.Given as goal

abbrev pub invariant-loop-turn : goal.invariant-loop-turn
invariant-loop-turn l =
    (l.self.variables ≡ l.fn.self.variables)
    × (turned_back l.fn.self.turns ≡ turned_back l.self.turns)
    × (l.self.puts ≤ l.fn.self.puts)

abbrev pub decreases-loop-turn : goal.decreases-loop-turn
decreases-loop-turn l = length l.self.turns
