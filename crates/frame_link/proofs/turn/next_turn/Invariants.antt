use Rattle.std.proofs.Common.{◌≡◌, drop}
use Rattle.frame_link.specs.Deals.{dealt}
use Rattle.frame_link.proofs.turn.next_turn.Given as goal

abbrev pub invariant-loop-i : goal.invariant-loop-i
invariant-loop-i l = dealt l.frames l.passed (drop l.used l.deals) ≡ dealt l.frames l.count (drop l.i l.deals)
