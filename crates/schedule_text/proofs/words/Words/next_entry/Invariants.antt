use Rattle.std.proofs.Common.{◌≡◌}
use Rattle.schedule_text.specs.Pieces.{bytes, beyond}
use Rattle.schedule_text.proofs.words.Words.next_entry.Given as goal

abbrev pub invariant-loop : goal.invariant-loop
invariant-loop l = beyond l.self ≡ beyond l.fn.self

abbrev pub decreases-loop : goal.decreases-loop
decreases-loop l = bytes l.self.rest
