use Rattle.std.proofs.Common.{◌≡◌, length}
use Rattle.dual_ascent.proofs.scout.note_places.Given as goal

abbrev pub invariant-loop-var : goal.invariant-loop-var
invariant-loop-var l = length l.places ≡ length l.fn.places
