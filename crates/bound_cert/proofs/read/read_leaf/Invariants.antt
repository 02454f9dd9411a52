use Rattle.std.proofs.Common.{◌-◌, length, All}
use Rattle.bound_cert.proofs.Lines.{IsBetween}
use Rattle.bound_cert.specs.Reading.{HasLowRow}
use Rattle.bound_cert.proofs.read.read_leaf.Given as goal

abbrev pub invariant-loop-at : goal.invariant-loop-at
invariant-loop-at l = IsBetween l.text l.at l.s.value l.pairs × All HasLowRow l.pairs

abbrev pub decreases-loop-at : goal.decreases-loop-at
decreases-loop-at l = length l.text - l.at
