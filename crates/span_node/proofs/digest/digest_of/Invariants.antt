use Rattle.std.proofs.Common.{◌≡◌, take}
use Rattle.std.specs.List.{fold}
use Rattle.span_node.specs.Index.{mixed}
use Rattle.span_node.proofs.digest.digest_of.Given as goal

abbrev pub invariant-loop-byte : goal.invariant-loop-byte
invariant-loop-byte l = l.digest ≡ fold mixed l.to (take l.byte-index l.frame)
