use Rattle.span_node.specs.Carried.{carried, NoneIn}
use Rattle.span_node.proofs.searching.first_from.Given as goal

abbrev pub invariant-loop-number : goal.invariant-loop-number
invariant-loop-number l = NoneIn (carried l.wire.posts) l.from l.number (record { to = l.to; frame = l.frame })
