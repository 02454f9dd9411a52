use Rattle.std.proofs.Common.{◌≡◌, ◌++◌, map, take}
use Rattle.std.specs.List.{enumerate_from}
use Rattle.span_base.specs.DcSet.{centres_of}
use Rattle.placement_rows.specs.Rows.{at_least}
use Rattle.placement_relay.specs.Reading.{h}
use Rattle.placement_relay.proofs.rows.push_reads_somewhere.Given as goal

abbrev pub invariant-loop-a : goal.invariant-loop-a
invariant-loop-a l = l.rows.items ≡ l.initial.rows.items ++ map (λ an. at_least 1 (h l.world an.0) (centres_of an.1)) (take l.a (enumerate_from 0 l.near_sets))
