use Rattle.std.proofs.Common.{◌≡◌, ◌+◌, ◌≤◌, ◌++◌, length, map}
use Rattle.std.specs.List.{filter, enumerate_from, range_with_len}
use Rattle.placement_rows.specs.FirstCentres.{is_first, kept_by}
use Rattle.placement_rows.specs.Rows.{plus}
use Rattle.placement_rows.proofs.providers.push_provider_rows.Given as goal

abbrev pub invariant-loop-d : goal.invariant-loop-d
invariant-loop-d l =
    let firsts = filter (is_first l.firsts) (range_with_len 0 l.d) in
    (l.rows.items ≡ l.initial.rows.items ++ map (kept_by l.firsts l.keeping) (enumerate_from l.fn.first firsts))
    × (l.sum.items ≡ map (λ ze. plus ze.0) (enumerate_from l.fn.first firsts))
    × (l.var ≡ l.fn.first + length firsts)
    × (length firsts ≤ l.d)
