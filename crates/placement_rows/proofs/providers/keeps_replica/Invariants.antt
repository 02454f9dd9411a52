use Rattle.std.proofs.Common.{◌≡◌, map, take}
use Rattle.std.specs.List.{filter}
use Rattle.placement_rows.specs.FirstCentres.{is_same}
use Rattle.placement_rows.specs.Rows.{plus}
use Rattle.placement_rows.proofs.providers.keeps_replica.Given as goal

abbrev pub invariant-loop-kept : goal.invariant-loop-kept
invariant-loop-kept l = l.entries.items ≡ map (λ k. plus k.0) (filter (λ k. is_same l.firsts l.first_centre k.1) (take l.kept-index l.keeping))
