use Rattle.std.proofs.Common.{◌≡◌, ◌==◌, true, take}
use Rattle.std.specs.List.{list_all}
use Rattle.world_text.proofs.print.printed_version.Given as goal

abbrev pub invariant-loop-set : goal.invariant-loop-set
invariant-loop-set l = list_all (λ s. s.rule.providers == 1) (take l.set l.world.sets) ≡ true
