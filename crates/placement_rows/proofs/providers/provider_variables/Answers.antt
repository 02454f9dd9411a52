use Rattle.std.proofs.Common.{◌≡◌, ◌∙◌, true, cond, length, sym, ap, arith}
use Rattle.std.specs.List.{filter, range_with_len}
use Rattle.workload.specs.World.{centre_count}
use Rattle.placement_rows.specs.Providers.{providers, asks_providers}
use Rattle.placement_rows.specs.FirstCentres.{is_first}
use Rattle.placement_rows.proofs.FoundCentres.{count-is}
use Rattle.placement_rows.proofs.providers.provider_variables.Goals as goal

pub returns-clause-count : goal.returns-clause-count
returns-clause-count c =
    let w = c.args.world.now in
    let firsts = c.args.firsts.now in
    let asks : asks_providers w c.args.set.0 ≡ true = cc in
    let end : c.loop-d.d ≡ centre_count w = omega arith in
    c.loop-d.invariant.0
    ∙ ap (λ n. length (filter (is_first firsts) (range_with_len 0 n))) end
    ∙ count-is w c.args.set.0 firsts c.requires.found asks
    ∙ ap (λ b. cond b (length (providers w)) 0) (sym asks)
