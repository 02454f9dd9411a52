use Rattle.std.proofs.Common.{◌≡◌, ◌++◌, ◌∙◌, ℕ, true, cond, [], map, sym, ap, arith}
use Rattle.std.specs.List.{filter, range_with_len}
use Rattle.workload.specs.World.{centre_count}
use Rattle.placement_rows.specs.Providers.{providers, asks_providers}
use Rattle.placement_rows.specs.FirstCentres.{is_first}
use Rattle.placement_rows.proofs.FoundCentres.{costs-are}
use Rattle.placement_rows.proofs.providers.push_provider_costs.Goals as goal

pub returns : goal.returns
returns c =
    let w = c.args.world.now in
    let firsts = c.args.firsts.now in
    let costs = c.args.costs.now.items in
    let asks : asks_providers w c.args.set.0 ≡ true = cc in
    let end : c.loop-d.d ≡ centre_count w = omega arith in
    c.loop-d.invariant
    ∙ ap (λ n. costs ++ map (λ (e : ℕ). 0) (filter (is_first firsts) (range_with_len 0 n))) end
    ∙ ap (λ made. costs ++ made) (costs-are w c.args.set.0 firsts c.requires.found asks)
    ∙ ap (λ b. costs ++ cond b (map (λ (e : ℕ). 0) (providers w)) []) (sym asks)
