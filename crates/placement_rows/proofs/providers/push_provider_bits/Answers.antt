use Rattle.std.proofs.Common.{◌≡◌, ◌++◌, ◌∙◌, true, cond, [], map, sym, ap, arith}
use Rattle.std.specs.List.{filter, list_any, range_with_len}
use Rattle.span_base.specs.DcSet.{centres_of}
use Rattle.workload.specs.World.{centre_count}
use Rattle.slo_rules.specs.Rules.{same_provider}
use Rattle.placement_rows.specs.Providers.{providers, asks_providers}
use Rattle.placement_rows.specs.FirstCentres.{is_first, is_same}
use Rattle.placement_rows.proofs.FoundCentres.{bits-are}
use Rattle.placement_rows.proofs.providers.push_provider_bits.Goals as goal

pub returns : goal.returns
returns c =
    let w = c.args.world.now in
    let firsts = c.args.firsts.now in
    let bits = c.args.bits.now.items in
    let replicas = c.args.replicas.now in
    let asks : asks_providers w c.args.set.0 ≡ true = cc in
    let end : c.loop-d.d ≡ centre_count w = omega arith in
    c.loop-d.invariant
    ∙ ap (λ n. bits ++ map (λ e. list_any (is_same firsts e) (centres_of replicas)) (filter (is_first firsts) (range_with_len 0 n))) end
    ∙ ap (λ made. bits ++ made) (bits-are w c.args.set.0 firsts c.requires.found asks replicas c.requires.below)
    ∙ ap (λ b. bits ++ cond b (map (λ e. list_any (same_provider w e) (centres_of replicas)) (providers w)) []) (sym asks)
