use Rattle.std.proofs.Common.{◌<◌, ◌≤◌, ◌∙◌, ℕ, List, length, sym, subst}
use Rattle.std.specs.List.{All}
use Rattle.workload.specs.World.{centre_count}
use Rattle.placement_relay.proofs.Keeping.{keeping_centres, keeping_few}
use Rattle.placement_relay.proofs.rows.push_asked_rows.Goals as goal

pub push_provider_rows-requires-clause-few : goal.push_provider_rows-requires-clause-few
push_provider_rows-requires-clause-few c =
    subst (λ (ks : List (ℕ × ℕ)). length ks ≤ 256) (sym (c.as_slice.ensures.value ∙ c.in_ok-vars.ensures)) (keeping_few c.args.world.now c.requires.set.complete.few_centres)

pub push_provider_rows-requires-clause-centres : goal.push_provider_rows-requires-clause-centres
push_provider_rows-requires-clause-centres c =
    subst (All (λ k. k.1 < centre_count c.args.world.now)) (sym (c.as_slice.ensures.value ∙ c.in_ok-vars.ensures)) (keeping_centres c.args.world.now)
