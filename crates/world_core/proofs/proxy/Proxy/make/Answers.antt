use Rattle.std.proofs.Common.{◌≡◌, List, length, map, ap, ◌∙◌}
use Rattle.std.specs.List.{range_with_len}
use Rattle.span_base.specs.declared.ids.SetId.{SetId}
use Rattle.span_base.specs.declared.policy.Policy.{Policy}
use Rattle.world_core.specs.State.{opening_view}
use Rattle.world_core.proofs.NewProxy.{opening_kept}
use Rattle.world_core.proofs.proxy.Proxy.make.Goals as goal

pub invariant_of-result : goal.invariant_of-result
invariant_of-result c =
    let sets : c.as_slice.result.now ≡ c.args.header.now.sets = c.as_slice.ensures in
    let keys : c.as_slice-2.result.now ≡ c.args.header.now.keys = c.as_slice-2.ensures in
    opening_kept c.args.at c.args.header.now.sets c.args.header.now.keys c.in_ok-opening_views.field-0.items c.in_ok-make.field-0 c.requires.keys.1 c.requires.policies c.requires.key_sets
    (c.in_ok-opening_views.ensures
    ∙ ap (λ (xs : List Policy). map (opening_view xs c.as_slice-2.result.now) (range_with_len 0 (length c.as_slice-2.result.now))) sets
    ∙ ap (λ (xs : List SetId). map (opening_view c.args.header.now.sets xs) (range_with_len 0 (length xs))) keys)
    c.in_ok-make.ensures
