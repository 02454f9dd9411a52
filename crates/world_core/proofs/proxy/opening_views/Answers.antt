use Rattle.std.proofs.Common.{◌≡◌, [], ◌∷◌, ◌++◌, refl, arith}
use Rattle.std.proofs.lemmas.List.FromFn.{map-range_with_len_more}
use Rattle.world_core.specs.State.{opening_view}
use Rattle.world_core.proofs.proxy.opening_views.Goals as goal

pub loop-key-preserved : goal.loop-key-preserved
loop-key-preserved c =
    let n = c.loop-key.key in
    let here : c.in_ok-opening_view.field-0 ≡ opening_view c.args.sets.now c.args.keys.now n = c.in_ok-opening_view.ensures in
    let pushed : c.push.new.self.items ≡ c.loop-key.views.items ++ c.in_ok-opening_view.field-0 ∷ [] = c.in_ok-push.ensures.items in
    rw (pushed, c.loop-key.invariant, here, map-range_with_len_more (opening_view c.args.sets.now c.args.keys.now) 0 n n (omega arith)) refl
