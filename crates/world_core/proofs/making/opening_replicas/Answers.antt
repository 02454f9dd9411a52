use Rattle.std.proofs.Common.{◌≡◌, ℕ, [], ◌∷◌, ◌++◌, refl, arith}
use Rattle.std.proofs.lemmas.List.FromFn.{map-range_with_len_more}
use Rattle.replica_core.specs.Rule.{opening_state}
use Rattle.world_core.proofs.making.opening_replicas.Goals as goal

pub loop-number-preserved : goal.loop-number-preserved
loop-number-preserved c =
    let n = c.loop-number.number in
    let here : c.in_ok-make.field-0 ≡ opening_state n c.args.keys = c.in_ok-make.ensures in
    let pushed : c.push.new.self.items ≡ c.loop-number.made.items ++ c.in_ok-make.field-0 ∷ [] = c.in_ok-push.ensures.items in
    rw (pushed, c.loop-number.invariant, here, map-range_with_len_more (λ (number : ℕ). opening_state number c.args.keys) 0 n n (omega arith)) refl
