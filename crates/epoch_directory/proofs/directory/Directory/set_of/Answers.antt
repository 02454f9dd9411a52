use Rattle.std.proofs.Common.{◌≡◌, ◌<◌, length, map, ap, subst, arith}
use Rattle.std.proofs.lemmas.List.{length-map}
use Rattle.epoch_directory.specs.declared.table.KeySet.{KeySet}
use Rattle.epoch_directory.specs.State.{State, set_count}
use Rattle.epoch_directory.proofs.Keeping.{set_exists}
use Rattle.epoch_directory.proofs.directory.Directory.set_of.Goals as goal

pub returns-clause-exists : goal.returns-clause-exists
returns-clause-exists c =
    let keys = c.self.inside.keys.items in
    let same : length (map (λ (key : KeySet). key.set.0) keys) ≡ length c.args.self.now.sets = ap (λ (s : State). length s.sets) c.self.view_is in
    let within : c.args.key.0 < length keys = omega (arith, length-map keys (λ (key : KeySet). key.set.0)) in
    subst (λ (s : State). c.index.result.now.set.0 < set_count s) c.self.view_is (set_exists keys c.args.key.0 _ c.index.result.now c.self.invariant.sets within c.index.ensures)
