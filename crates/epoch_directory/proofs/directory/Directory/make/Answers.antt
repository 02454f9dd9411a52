use Rattle.std.proofs.Common.{◌≡◌, [], ◌∷◌, length, replicate, arith}
use Rattle.std.proofs.lemmas.Grind.{common_steps}
use Rattle.epoch_directory.proofs.Keeping.{opening_kept}
use Rattle.epoch_directory.proofs.directory.Directory.make.Goals as goal

pub invariant_of-result : goal.invariant_of-result
invariant_of-result c =
    let tables : c.push.new.self.items ≡ c.args.first.items ∷ [] = grind (arith, common_steps) in
    let current : c.in_ok-current.current.items ≡ replicate (length c.args.keys.items) 1 = grind (arith, common_steps) in
    rw (tables, current) (opening_kept c.args.keys.items c.args.first.items c.requires.sets c.requires.policies c.requires.few_sets c.requires.few_keys)
