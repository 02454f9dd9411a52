use Rattle.std.proofs.Common.{◌≡◌, length, drop, min, zip, rules, arith, ap}
use Rattle.std.specs.List.{sum_by}
use Rattle.std.proofs.lemmas.Slice.Zip.{zip_end}
use Rattle.joint_placement.specs.Loads.{get_load}
use Rattle.slo_rules.proofs.Sums.{no_pair_left}
use Rattle.joint_placement.proofs.stated.gets_load.Goals as goal

pub returns-clause-load : goal.returns-clause-load
returns-clause-load c =
    let end : length c.loop-m.yielded ≡ min (length c.args.members.now) (length c.args.primary.now) =
    zip_end c.args.members.now c.args.primary.now c.loop-m.yielded c.into_iter-m-iterator.result c.loop-m.m-iterator c.next.new.self _ (search rules) (search rules) c.loop-m.yielded_by c.in-None.is c.next.ensures.steps in
    let none : sum_by (λ pair. get_load c.args.unit c.args.dc.0 pair.0 pair.1) (zip (drop (length c.loop-m.yielded) c.args.members.now) (drop (length c.loop-m.yielded) c.args.primary.now)) ≡ 0 =
    ap (sum_by _) (no_pair_left c.args.members.now c.args.primary.now _ end) in
    omega (arith, c.loop-m.invariant.0, none)
