use Rattle.std.proofs.Common.{◌≡◌, arith}
use Rattle.slot_pool.proofs.PoolLemmas.{IsSound-new, new_slots}
use Rattle.slot_pool.proofs.slots.Pool.make_from.Goals as goal

pub invariant_of-result : goal.invariant_of-result
invariant_of-result g c =
    let last : c.loop.counter ≡ c.args.capacity = omega arith in
    IsSound-new c.loop.slots.items c.in_ok-free.free c.args.capacity c.args.first c.requires.capacity (rw last at c.loop.invariant.0) c.in_ok-free.ensures

pub returns : goal.returns
returns g c =
    let last : c.loop.counter ≡ c.args.capacity = omega arith in
    let same = rw last at c.loop.invariant.0 in
    rw same (new_slots c.args.capacity c.args.first)
