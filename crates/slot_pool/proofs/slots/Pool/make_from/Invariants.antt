use Rattle.std.proofs.Common.{◌≡◌, ◌≤◌, replicate, vec_capacity}
use Rattle.slot_pool.specs.declared.slots.Content.TheVariants.{Empty}
use Rattle.slot_pool.proofs.slots.Pool.make_from.Given as goal

abbrev pub invariant-loop : goal.invariant-loop
invariant-loop g l = (l.slots.items ≡ replicate l.counter (record { generation = l.first; content = Empty })) × (l.capacity ≤ vec_capacity l.slots)
