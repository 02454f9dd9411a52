use Rattle.std.proofs.Common.{◌+◌, ◌-◌, ◌^◌, ◌<◌, ◌∙◌, ap, set, None}
use Rattle.slot_pool.specs.Slots.{live_count}
use Rattle.branch_solver.specs.Frames.{take_count}
use Rattle.branch_solver.proofs.Stacking.{inside, taken, pops}
use Rattle.branch_solver.proofs.frames.Frames.pop.Goals as goal

pub set-requires : goal.set-requires
set-requires c =
    let few : take_count c.self.inside.pool + live_count c.self.inside.pool < 2 ^ 32 - 1 = rw (← c.self.view_is) at c.requires in
    rw c.from.ensures (inside (taken c.self.invariant c.in_ok-self.was c.take.ensures.value c.in_ok-frame.was few))

pub invariant_of-self-2 : goal.invariant_of-self-2
invariant_of-self-2 c =
    let few : take_count c.self.inside.pool + live_count c.self.inside.pool < 2 ^ 32 - 1 = rw (← c.self.view_is) at c.requires in
    let fixed = c.set.ensures ∙ ap (λ var. set c.self.inside.fixed var None) c.from.ensures in
    (pops c.self.inside.deepest (taken c.self.invariant c.in_ok-self.was c.take.ensures.value c.in_ok-frame.was few) c.take.ensures.slots fixed).0

pub returns-clause-some : goal.returns-clause-some
returns-clause-some c =
    let few : take_count c.self.inside.pool + live_count c.self.inside.pool < 2 ^ 32 - 1 = rw (← c.self.view_is) at c.requires in
    let fixed = c.set.ensures ∙ ap (λ var. set c.self.inside.fixed var None) c.from.ensures in
    let popped = pops c.self.inside.deepest (taken c.self.invariant c.in_ok-self.was c.take.ensures.value c.in_ok-frame.was few) c.take.ensures.slots fixed in
    rw (← c.self.view_is) popped.1
