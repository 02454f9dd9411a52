use Rattle.std.proofs.Common.{arith, ◌∙◌}
use Rattle.cert_checker.proofs.Trails.{Deepest, deepest, Turned, turned, low_from, high_from}
use Rattle.cert_checker.proofs.turns.Path.turn_back.Goals as goal

pub set-requires : goal.set-requires
set-requires c =
    let d : Deepest c.loop-self.self-inside.turns.items c.loop-self.self-inside.free c.loop-self.self-inside.fixed c.index-turn.result.now = deepest c.loop-self.self-inside.turns.items c.loop-self.self-inside.free c.loop-self.self-inside.fixed c.index-turn.result.now c.loop-self.invariant.0 (omega arith) c.index-turn.ensures in
    omega (arith, d.inside)

pub set-requires-in-loop-self : goal.set-requires-in-loop-self
set-requires-in-loop-self c =
    let d : Deepest c.loop-self.self-inside.turns.items c.loop-self.self-inside.free c.loop-self.self-inside.fixed c.index-turn.result.now = deepest c.loop-self.self-inside.turns.items c.loop-self.self-inside.free c.loop-self.self-inside.fixed c.index-turn.result.now c.loop-self.invariant.0 (omega arith) c.index-turn.ensures in
    omega (arith, d.inside)

pub invariant_of-self-then-not-turn : goal.invariant_of-self-then-not-turn
invariant_of-self-then-not-turn c =
    let t : Turned c.loop-self.self-inside.turns.items c.loop-self.self-inside.free c.loop-self.self-inside.fixed c.index-turn.result.now = turned c.loop-self.self-inside.turns.items c.loop-self.self-inside.free c.loop-self.self-inside.fixed c.index-turn.result.now c.loop-self.invariant.0 (omega arith) c.index-turn.ensures (low_from c.index-turn.result.now.bit c.if-not-turn.true) in
    rw (c.set.ensures, c.from-var.ensures) t.holds

pub loop-self-preserved : goal.loop-self-preserved
loop-self-preserved c =
    let d : Deepest c.loop-self.self-inside.turns.items c.loop-self.self-inside.free c.loop-self.self-inside.fixed c.index-turn.result.now = deepest c.loop-self.self-inside.turns.items c.loop-self.self-inside.free c.loop-self.self-inside.fixed c.index-turn.result.now c.loop-self.invariant.0 (omega arith) c.index-turn.ensures in (
      rw (c.set-in-loop-self.ensures, c.from-var.ensures) d.above,
      c.loop-self.invariant.1,
      c.loop-self.invariant.2 ∙ d.back (high_from c.index-turn.result.now.bit c.if-not-turn.false),
    )
