use Rattle.std.proofs.Common.{◌≡◌, ℕ, Bool, ◌∙◌, true, false, cond, sym, ap, arith}
use Rattle.std.specs.List.{find}
use Rattle.workload.specs.World.{centre_count}
use Rattle.zero_one.specs.Rows.{bit_of}
use Rattle.placement_rows.specs.Centres.{centres}
use Rattle.placement_relay.specs.Relay.{q}
use Rattle.placement_relay.specs.Placed.{or_first}
use Rattle.placement_rows.proofs.Loops.{first_hit, first_miss}
use Rattle.placement_relay.proofs.Members.{relay-variables, hop-low}
use Rattle.placement_relay.proofs.decoding.chosen_parent.Goals as goal

pub bounds-x-from : goal.bounds-x-from
bounds-x-from c =
    omega (arith, c.hop.ensures.variable, c.requires.bits, relay-variables c.args.world.now c.args.set.0, hop-low c.args.world.now c.args.set.0 c.args.a c.args.d c.args.d c.requires.number c.requires.centre c.requires.centre)

pub bounds-x-from-in-loop-p : goal.bounds-x-from-in-loop-p
bounds-x-from-in-loop-p c =
    omega (arith, c.hop-in-loop-p.ensures.variable, c.requires.bits, relay-variables c.args.world.now c.args.set.0, hop-low c.args.world.now c.args.set.0 c.args.a c.loop-p.p c.args.d c.requires.number (omega arith) c.requires.centre)

pub returns-then-x-from-2 : goal.returns-then-x-from-2
returns-then-x-from-2 c =
    let w = c.args.world.now in
    let comes : ℕ → Bool = λ p. bit_of c.args.x.now (q w c.args.set.0 c.args.a p c.args.d) in
    let own : bit_of c.args.x.now (q w c.args.set.0 c.args.a c.args.d c.args.d) ≡ false = sym (ap (bit_of c.args.x.now) (let e : c.from.result ≡ q w c.args.set.0 c.args.a c.args.d c.args.d = omega (arith, c.hop.ensures.variable) in e)) ∙ c.if-x-from.false in
    let is : bit_of c.args.x.now (q w c.args.set.0 c.args.a c.loop-p.p c.args.d) ≡ true = sym (ap (bit_of c.args.x.now) (let e : c.from-in-loop-p.result ≡ q w c.args.set.0 c.args.a c.loop-p.p c.args.d = omega (arith, c.hop-in-loop-p.ensures.variable) in e)) ∙ c.if-x-from-2.true in
    sym (
    ap (λ b. cond b c.args.d (or_first (find comes (centres w)))) own
    ∙ ap or_first (c.loop-p.invariant ∙ first_hit comes c.loop-p.p (centre_count w) (omega arith) is)
    )

pub loop-p-preserved : goal.loop-p-preserved
loop-p-preserved c =
    let w = c.args.world.now in
    let is : bit_of c.args.x.now (q w c.args.set.0 c.args.a c.loop-p.p c.args.d) ≡ false = sym (ap (bit_of c.args.x.now) (let e : c.from-in-loop-p.result ≡ q w c.args.set.0 c.args.a c.loop-p.p c.args.d = omega (arith, c.hop-in-loop-p.ensures.variable) in e)) ∙ c.if-x-from-2.false in
    c.loop-p.invariant ∙ first_miss (λ p. bit_of c.args.x.now (q w c.args.set.0 c.args.a p c.args.d)) c.loop-p.p (centre_count w) (omega arith) is
