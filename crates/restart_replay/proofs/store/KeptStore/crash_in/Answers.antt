use Rattle.std.proofs.Common.{arith}
use Rattle.restart_replay.proofs.Crashing.{strange_key}
use Rattle.restart_replay.proofs.store.KeptStore.crash_in.Goals as goal

pub returns-then-not-is_for_key_below-clause-ends : goal.returns-then-not-is_for_key_below-clause-ends
returns-then-not-is_for_key_below-clause-ends c =
    let past = c.if-replica-self.false in
    strange_key c.args.self.now c.args.replica c.args.message.now c.args.call c.args.is_new c.none-then-not-is_for_key_below.result c.requires.steady (omega (arith, past))
    (λ p. let e = c.if-not-is_for_key_below.ensures.1 p in absurd (cc)) c.none-then-not-is_for_key_below.ensures
