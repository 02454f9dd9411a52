use Rattle.std.proofs.Common.{ℕ, ◌≡◌, ◌<◌, false, IsTrue, inl, inr, length, IfSome, sym, ◌∙◌, ap, subst, arith}
use Rattle.replica_core.specs.Rule.{request_key}
use Rattle.replica_journal.specs.Disk.{History}
use Rattle.replica_journal.specs.Calls.{is_calm, stop_in}
use Rattle.replica_journal.specs.Memory.{HeldDisk}
use Rattle.replica_journal.specs.Journaled.{Journaled}
use Rattle.replica_journal.specs.Taken.{Logs}
use Rattle.replica_journal.specs.Stopped.{KeepsStopped}
use Rattle.replica_journal.proofs.Unlogged.{logged_or_not}
use Rattle.replica_journal.proofs.Failing.{MemWrites, MemSyncs}
use Rattle.replica_journal.proofs.Restarts.{still_holds}
use Rattle.replica_journal.proofs.FailingIn.{fails_in}
use Rattle.replica_journal.proofs.stopping.KeptReplica+MemDisk.fail_in.Goals as goal

pub returns-in-None : goal.returns-in-None
returns-in-None c =
    let state = c.self.inside.replica in
    let place = c.self.inside.place in
    let message = c.args.message.now in
    let history = c.self.inside.disk.history in
    let plan = c.self.inside.disk.calls in
    let unshut : c.self.inside.is_shut ≡ false = ap (λ (v : Journaled HeldDisk). v.shut) c.self.view_is ∙ c.requires.open in
    let kept = c.self.invariant.kept unshut in
    let calm : IsTrue (is_calm c.self.inside.disk.calls) = subst (λ (v : Journaled HeldDisk). IsTrue (is_calm v.disk.calls)) (sym c.self.view_is) c.requires.calm in
    let there : c.self.inside.place.gate ≡ c.args.self.place.gate = ap (λ (v : Journaled HeldDisk). v.place.gate) c.self.view_is in
    let key = subst (λ (v : Journaled HeldDisk). IfSome (request_key c.args.message.now) (λ key. key.0 < length v.state.kept)) (sym c.self.view_is) c.requires.key in
    let armed : c.fail_in.new.self ≡ record { history = c.self.inside.disk.history; calls = stop_in c.self.inside.disk.calls c.args.call } =
    c.fail_in.ensures ∙ ap (λ (n : ℕ). record { history = c.self.inside.disk.history; calls = stop_in c.self.inside.disk.calls n }) c.from.ensures in
    let now : c.into_disk.result.history ≡ c.take-taken.new.self.disk.history = ap (λ (d : HeldDisk). d.history) c.into_disk.ensures.disk in
    subst (λ (v : Journaled HeldDisk). KeepsStopped v.state v.place c.args.message.now c.args.call c.into_disk.result.history) c.self.view_is
    (elim (logged_or_not c.args.message.now) [
      | inl logged ↦
          subst (λ (h : History). KeepsStopped c.self.inside.replica c.self.inside.place c.args.message.now c.args.call h) (sym now)
          (fails_in state place message c.args.call c.requires.first c.requires.last history plan kept calm
          (λ fits. record { logged = logged; lawful = c.requires.lawful; fits = fits; key = key })
          c.take-taken.new.self.disk c.take-taken.result (c.lack_in.ensures c.in-None.is)
          (subst (λ (h : HeldDisk). Logs MemWrites MemSyncs c.self.inside.place.gate c.args.message.now h c.take-taken.new.self.disk c.take-taken.result) armed
          (c.take-taken.ensures.calls unshut logged (omega (arith, there, c.requires.room logged)))))
      | inr unlogged ↦
          subst (λ (h : History). KeepsStopped c.self.inside.replica c.self.inside.place c.args.message.now c.args.call h)
          (sym (now ∙ ap (λ (d : HeldDisk). d.history) (ap (λ (v : Journaled HeldDisk). v.disk) (c.take-taken.ensures.unlogged_stays unlogged) ∙ armed)))
          (still_holds state place message history kept unlogged c.args.call)
    ])
