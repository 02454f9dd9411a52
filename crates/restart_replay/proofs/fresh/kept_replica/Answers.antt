use Rattle.std.proofs.Common.{◌≡◌, false, Some, Err, inl, inr, subst}
use Rattle.std.proofs.lemmas.Bool.{true≢false}
use Rattle.replica_journal.specs.declared.open_fault.OpenCause.{OpenCause}
use Rattle.replica_journal.specs.declared.opening.Opened.{Opened}
use Rattle.replica_journal.specs.Opening.{open_failed}
use Rattle.replica_journal.specs.Opened.{Opens}
use Rattle.restart_replay.proofs.EmptyDisks.{fresh_calm, fresh_undamaged}
use Rattle.restart_replay.proofs.fresh.kept_replica.Goals as goal

pub returns-in-Ok-clause-calm : goal.returns-in-Ok-clause-calm
returns-in-Ok-clause-calm c = (c.in-Ok.ensures.counts.calm (fresh_calm c.make-disk.result c.new.result.items c.make-disk.ensures c.new.ensures.items)).1

pub unreachable-requires : goal.unreachable-requires
unreachable-requires c =
    let disk = c.make-disk.result in
    let after = c.in-Err.field-0.disk.history in
    elim c.in-DiskFault.is [
      | inl failed ↦
          true≢false
          (subst (λ (k : OpenCause). open_failed {T = Opened} (Err k) ≡ false) failed (c.in-Err.ensures.counts.calm (fresh_calm c.make-disk.result c.new.result.items c.make-disk.ensures c.new.ensures.items)).0)
      | inr damaged ↦
          fresh_undamaged c.args.number c.args.keys damaged.0 disk c.new.result.items (Some after) c.make-disk.ensures
          (subst (λ (k : OpenCause). Opens c.args.number c.args.keys (Some c.make-disk.result.history) (Some c.in-Err.field-0.disk.history) (Err k)) damaged.1 c.in-Err.ensures.opens)
    ]
