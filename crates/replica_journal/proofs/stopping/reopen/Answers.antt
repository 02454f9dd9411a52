use Rattle.std.proofs.Common.{◌≡◌, false, Some, Err, inl, inr, subst}
use Rattle.std.proofs.lemmas.Bool.{true≢false}
use Rattle.replica_journal.specs.declared.open_fault.OpenCause.{OpenCause}
use Rattle.replica_journal.specs.declared.opening.Opened.{Opened}
use Rattle.replica_journal.specs.Opening.{open_failed}
use Rattle.replica_journal.specs.Opened.{Opens}
use Rattle.replica_journal.proofs.Reopening.{undamaged_again}
use Rattle.replica_journal.proofs.stopping.reopen.Goals as goal

pub unreachable-requires : goal.unreachable-requires
unreachable-requires c =
    let history = c.args.disk.history in
    let after = c.in-Err.field-0.disk.history in
    elim c.in-DiskFault.is [
      | inl failed ↦ true≢false (subst (λ (k : OpenCause). open_failed {T = Opened} (Err k) ≡ false) failed (c.in-Err.ensures.counts.calm c.requires.calm).0)
      | inr damaged ↦
          undamaged_again c.args.number c.args.keys damaged.0 history (Some after)
          (subst (λ (k : OpenCause). Opens c.args.number c.args.keys (Some c.args.disk.history) (Some c.in-Err.field-0.disk.history) (Err k)) damaged.1 c.in-Err.ensures.opens) c.requires.sound
    ]
