use Rattle.std.proofs.Common.{◌≡◌, false, length, ap, sym, ◌∙◌, subst, arith}
use Rattle.replica_journal.specs.Disk.{History, IsLawfulHistory, bytes_of}
use Rattle.replica_journal.specs.Memory.{history_of, safe_part}
use Rattle.replica_journal.proofs.Crashes.{crashed_lawful, crashed_shorter}
use Rattle.replica_journal.proofs.crash.keep.Goals as goal

pub rewrite-requires-clause-lawful : goal.rewrite-requires-clause-lawful
rewrite-requires-clause-lawful c =
    let kept : history_of c.as_slice.result.now ≡ safe_part (history_of c.args.writes.now.items) = ap history_of c.as_slice.ensures.value ∙ c.drop_unsafe.ensures in
    subst IsLawfulHistory (sym kept) (crashed_lawful false (history_of c.args.writes.now.items) c.requires.lawful)

pub rewrite-requires-clause-space : goal.rewrite-requires-clause-space
rewrite-requires-clause-space c =
    let kept : history_of c.as_slice.result.now ≡ safe_part (history_of c.args.writes.now.items) = ap history_of c.as_slice.ensures.value ∙ c.drop_unsafe.ensures in
    omega (
      arith,
      ap (λ (h : History). length (bytes_of h)) kept,
      crashed_shorter false (history_of c.args.writes.now.items) c.requires.lawful,
      ap length c.requires.bytes,
    )

pub returns-else-new-clause-shorter : goal.returns-else-new-clause-shorter
returns-else-new-clause-shorter c =
    let kept : history_of c.as_slice.result.now ≡ safe_part (history_of c.args.writes.now.items) = ap history_of c.as_slice.ensures.value ∙ c.drop_unsafe.ensures in
    omega (
      arith,
      ap length c.rewrite.ensures,
      ap (λ (h : History). length (bytes_of h)) kept,
      crashed_shorter false (history_of c.args.writes.now.items) c.requires.lawful,
      ap length c.requires.bytes,
    )
