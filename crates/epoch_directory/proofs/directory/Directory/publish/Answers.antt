use Rattle.std.proofs.Common.{◌≡◌, ◌==◌, false, None, sym, arith}
use Rattle.std.proofs.lemmas.Bool.Decides.{nat_tests}
use Rattle.epoch_directory.specs.State.{latest}
use Rattle.epoch_directory.specs.Tables.{table_fault}
use Rattle.epoch_directory.proofs.Keeping.{table_after_whole}
use Rattle.epoch_directory.proofs.Endings.{ends_faulty}
use Rattle.epoch_directory.proofs.directory.Directory.publish.Goals as goal

pub open-requires-clause-table : goal.open-requires-clause-table
open-requires-clause-table c =
    let right : table_fault c.args.self.now c.args.table.items ≡ None = sym (rw (← c.as_slice.ensures.value) c.in_default.ensures) in
    rw c.in_ok-next.ensures (table_after_whole c.args.self.now c.args.table.items c.epochs-latest.ensures.kept c.requires right)

pub returns-in-Some-clause-ends : goal.returns-in-Some-clause-ends
returns-in-Some-clause-ends c =
    let room : (latest c.args.self.now == 1000) ≡ false = grind (arith, nat_tests) in
    ends_faulty c.args.self.now c.args.table.items c.in-Some.fault room (rw (← c.as_slice.ensures.value) c.in-Some.ensures)
