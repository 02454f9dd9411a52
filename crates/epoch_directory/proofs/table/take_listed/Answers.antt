use Rattle.epoch_directory.proofs.Lines.{listed_rest}
use Rattle.std.proofs.Common.{◌≡◌, Some}
use Rattle.std.specs.List.{position}
use Rattle.epoch_directory.specs.Tables.{is_line_of}
use Rattle.epoch_directory.proofs.table.take_listed.Goals as goal

pub returns-clause-rest : goal.returns-clause-rest
returns-clause-rest c = λ other apart.
    let there : Some c.in_ok-place.place ≡ position (is_line_of c.args.set.0) c.args.table.now.items = rw (← c.as_slice.ensures.value) c.in_ok-place.ensures in
    rw c.remove-policy.ensures.items (listed_rest c.args.table.now.items c.args.set.0 c.in_ok-place.place c.remove-policy.result other there apart)
