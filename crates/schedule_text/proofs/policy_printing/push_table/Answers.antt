use Rattle.std.proofs.Common.{string_bytes}
use Rattle.schedule_text.proofs.Joining.{on_ok, entries_from_first}
use Rattle.schedule_text.proofs.policy_printing.push_table.Goals as goal

pub returns : goal.returns
returns c =
    on_ok c.push_entries.result
    (entries_from_first c.args.table.now c.in-Some.first.now c.in-Some.rest.now (string_bytes c.args.text.now) (string_bytes c.push_entry.new.text) (string_bytes c.push_entries.new.text) c.in-Some.ensures.cases.0 c.in_ok-push_entry.ensures)
    c.push_entries.ensures
