use Rattle.std.proofs.Common.{string_bytes}
use Rattle.schedule_text.proofs.Joining.{on_ok, parents_from}
use Rattle.schedule_text.proofs.policy_printing.push_parents.Goals as goal

pub returns : goal.returns
returns c =
    on_ok c.push_later.result
    (parents_from c.args.hops.now c.in-Some.first.now c.in-Some.rest.now (string_bytes c.args.text.now) (string_bytes c.write.new.self) (string_bytes c.push_later.new.text) c.in-Some.ensures.cases.0 c.in_ok-write.ensures.bytes)
    c.push_later.ensures
