use Rattle.std.proofs.Common.{◌≤◌, length, arith}
use Rattle.strong_proxy.specs.declared.state.Work.TheVariants.{ToWrite}
use Rattle.strong_proxy.proofs.Taken.{IsOpened, opened_lawful}
use Rattle.strong_proxy.proofs.call.StrongCall.write.Goals as goal

-- what is known of the call that opened
opened : (c : goal.In_ok-open) → IsOpened c.args.view.now (record { state = c.in_ok-open.field-0; out = c.open.new.out })
opened c =
    let short : length c.in_ok-clone.field-0 ≤ 4096 = rw c.in_ok-clone.ensures.cases (omega arith) in
    opened_lawful (ToWrite c.in_ok-clone.field-0) c.args.stamp c.args.tag c.args.at c.args.view.now (record { state = c.in_ok-open.field-0; out = c.open.new.out })
    c.in_ok-open.ensures.ok c.requires.tag c.requires.phase c.requires.view c.requires.stamp short

pub invariant_of-result : goal.invariant_of-result
invariant_of-result c = (opened c).call

pub returns-clause-lawful : goal.returns-clause-lawful
returns-clause-lawful c = (opened c).posts

pub returns-clause-posts : goal.returns-clause-posts
returns-clause-posts c = (opened c).sent

pub returns-clause-key : goal.returns-clause-key
returns-clause-key c = (opened c).key
