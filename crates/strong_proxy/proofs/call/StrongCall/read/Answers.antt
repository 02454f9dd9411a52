use Rattle.std.proofs.Common.{lit<, lit≤}
use Rattle.strong_proxy.specs.declared.state.Work.TheVariants.{ToRead}
use Rattle.strong_proxy.proofs.Taken.{IsOpened, opened_lawful}
use Rattle.strong_proxy.proofs.call.StrongCall.read.Goals as goal

-- what is known of the call that opened
opened : (c : goal.In_ok-open) → IsOpened c.args.view.now (record { state = c.in_ok-open.field-0; out = c.open.new.out })
opened c =
    opened_lawful ToRead c.zero.result c.args.tag c.args.at c.args.view.now (record { state = c.in_ok-open.field-0; out = c.open.new.out })
    c.in_ok-open.ensures.ok c.requires.tag c.requires.phase c.requires.view (rw c.zero.ensures (lit< tt)) (lit≤ tt)

pub invariant_of-result : goal.invariant_of-result
invariant_of-result c = (opened c).call

pub returns-clause-lawful : goal.returns-clause-lawful
returns-clause-lawful c = (opened c).posts

pub returns-clause-posts : goal.returns-clause-posts
returns-clause-posts c = (opened c).sent

pub returns-clause-key : goal.returns-clause-key
returns-clause-key c = (opened c).key
