use Rattle.std.proofs.Common.{◌∙◌, sym}
use Rattle.strong_proxy.proofs.Taken.{IsTaken, taken}
use Rattle.strong_proxy.proofs.call.StrongCall.take.Goals as goal

-- what is known after an answer that counts
after : (c : goal.After-take_answer) → IsTaken c.take_answer.result c.self.inside.state c.take_answer.new.self c.take_answer.new.out
after c =
    taken c.take_answer.result c.self.inside.state c.take_answer.new.self c.args.out.now c.take_answer.new.out c.args.message.now c.args.view.now c.args.seen
    c.take_answer.ensures.ok c.take_answer.ensures.err c.self.invariant c.requires.lawful c.requires.view (sym c.counts.ensures ∙ c.if-counts.true)

pub invariant_of-self : goal.invariant_of-self
invariant_of-self c = (after c).call

pub returns-then-counts-clause-lawful : goal.returns-then-counts-clause-lawful
returns-then-counts-clause-lawful c = (after c).lawful

pub returns-then-counts-clause-posts : goal.returns-then-counts-clause-posts
returns-then-counts-clause-posts c = rw (← c.self.view_is) (after c).sent

pub returns-then-counts-clause-key : goal.returns-then-counts-clause-key
returns-then-counts-clause-key c = rw (← c.self.view_is) (after c).key

pub returns-then-counts-clause-ends : goal.returns-then-counts-clause-ends
returns-then-counts-clause-ends c = rw (← c.self.view_is) (after c).ends
