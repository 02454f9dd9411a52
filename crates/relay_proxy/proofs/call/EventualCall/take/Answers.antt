use Rattle.std.proofs.Common.{sym, subst}
use Rattle.std.proofs.lemmas.Result.{on_ok_weaker}
use Rattle.wire_msg.specs.declared.outputs.Outputs.{Outputs}
use Rattle.wire_msg.specs.Posts.{ArePostsOf}
use Rattle.relay_proxy.proofs.Addressed.{yes_are, gone_are}
use Rattle.relay_proxy.proofs.call.EventualCall.take.Goals as goal

pub returns-in-Yes-clause-posts : goal.returns-in-Yes-clause-posts
returns-in-Yes-clause-posts c =
    subst (λ (o : Outputs). ArePostsOf c.args.self.now.key c.args.self.now.phase.asked o.posts) (sym c.take_yes.ensures.made.1)
    (yes_are c.args.self.now.stage c.args.self.now c.in-Yes.tag c.in-Yes.replica)

pub returns-in-Gone-clause-posts : goal.returns-in-Gone-clause-posts
returns-in-Gone-clause-posts c =
    on_ok_weaker c.take_gone.result
    (λ made. subst (λ (o : Outputs). ArePostsOf c.args.self.now.key c.args.self.now.phase.asked o.posts) (sym made.1)
    (gone_are c.args.self.now.stage c.args.self.now c.in-Gone.tag c.in-Gone.replica c.in-Gone.epoch))
    c.take_gone.ensures.ok
