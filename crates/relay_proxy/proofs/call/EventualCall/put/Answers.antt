use Rattle.std.proofs.Common.{sym, subst, ◌∙◌, arith}
use Rattle.wire_msg.specs.Lawful.{AreLawful}
use Rattle.relay_proxy.proofs.Addressed.{pushes_are}
use Rattle.relay_proxy.proofs.Sendable.{pushes_lawful}
use Rattle.relay_proxy.proofs.call.EventualCall.put.Goals as goal

pub returns-clause-lawful : goal.returns-clause-lawful
returns-clause-lawful c =
    subst AreLawful (sym (c.from_vec.ensures ∙ c.in_ok-posts.ensures))
    (pushes_lawful _ _ c.args.view.now _ _ _ c.requires.tag c.requires.view.key c.requires.stamp (omega arith))

pub returns-clause-posts : goal.returns-clause-posts
returns-clause-posts c =
    rw (c.from_vec.ensures, c.in_ok-posts.ensures) (pushes_are c.args.tag c.args.at.0 c.args.view.now c.args.stamp c.args.value.now (omega arith))
