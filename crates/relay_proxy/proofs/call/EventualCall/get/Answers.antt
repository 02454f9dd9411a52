use Rattle.std.proofs.Common.{sym, subst, ◌∙◌}
use Rattle.wire_msg.specs.Lawful.{AreLawful}
use Rattle.call_phase.proofs.Sent.{posts_to-lawful}
use Rattle.relay_proxy.proofs.Addressed.{reads_are}
use Rattle.relay_proxy.proofs.call.EventualCall.get.Goals as goal

pub returns-clause-lawful : goal.returns-clause-lawful
returns-clause-lawful c =
    subst AreLawful (sym (c.from_vec.ensures ∙ c.in_ok-posts.ensures))
    (posts_to-lawful _ _ (c.requires.tag, (c.requires.view.key, (c.requires.view.epoch, tt))))

pub returns-clause-posts : goal.returns-clause-posts
returns-clause-posts c =
    rw (c.from_vec.ensures, c.in_ok-posts.ensures, c.asked-asked.ensures) (reads_are c.args.tag c.args.at.0 c.args.view.now c.args.any c.requires.view.policy)
