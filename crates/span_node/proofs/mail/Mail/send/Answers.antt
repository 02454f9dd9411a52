use Rattle.std.proofs.Common.{refl}
use Rattle.span_node.proofs.Sending.{mail_more}
use Rattle.span_node.proofs.mail.Mail.send.Goals as goal

pub returns-in-Ok-clause-mail : goal.returns-in-Ok-clause-mail
returns-in-Ok-clause-mail g c =
    mail_more c.args.self.now _ c.args.wire.now.posts c.args.number c.in_ok-to.to c.frame.new.frame.items c.as_slice.result.now c.requires.mail c.requires.next c.in_ok-to.ensures.gives
    c.as_slice.ensures.value refl refl c.in_ok-add.ensures
