use Rattle.std.proofs.Common.{List, ap, sym, subst, ◌∙◌}
use Rattle.frame_link.specs.Frames.{Sent, with_frame}
use Rattle.frame_link.specs.Memory.{HeldDeals}
use Rattle.frame_link.specs.DealtLinks.{IsDealtLink, held_by}
use Rattle.frame_link.proofs.LinkLaws.{link_sends, holds_sent}
use Rattle.frame_link.proofs.dealt_link.DealtLink.send.Goals as goal

pub invariant_of-self-2 : goal.invariant_of-self-2
invariant_of-self-2 c =
    let l = c.self.inside in
    subst (λ (sent : List Sent). IsDealtLink sent l.origins.items l.passed l.deals.items l.used) (sym c.in_ok-push.ensures.ok)
    (link_sends l.frames l.origins.items l.passed l.deals.items l.used c.args.to c.args.frame.now c.self.invariant)

pub returns-clause-ok : goal.returns-clause-ok
returns-clause-ok c =
    let l = c.self.inside in
    ap (λ (sent : List Sent). held_by sent l.origins.items l.passed l.deals.items l.used) c.in_ok-push.ensures.ok
    ∙ holds_sent l.frames l.origins.items l.passed l.deals.items l.used c.args.to c.args.frame.now c.self.invariant
    ∙ ap (λ (held : HeldDeals). record held { sent = with_frame held.sent c.args.to c.args.frame.now }) c.self.view_is
