use Rattle.std.proofs.Common.{◌≡◌, List, drop, Option, Some, ap, subst, ◌∙◌}
use Rattle.frame_link.specs.Frames.{Sent, IsHonest, IsFaithful, answer_of}
use Rattle.frame_link.specs.Deals.{dealt}
use Rattle.frame_link.specs.Turns.{IsTurn, answer_from}
use Rattle.frame_link.specs.declared.deal.Deal.{Deal}
use Rattle.frame_link.specs.declared.turn.Turn.{Turn}
use Rattle.frame_link.specs.Memory.{HeldDeals, next_of, after_dealt}
use Rattle.frame_link.proofs.LinkLaws.{link_answers, holds_answer, is_faithful_answer}
use Rattle.frame_link.proofs.TurnLaws.{is_honest_answer}
use Rattle.frame_link.proofs.dealt_link.DealtLink.next.Goals as goal

pub invariant_of-self-2 : goal.invariant_of-self-2
invariant_of-self-2 c =
    let l = c.self.inside in
    let turn : Turn = c.next_turn-turn.result in
    let given : IsTurn l.frames l.deals.items (dealt l.frames l.passed (drop l.used l.deals.items)) turn =
    subst (λ (deals : List Deal). IsTurn l.frames deals (dealt l.frames l.passed (drop l.used deals)) turn) c.deref.ensures.value c.next_turn-turn.ensures in
    link_answers l.frames l.origins.items l.passed l.deals.items l.used turn c.push.new.self.items c.self.invariant given c.in_ok-push.ensures.items

pub returns-clause-ok : goal.returns-clause-ok
returns-clause-ok c =
    let l = c.self.inside in
    let turn : Turn = c.next_turn-turn.result in
    let given : IsTurn l.frames l.deals.items (dealt l.frames l.passed (drop l.used l.deals.items)) turn =
    subst (λ (deals : List Deal). IsTurn l.frames deals (dealt l.frames l.passed (drop l.used deals)) turn) c.deref.ensures.value c.next_turn-turn.ensures in
    holds_answer l.frames l.origins.items l.passed l.deals.items l.used turn c.push.new.self.items given c.in_ok-push.ensures.items
    ∙ ap (λ (held : HeldDeals). after_dealt held (next_of held)) c.self.view_is

pub returns-clause-honestly : goal.returns-clause-honestly
returns-clause-honestly c =
    let l = c.self.inside in
    let turn : Turn = c.next_turn-turn.result in
    let answer : Option Sent = answer_of c.give.new.buf c.give.result in
    let from : answer ≡ answer_from l.frames l.deals.items turn.origin =
    c.give.ensures.gives ∙ ap (λ (deals : List Deal). answer_from l.frames deals turn.origin) c.deref-2.ensures.value in
    subst (λ (held : HeldDeals). IsHonest (Some held.honest) (Some held.sent) answer) c.self.view_is (is_honest_answer l.frames l.deals.items turn.origin answer from)

pub returns-clause-faithfully : goal.returns-clause-faithfully
returns-clause-faithfully c =
    let l = c.self.inside in
    let turn : Turn = c.next_turn-turn.result in
    let given : IsTurn l.frames l.deals.items (dealt l.frames l.passed (drop l.used l.deals.items)) turn =
    subst (λ (deals : List Deal). IsTurn l.frames deals (dealt l.frames l.passed (drop l.used deals)) turn) c.deref.ensures.value c.next_turn-turn.ensures in
    let answer : Option Sent = answer_of c.give.new.buf c.give.result in
    let from : answer ≡ answer_from l.frames l.deals.items turn.origin =
    c.give.ensures.gives ∙ ap (λ (deals : List Deal). answer_from l.frames deals turn.origin) c.deref-2.ensures.value in
    subst (λ (held : HeldDeals). IsFaithful (Some held.faithful) (Some held.sent) (Some held.answers) answer) c.self.view_is
    (is_faithful_answer l.frames l.origins.items l.passed l.deals.items l.used answer c.self.invariant (from ∙ given.answer))
