use Rattle.std.proofs.Common.{◌≡◌, ◌+◌, get_or, sym, subst}
use Rattle.frame_link.specs.Deals.{Dealt}
use Rattle.frame_link.specs.Turns.{IsTurn}
use Rattle.frame_link.specs.declared.deal.Deal.{Deal}
use Rattle.frame_link.specs.declared.deal.Deal.TheVariants.{Forge}
use Rattle.frame_link.specs.declared.turn.Origin.TheVariants.{Forged}
use Rattle.frame_link.proofs.TurnLaws.{forged_turn}
use Rattle.frame_link.proofs.turn.next_turn.Goals as goal

pub returns-in-Forge : goal.returns-in-Forge
returns-in-Forge c =
    let frames = c.args.frames.now in
    let deals = c.args.deals.now in
    let at : Forge c.in-Forge.to c.in-Forge.frame ≡ get_or deals c.loop-i.i (Forge c.in-Forge.to c.in-Forge.frame) =
    subst (λ (d : Deal). d ≡ get_or deals c.loop-i.i d) c.in-Forge.is c.index-deals-i.is in
    subst (λ (given : Dealt). IsTurn frames deals given (record { origin = Forged c.loop-i.i; passed = c.loop-i.count; used = c.loop-i.i + 1 })) (sym c.loop-i.invariant)
    (forged_turn frames deals c.loop-i.count c.loop-i.i c.in-Forge.to c.in-Forge.frame c.loop-i-test.true at)
