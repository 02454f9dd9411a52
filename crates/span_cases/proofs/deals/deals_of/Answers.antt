use Rattle.std.proofs.Common.{subst, Option}
use Rattle.std.specs.Option.{IfSome}
use Rattle.frame_link.specs.declared.deal.Deal.{Deal}
use Rattle.frame_link.specs.Deals.{IsShortDeal}
use Rattle.span_cases.proofs.Short.{none_short, more_short}
use Rattle.span_cases.proofs.deals.deals_of.Goals as goal

pub loop-word-init : goal.loop-word-init
loop-word-init c = none_short _ c.new-deals.ensures.items

pub loop-word-preserved : goal.loop-word-preserved
loop-word-preserved c =
    more_short c.loop-word.deals.items _ c.in-Some-2.deal c.in_ok-push-in-Some-2.ensures.items c.loop-word.invariant
    (subst (λ (o : Option Deal). IfSome o IsShortDeal) c.in-Some-2.is c.in_ok-deal.ensures)

pub returns : goal.returns
returns c = c.loop-word.invariant
