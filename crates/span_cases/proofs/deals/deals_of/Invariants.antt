use Rattle.std.specs.List.{All}
use Rattle.frame_link.specs.Deals.{IsShortDeal}
use Rattle.span_cases.proofs.deals.deals_of.Given as goal

abbrev pub invariant-loop-word : goal.invariant-loop-word
invariant-loop-word l = All IsShortDeal l.deals.items
