-- A list of deals whose forged frames are short, one deal after another.
use Rattle.std.proofs.Common.{◌≡◌, List, [], ◌∷◌, ◌++◌, sym, subst}
use Rattle.std.specs.List.{All}
use Rattle.std.proofs.lemmas.List.Elements.{All-nil, All-push}
use Rattle.frame_link.specs.declared.deal.Deal.{Deal}
use Rattle.frame_link.specs.Deals.{IsShortDeal}

pub none_short : (deals : List Deal) → deals ≡ [] → All IsShortDeal deals
none_short deals none = subst (All IsShortDeal) (sym none) (All-nil IsShortDeal)

pub more_short : (old new : List Deal) (deal : Deal) → new ≡ old ++ deal ∷ [] → All IsShortDeal old → IsShortDeal deal → All IsShortDeal new
more_short old new deal more short one = subst (All IsShortDeal) (sym more) (All-push IsShortDeal old deal short one)
