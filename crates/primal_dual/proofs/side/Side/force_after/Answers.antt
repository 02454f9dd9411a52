use Rattle.std.proofs.Common.{◌≡◌, ap, subst, sym, length, ◌∙◌}
use Rattle.std.specs.List.{All}
use Rattle.std.proofs.Math.Nat.{mul-le-mul_right, le_trans}
use Rattle.primal_dual.specs.Locals.{IsShown}
use Rattle.primal_dual.specs.Tables.{AreKnown}
use Rattle.primal_dual.specs.Sides.{SideView}
use Rattle.primal_dual.proofs.side.Side.force_after.Goals as goal

pub sum_of-requires : goal.sum_of-requires
sum_of-requires c =
    let limit = c.self.inside.local.limit in
    let others : c.self.inside.lines.others ≡ length c.args.others.now = ap (λ (v : SideView). v.sizes.others) c.self.view_is ∙ sym c.requires.others in
    let same : c.self.inside.local.limit ≡ c.args.self.now.limit = ap (λ (v : SideView). v.limit) c.self.view_is in
    record {
      limit = limit;
      known = subst (λ n. AreKnown n c.terms.result.now) others c.terms.ensures.known;
      shown = subst (λ n. All (IsShown n) c.args.others.now) (sym same) c.requires.small;
      light = c.terms.ensures.light;
      small = le_trans (mul-le-mul_right limit c.terms.ensures.size) c.self.invariant.lines.small;
    }
