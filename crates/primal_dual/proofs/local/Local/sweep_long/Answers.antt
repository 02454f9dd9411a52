use Rattle.std.proofs.Common.{◌<◌, subst, sym, arith, rules, length}
use Rattle.std.proofs.Math.Nat.{mul-le-mul_right, le_trans}
use Rattle.std.proofs.lemmas.Int.{ints}
use Rattle.std.proofs.lemmas.List.Elements.{All-set}
use Rattle.primal_dual.specs.Tables.{AreKnown}
use Rattle.primal_dual.specs.Locals.{IsLocal, IsShown}
use Rattle.primal_dual.proofs.Steps.{still, wide}
use Rattle.primal_dual.proofs.local.Local.sweep_long.Goals as goal

pub sum_of-given-requires : goal.sum_of-given-requires
sum_of-given-requires c =
    let s = c.requires in
    let limit = c.args.self.now.limit in
    record {
      limit = limit;
      known = subst (λ n. AreKnown n c.terms.result.now) (sym s.others) c.terms.ensures.known;
      shown = s.small;
      light = c.terms.ensures.light;
      small = le_trans (mul-le-mul_right limit c.terms.ensures.size) s.lines.small;
    }

pub step-requires-clause-local : goal.step-requires-clause-local
step-requires-clause-local c =
    let inside : c.from-line.result < length c.loop-long.coordinates = search rules in
    wide _ _ c.requires.lines.near (c.loop-long.invariant.local c.from-line.result still inside)

pub loop-long-preserved : goal.loop-long-preserved
loop-long-preserved c =
    let limit = c.args.self.now.limit in
    let inside : c.from-line.result < length c.loop-long.coordinates = search rules in
    let was = c.loop-long.invariant.local c.from-line.result still inside in
    let next = c.step.ensures.kept limit was in
    let shown = c.shown.ensures limit next in
    record {
      local = All-set (IsLocal limit) c.loop-long.coordinates c.from-line.result c.step.new.self next c.loop-long.invariant.local;
      visible = All-set (IsShown limit) c.loop-long.shown c.from-line.result _ (omega (arith, ints, shown, c.requires.lines.near)) c.loop-long.invariant.visible;
    }
