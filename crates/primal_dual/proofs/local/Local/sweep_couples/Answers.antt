use Rattle.std.proofs.Common.{◌<◌, pos, ap, arith, rules, length, get_or}
use Rattle.std.proofs.lemmas.Int.{ints}
use Rattle.std.proofs.lemmas.List.Elements.{All-set}
use Rattle.primal_dual.specs.Locals.{IsLocal, IsShown}
use Rattle.primal_dual.proofs.Steps.{still, wide, half_small}
use Rattle.primal_dual.proofs.local.Local.sweep_couples.Goals as goal

pub step-requires-clause-local : goal.step-requires-clause-local
step-requires-clause-local c =
    let inside : c.from-line.result < length c.loop-couple.coordinates = search rules in
    wide _ _ c.requires.lines.near (c.loop-couple.invariant.local c.from-line.result still inside)

pub overflow_sub-coordinate : goal.overflow_sub-coordinate
overflow_sub-coordinate c =
    let couple = get_or c.couples-couple-items.result.now c.loop-couple.couple-index (record { line = 0; plus = 0; minus = 0 }) in
    let known = c.couples-couple-items.ensures c.loop-couple.couple-index (record { line = 0; plus = 0; minus = 0 }) c.loop-couple-test.true in
    let in_plus : c.from.result < length c.args.others.now = omega (arith, known.plus, c.requires.others, c.from.ensures) in
    let in_minus : c.from-in-loop-couple.result < length c.args.others.now = omega (arith, known.minus, c.requires.others, c.from-in-loop-couple.ensures) in
    let plus = c.requires.small c.from.result (pos 0) in_plus in
    let minus = c.requires.small c.from-in-loop-couple.result (pos 0) in_minus in
    let inside : c.from-line.result < length c.loop-couple.coordinates = search rules in
    let local = c.loop-couple.invariant.local c.from-line.result still inside in
    omega (arith, ints, plus, minus, c.requires.lines.near, local.force)

pub step-requires-clause-step : goal.step-requires-clause-step
step-requires-clause-step c =
    let known = c.couples-couple-items.ensures c.loop-couple.couple-index (record { line = 0; plus = 0; minus = 0 }) c.loop-couple-test.true in
    let in_plus : c.from.result < length c.args.others.now = omega (arith, known.plus, c.requires.others, c.from.ensures) in
    let in_minus : c.from-in-loop-couple.result < length c.args.others.now = omega (arith, known.minus, c.requires.others, c.from-in-loop-couple.ensures) in
    let plus = c.requires.small c.from.result (pos 0) in_plus in
    let minus = c.requires.small c.from-in-loop-couple.result (pos 0) in_minus in
    let inside : c.from-line.result < length c.loop-couple.coordinates = search rules in
    let local = c.loop-couple.invariant.local c.from-line.result still inside in
    half_small (get_or c.loop-couple.coordinates c.from-line.result still).force (get_or c.args.others.now c.from.result (pos 0)) (get_or c.args.others.now c.from-in-loop-couple.result (pos 0)) c.half.result local.force (omega (arith, plus, c.requires.lines.near)) (omega (arith, minus, c.requires.lines.near)) c.half.ensures

pub bounds-shown-line : goal.bounds-shown-line
bounds-shown-line c =
    let inside : c.from-line.result < length c.loop-couple.coordinates = search rules in
    let shown = ap length c.as_mut_slice-shown.ensures.value in
    let coordinates = ap length c.as_mut_slice-coordinates.ensures.value in
    omega (arith, inside, shown, coordinates, c.loop-couple.auto.shown, c.loop-couple.auto.coordinates, c.self.invariant.shown_count)

pub loop-couple-preserved : goal.loop-couple-preserved
loop-couple-preserved c =
    let limit = c.args.self.now.limit in
    let inside : c.from-line.result < length c.loop-couple.coordinates = search rules in
    let was = c.loop-couple.invariant.local c.from-line.result still inside in
    let next = c.step.ensures.kept limit was in
    let shown = c.shown.ensures limit next in
    record {
      local = All-set (IsLocal limit) c.loop-couple.coordinates c.from-line.result c.step.new.self next c.loop-couple.invariant.local;
      visible = All-set (IsShown limit) c.loop-couple.shown c.from-line.result _ (omega (arith, ints, shown, c.requires.lines.near)) c.loop-couple.invariant.visible;
    }
