use Rattle.std.proofs.Common.{◌≡◌, ◌+◌, ◌*◌, map, pos, get_or, arith}
use Rattle.std.specs.List.{filter}
use Rattle.std.proofs.lemmas.Result.{IfOk-weaker}
use Rattle.span_base.specs.DcSet.{has, no_centre as no_dc}
use Rattle.workload.specs.World.{rule_of}
use Rattle.slo_rules.specs.Rules.{is_write_near}
use Rattle.zero_one.specs.declared.rows.Row.{Row}
use Rattle.placement_rows.specs.Centres.{centres}
use Rattle.placement_rows.specs.Rows.{plus}
use Rattle.placement_strong.specs.Variables.{member_at, w_var}
use Rattle.placement_strong.specs.Rows.{writes}
use Rattle.placement_rows.proofs.NearCentres.{write-sets-long, write-set-at}
use Rattle.placement_strong.proofs.CentreSets.{near_places}
use Rattle.placement_strong.proofs.MadeRows.{made-quorum_row}
use Rattle.placement_strong.proofs.quorum_rows.writes.Goals as goal

pub bounds-writing-from : goal.bounds-writing-from
bounds-writing-from c = omega (arith, c.requires.number, write-sets-long c.args.world.now c.args.set.0 c.args.writing.now c.requires.writing)

pub returns : goal.returns
returns c =
    let w = c.args.world.now in
    let set = c.args.set.0 in
    let r = rule_of w set in
    let near = is_write_near w r (member_at w set c.args.a).dc.0 in
    let written = get_or c.args.writing.now c.from.result no_dc in
    let same = near_places w c.requires.strong.complete.few_centres near written (write-set-at w set c.args.writing.now c.requires.writing c.args.a c.from.result (omega arith) c.requires.number) in
    let first = c.first_write.result in
    IfOk-weaker c.quorum_row.result
    (λ row. row ≡ (let made : Row = record { entries = map (λ d. plus (first + d)) (filter (has written) (centres w)); bound = pos (2 * (rule_of w set).f + 1) } in made))
    (λ row. row ≡ writes w set c.args.a)
    (made-quorum_row w set first (w_var w set c.args.a) (filter (has written) (centres w)) (filter near (centres w)) (λ d. omega arith) same)
    c.quorum_row.ensures
