use Rattle.std.proofs.Common.{◌≡◌, ◌+◌, ◌*◌, map, pos, get_or, arith}
use Rattle.std.specs.List.{filter}
use Rattle.std.proofs.lemmas.Result.{IfOk-weaker}
use Rattle.span_base.specs.DcSet.{has, no_centre as no_dc}
use Rattle.workload.specs.World.{rule_of}
use Rattle.slo_rules.specs.Rules.{is_read_near, is_write_near}
use Rattle.zero_one.specs.declared.rows.Row.{Row}
use Rattle.placement_rows.specs.Centres.{centres}
use Rattle.placement_rows.specs.Rows.{plus}
use Rattle.placement_strong.specs.Variables.{member_at, u_var}
use Rattle.placement_strong.specs.Rows.{meets, meeting_places}
use Rattle.placement_rows.proofs.NearCentres.{write-sets-long, write-set-at}
use Rattle.placement_strong.proofs.CentreSets.{common_places}
use Rattle.placement_strong.proofs.MadeRows.{made-quorum_row}
use Rattle.placement_strong.proofs.quorum_rows.meets.Goals as goal

pub bounds-writing-from : goal.bounds-writing-from
bounds-writing-from c = omega (arith, c.requires.writer, write-sets-long c.args.world.now c.args.set.0 c.args.writing.now c.requires.writing)

pub returns : goal.returns
returns c =
    let w = c.args.world.now in
    let set = c.args.set.0 in
    let r = rule_of w set in
    let reads = is_read_near w r (member_at w set c.args.a).dc.0 in
    let writes = is_write_near w r (member_at w set c.args.b).dc.0 in
    let written = write-set-at w set c.args.writing.now c.requires.writing c.args.b c.from.result (omega arith) c.requires.writer in
    let same = common_places w c.requires.strong.complete.few_centres reads writes c.args.reading.now (get_or c.args.writing.now c.from.result no_dc) c.meet-places.result c.requires.reading written c.meet-places.ensures.set in
    let first = c.first_meeting.result in
    IfOk-weaker c.quorum_row.result
    (λ row. row ≡ (let made : Row = record { entries = map (λ d. plus (first + d)) (filter (has c.meet-places.result) (centres w)); bound = pos (2 * (rule_of w set).f + 1) } in made))
    (λ row. row ≡ meets w set c.args.a c.args.b)
    (made-quorum_row w set first (u_var w set c.args.a c.args.b) (filter (has c.meet-places.result) (centres w)) (meeting_places w set c.args.a c.args.b) (λ d. omega arith) same)
    c.quorum_row.ensures
