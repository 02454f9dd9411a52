use Rattle.std.proofs.Common.{◌≡◌, ◌+◌, ◌<◌, ◌≤◌, [], ◌∷◌, length, drop, get_or, ◌∙◌, arith}
use Rattle.std.proofs.Math.ListN.{drop_of_length-le}
use Rattle.std.proofs.lemmas.List.{length-append}
use Rattle.std.proofs.lemmas.List.Elements.{All-nil, All-cons, All-append}
use Rattle.std.proofs.lemmas.Result.{err_from_is_err_and}
use Rattle.price_tables.specs.Tables.{no_centre}
use Rattle.machine_text.specs.Machines.{IsMachineWithin}
use Rattle.machine_text.specs.ReadMachines.{machines_at}
use Rattle.machine_text.specs.Rows.{records_left}
use Rattle.machine_text.proofs.Joined.{taken_all, taken_more, refused_more}
use Rattle.machine_text.proofs.read.take_machines.Goals as goal

pub returns-in_err-take_machine-clause-fault : goal.returns-in_err-take_machine-clause-fault
returns-in_err-take_machine-clause-fault c =
    let all = c.args.world.now.centres in
    let inside : c.loop-d.d < length all = omega (arith, c.loop-d-test.true, c.centre_count-d-end.ensures.count) in
    let named : c.as_bytes-name.result.now ≡ (get_or all c.loop-d.d no_centre).name = c.as_bytes-name.ensures ∙ c.name.ensures in
    let p = err_from_is_err_and c.from_residual-in_err-take_machine.result c.from_residual-in_err-take_machine.ensures.1 in
    rw (p.1, p.2)
    (refused_more all no_centre c.loop-d.d c.args.line (records_left c.loop-d.rows) c.loop-d.machines.items (machines_at c.args.line all (records_left c.args.rows.now)) c.in_err-take_machine.field-0.0 inside
    c.loop-d.invariant.so_far (rw (named, c.from-in-loop-d.ensures) at c.in_err-take_machine.ensures.fault))

pub loop-d-preserved : goal.loop-d-preserved
loop-d-preserved c =
    let all = c.args.world.now.centres in
    let inv = c.loop-d.invariant in
    let inside : c.loop-d.d < length all = omega (arith, c.loop-d-test.true, c.centre_count-d-end.ensures.count) in
    let named : c.as_bytes-name.result.now ≡ (get_or all c.loop-d.d no_centre).name = c.as_bytes-name.ensures ∙ c.name.ensures in
    let front = c.loop-d.machines.items in
    let machine = c.in_ok-take_machine.field-0 in
    let taken = rw (named, c.from-in-loop-d.ensures) at c.in_ok-take_machine.ensures.machine in
    let more = taken_more all no_centre c.loop-d.d c.args.line (records_left c.loop-d.rows) (records_left c.take_machine.new.rows) front machine inside taken in
    let items = c.in_ok-push.ensures in
    record {
      so_far = rw items (inv.so_far ∙ more);
      reading = c.in_ok-take_machine.ensures.reading;
      within = rw items (All-append IsMachineWithin front (machine ∷ []) inv.within (All-cons IsMachineWithin machine [] c.in_ok-take_machine.ensures.within (All-nil IsMachineWithin)));
      many = rw items (omega (arith, inv.many, length-append front (machine ∷ [])));
    }

pub returns-clause-machines : goal.returns-clause-machines
returns-clause-machines c =
    let all = c.args.world.now.centres in
    let end : drop c.loop-d.d all ≡ [] = drop_of_length-le all (let past : length all ≤ c.loop-d.d = omega (arith, c.loop-d-test.false, c.centre_count-d-end.ensures.count) in past) in
    c.loop-d.invariant.so_far ∙ taken_all (c.args.line + c.loop-d.d) (records_left c.loop-d.rows) c.loop-d.machines.items (drop c.loop-d.d all) end
