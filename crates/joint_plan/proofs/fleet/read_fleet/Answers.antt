use Rattle.std.proofs.Common.{◌∙◌, ◌++◌, ◌∷◌, [], ◌<◌, ◌+◌, length, length-append, ap, arith}
use Rattle.std.proofs.lemmas.Result.{err_from_is_err_and}
use Rattle.workload.specs.World.{centre_count}
use Rattle.joint_plan.specs.Stops.{fleet_text}
use Rattle.joint_plan.proofs.PlanRead.{fleet_stop, fleet_grow}
use Rattle.joint_plan.proofs.fleet.read_fleet.Goals as goal

pub returns-in_err-number-clause-reads : goal.returns-in_err-number-clause-reads
returns-in_err-number-clause-reads g c files is front first =
    let w = c.args.world.now in
    let inv = c.loop-d.invariant in
    let p = err_from_is_err_and c.from_residual-in_err-number.result c.from_residual-in_err-number.ensures.1 in
    let there : c.loop-d.d < centre_count w = omega (arith, c.loop-d-test.true, c.centre_count-d-end.ensures.count) in
    rw (p.1, p.2) (fleet_stop w files c.args.name.now front c.loop-d.numbers.items c.loop-d.d c.in_err-number.field-0.0 inv.count there
    (c.in_err-number.ensures.reads files (inv.files_stay ∙ is) (front ++ fleet_text w c.loop-d.numbers.items) (inv.read files is front first)))

pub loop-d-preserved : goal.loop-d-preserved
loop-d-preserved g c =
    let w = c.args.world.now in
    let inv = c.loop-d.invariant in
    record {
      count = ap length c.in_ok-keep.ensures ∙ length-append c.loop-d.numbers.items (c.in_ok-number.number ∷ []) ∙ ap (λ n. n + 1) inv.count;
      read = λ files is front first.
          fleet_grow w files c.args.name.now front c.loop-d.numbers.items c.keep.new.numbers.items c.loop-d.d c.in_ok-number.number c.read_machines.new.lines inv.count c.in_ok-keep.ensures
          (c.in_ok-number.ensures.reads files (inv.files_stay ∙ is) (front ++ fleet_text w c.loop-d.numbers.items) (inv.read files is front first));
      files_stay = c.in_ok-number.ensures.files_stay ∙ inv.files_stay;
      faults_stay = omega (arith, c.in_ok-number.ensures.faults_stay, inv.faults_stay);
      absences_stay = omega (arith, c.in_ok-number.ensures.absences_stay, inv.absences_stay);
    }
