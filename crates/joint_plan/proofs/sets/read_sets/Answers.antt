use Rattle.std.proofs.Common.{◌∙◌, ◌++◌, ◌∷◌, [], ◌<◌, ◌+◌, length, length-append, ap, arith}
use Rattle.std.proofs.lemmas.Result.{err_from_is_err_and}
use Rattle.joint_plan.specs.Stops.{sets_text}
use Rattle.joint_plan.proofs.PlanRead.{sets_stop, sets_grow}
use Rattle.joint_plan.proofs.sets.read_sets.Goals as goal

pub returns-in_err-policy-clause-reads : goal.returns-in_err-policy-clause-reads
returns-in_err-policy-clause-reads g c files is front first =
    let w = c.args.world.now in
    let inv = c.loop-set.invariant in
    let p = err_from_is_err_and c.from_residual-in_err-policy.result c.from_residual-in_err-policy.ensures.1 in
    let there : c.loop-set.set < length w.sets = omega (arith, c.loop-set-test.true, c.sets-set-end.ensures) in
    rw (p.1, p.2) (sets_stop w files c.args.name.now front c.loop-set.policies.items c.loop-set.set c.in_err-policy.field-0.0 inv.count there
    (c.in_err-policy.ensures.reads files (inv.files_stay ∙ is) (front ++ sets_text w c.loop-set.policies.items) (inv.read files is front first)))

pub loop-set-preserved : goal.loop-set-preserved
loop-set-preserved g c =
    let w = c.args.world.now in
    let inv = c.loop-set.invariant in
    record {
      count = ap length c.in_ok-keep.ensures ∙ length-append c.loop-set.policies.items (c.in_ok-policy.policy ∷ []) ∙ ap (λ n. n + 1) inv.count;
      read = λ files is front first.
          sets_grow w files c.args.name.now front c.loop-set.policies.items c.keep.new.policies.items c.loop-set.set c.in_ok-policy.policy c.read_set.new.lines inv.count c.in_ok-keep.ensures
          (c.in_ok-policy.ensures.reads files (inv.files_stay ∙ is) (front ++ sets_text w c.loop-set.policies.items) (inv.read files is front first));
      files_stay = c.in_ok-policy.ensures.files_stay ∙ inv.files_stay;
      faults_stay = omega (arith, c.in_ok-policy.ensures.faults_stay, inv.faults_stay);
      absences_stay = omega (arith, c.in_ok-policy.ensures.absences_stay, inv.absences_stay);
    }
