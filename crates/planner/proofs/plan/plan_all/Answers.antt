use Rattle.std.proofs.Common.{◌≡◌, ◌<◌, [], length, arith}
use Rattle.sink_buffer.proofs.Saying.{front_from_said, front_longer, said_nothing}
use Rattle.planner.proofs.Sets.{said_start, plan_failed}
use Rattle.planner.proofs.Parts.{so_far_none, so_far_more, begin_failed, part_failed, end_failed, plan_written}
use Rattle.planner.proofs.plan.plan_all.Goals as goal

pub returns-in_err-pen-clause-writes : goal.returns-in_err-pen-clause-writes
returns-in_err-pen-clause-writes g c =
    plan_failed _ _ _ _ _ c.from_residual.ensures.0 (begin_failed _ _ _ _ (front_longer _ _ [] _ (front_from_said _ _ _ _ (said_nothing _))))

pub returns-in_err-put_begin-clause-writes : goal.returns-in_err-put_begin-clause-writes
returns-in_err-put_begin-clause-writes g c =
    plan_failed _ _ _ _ _ c.from_residual-in_err-put_begin.ensures.0
    (begin_failed _ _ _ _ (c.in_err-put_begin.ensures.tells (g.K.Sink.taken c.args.out.now) [] (said_start _ _ c.in_ok-pen.ensures)))

pub loop-number-init : goal.loop-number-init
loop-number-init g c = record {
  plan = record {
    text = _;
    so_far = so_far_none c.args.world.now c.args.budget;
    said = c.in_ok-put_begin.ensures.tells (g.K.Sink.taken c.args.out.now) [] (said_start _ _ c.in_ok-pen.ensures);
  };
  faults_stay = c.put_begin.ensures.faults_stay;
}

pub returns-in_err-set_end-clause-writes : goal.returns-in_err-set_end-clause-writes
returns-in_err-set_end-clause-writes g c =
    let plan = c.loop-number.invariant.plan in
    let said = c.in_err-set_end.ensures.part (g.K.Sink.taken c.args.out.now) plan.text plan.said in
    let there : c.loop-number.number < length c.args.world.now.sets = omega (arith, c.loop-number-test.true, c.sets-number-end.ensures) in
    plan_failed _ _ _ _ _ c.from_residual-in_err-set_end.ensures.0
    (part_failed c.args.world.now c.args.budget (record { 0 = c.loop-number.number }) plan.text said.0 c.loop-number.end _ _ plan.so_far there said.1 said.2)

pub loop-number-preserved : goal.loop-number-preserved
loop-number-preserved g c =
    let plan = c.loop-number.invariant.plan in
    let said = c.in_ok-set_end.ensures.part (g.K.Sink.taken c.args.out.now) plan.text plan.said in
    record {
      plan = record {
        text = _;
        so_far = rw c.with-end.ensures (so_far_more c.args.world.now c.args.budget (record { 0 = c.loop-number.number }) plan.text said.0 c.loop-number.end c.in_ok-set_end.set_end plan.so_far said.1);
        said = said.2;
      };
      faults_stay = omega (arith, c.loop-number.invariant.faults_stay, c.write_part.ensures.faults_stay);
    }

pub returns-in_err-put_end-clause-writes : goal.returns-in_err-put_end-clause-writes
returns-in_err-put_end-clause-writes g c =
    let plan = c.loop-number.invariant.plan in
    let all : c.loop-number.number ≡ length c.args.world.now.sets = omega (arith, c.loop-number-test.false, c.loop-number.auto.number-end, c.sets-number-end.ensures) in
    plan_failed _ _ _ _ _ c.from_residual-in_err-put_end.ensures.0
    (end_failed c.args.world.now c.args.budget c.loop-number.number plan.text c.loop-number.end _ _ plan.so_far all (c.in_err-put_end.ensures.tells (g.K.Sink.taken c.args.out.now) plan.text plan.said))

pub returns-in_err-flush-clause-writes : goal.returns-in_err-flush-clause-writes
returns-in_err-flush-clause-writes g c =
    let plan = c.loop-number.invariant.plan in
    let all : c.loop-number.number ≡ length c.args.world.now.sets = omega (arith, c.loop-number-test.false, c.loop-number.auto.number-end, c.sets-number-end.ensures) in
    plan_failed _ _ _ _ _ c.from_residual-in_err-flush.ensures.0
    (end_failed c.args.world.now c.args.budget c.loop-number.number plan.text c.loop-number.end _ _ plan.so_far all
    (c.in_err-flush.ensures.flushes (g.K.Sink.taken c.args.out.now) _ (c.in_ok-put_end.ensures.tells (g.K.Sink.taken c.args.out.now) plan.text plan.said)))

pub returns-clause-writes : goal.returns-clause-writes
returns-clause-writes g c =
    let plan = c.loop-number.invariant.plan in
    let all : c.loop-number.number ≡ length c.args.world.now.sets = omega (arith, c.loop-number-test.false, c.loop-number.auto.number-end, c.sets-number-end.ensures) in
    plan_written c.args.world.now c.args.budget c.loop-number.number plan.text c.loop-number.end _ _ plan.so_far all
    (c.in_ok-flush.ensures.flushes (g.K.Sink.taken c.args.out.now) _ (c.in_ok-put_end.ensures.tells (g.K.Sink.taken c.args.out.now) plan.text plan.said))
