use Rattle.std.proofs.Common.{arith}
use Rattle.restart_replay.proofs.Telling.{goes_on, comes_to_end, told_more, stops_putting, ends_whole, stops_closing, ends_refused, stops_refused, ends_by}
use Rattle.restart_replay.proofs.whole_run.replay_kept.Goals as goal

pub loop-marks-preserved : goal.loop-marks-preserved
loop-marks-preserved g c =
    let l = c.loop-marks in
    let next = c.in-Ok-Some in
    let from = g.K.Sink.taken c.args.out.now in
    let before = l.invariant.faults in
    let after = c.in_ok-put-in-Ok-Some.ensures.faults_stay in
    record {
      ready = next.ensures.ready;
      told = told_more c.args.text.now from l.running c.next.new.self (g.K.Sink.taken l.out) (g.K.Sink.taken c.put.new.out) l.log c.put.new.self next.marks
          (goes_on l.running c.next.new.self next.field-0 next.marks next.field-0-is next.ensures.goes)
          (λ said is. c.in_ok-put-in-Ok-Some.ensures.puts from said is) l.invariant.told;
      faults = omega (arith, before, after);
    }

pub returns-in_err-put-in-Ok-Some-clause-ends : goal.returns-in_err-put-in-Ok-Some-clause-ends
returns-in_err-put-in-Ok-Some-clause-ends g c =
    let l = c.loop-marks in
    let next = c.in-Ok-Some in
    let from = g.K.Sink.taken c.args.out.now in
    let now = g.K.Sink.taken c.put.new.out in
    ends_by c.args.text.now from now c.from_residual-in_err-put-in-Ok-Some.result _ c.from_residual-in_err-put-in-Ok-Some.ensures.1
    (stops_putting c.args.text.now from l.running c.next.new.self (g.K.Sink.taken l.out) now l.log next.marks c.in_err-put-in-Ok-Some.field-0.0
    (goes_on l.running c.next.new.self next.field-0 next.marks next.field-0-is next.ensures.goes)
    (λ said is. c.in_err-put-in-Ok-Some.ensures.puts from said is) l.invariant.told)

pub returns-in_err-close-in-Ok-None-clause-ends : goal.returns-in_err-close-in-Ok-None-clause-ends
returns-in_err-close-in-Ok-None-clause-ends g c =
    let l = c.loop-marks in
    let next = c.in-Ok-None in
    let from = g.K.Sink.taken c.args.out.now in
    let now = g.K.Sink.taken c.close.new.out in
    ends_by c.args.text.now from now c.from_residual-in_err-close-in-Ok-None.result _ c.from_residual-in_err-close-in-Ok-None.ensures.1
    (stops_closing c.args.text.now from l.running c.next.new.self (g.K.Sink.taken l.out) now l.log c.messages-messages.result c.in_err-close-in-Ok-None.field-0.0
    (comes_to_end l.running c.next.new.self next.field-0 next.field-0-is next.ensures.goes) c.messages-messages.ensures
    (λ said is. c.in_err-close-in-Ok-None.ensures.closes from said is) l.invariant.told)

pub returns-in-Ok-None-clause-ends : goal.returns-in-Ok-None-clause-ends
returns-in-Ok-None-clause-ends g c =
    let l = c.loop-marks in
    let next = c.in-Ok-None in
    let from = g.K.Sink.taken c.args.out.now in
    let now = g.K.Sink.taken c.close.new.out in
    ends_whole c.args.text.now from l.running c.next.new.self (g.K.Sink.taken l.out) now l.log c.messages-messages.result
    (comes_to_end l.running c.next.new.self next.field-0 next.field-0-is next.ensures.goes) c.messages-messages.ensures
    (λ said is. (c.in_ok-close-in-Ok-None.ensures.closes from said is).1) l.invariant.told

pub returns-in_err-flush-in-Err-clause-ends : goal.returns-in_err-flush-in-Err-clause-ends
returns-in_err-flush-in-Err-clause-ends g c =
    let l = c.loop-marks in
    let from = g.K.Sink.taken c.args.out.now in
    let now = g.K.Sink.taken c.flush.new.out in
    ends_by c.args.text.now from now c.from_residual-in_err-flush-in-Err.result _ c.from_residual-in_err-flush-in-Err.ensures.1
    (stops_refused c.args.text.now from l.running c.next.new.self (g.K.Sink.taken l.out) now l.log c.in-Err.fault c.in_err-flush-in-Err.field-0.0
    (λ schedule marks stands. c.in-Err.ensures.goes schedule marks stands)
    (λ said is. c.in_err-flush-in-Err.ensures.flushes from said is) l.invariant.told)

pub returns-in-Err-clause-ends : goal.returns-in-Err-clause-ends
returns-in-Err-clause-ends g c =
    let l = c.loop-marks in
    let from = g.K.Sink.taken c.args.out.now in
    let now = g.K.Sink.taken c.flush.new.out in
    ends_refused c.args.text.now from l.running c.next.new.self (g.K.Sink.taken l.out) now l.log c.in-Err.fault
    (λ schedule marks stands. c.in-Err.ensures.goes schedule marks stands)
    (λ said is. (c.in_ok-flush-in-Err.ensures.flushes from said is).1) l.invariant.told
