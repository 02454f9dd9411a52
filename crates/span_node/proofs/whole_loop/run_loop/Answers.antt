use Rattle.std.proofs.Common.{arith}
use Rattle.span_node.specs.Traffic.{Traffic, seen}
use Rattle.span_node.proofs.Telling.{told_more, stops_putting, ends_whole, stops_closing, ends_stopped, stops_flushing, ends_by, ends_unopened, unopened, told_first, sink_rose, sink_told}
use Rattle.span_node.proofs.whole_loop.run_loop.Goals as goal

pub loop-marks-preserved : goal.loop-marks-preserved
loop-marks-preserved g c =
    let l = c.loop-marks in
    let next = c.in-Ok-Some in
    let old = g.K.Sink.taken c.args.out.now in
    let from : Traffic = seen (g.L.Link.sent c.args.link.now) (g.L.Link.answers c.args.link.now) (g.L.Link.honest c.args.link.now) (g.L.Link.faithful c.args.link.now) in
    let link : Traffic = seen (g.L.Link.sent l.link) (g.L.Link.answers l.link) (g.L.Link.honest l.link) (g.L.Link.faithful l.link) in
    let link' : Traffic = seen (g.L.Link.sent c.next.new.link) (g.L.Link.answers c.next.new.link) (g.L.Link.honest c.next.new.link) (g.L.Link.faithful c.next.new.link) in
    let before = l.invariant.faults in
    let after = c.in_ok-put-in-Ok-Some.ensures.faults_stay in
    let link_before = l.invariant.link_faults in
    let link_after = next.ensures.faults_stay in
    record {
      ready = next.ensures.ready;
      told = told_more c.args.text.now old from link link' l.running c.next.new.self (g.K.Sink.taken l.out) (g.K.Sink.taken c.put.new.out) l.log c.put.new.self next.field-0 next.marks next.field-0-is
          next.ensures.goes (λ said is. c.in_ok-put-in-Ok-Some.ensures.puts old said is) l.invariant.told;
      faults = omega (arith, before, after);
      link_faults = omega (arith, link_before, link_after);
    }

pub returns-in_err-put-in-Ok-Some-clause-ends : goal.returns-in_err-put-in-Ok-Some-clause-ends
returns-in_err-put-in-Ok-Some-clause-ends g c =
    let l = c.loop-marks in
    let next = c.in-Ok-Some in
    let old = g.K.Sink.taken c.args.out.now in
    let new = g.K.Sink.taken c.put.new.out in
    let from : Traffic = seen (g.L.Link.sent c.args.link.now) (g.L.Link.answers c.args.link.now) (g.L.Link.honest c.args.link.now) (g.L.Link.faithful c.args.link.now) in
    let link : Traffic = seen (g.L.Link.sent l.link) (g.L.Link.answers l.link) (g.L.Link.honest l.link) (g.L.Link.faithful l.link) in
    let link' : Traffic = seen (g.L.Link.sent c.next.new.link) (g.L.Link.answers c.next.new.link) (g.L.Link.honest c.next.new.link) (g.L.Link.faithful c.next.new.link) in
    ends_by c.args.text.now old new from link' c.from_residual-in_err-put-in-Ok-Some.result _ c.from_residual-in_err-put-in-Ok-Some.ensures.1
    (stops_putting c.args.text.now old from link link' l.running c.next.new.self (g.K.Sink.taken l.out) new l.log next.field-0 next.marks c.in_err-put-in-Ok-Some.field-0.0 next.field-0-is
    next.ensures.goes (λ said is. c.in_err-put-in-Ok-Some.ensures.puts old said is) l.invariant.told)

pub returns-in_err-close-in-Ok-None-clause-ends : goal.returns-in_err-close-in-Ok-None-clause-ends
returns-in_err-close-in-Ok-None-clause-ends g c =
    let l = c.loop-marks in
    let next = c.in-Ok-None in
    let old = g.K.Sink.taken c.args.out.now in
    let new = g.K.Sink.taken c.close.new.out in
    let from : Traffic = seen (g.L.Link.sent c.args.link.now) (g.L.Link.answers c.args.link.now) (g.L.Link.honest c.args.link.now) (g.L.Link.faithful c.args.link.now) in
    let link : Traffic = seen (g.L.Link.sent l.link) (g.L.Link.answers l.link) (g.L.Link.honest l.link) (g.L.Link.faithful l.link) in
    let link' : Traffic = seen (g.L.Link.sent c.next.new.link) (g.L.Link.answers c.next.new.link) (g.L.Link.honest c.next.new.link) (g.L.Link.faithful c.next.new.link) in
    ends_by c.args.text.now old new from link' c.from_residual-in_err-close-in-Ok-None.result _ c.from_residual-in_err-close-in-Ok-None.ensures.1
    (stops_closing c.args.text.now old from link link' l.running c.next.new.self (g.K.Sink.taken l.out) new l.log next.field-0 c.messages-messages.result c.in_err-close-in-Ok-None.field-0.0 next.field-0-is
    c.messages-messages.ensures next.ensures.goes (λ said is. c.in_err-close-in-Ok-None.ensures.closes old said is) l.invariant.told)

pub returns-in-Ok-None-clause-ends : goal.returns-in-Ok-None-clause-ends
returns-in-Ok-None-clause-ends g c =
    let l = c.loop-marks in
    let next = c.in-Ok-None in
    let old = g.K.Sink.taken c.args.out.now in
    let new = g.K.Sink.taken c.close.new.out in
    let from : Traffic = seen (g.L.Link.sent c.args.link.now) (g.L.Link.answers c.args.link.now) (g.L.Link.honest c.args.link.now) (g.L.Link.faithful c.args.link.now) in
    let link : Traffic = seen (g.L.Link.sent l.link) (g.L.Link.answers l.link) (g.L.Link.honest l.link) (g.L.Link.faithful l.link) in
    let link' : Traffic = seen (g.L.Link.sent c.next.new.link) (g.L.Link.answers c.next.new.link) (g.L.Link.honest c.next.new.link) (g.L.Link.faithful c.next.new.link) in
    ends_whole c.args.text.now old from link link' l.running c.next.new.self (g.K.Sink.taken l.out) new l.log next.field-0 c.messages-messages.result next.field-0-is
    c.messages-messages.ensures next.ensures.goes (λ said is. (c.in_ok-close-in-Ok-None.ensures.closes old said is).1) l.invariant.told

pub returns-in_err-flush-in-Err-clause-ends : goal.returns-in_err-flush-in-Err-clause-ends
returns-in_err-flush-in-Err-clause-ends g c =
    let l = c.loop-marks in
    let old = g.K.Sink.taken c.args.out.now in
    let new = g.K.Sink.taken c.flush.new.out in
    let from : Traffic = seen (g.L.Link.sent c.args.link.now) (g.L.Link.answers c.args.link.now) (g.L.Link.honest c.args.link.now) (g.L.Link.faithful c.args.link.now) in
    let link : Traffic = seen (g.L.Link.sent l.link) (g.L.Link.answers l.link) (g.L.Link.honest l.link) (g.L.Link.faithful l.link) in
    let link' : Traffic = seen (g.L.Link.sent c.next.new.link) (g.L.Link.answers c.next.new.link) (g.L.Link.honest c.next.new.link) (g.L.Link.faithful c.next.new.link) in
    ends_by c.args.text.now old new from link' c.from_residual-in_err-flush-in-Err.result _ c.from_residual-in_err-flush-in-Err.ensures.1
    (stops_flushing c.args.text.now old from link link' l.running c.next.new.self (g.K.Sink.taken l.out) new l.log c.in-Err.fault c.in_err-flush-in-Err.field-0.0
    c.in-Err.ensures.goes (λ said is. c.in_err-flush-in-Err.ensures.flushes old said is) l.invariant.told)

pub returns-in-Err-clause-ends : goal.returns-in-Err-clause-ends
returns-in-Err-clause-ends g c =
    let l = c.loop-marks in
    let old = g.K.Sink.taken c.args.out.now in
    let new = g.K.Sink.taken c.flush.new.out in
    let from : Traffic = seen (g.L.Link.sent c.args.link.now) (g.L.Link.answers c.args.link.now) (g.L.Link.honest c.args.link.now) (g.L.Link.faithful c.args.link.now) in
    let link : Traffic = seen (g.L.Link.sent l.link) (g.L.Link.answers l.link) (g.L.Link.honest l.link) (g.L.Link.faithful l.link) in
    let link' : Traffic = seen (g.L.Link.sent c.next.new.link) (g.L.Link.answers c.next.new.link) (g.L.Link.honest c.next.new.link) (g.L.Link.faithful c.next.new.link) in
    ends_stopped c.args.text.now old from link link' l.running c.next.new.self (g.K.Sink.taken l.out) new l.log c.in-Err.fault
    c.in-Err.ensures.goes (λ said is. (c.in_ok-flush-in-Err.ensures.flushes old said is).1) l.invariant.told

pub returns-in_err-running-clause-ends : goal.returns-in_err-running-clause-ends
returns-in_err-running-clause-ends g c =
    let old = g.K.Sink.taken c.args.out.now in
    let from : Traffic = seen (g.L.Link.sent c.args.link.now) (g.L.Link.answers c.args.link.now) (g.L.Link.honest c.args.link.now) (g.L.Link.faithful c.args.link.now) in
    ends_by c.args.text.now old old from from c.from_residual.result c.in_err-running.field-0.0 c.from_residual.ensures.1
    (ends_unopened c.args.text.now old from c.in_err-running.field-0.0 (c.in_err-running.ensures.opens from))

pub returns-in_err-running-clause-failed : goal.returns-in_err-running-clause-failed
returns-in_err-running-clause-failed g c =
    unopened _ c.from_residual.result c.in_err-running.field-0.0 _ c.from_residual.ensures.1 c.in_err-running.ensures.no_write

pub returns-in_err-running-clause-link_failed : goal.returns-in_err-running-clause-link_failed
returns-in_err-running-clause-link_failed g c =
    unopened _ c.from_residual.result c.in_err-running.field-0.0 _ c.from_residual.ensures.1 c.in_err-running.ensures.no_link

pub loop-marks-init : goal.loop-marks-init
loop-marks-init g c =
    let from : Traffic = seen (g.L.Link.sent c.args.link.now) (g.L.Link.answers c.args.link.now) (g.L.Link.honest c.args.link.now) (g.L.Link.faithful c.args.link.now) in
    record {
      ready = c.in_ok-running.ensures.ready;
      told = told_first c.args.text.now (g.K.Sink.taken c.args.out.now) from c.in_ok-running.running c.in_ok-log.log c.in_ok-log.ensures (c.in_ok-running.ensures.opens from);
      faults = omega arith;
      link_faults = omega arith;
    }

pub returns-in_err-close-in-Ok-None-clause-failed : goal.returns-in_err-close-in-Ok-None-clause-failed
returns-in_err-close-in-Ok-None-clause-failed g c =
    sink_rose c.from_residual-in_err-close-in-Ok-None.result c.in_err-close-in-Ok-None.field-0.0 _ _ _ c.from_residual-in_err-close-in-Ok-None.ensures.1 c.loop-marks.invariant.faults
    c.in_err-close-in-Ok-None.ensures.failed

pub returns-in_err-close-in-Ok-None-clause-link_failed : goal.returns-in_err-close-in-Ok-None-clause-link_failed
returns-in_err-close-in-Ok-None-clause-link_failed g c =
    sink_told _ c.from_residual-in_err-close-in-Ok-None.result c.in_err-close-in-Ok-None.field-0.0 c.from_residual-in_err-close-in-Ok-None.ensures.1

pub returns-in_err-flush-in-Err-clause-failed : goal.returns-in_err-flush-in-Err-clause-failed
returns-in_err-flush-in-Err-clause-failed g c =
    sink_rose c.from_residual-in_err-flush-in-Err.result c.in_err-flush-in-Err.field-0.0 _ _ _ c.from_residual-in_err-flush-in-Err.ensures.1 c.loop-marks.invariant.faults
    c.in_err-flush-in-Err.ensures.failed

pub returns-in_err-flush-in-Err-clause-link_failed : goal.returns-in_err-flush-in-Err-clause-link_failed
returns-in_err-flush-in-Err-clause-link_failed g c =
    sink_told _ c.from_residual-in_err-flush-in-Err.result c.in_err-flush-in-Err.field-0.0 c.from_residual-in_err-flush-in-Err.ensures.1
