use Rattle.std.proofs.Common.{◌∙◌, ◌<◌, ◌≤◌, true, refl, ap, arith}
use Rattle.span_node.specs.declared.running.Running.{Running}
use Rattle.span_node.specs.Faults.{of_replay}
use Rattle.span_node.proofs.Turning.{took_next, ready_next, stops_full, stops_not_taken}
use Rattle.span_node.proofs.running.Running.take.Goals as goal

pub returns-then-events-ge-EVENT_LIMIT-clause-takes : goal.returns-then-events-ge-EVENT_LIMIT-clause-takes
returns-then-events-ge-EVENT_LIMIT-clause-takes c =
    let past = c.if-events-ge-EVENT_LIMIT.true in
    let count = c.events.ensures in
    let low : 1000000 ≤ c.args.self.now.cloud.events = omega (arith, past, count) in
    λ schedule marks from now is. stops_full schedule marks from now c.args.self.now c.args.event.now c.line.result c.full.result c.full.ensures c.line.ensures low c.requires.ready.few is

pub returns-in-Ok-clause-takes : goal.returns-in-Ok-clause-takes
returns-in-Ok-clause-takes c =
    let new : Running = record { cloud = c.step_in_memory.new.self; script = c.args.self.now.script; mail = c.args.self.now.mail; begun = true } in
    λ schedule marks from now is. took_next schedule marks c.in-Ok.marks from now c.args.self.now new c.args.event.now is c.in-Ok.ensures refl refl

pub returns-in-Ok-clause-ready : goal.returns-in-Ok-clause-ready
returns-in-Ok-clause-ready c =
    let new : Running = record { cloud = c.step_in_memory.new.self; script = c.args.self.now.script; mail = c.args.self.now.mail; begun = true } in
    let below = c.if-events-ge-EVENT_LIMIT.false in
    let count = c.events.ensures in
    let few : c.args.self.now.cloud.events < 1000000 = omega (arith, below, count) in
    ready_next c.args.self.now new c.args.event.now c.in-Ok.marks c.requires.ready few c.in-Ok.ensures refl refl

pub returns-in-Err-clause-takes : goal.returns-in-Err-clause-takes
returns-in-Err-clause-takes c =
    let below = c.if-events-ge-EVENT_LIMIT.false in
    let count = c.events.ensures in
    let few : c.args.self.now.cloud.events < 1000000 = omega (arith, below, count) in
    λ schedule marks from now is.
    stops_not_taken schedule marks from now c.args.self.now c.args.event.now c.step_in_memory.new.self c.in-Err.fault c.line-in-Err.result c.into.result
    (c.into.ensures ∙ ap of_replay c.refused_at.ensures) c.line-in-Err.ensures few c.in-Err.ensures is
