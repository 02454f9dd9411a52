use Rattle.std.proofs.Common.{ap, ◌∙◌}
use Rattle.schedule_text.specs.Given.{Left}
use Rattle.schedule_text.specs.Schedules.{events_at}
use Rattle.schedule_replay.proofs.Opening.{opens_so, opens_ready}
use Rattle.schedule_replay.proofs.running.Running.open.Goals as goal

pub returns-clause-opens : goal.returns-clause-opens
returns-clause-opens c =
    let h = c.in_ok-header in
    let o = h.field-0 in
    opens_so _ o.header (events_at o.place c.args.text.now) c.schedules_may_happen.ensures c.args.text.now h.ensures.reads
    (record {
      events_are = c.make-events.ensures
          ∙ ap (λ n. let l : Left = record { events = events_at o.place c.args.text.now; line = n } in l) h.ensures.line;
      store_is = c.in_ok-cloud.ensures.store;
      none_taken = c.in_ok-cloud.ensures.events;
    })

pub returns-clause-ready : goal.returns-clause-ready
returns-clause-ready c =
    let h = c.in_ok-header in
    let o = h.field-0 in
    opens_ready _ o.header (events_at o.place c.args.text.now) c.schedules_may_happen.ensures c.args.text.now h.ensures.reads
    (record {
      events_are = c.make-events.ensures
          ∙ ap (λ n. let l : Left = record { events = events_at o.place c.args.text.now; line = n } in l) h.ensures.line;
      store_is = c.in_ok-cloud.ensures.store;
      none_taken = c.in_ok-cloud.ensures.events;
    })
