use Rattle.std.proofs.Common.{false, refl, ap, ◌∙◌}
use Rattle.schedule_text.specs.Given.{Left}
use Rattle.schedule_text.specs.Schedules.{events_at}
use Rattle.span_node.specs.declared.running.Running.{Running}
use Rattle.span_node.proofs.Scripting.{opens_so, opens_ready}
use Rattle.span_node.proofs.running.Running.open.Goals as goal

pub returns-clause-opens : goal.returns-clause-opens
returns-clause-opens c =
    let h = c.in_ok-header in
    let o = h.field-0 in
    let running : Running = record { cloud = c.in_ok-cloud.cloud; script = c.make-script.result; mail = c.in_ok-mail.mail; begun = false } in
    λ link. opens_so running o.header (events_at o.place c.args.text.now) c.schedules_may_happen.ensures c.args.text.now link h.ensures.reads
    (record {
      events_are = c.make-script.ensures
          ∙ ap (λ n. let l : Left = record { events = events_at o.place c.args.text.now; line = n } in l) h.ensures.line;
      store_is = c.in_ok-cloud.ensures.store;
      none_taken = c.in_ok-cloud.ensures.events;
      none_begun = refl;
      none_sent = c.in_ok-mail.ensures.none;
      mail = c.in_ok-mail.ensures.mail;
    })

pub returns-clause-ready : goal.returns-clause-ready
returns-clause-ready c =
    let h = c.in_ok-header in
    let o = h.field-0 in
    let running : Running = record { cloud = c.in_ok-cloud.cloud; script = c.make-script.result; mail = c.in_ok-mail.mail; begun = false } in
    opens_ready running o.header (events_at o.place c.args.text.now) c.schedules_may_happen.ensures c.args.text.now h.ensures.reads
    (record {
      events_are = c.make-script.ensures
          ∙ ap (λ n. let l : Left = record { events = events_at o.place c.args.text.now; line = n } in l) h.ensures.line;
      store_is = c.in_ok-cloud.ensures.store;
      none_taken = c.in_ok-cloud.ensures.events;
      none_begun = refl;
      none_sent = c.in_ok-mail.ensures.none;
      mail = c.in_ok-mail.ensures.mail;
    })
