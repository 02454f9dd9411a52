use Rattle.std.proofs.Common.{ap, ◌∙◌}
use Rattle.schedule_text.specs.KeptGiven.{KeptLeft}
use Rattle.schedule_text.specs.Kept.{kept_events_at}
use Rattle.restart_replay.proofs.Opening.{opens_so, opens_ready}
use Rattle.restart_replay.proofs.running.Running.open.Goals as goal

pub returns-clause-opens : goal.returns-clause-opens
returns-clause-opens c =
    let h = c.in_ok-header in
    let o = h.field-0 in
    opens_so _ o.header (kept_events_at o.place c.args.text.now) c.kept_schedules_may_happen.ensures c.args.text.now h.ensures.reads
    (record {
      events_are = c.make-events.ensures
          ∙ ap (λ n. let l : KeptLeft = record { events = kept_events_at o.place c.args.text.now; line = n } in l) h.ensures.line;
      store_is = c.in_ok-store.ensures.store;
      none_taken = c.in_ok-store.ensures.taken;
      steady = c.in_ok-store.ensures.steady;
    })

pub returns-clause-ready : goal.returns-clause-ready
returns-clause-ready c =
    let h = c.in_ok-header in
    let o = h.field-0 in
    opens_ready _ o.header (kept_events_at o.place c.args.text.now) c.kept_schedules_may_happen.ensures c.args.text.now h.ensures.reads
    (record {
      events_are = c.make-events.ensures
          ∙ ap (λ n. let l : KeptLeft = record { events = kept_events_at o.place c.args.text.now; line = n } in l) h.ensures.line;
      store_is = c.in_ok-store.ensures.store;
      none_taken = c.in_ok-store.ensures.taken;
      steady = c.in_ok-store.ensures.steady;
    })
