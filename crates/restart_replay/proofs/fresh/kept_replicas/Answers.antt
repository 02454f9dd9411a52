use Rattle.std.proofs.Common.{◌≡◌, false}
use Rattle.std.specs.Prelude.{IsTrue}
use Rattle.replica_journal.specs.Calls.{is_calm}
use Rattle.restart_replay.proofs.EmptyDisks.{states_more, all_more}
use Rattle.restart_replay.proofs.fresh.kept_replicas.Goals as goal

pub loop-number-preserved : goal.loop-number-preserved
loop-number-preserved c =
    let l = c.loop-number in
    let one = c.in_ok-kept_replica in
    record {
      states = states_more (λ kept. kept.state) l.made.items c.push.new.self.items one.field-0 c.args.keys l.number c.in_ok-push.ensures.items l.invariant.states one.ensures.state;
      fresh = all_more (λ kept. (kept.shut ≡ false) × IsTrue (is_calm kept.disk.calls) × (kept.place.gate ≡ 0)) l.made.items c.push.new.self.items one.field-0 c.in_ok-push.ensures.items l.invariant.fresh
          (one.ensures.open, one.ensures.calm, one.ensures.empty);
    }
