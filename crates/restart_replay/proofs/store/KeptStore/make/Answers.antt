use Rattle.std.proofs.Common.{refl}
use Rattle.replica_journal.specs.Calls.{is_calm}
use Rattle.world_core.specs.Ends.{Journal}
use Rattle.restart_replay.proofs.Steadying.{opens_steady}
use Rattle.restart_replay.proofs.store.KeptStore.make.Goals as goal

pub returns-clause-steady : goal.returns-clause-steady
returns-clause-steady c =
    opens_steady c.args.header _ c.in_ok-kept.kept.items (λ kept. kept.state)
    (λ kept. let j : Journal = record { faults = kept.disk.calls.faults; shut = kept.shut; calm = is_calm kept.disk.calls; size = kept.place.gate } in j)
    c.requires.header c.in_ok-cloud.ensures.store c.in_ok-cloud.ensures.journals c.in_ok-cloud.ensures.events refl refl c.len-keys.ensures c.in_ok-kept.ensures.states c.in_ok-kept.ensures.fresh
