use Rattle.std.proofs.Common.{List, ap, ◌∙◌, slice_set}
use Rattle.replica_journal.specs.Calls.{is_calm}
use Rattle.replica_journal.specs.Stopped.{stopped}
use Rattle.world_core.specs.State.{replica_at}
use Rattle.world_core.specs.Ends.{Journal}
use Rattle.restart_replay.proofs.Crashing.{is_seated, seat_fits, steady_again, seated_after, grown_small, stopped_keys}
use Rattle.restart_replay.proofs.store.KeptStore.restart.Goals as goal

pub returns-clause-store : goal.returns-clause-store
returns-clause-store c =
    seated_after c.args.self.now.cloud.store c.swap-kept.new.self.store c.swap.new.self.store c.args.replica c.in_ok-spare.spare.state c.in_ok-kept.kept.state c.swap-kept.result.state
    c.args.message.now c.args.call c.args.is_new (is_seated c.args.self.now c.requires.steady c.requires.few c.args.replica c.requires.there)
    c.swap-kept.ensures.store c.swap.ensures.store c.in_ok-kept.ensures.state c.swap-kept.ensures.state

pub returns-clause-steady : goal.returns-clause-steady
returns-clause-steady c =
    let old = c.args.self.now in
    let d = c.args.replica in
    let kept = c.in_ok-kept.kept in
    let spare = c.in_ok-spare.spare in
    steady_again c.args.self.now c.requires.steady c.requires.few c.args.replica c.requires.there c.swap.new.self
    (stopped (replica_at c.args.self.now.cloud.store c.args.replica).state c.args.message.now c.args.call c.args.is_new)
    (record { faults = spare.disk.calls.faults; shut = spare.shut; calm = is_calm spare.disk.calls; size = spare.place.gate })
    (record { faults = kept.disk.calls.faults; shut = kept.shut; calm = is_calm kept.disk.calls; size = kept.place.gate })
    (seated_after c.args.self.now.cloud.store c.swap-kept.new.self.store c.swap.new.self.store c.args.replica c.in_ok-spare.spare.state c.in_ok-kept.kept.state c.swap-kept.result.state
    c.args.message.now c.args.call c.args.is_new (is_seated c.args.self.now c.requires.steady c.requires.few c.args.replica c.requires.there)
    c.swap-kept.ensures.store c.swap.ensures.store c.in_ok-kept.ensures.state c.swap-kept.ensures.state)
    (c.swap.ensures.journals ∙ ap (λ (js : List Journal). slice_set js c.args.replica (record { faults = kept.disk.calls.faults; shut = kept.shut; calm = is_calm kept.disk.calls; size = kept.place.gate })) c.swap-kept.ensures.journals)
    (c.swap.ensures.events ∙ c.swap-kept.ensures.events)
    (stopped_keys (replica_at c.args.self.now.cloud.store c.args.replica).state c.args.message.now c.args.call c.args.is_new ∙ seat_fits c.args.self.now c.requires.steady c.requires.few c.args.replica c.requires.there)
    c.in_ok-kept.ensures.open c.in_ok-kept.ensures.calm
    (grown_small c.args.self.now c.requires.steady c.args.replica c.requires.there c.args.message.now kept.place.gate c.swap-kept.result.place.gate c.requires.lawful c.in_ok-kept.ensures.grows
    (ap (λ (j : Journal). j.size) c.swap-kept.ensures.journal))
