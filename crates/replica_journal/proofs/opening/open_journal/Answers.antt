use Rattle.std.proofs.Common.{Ok, Err, subst}
use Rattle.std.proofs.lemmas.Result.{err_from_is_err_and}
use Rattle.replica_core.specs.Rule.{State}
use Rattle.replica_journal.specs.Replaying.{ReplaysOf}
use Rattle.replica_journal.proofs.Opens.{is_end, replay_fails, is_opened}
use Rattle.replica_journal.proofs.opening.open_journal.Goals as goal

pub replay-requires-clause-end : goal.replay-requires-clause-end
replay-requires-clause-end g c = is_end (g.D.Disk.told c.args.disk.now) (g.D.Disk.told c.begin.new.disk) c.in_ok-end.end c.in_ok-end.ensures.begins

pub returns-in_err-place-clause-opens : goal.returns-in_err-place-clause-opens
returns-in_err-place-clause-opens g c =
    let told = g.D.Disk.told c.begin.new.disk in
    let p = err_from_is_err_and c.from_residual-in_err-place.result c.from_residual-in_err-place.ensures.1 in
    let replays = subst (λ (s : State). ReplaysOf told c.args.keys s c.replay.new.replica (Err c.in_err-place.field-0.0)) c.in_ok-replica.ensures c.in_err-place.ensures.replays in
    rw (p.1, p.2)
    (replay_fails c.args.number c.args.keys (g.D.Disk.told c.args.disk.now) told (g.D.Disk.told c.replay.new.disk) c.in_ok-end.end c.replay.new.replica c.in_err-place.field-0.0
    c.in_ok-end.ensures.begins c.replay.ensures.stays replays)

pub returns-clause-opens : goal.returns-clause-opens
returns-clause-opens g c =
    let told = g.D.Disk.told c.begin.new.disk in
    let replays = subst (λ (s : State). ReplaysOf told c.args.keys s c.replay.new.replica (Ok c.in_ok-place.place)) c.in_ok-replica.ensures c.in_ok-place.ensures.replays in
    is_opened c.args.number c.args.keys (g.D.Disk.told c.args.disk.now) told (g.D.Disk.told c.replay.new.disk) c.in_ok-end.end c.replay.new.replica c.in_ok-place.place
    c.in_ok-end.ensures.begins c.replay.ensures.stays replays
