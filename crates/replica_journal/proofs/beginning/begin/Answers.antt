use Rattle.std.proofs.lemmas.Result.{err_from_is_err_and}
use Rattle.replica_journal.proofs.Begins.{sync_fails, len_fails, long_ready, write_fails, last_fails, closed_told}
use Rattle.replica_journal.proofs.beginning.begin.Goals as goal

pub returns-in_err-sync-clause-begins : goal.returns-in_err-sync-clause-begins
returns-in_err-sync-clause-begins g c =
    let p = err_from_is_err_and c.from_residual.result c.from_residual.ensures.1 in
    rw p.1 (sync_fails (g.D.Disk.told c.args.disk.now) (g.D.Disk.told c.sync.new.self) c.in_err-sync.field-0.0 p.0 c.in_err-sync.ensures.syncs)

pub returns-in_err-end-clause-begins : goal.returns-in_err-end-clause-begins
returns-in_err-end-clause-begins g c =
    let p = err_from_is_err_and c.from_residual-in_err-end.result c.from_residual-in_err-end.ensures.1 in
    rw p.1 (len_fails (g.D.Disk.told c.args.disk.now) (g.D.Disk.told c.sync.new.self) (g.D.Disk.told c.len.new.self) p.0 c.in_ok-sync.ensures.syncs c.len.ensures.stays)

pub returns-then-end-gt1-clause-begins : goal.returns-then-end-gt1-clause-begins
returns-then-end-gt1-clause-begins g c =
    long_ready (g.D.Disk.told c.args.disk.now) (g.D.Disk.told c.sync.new.self) (g.D.Disk.told c.len.new.self) c.in_ok-end.end c.in_ok-sync.ensures.syncs c.len.ensures.stays c.in_ok-end.ensures.tells c.if-end-gt1.true

pub returns-in_err-write_at-clause-begins : goal.returns-in_err-write_at-clause-begins
returns-in_err-write_at-clause-begins g c =
    let p = err_from_is_err_and c.from_residual-in_err-write_at.result c.from_residual-in_err-write_at.ensures.1 in
    rw p.1 (write_fails (g.D.Disk.told c.args.disk.now) (g.D.Disk.told c.sync.new.self) (g.D.Disk.told c.len.new.self) (g.D.Disk.told c.write_at.new.self) c.in_ok-end.end c.in_err-write_at.field-0.0 p.0 c.in_ok-sync.ensures.syncs c.len.ensures.stays c.in_ok-end.ensures.tells c.if-end-gt1.false c.in_err-write_at.ensures.writes)

pub returns-in_err-sync-2-clause-begins : goal.returns-in_err-sync-2-clause-begins
returns-in_err-sync-2-clause-begins g c =
    let p = err_from_is_err_and c.from_residual-in_err-sync-2.result c.from_residual-in_err-sync-2.ensures.1 in
    rw p.1 (last_fails (g.D.Disk.told c.args.disk.now) (g.D.Disk.told c.sync.new.self) (g.D.Disk.told c.len.new.self) (g.D.Disk.told c.write_at.new.self) (g.D.Disk.told c.sync-2.new.self) c.in_ok-end.end c.in_err-sync-2.field-0.0 p.0 c.in_ok-sync.ensures.syncs c.len.ensures.stays c.in_ok-end.ensures.tells c.if-end-gt1.false c.in_ok-write_at.ensures.writes c.in_err-sync-2.ensures.syncs)

pub returns-clause-begins : goal.returns-clause-begins
returns-clause-begins g c =
    closed_told (g.D.Disk.told c.args.disk.now) (g.D.Disk.told c.sync.new.self) (g.D.Disk.told c.len.new.self) (g.D.Disk.told c.write_at.new.self) (g.D.Disk.told c.sync-2.new.self) c.in_ok-end.end c.in_ok-sync.ensures.syncs c.len.ensures.stays c.in_ok-end.ensures.tells c.if-end-gt1.false c.in_ok-write_at.ensures.writes c.in_ok-sync-2.ensures.syncs
