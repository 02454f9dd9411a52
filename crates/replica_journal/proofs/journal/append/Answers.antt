use Rattle.std.proofs.Common.{◌≡◌, ◌+◌, length, Option, Some, Result, Ok, Err, refl, sym, subst, arith}
use Rattle.std.proofs.lemmas.Grind.{common_steps}
use Rattle.span_base.specs.declared.sink.DeviceFault.{DeviceFault}
use Rattle.span_base.specs.declared.sink.DeviceFault.TheVariants as device
use Rattle.replica_journal.specs.Disk.{History, Writes}
use Rattle.replica_journal.specs.Appended.{Appended}
use Rattle.replica_journal.specs.Steps.{Unwritten, Unsafe, Unopened, Unsure, Done}
use Rattle.replica_journal.proofs.Appends.{first_fails, sync_fails, stage_told, second_fails, opened_told, last_fails, is_done}
use Rattle.replica_journal.proofs.journal.append.Goals as goal

pub returns-in_err-write_at-clause-appended : goal.returns-in_err-write_at-clause-appended
returns-in_err-write_at-clause-appended g c keys before after messages message was now rest sound spelled =
    let wrote : Writes (Some before) (g.D.Disk.told c.write_at.new.self) (c.args.gate + 1) c.args.piece.now (Err c.in_err-write_at.field-0.0) =
    subst (λ (o : Option History). Writes o (g.D.Disk.told c.write_at.new.self) (c.args.gate + 1) c.args.piece.now (Err c.in_err-write_at.field-0.0)) was c.in_err-write_at.ensures.writes in
    let is : c.from_residual.result ≡ Err c.in_err-write_at.field-0.0 = grind (arith, common_steps) in
    subst (λ (r : Result (Unit {0}) DeviceFault). Appended keys before after c.args.gate (length c.args.piece.now) messages message r) (sym is)
    (first_fails keys before after c.args.gate messages message c.args.piece.now rest sound spelled (g.D.Disk.told c.write_at.new.self) c.in_err-write_at.field-0.0 now wrote)

pub returns-in_err-sync-clause-appended : goal.returns-in_err-sync-clause-appended
returns-in_err-sync-clause-appended g c keys before after messages message was now rest sound spelled =
    let wrote : Writes (Some before) (g.D.Disk.told c.write_at.new.self) (c.args.gate + 1) c.args.piece.now (Ok tt) =
    subst (λ (o : Option History). Writes o (g.D.Disk.told c.write_at.new.self) (c.args.gate + 1) c.args.piece.now (Ok tt)) was c.in_ok-write_at.ensures.writes in
    let is : c.from_residual-in_err-sync.result ≡ Err device.Failed = grind (arith, common_steps) in
    subst (λ (r : Result (Unit {0}) DeviceFault). Appended keys before after c.args.gate (length c.args.piece.now) messages message r) (sym is)
    (sync_fails keys before after c.args.gate messages message c.args.piece.now rest sound spelled (g.D.Disk.told c.write_at.new.self) (g.D.Disk.told c.sync.new.self) c.in_err-sync.field-0.0 wrote c.in_err-sync.ensures.syncs now)

pub returns-in_err-write_at-2-clause-appended : goal.returns-in_err-write_at-2-clause-appended
returns-in_err-write_at-2-clause-appended g c keys before after messages message was now rest sound spelled =
    let wrote : Writes (Some before) (g.D.Disk.told c.write_at.new.self) (c.args.gate + 1) c.args.piece.now (Ok tt) =
    subst (λ (o : Option History). Writes o (g.D.Disk.told c.write_at.new.self) (c.args.gate + 1) c.args.piece.now (Ok tt)) was c.in_ok-write_at.ensures.writes in
    let staged = stage_told keys before after c.args.gate messages message c.args.piece.now rest sound spelled (g.D.Disk.told c.write_at.new.self) (g.D.Disk.told c.sync.new.self) wrote c.in_ok-sync.ensures.syncs in
    let is : c.from_residual-in_err-write_at-2.result ≡ Err c.in_err-write_at-2.field-0.0 = grind (arith, common_steps) in
    subst (λ (r : Result (Unit {0}) DeviceFault). Appended keys before after c.args.gate (length c.args.piece.now) messages message r) (sym is)
    (second_fails keys before after c.args.gate messages message c.args.piece.now rest sound spelled (g.D.Disk.told c.sync.new.self) (g.D.Disk.told c.write_at-2.new.self) c.in_err-write_at-2.field-0.0 staged c.in_err-write_at-2.ensures.writes now)

pub returns-in_err-sync-2-clause-appended : goal.returns-in_err-sync-2-clause-appended
returns-in_err-sync-2-clause-appended g c keys before after messages message was now rest sound spelled =
    let wrote : Writes (Some before) (g.D.Disk.told c.write_at.new.self) (c.args.gate + 1) c.args.piece.now (Ok tt) =
    subst (λ (o : Option History). Writes o (g.D.Disk.told c.write_at.new.self) (c.args.gate + 1) c.args.piece.now (Ok tt)) was c.in_ok-write_at.ensures.writes in
    let staged = stage_told keys before after c.args.gate messages message c.args.piece.now rest sound spelled (g.D.Disk.told c.write_at.new.self) (g.D.Disk.told c.sync.new.self) wrote c.in_ok-sync.ensures.syncs in
    let open_now = opened_told keys before after c.args.gate messages message c.args.piece.now rest sound spelled (g.D.Disk.told c.sync.new.self) (g.D.Disk.told c.write_at-2.new.self) staged c.in_ok-write_at-2.ensures.writes in
    let is : c.from_residual-in_err-sync-2.result ≡ Err device.Failed = grind (arith, common_steps) in
    subst (λ (r : Result (Unit {0}) DeviceFault). Appended keys before after c.args.gate (length c.args.piece.now) messages message r) (sym is)
    (last_fails keys before after c.args.gate messages message c.args.piece.now rest sound spelled (g.D.Disk.told c.write_at-2.new.self) (g.D.Disk.told c.sync-2.new.self) c.in_err-sync-2.field-0.0 open_now c.in_err-sync-2.ensures.syncs now)

pub returns-clause-appended : goal.returns-clause-appended
returns-clause-appended g c keys before after messages message was now rest sound spelled =
    let wrote : Writes (Some before) (g.D.Disk.told c.write_at.new.self) (c.args.gate + 1) c.args.piece.now (Ok tt) =
    subst (λ (o : Option History). Writes o (g.D.Disk.told c.write_at.new.self) (c.args.gate + 1) c.args.piece.now (Ok tt)) was c.in_ok-write_at.ensures.writes in
    let staged = stage_told keys before after c.args.gate messages message c.args.piece.now rest sound spelled (g.D.Disk.told c.write_at.new.self) (g.D.Disk.told c.sync.new.self) wrote c.in_ok-sync.ensures.syncs in
    let open_now = opened_told keys before after c.args.gate messages message c.args.piece.now rest sound spelled (g.D.Disk.told c.sync.new.self) (g.D.Disk.told c.write_at-2.new.self) staged c.in_ok-write_at-2.ensures.writes in
    is_done keys before after c.args.gate messages message c.args.piece.now rest sound spelled (g.D.Disk.told c.write_at-2.new.self) (g.D.Disk.told c.sync-2.new.self) open_now c.in_ok-sync-2.ensures.syncs now

pub returns-in_err-write_at-clause-calls : goal.returns-in_err-write_at-clause-calls
returns-in_err-write_at-clause-calls g c =
    let is : c.from_residual.result ≡ Err c.in_err-write_at.field-0.0 = grind (arith, common_steps) in
    Unwritten c.in_err-write_at.field-0.0 c.in_err-write_at.ensures.does is

pub returns-in_err-sync-clause-calls : goal.returns-in_err-sync-clause-calls
returns-in_err-sync-clause-calls g c =
    let is : c.from_residual-in_err-sync.result ≡ Err device.Failed = grind (arith, common_steps) in
    Unsafe c.write_at.new.self c.in_err-sync.field-0.0 c.in_ok-write_at.ensures.does c.in_err-sync.ensures.does is

pub returns-in_err-write_at-2-clause-calls : goal.returns-in_err-write_at-2-clause-calls
returns-in_err-write_at-2-clause-calls g c =
    let is : c.from_residual-in_err-write_at-2.result ≡ Err c.in_err-write_at-2.field-0.0 = grind (arith, common_steps) in
    Unopened c.write_at.new.self c.sync.new.self c.in_err-write_at-2.field-0.0 c.in_ok-write_at.ensures.does c.in_ok-sync.ensures.does c.in_err-write_at-2.ensures.does is

pub returns-in_err-sync-2-clause-calls : goal.returns-in_err-sync-2-clause-calls
returns-in_err-sync-2-clause-calls g c =
    let is : c.from_residual-in_err-sync-2.result ≡ Err device.Failed = grind (arith, common_steps) in
    Unsure c.write_at.new.self c.sync.new.self c.write_at-2.new.self c.in_err-sync-2.field-0.0 c.in_ok-write_at.ensures.does c.in_ok-sync.ensures.does c.in_ok-write_at-2.ensures.does c.in_err-sync-2.ensures.does is

pub returns-clause-calls : goal.returns-clause-calls
returns-clause-calls g c =
    Done c.write_at.new.self c.sync.new.self c.write_at-2.new.self c.in_ok-write_at.ensures.does c.in_ok-sync.ensures.does c.in_ok-write_at-2.ensures.does c.in_ok-sync-2.ensures.does refl
