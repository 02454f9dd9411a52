use Rattle.std.proofs.Common.{◌≡◌, false, true, refl, sym, ap, ◌∙◌}
use Rattle.std.specs.Prelude.{Result, Ok, Err}
use Rattle.replica_core.specs.declared.journal.TakeFault.{TakeFault}
use Rattle.replica_core.specs.declared.journal.TakeFault.TheVariants.{DiskFault, Full}
use Rattle.world_core.proofs.TakeFaults.{not_shut, not_calm, shut_after, refused_full}
use Rattle.world_core.proofs.handing.take_into.Goals as goal

pub returns-in-Ok-clause-ends : goal.returns-in-Ok-clause-ends
returns-in-Ok-clause-ends g c =
    let result : Result (Unit {0}) TakeFault = c.take.result in
    let is : result ≡ Ok tt = c.in-Ok.is in
    let before : g.T.Taker.shut c.args.taker.now ≡ false = not_shut result (g.T.Taker.shut c.args.taker.now) c.take.ensures.shut (λ e. (let both = sym is ∙ e in cc)) in
    let after : g.T.Taker.shut c.take.new.self ≡ false = shut_after result (Ok tt) (g.T.Taker.shut c.args.taker.now) (g.T.Taker.shut c.take.new.self) c.take.ensures.shuts before is in (
      c.in-Ok.ensures.ok,
      (
        before,
        after,
        c.in-Ok.ensures.grows.0,
        c.in-Ok.ensures.grows.1,
        c.take.ensures.faults_stay,
        (λ bytes much. (let wrong : result ≡ Err (Full bytes) = (c.take.ensures.full bytes).1 (before, much) in let both = sym is ∙ wrong in cc)),
        (λ calm. (c.take.ensures.calm calm).1),
      ),
    )

pub returns-in-Err-DiskFault-clause-ends : goal.returns-in-Err-DiskFault-clause-ends
returns-in-Err-DiskFault-clause-ends g c =
    let result : Result (Unit {0}) TakeFault = c.take.result in
    let is : result ≡ Err DiskFault = c.in-Err-DiskFault.is ∙ ap Err c.in-Err-DiskFault.field-0-is in
    let before : g.T.Taker.shut c.args.taker.now ≡ false = not_shut result (g.T.Taker.shut c.args.taker.now) c.take.ensures.shut (λ e. (let both = sym is ∙ e in cc)) in
    let after : g.T.Taker.shut c.take.new.self ≡ true = shut_after result (Err DiskFault) (g.T.Taker.shut c.args.taker.now) (g.T.Taker.shut c.take.new.self) c.take.ensures.shuts before is in
    let told = c.take.ensures.disk_fault is in (
      told.1,
      (
        before,
        not_calm result (g.T.Taker.calm c.args.taker.now) (g.T.Taker.calm c.take.new.self) c.take.ensures.calm is,
        after,
        told.0,
        told.2,
        (λ bytes much. (let wrong : result ≡ Err (Full bytes) = (c.take.ensures.full bytes).1 (before, much) in let both = sym is ∙ wrong in cc)),
      ),
    )

pub returns-in-Err-Full-clause-ends : goal.returns-in-Err-Full-clause-ends
returns-in-Err-Full-clause-ends g c =
    let result : Result (Unit {0}) TakeFault = c.take.result in
    let is : result ≡ Err (Full c.in-Err-Full.bytes) = c.in-Err-Full.is ∙ ap Err c.in-Err-Full.field-0-is in
    let told = (c.take.ensures.full c.in-Err-Full.bytes).0 is in
    let same = c.take.ensures.refused (refused_full result c.in-Err-Full.bytes is) in
    let shut : g.T.Taker.shut c.take.new.self ≡ false = shut_after result (Err (Full c.in-Err-Full.bytes)) (g.T.Taker.shut c.args.taker.now) (g.T.Taker.shut c.take.new.self) c.take.ensures.shuts told.0 is in
    (same.0, (told.0, told.1, rw (same.1, same.2, same.3, shut, told.0) refl))
