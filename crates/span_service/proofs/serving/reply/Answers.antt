use Rattle.std.proofs.Common.{ℕ, Err, refl, sym, ap, subst}
use Rattle.replica_core.specs.declared.journal.TakeFault.{TakeFault}
use Rattle.replica_core.specs.Taking.{IsTooMuch, IsRefusal}
use Rattle.span_service.proofs.serving.reply.Goals as goal

pub returns-in-Err-Full-clause-replies : goal.returns-in-Err-Full-clause-replies
returns-in-Err-Full-clause-replies g c =
    let same = c.in-Err-Full.ensures.refused (subst (λ (fault : TakeFault). IsRefusal {T = Unit {0}} (Err fault)) (sym c.in-Err-Full.field-0-is) tt) in
    let full = (c.in-Err-Full.ensures.full c.in-Err-Full.bytes).0 (ap (λ (fault : TakeFault). Err fault) c.in-Err-Full.field-0-is) in
    (subst (λ (size : ℕ). IsTooMuch size c.args.request.now c.in-Err-Full.bytes) (sym same.3) full.1, record { state = same.0; taken_is = refl })
