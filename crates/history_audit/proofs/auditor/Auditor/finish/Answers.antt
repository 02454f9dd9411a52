use Rattle.std.proofs.Common.{ℕ, Option, subst}
use Rattle.history_audit.specs.declared.fault.Clause.{Clause}
use Rattle.history_audit.specs.Audited.{StandsAt}
use Rattle.history_audit.proofs.Auditing.{unbroken}
use Rattle.history_audit.proofs.auditor.Auditor.finish.Goals as goal

pub returns : goal.returns
returns c = λ text front says h. unbroken text front c.args.self.judge says (subst (λ (o : Option (ℕ × Clause)). StandsAt front c.args.self.judge o) c.in-None.is h)
