use Rattle.std.proofs.Common.{◌≡◌, List, replicate, sym, ap, ◌∙◌, subst, arith}
use Rattle.replica_core.specs.declared.kept.Kept.{Kept}
use Rattle.replica_core.specs.Keeping.{opening}
use Rattle.replica_core.specs.Rule.{IsLawfulState}
use Rattle.replica_core.proofs.Steps.{opening_state_lawful}
use Rattle.replica_core.proofs.replica.Replica.make.Goals as goal

pub invariant_of-result : goal.invariant_of-result
invariant_of-result c =
    let all : c.loop.counter ≡ c.args.keys = omega arith in
    let P : List Kept → Type 0 = λ kept. IsLawfulState (record { number = c.args.number; kept = kept }) in
    subst P (sym (c.loop.invariant ∙ ap (λ n. replicate n opening) all)) (opening_state_lawful c.args.number c.args.keys c.requires.number c.requires.keys)
