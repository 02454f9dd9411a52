use Rattle.std.proofs.Common.{ℕ, ◌+◌, ◌^◌, ◌<◌, length, ap, ◌∙◌, arith}
use Rattle.plan_check.specs.Refusals.{refusal_of}
use Rattle.plan_check.proofs.Trees.{fits_result}
use Rattle.plan_check.proofs.tree.show_goal.Goals as goal

pub returns-in-Err : goal.returns-in-Err
returns-in-Err c = (λ program tree stands number_is.
    let told = c.in-Err.ensures.table program tree stands in
    let small : c.args.before + length tree + 1 < 2 ^ 64 = omega arith in (
      c.in-Err.fault,
      told,
      c.refuse.ensures (fits_result program tree c.args.goal c.args.before c.in-Err.fault told small)
          ∙ ap (λ (n : ℕ). refusal_of c.args.before n c.in-Err.fault) number_is,
      (λ proof. absurd (cc ((c.in-Err.ensures.proof program tree stands).1 proof))),
    ))
