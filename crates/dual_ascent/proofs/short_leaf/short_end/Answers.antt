use Rattle.std.proofs.Common.{◌≡◌, ◌∙◌, sym, subst, arith, ℤ, to_z, of_z}
use Rattle.std.specs.Int.{w128}
use Rattle.std.proofs.lemmas.Int.{ints}
use Rattle.bound_cert.specs.Closing.{Closes}
use Rattle.dual_ascent.proofs.Scan.{not_true, nothing_ends}
use Rattle.dual_ascent.proofs.short_leaf.short_end.Goals as goal

pub returns-in-None-clause-none : goal.returns-in-None-clause-none
returns-in-None-clause-none c =
    let read : to_z w128 (of_z w128 c.bare_value-costs.result) ≡ c.bare_value-costs.result = omega (arith, ints, c.bare_value-costs.ensures.small) in
    nothing_ends c.args.program.now c.args.fixed.now c.args.goal c.in_default.ensures.none
    (λ ends. not_true c.closes.result c.if-closes.false (c.closes.ensures.1 (subst (λ (v : ℤ). Closes v 1 c.args.goal) (sym (read ∙ c.bare_value-costs.ensures.exact)) ends)))
    c.in-None.ensures.none
