use Rattle.std.proofs.Common.{◌≢◌, ◌<◌, inl, inr, arith, length, get_or, rules, get_or-set_other, get_or-set_same}
use Rattle.std.proofs.lemmas.Bool.{cases_eq}
use Rattle.bound_cert.proofs.Scratch.{scaled_costs_size, cost_written}
use Rattle.bound_cert.proofs.bounds.scale_costs.Goals as goal

pub loop-var-preserved : goal.loop-var-preserved
loop-var-preserved c = λ var below.
    elim (cases_eq var c.loop-var.var) [
      | inl is ↦
          let here : c.loop-var.var < length c.loop-var.scratch = search rules in
          rw (is, get_or-set_same, c.from.ensures) (cost_written c.args.s (get_or c.args.costs.now c.loop-var.var 0) c.requires.scale (c.requires.cheap c.loop-var.var 0 c.loop-var-test.true))
      | inr not ↦
          let apart : var ≢ c.loop-var.var = not in
          rw get_or-set_other (c.loop-var.invariant var (omega arith))
    ]

pub returns-clause-each : goal.returns-clause-each
returns-clause-each c = λ var inside. c.loop-var.invariant var (let h = c.loop-var-test.false in omega arith)

pub returns-clause-size : goal.returns-clause-size
returns-clause-size c =
    scaled_costs_size c.args.s c.args.costs.now c.loop-var.scratch c.requires.scale c.requires.cheap (search rules) (λ var inside. c.loop-var.invariant var (let h = c.loop-var-test.false in omega arith))
