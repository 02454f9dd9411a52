use Rattle.std.proofs.Common.{ap, ◌∙◌, arith}
use Rattle.slo_rules.specs.Rules.{has_hops}
use Rattle.slo_rules.proofs.Hops.{due_start, due_end}
use Rattle.slo_rules.proofs.shape.after_member.Goals as goal

pub loop-d-init : goal.loop-d-init
loop-d-init c = λ more. ap (has_hops c.args.hops.now) (due_start c.args.member.0 c.args.replicas.now more)

pub returns : goal.returns
returns c = λ more. c.loop-d.invariant more ∙ ap (has_hops c.loop-d.rest.now) (due_end c.args.member.0 c.args.replicas.now c.loop-d.d more (omega arith))
