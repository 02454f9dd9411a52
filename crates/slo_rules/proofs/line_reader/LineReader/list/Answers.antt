use Rattle.std.proofs.Common.{Ok, sym, ap, ◌∙◌}
use Rattle.std.specs.Prelude.{Result}
use Rattle.std.proofs.lemmas.Result.{err_from_is_err_and}
use Rattle.span_base.specs.declared.dc_set.DcSet.{DcSet}
use Rattle.slo_rules.specs.declared.policy_line.PolicyFault.{PolicyFault}
use Rattle.slo_rules.specs.PolicyLines.{list_at}
use Rattle.slo_rules.proofs.CentreLists.{list_ends, list_breaks}
use Rattle.slo_rules.proofs.line_reader.LineReader.list.Goals as goal

pub returns-in_err-centre-clause-gives : goal.returns-in_err-centre-clause-gives
returns-in_err-centre-clause-gives c =
    let p = err_from_is_err_and c.from_residual.result c.from_residual.ensures.1 in
    let breaks = list_breaks c.args.world.now c.args.closed (list_at c.args.world.now c.args.closed c.args.self.now.rest.now) c.loop-centre.so_far c.loop-centre.self.rest.now _ c.loop-centre.invariant.rest c.in_err-centre.ensures.gives in
    rw (p.1, p.2) breaks

pub returns-then-is_over-clause-gives : goal.returns-then-is_over-clause-gives
returns-then-is_over-clause-gives c =
    list_ends c.args.world.now c.args.closed (list_at c.args.world.now c.args.closed c.args.self.now.rest.now) c.loop-centre.so_far c.loop-centre.self.rest.now c.in_ok-centre.centre c.centre.new.self.rest.now
    c.loop-centre.invariant.rest c.in_ok-centre.ensures.gives (sym c.is_over.ensures ∙ c.if-is_over.true)
    ∙ ap (λ (so_far : Result DcSet PolicyFault). Ok (so_far, c.centre.new.self.rest.now)) (sym c.with_centre-so_far.ensures)
