use Rattle.schedule_text.specs.declared.setting.Form.TheVariants.{Script}
use Rattle.span_node.proofs.Ordered.{may_run_looped}
use Rattle.span_node.proofs.laws.looped_runs_may_run.Goals as goal

pub returns-clause-header : goal.returns-clause-header
returns-clause-header c = λ text schedule read. (c.schedules_may_happen.ensures Script text schedule read).header

pub returns-clause-events : goal.returns-clause-events
returns-clause-events c =
    λ text schedule rounds left events more read script front. may_run_looped schedule rounds left events more (c.schedules_may_happen.ensures Script text schedule read) script front
