use Rattle.schedule_text.specs.declared.setting.Form.TheVariants.{Plain}
use Rattle.schedule_replay.proofs.MayRun.{may_run}
use Rattle.schedule_replay.proofs.laws.replayed_runs_may_run.Goals as goal

pub returns-clause-header : goal.returns-clause-header
returns-clause-header c = λ text schedule read. (c.schedules_may_happen.ensures Plain text schedule read).header

pub returns-clause-events : goal.returns-clause-events
returns-clause-events c = λ text schedule read. may_run schedule (c.schedules_may_happen.ensures Plain text schedule read)
