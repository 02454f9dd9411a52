use Rattle.epoch_directory.proofs.Following.{step_follows, publish_follows}
use Rattle.epoch_directory.proofs.laws.epochs_are_kept.Goals as goal

pub returns-clause-step : goal.returns-clause-step
returns-clause-step c = step_follows

pub returns-clause-publish : goal.returns-clause-publish
returns-clause-publish c = publish_follows
