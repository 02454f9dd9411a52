use Rattle.span_top.proofs.ReplayLaws.{whole_runs}
use Rattle.span_top.proofs.replay_laws.whole_runs_are_replayed.Goals as goal

pub returns : goal.returns
returns c = whole_runs
