use Rattle.span_top.proofs.LoopLaws.{whole_scripts, honest_loops}
use Rattle.span_top.proofs.loop_laws.whole_scripts_are_looped.Goals as goal

pub returns-clause-faithful : goal.returns-clause-faithful
returns-clause-faithful c = whole_scripts c.whole_scripts_are_run.ensures.faithful

pub returns-clause-honest : goal.returns-clause-honest
returns-clause-honest c = honest_loops c.whole_scripts_are_run.ensures.honest
