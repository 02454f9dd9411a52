-- Small restart runs leave the marks that were reckoned by hand.
use Rattle.std.proofs.Common.{refl, true, false}
use Rattle.span_base.specs.DcSet.{centres_of, centres_below}
use Rattle.strong_proxy.specs.Rule.{step as strong_step, opened_as}
use Rattle.world_core.specs.State.{opening}
use Rattle.world_core.specs.Starting.{starts}
use Rattle.world_core.specs.Step.{proxy_takes, step}
use Rattle.world_core.specs.Rows.{two_proxies}
use Rattle.restart_law.specs.Restart.{restart_step, restart_run}
use Rattle.restart_law.specs.Rows.{Leaves, crashed_write, after_kept, after_lost, kept_marks, lost_marks}

pub kept_leaves : Leaves two_proxies (crashed_write 4 true after_kept) kept_marks 18
unfolding restart_run restart_step step starts proxy_takes opening strong_step opened_as centres_of centres_below
kept_leaves = record { marks_are = refl; sent_are = refl; none_refused = refl }

pub lost_leaves : Leaves two_proxies (crashed_write 4 false after_lost) lost_marks 13
unfolding restart_run restart_step step starts proxy_takes opening strong_step opened_as centres_of centres_below
lost_leaves = record { marks_are = refl; sent_are = refl; none_refused = refl }

pub torn_leaves : Leaves two_proxies (crashed_write 2 true after_lost) lost_marks 13
unfolding restart_run restart_step step starts proxy_takes opening strong_step opened_as centres_of centres_below
torn_leaves = record { marks_are = refl; sent_are = refl; none_refused = refl }
