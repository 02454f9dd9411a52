-- Small schedules leave the marks that were reckoned by hand.
use Rattle.std.proofs.Common.{refl}
use Rattle.span_base.specs.DcSet.{centres_of, centres_below}
use Rattle.strong_proxy.specs.Rule.{step as strong_step, opened_as}
use Rattle.relay_proxy.specs.Routes.{set_below, set_of, directs_below}
use Rattle.migration.specs.Move.{step as move_step}
use Rattle.world_core.specs.State.{opening}
use Rattle.world_core.specs.Starting.{starts}
use Rattle.epoch_directory.specs.Tables.{table_fault}
use Rattle.world_core.specs.Step.{proxy_takes, step}
use Rattle.world_core.specs.Run.{run}
use Rattle.world_core.specs.Rows.{Leaves, two_proxies, relayed, write_then_read, write_then_read_marks, two_writes, two_writes_marks, given_up, given_up_marks, faulty_tables, faulty_tables_marks, move_then_write, move_then_write_marks, two_moves, two_moves_marks, put_then_get, put_then_get_marks, eventual_move, eventual_move_marks}

pub write_then_read_leaves : Leaves two_proxies write_then_read write_then_read_marks 23
unfolding run step starts proxy_takes opening strong_step opened_as centres_of centres_below set_below set_of directs_below move_step table_fault
write_then_read_leaves = record { marks_are = refl; sent_are = refl; none_refused = refl }

pub two_writes_leave : Leaves two_proxies two_writes two_writes_marks 18
unfolding run step starts proxy_takes opening strong_step opened_as centres_of centres_below set_below set_of directs_below move_step table_fault
two_writes_leave = record { marks_are = refl; sent_are = refl; none_refused = refl }

pub given_up_leaves : Leaves two_proxies given_up given_up_marks 8
unfolding run step starts proxy_takes opening strong_step opened_as centres_of centres_below set_below set_of directs_below move_step table_fault
given_up_leaves = record { marks_are = refl; sent_are = refl; none_refused = refl }

pub faulty_tables_leave : Leaves two_proxies faulty_tables faulty_tables_marks 0
unfolding run step starts proxy_takes opening strong_step opened_as centres_of centres_below set_below set_of directs_below move_step table_fault
faulty_tables_leave = record { marks_are = refl; sent_are = refl; none_refused = refl }

pub move_then_write_leaves : Leaves two_proxies move_then_write move_then_write_marks 34
unfolding run step starts proxy_takes opening strong_step opened_as centres_of centres_below set_below set_of directs_below move_step table_fault
move_then_write_leaves = record { marks_are = refl; sent_are = refl; none_refused = refl }

pub two_moves_leave : Leaves two_proxies two_moves two_moves_marks 29
unfolding run step starts proxy_takes opening strong_step opened_as centres_of centres_below set_below set_of directs_below move_step table_fault
two_moves_leave = record { marks_are = refl; sent_are = refl; none_refused = refl }

pub put_then_get_leaves : Leaves relayed put_then_get put_then_get_marks 6
unfolding run step starts proxy_takes opening strong_step opened_as centres_of centres_below set_below set_of directs_below move_step table_fault
put_then_get_leaves = record { marks_are = refl; sent_are = refl; none_refused = refl }

pub eventual_move_leaves : Leaves relayed eventual_move eventual_move_marks 18
unfolding run step starts proxy_takes opening strong_step opened_as centres_of centres_below set_below set_of directs_below move_step table_fault
eventual_move_leaves = record { marks_are = refl; sent_are = refl; none_refused = refl }
