-- The definitions on a worked schedule: a put at replica 1, whose push to replica 2 comes after the freeze,
-- and a move to the replicas 0 and 2.
use Rattle.std.proofs.Common.{◌≡◌, [], ◌∷◌, refl}
use Rattle.std.specs.Prelude.{Some, None}
use Rattle.world_core.specs.State.{opening}
use Rattle.world_core.specs.Rows.{relayed, eventual_move, put_then_get, cc_value, key, call, stamp}
use Rattle.eventual_law.specs.Pushes.{pushes}
use Rattle.eventual_law.specs.Opened.{opener}
use Rattle.span_base.specs.DcSet.{centres_of, centres_below}
use Rattle.strong_proxy.specs.Rule.{step as strong_step, opened_as}
use Rattle.world_core.specs.State.{opening}
use Rattle.world_core.specs.Starting.{starts}
use Rattle.world_core.specs.Step.{proxy_takes, step}
use Rattle.world_core.specs.Run.{run}
use Rattle.relay_proxy.specs.Routes.{set_below, set_of, directs_below}
use Rattle.migration.specs.Move.{step as move_step}
use Rattle.epoch_directory.specs.Tables.{table_fault}
use Rattle.world_core.specs.Rows.{relayed, put_then_get, eventual_move}

pub replica_1_takes_the_push : pushes (key 0) 1 eventual_move (opening relayed) ≡ record { stamp = stamp 1 1 0 1; value = cc_value } ∷ []
unfolding pushes run step starts proxy_takes opening strong_step opened_as centres_of centres_below set_below set_of directs_below move_step table_fault
replica_1_takes_the_push = refl

-- it refuses the push, and takes the seed
pub replica_2_takes_the_seed : pushes (key 0) 2 eventual_move (opening relayed) ≡ record { stamp = stamp 1 1 0 1; value = cc_value } ∷ []
unfolding pushes run step starts proxy_takes opening strong_step opened_as centres_of centres_below set_below set_of directs_below move_step table_fault
replica_2_takes_the_seed = refl

pub no_push_of_another_key : pushes (key 1) 1 eventual_move (opening relayed) ≡ []
unfolding pushes run step starts proxy_takes opening strong_step opened_as centres_of centres_below set_below set_of directs_below move_step table_fault
no_push_of_another_key = refl

pub the_move_opens : opener (key 0) eventual_move (opening relayed) None ≡ Some (call 0 2)
unfolding opener run step starts proxy_takes opening strong_step opened_as centres_of centres_below set_below set_of directs_below move_step table_fault
the_move_opens = refl

pub none_opens : opener (key 0) put_then_get (opening relayed) None ≡ None
unfolding opener run step starts proxy_takes opening strong_step opened_as centres_of centres_below set_below set_of directs_below move_step table_fault
none_opens = refl
