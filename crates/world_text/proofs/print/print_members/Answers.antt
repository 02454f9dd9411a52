use Rattle.std.proofs.Common.{map, refl, arith}
use Rattle.workload.specs.Load.{no_set}
use Rattle.world_text.specs.Records.{use_record}
use Rattle.world_text.proofs.Printing.{adds_none, adds_next_all}
use Rattle.world_text.proofs.print.print_members.Goals as goal

pub loop-set-init : goal.loop-set-init
loop-set-init c = adds_none c.args.text.now c.requires

pub loop-set-preserved : goal.loop-set-preserved
loop-set-preserved c =
    adds_next_all (λ s. map (use_record c.args.world.now s) s.members) c.args.world.now.sets c.loop-set.set no_set _ c.args.text.now c.loop-set.text c.print_members_of.new.text (omega arith) refl
    c.loop-set.invariant c.in_ok-print_members_of.ensures
