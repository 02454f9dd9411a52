use Rattle.price_tables.specs.Tables.{no_centre}
use Rattle.std.proofs.Common.{refl, arith}
use Rattle.world_text.specs.Records.{centre_record}
use Rattle.world_text.proofs.Printing.{adds_none, adds_next}
use Rattle.world_text.proofs.print.print_centres.Goals as goal

pub loop-dc-init : goal.loop-dc-init
loop-dc-init c = adds_none c.args.text.now c.requires

pub loop-dc-preserved : goal.loop-dc-preserved
loop-dc-preserved c =
    adds_next centre_record c.args.world.now.centres c.loop-dc.dc no_centre _ c.args.text.now c.loop-dc.text c.print_centre.new.text (omega arith) refl c.loop-dc.invariant c.in_ok-print_centre.ensures
