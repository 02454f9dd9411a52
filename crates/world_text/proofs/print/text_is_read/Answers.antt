use Rattle.world_text.proofs.TextRead.{world_text_read}
use Rattle.world_text.proofs.print.text_is_read.Goals as goal

pub returns : goal.returns
returns c = world_text_read c.args.world.now c.centre_count-count.ensures.complete c.centre_count-count.ensures.named
