use Rattle.frame_link.proofs.LinkLaws.{new_link, new_holds}
use Rattle.frame_link.proofs.dealt_link.DealtLink.new.Goals as goal

pub invariant_of-result : goal.invariant_of-result
invariant_of-result c = new_link c.new.result c.new-2.result.items c.args.deals.items c.new-2.ensures.items c.requires

pub returns : goal.returns
returns c = new_holds c.new.result c.new-2.result.items c.args.deals.items c.new.ensures c.new-2.ensures.items
