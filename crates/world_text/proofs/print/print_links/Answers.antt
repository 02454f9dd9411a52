use Rattle.std.proofs.Common.{ℕ, arith}
use Rattle.std.specs.List.{range_with_len}
use Rattle.workload.specs.World.{centre_count}
use Rattle.world_text.specs.Records.{links_from}
use Rattle.world_text.proofs.Printing.{adds_none, adds_next_all, adds_every, below_range, at_range, past_range}
use Rattle.world_text.proofs.print.print_links.Goals as goal

pub loop-from-init : goal.loop-from-init
loop-from-init c = adds_none c.args.text.now c.requires

pub loop-from-preserved : goal.loop-from-preserved
loop-from-preserved c =
    let w = c.args.world.now in
    let from : ℕ = c.loop-from.from in
    adds_next_all (links_from w) (range_with_len 0 (centre_count w)) from 0 from c.args.text.now c.loop-from.text c.print_links_from.new.text
    (below_range (centre_count w) from (omega arith)) (at_range (centre_count w) from (omega arith)) c.loop-from.invariant c.in_ok-print_links_from.ensures

pub returns : goal.returns
returns c =
    let w = c.args.world.now in
    adds_every (links_from w) (range_with_len 0 (centre_count w)) c.loop-from.from c.args.text.now c.loop-from.text
    (past_range (centre_count w) c.loop-from.from (omega arith)) c.loop-from.invariant
