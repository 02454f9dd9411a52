use Rattle.std.proofs.Common.{ℕ, arith}
use Rattle.std.specs.List.{range_with_len}
use Rattle.workload.specs.World.{centre_count, fare_of}
use Rattle.workload.specs.World.{name_of}
use Rattle.world_text.specs.Records.{link_record}
use Rattle.world_text.proofs.Printing.{adds_none, adds_next, adds_all, below_range, at_range, past_range}
use Rattle.world_text.proofs.print.print_links_from.Goals as goal

pub loop-to-init : goal.loop-to-init
loop-to-init c = adds_none c.args.text.now c.requires.between

pub loop-to-preserved : goal.loop-to-preserved
loop-to-preserved c =
    let w = c.args.world.now in
    let from : ℕ = c.args.from.0 in
    let to : ℕ = c.loop-to.to in
    adds_next (λ to. link_record (name_of w from) (name_of w to) (fare_of w from to)) (range_with_len 0 (centre_count w)) to 0 to c.args.text.now c.loop-to.text c.print_link.new.text
    (below_range (centre_count w) to (omega arith)) (at_range (centre_count w) to (omega arith)) c.loop-to.invariant c.in_ok-print_link.ensures

pub returns : goal.returns
returns c =
    let w = c.args.world.now in
    let from : ℕ = c.args.from.0 in
    adds_all (λ to. link_record (name_of w from) (name_of w to) (fare_of w from to)) (range_with_len 0 (centre_count w)) c.loop-to.to c.args.text.now c.loop-to.text
    (past_range (centre_count w) c.loop-to.to (omega arith)) c.loop-to.invariant
