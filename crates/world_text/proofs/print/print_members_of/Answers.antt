use Rattle.std.proofs.Common.{get_or, length, arith, ap, sym, ◌≡◌, List}
use Rattle.workload.specs.declared.rules.Demand.{Demand}
use Rattle.workload.specs.World.{set_of, members_of}
use Rattle.world_text.specs.Records.{use_record}
use Rattle.world_text.proofs.Printing.{adds_none, adds_next}
use Rattle.world_text.proofs.print.print_members_of.Goals as goal

pub loop-member-init : goal.loop-member-init
loop-member-init c = adds_none c.args.text.now c.requires.between

abbrev no_member : Demand
no_member = record { dc = record { 0 = 0 }; gets = 0; puts = 0 }

pub loop-member-preserved : goal.loop-member-preserved
loop-member-preserved c =
    let w = c.args.world.now in
    let members : List Demand = members_of w c.args.set.0 in
    let same : c.members-member-items.result.now ≡ members = c.members-member-items.ensures.members in
    adds_next (use_record w (set_of w c.args.set.0)) members c.loop-member.member-index no_member _ c.args.text.now c.loop-member.text c.print_use.new.text
    (omega (arith, ap length same, c.loop-member-test.true)) (ap (λ (l : List Demand). get_or l c.loop-member.member-index no_member) (sym same)) c.loop-member.invariant c.in_ok-print_use.ensures
