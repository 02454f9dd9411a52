use Rattle.std.proofs.Common.{◌≡◌, ◌<◌, ◌∙◌, length, get_or, ap, arith}
use Rattle.std.proofs.Math.ListN.{length-set}
use Rattle.workload.specs.World.{members_of}
use Rattle.placement_rows.specs.Centres.{nobody}
use Rattle.placement_relay.proofs.EventualSets.{members_apart}
use Rattle.placement_relay.proofs.HopPlaces.{numbers-next, member-low}
use Rattle.placement_relay.proofs.placing.member_numbers.Goals as goal

pub loop-a-preserved : goal.loop-a-preserved
loop-a-preserved c =
    let w = c.args.world.now in
    let set = c.args.set.0 in
    let members = members_of w set in
    let a = c.loop-a.a in
    let at = c.from.result in
    let listed : c.members-member-items.result.now ≡ members = c.members-member-items.ensures.members in
    let inside : a < length members = omega (arith, c.loop-a-test.true, ap length listed) in
    let here : at ≡ (get_or members a nobody).dc.0 = c.from.ensures ∙ ap (λ ms. (get_or ms a nobody).dc.0) listed in
    let low : at < 16 = omega (arith, here, member-low w set c.requires a inside) in (
      length-set c.loop-a.numbers at a ∙ c.loop-a.invariant.0,
      numbers-next members c.loop-a.numbers a at c.loop-a.invariant.0 (members_apart w set c.requires) inside here low c.loop-a.invariant.1,
    )
