use Rattle.std.proofs.Common.{◌≡◌, ℕ, ◌++◌, ◌<◌, ◌∙◌, sym, ap, arith, List, map, length, take, get_or}
use Rattle.std.specs.List.{filter, flat_map}
use Rattle.std.proofs.lemmas.List.{take_all}
use Rattle.std.proofs.lemmas.List.FromFn.{length-enumerate_from}
use Rattle.span_base.specs.declared.policy.Hop.{Hop}
use Rattle.workload.specs.World.{members_of}
use Rattle.workload.specs.declared.rules.Demand.{Demand}
use Rattle.zero_one.specs.Rows.{bit_of}
use Rattle.placement_rows.specs.Centres.{centres, numbered_members, nobody}
use Rattle.placement_relay.specs.Placed.{chosen_hop}
use Rattle.placement_rows.proofs.Loops.{numbered_pieces_next}
use Rattle.placement_relay.proofs.decoding.chosen_hops.Goals as goal

pub loop-a-preserved : goal.loop-a-preserved
loop-a-preserved c =
    let listed : c.members-member-items.result.now ≡ members_of c.args.world.now c.args.set.0 = cc in
    let w = c.args.world.now in
    let members = members_of w c.args.set.0 in
    let of : ℕ × Demand → List Hop = λ am. map (chosen_hop w c.args.set.0 c.args.x.now am) (filter (bit_of c.args.x.now) (centres w)) in
    let inside : c.loop-a.a < length members = omega (arith, c.loop-a-test.true, ap length listed) in
    c.in_ok-push_chosen_hops.ensures
    ∙ ap (λ hs. hs ++ of (c.loop-a.a, get_or c.members-member-items.result.now c.loop-a.a nobody)) c.loop-a.invariant
    ∙ ap (λ ms. flat_map of (take c.loop-a.a (numbered_members w c.args.set.0)) ++ of (c.loop-a.a, get_or ms c.loop-a.a nobody)) listed
    ∙ sym (numbered_pieces_next of members c.loop-a.a nobody inside)

pub returns : goal.returns
returns c =
    let listed : c.members-member-items.result.now ≡ members_of c.args.world.now c.args.set.0 = cc in
    let w = c.args.world.now in
    let same : length c.members-member-items.result.now ≡ length (members_of w c.args.set.0) = ap length listed in
    c.from_vec.ensures
    ∙ c.loop-a.invariant
    ∙ ap (flat_map (λ am. map (chosen_hop w c.args.set.0 c.args.x.now am) (filter (bit_of c.args.x.now) (centres w)))) (take_all c.loop-a.a (numbered_members w c.args.set.0) (omega (arith, same, c.loop-a-test.false, length-enumerate_from 0 (members_of w c.args.set.0))))
