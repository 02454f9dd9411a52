use Rattle.std.proofs.Common.{◌≡◌, ◌+◌, ◌*◌, ◌++◌, ◌∙◌, false, true, length, get_or, set as write, take, replicate, refl, sym, ap, arith}
use Rattle.std.proofs.lemmas.List.{length-append}
use Rattle.workload.specs.World.{centre_count, members_of}
use Rattle.placement_relay.specs.Placed.{hop_bits}
use Rattle.placement_relay.proofs.Members.{set_within}
use Rattle.placement_relay.proofs.EventualSets.{members_apart}
use Rattle.placement_relay.proofs.HopPlaces.{no_hop, member-at, member-low, no-hops, long-hops, place-inside, bits-next}
use Rattle.placement_relay.proofs.placing.push_hops.Goals as goal

pub loop-hop-init : goal.loop-hop-init
loop-hop-init c =
    let w = c.args.world.now in
    let members = members_of w c.args.set.0 in
    let from = c.from-n.result in
    let n : from ≡ centre_count w = omega arith in
    let long : length c.members.result.now ≡ length members = ap length c.members.ensures.members in
    c.in_ok-push_zeros.ensures
    ∙ ap (λ k. c.args.bits.now.items ++ replicate k false) (ap (λ k. k * (from * from)) long ∙ ap (λ n. length members * (n * n)) n)
    ∙ ap (λ bits. c.args.bits.now.items ++ bits) (sym (no-hops w c.args.set.0))

pub bounds-numbers-from : goal.bounds-numbers-from
bounds-numbers-from c =
    let w = c.args.world.now in
    let set = c.args.set.0 in
    let hop = get_or c.args.hops.now c.loop-hop.hop-index no_hop in
    let at = member-at w set c.member_numbers-numbers.result hop c.member_numbers-numbers.ensures (c.requires.hops c.loop-hop.hop-index no_hop c.loop-hop-test.true) in
    omega (arith, c.from.ensures, at.is, member-low w set c.requires.set (get_or c.member_numbers-numbers.result hop.member.0 0) at.low)

pub hop_place-requires-clause-number : goal.hop_place-requires-clause-number
hop_place-requires-clause-number c =
    let w = c.args.world.now in
    let set = c.args.set.0 in
    let hop = get_or c.args.hops.now c.loop-hop.hop-index no_hop in
    let at = member-at w set c.member_numbers-numbers.result hop c.member_numbers-numbers.ensures (c.requires.hops c.loop-hop.hop-index no_hop c.loop-hop-test.true) in
    let few = (set_within w set c.requires.set).few_members in
    omega (arith, ap (λ k. get_or c.member_numbers-numbers.result k 0) c.from.ensures, at.low, few)

pub index_mut-requires : goal.index_mut-requires
index_mut-requires c =
    let w = c.args.world.now in
    let set = c.args.set.0 in
    let hop = get_or c.args.hops.now c.loop-hop.hop-index no_hop in
    let numbers = c.member_numbers-numbers.result in
    let is = c.requires.hops c.loop-hop.hop-index no_hop c.loop-hop-test.true in
    let at = member-at w set numbers hop c.member_numbers-numbers.ensures is in
    let a = get_or numbers hop.member.0 0 in
    let n = centre_count w in
    let same = ap (λ k. get_or numbers k 0 * (n * n)) c.from.ensures in
    let bits = hop_bits w set (take c.loop-hop.hop-index c.args.hops.now) in
    omega (
      arith,
      c.hop_place.ensures.place,
      same,
      place-inside w set a hop.parent.0 hop.child.0 at.low is.parent is.child,
      long-hops w set (take c.loop-hop.hop-index c.args.hops.now),
      length-append c.args.bits.now.items bits,
      ap length c.loop-hop.invariant,
      c.loop-hop.bits.ok,
      c.args.bits.now.ok,
      c.len-first.ensures,
    )

pub loop-hop-preserved : goal.loop-hop-preserved
loop-hop-preserved c =
    let w = c.args.world.now in
    let set = c.args.set.0 in
    let i = c.loop-hop.hop-index in
    let hops = c.args.hops.now in
    let hop = get_or hops i no_hop in
    let numbers = c.member_numbers-numbers.result in
    let is = c.requires.hops i no_hop c.loop-hop-test.true in
    let at = member-at w set numbers hop c.member_numbers-numbers.ensures is in
    let a = get_or numbers hop.member.0 0 in
    let n = centre_count w in
    let before = c.args.bits.now.items in
    let same = ap (λ k. get_or numbers k 0 * (n * n)) c.from.ensures in
    let place : c.len-first.result + c.hop_place.result ≡ length before + (a * (n * n) + (hop.parent.0 * n + hop.child.0)) = omega (arith, c.hop_place.ensures.place, same, c.args.bits.now.ok, c.len-first.ensures) in
    ap (λ k. write c.loop-hop.bits.items k true) place
    ∙ ap (λ bits. write bits (length before + (a * (n * n) + (hop.parent.0 * n + hop.child.0))) true) c.loop-hop.invariant
    ∙ bits-next w set before hops hop i a (members_apart w set c.requires.set) c.loop-hop-test.true refl at.low at.is is.child is.parent
