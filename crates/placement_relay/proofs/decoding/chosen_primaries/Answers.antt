use Rattle.std.proofs.Common.{◌≡◌, ◌++◌, ◌<◌, ◌∙◌, [], ◌∷◌, sym, ap, arith, map, length, take, get_or}
use Rattle.std.proofs.lemmas.List.{take_all}
use Rattle.std.proofs.lemmas.List.FromFn.{length-enumerate_from}
use Rattle.workload.specs.World.{members_of}
use Rattle.placement_rows.specs.Centres.{numbered_members, nobody}
use Rattle.placement_relay.specs.Placed.{chosen_primary}
use Rattle.placement_rows.proofs.Loops.{numbered_next}
use Rattle.placement_relay.proofs.decoding.chosen_primaries.Goals as goal

pub loop-a-preserved : goal.loop-a-preserved
loop-a-preserved c =
    let listed : c.members-member-items.result.now ≡ members_of c.args.world.now c.args.set.0 = cc in
    let w = c.args.world.now in
    let members = members_of w c.args.set.0 in
    let f = chosen_primary w c.args.set.0 c.args.x.now in
    let inside : c.loop-a.a < length members = omega (arith, c.loop-a-test.true, ap length listed) in
    let before = map f (take c.loop-a.a (numbered_members w c.args.set.0)) in
    let near = c.chosen_primary.result in
    c.in_ok-push.ensures.ok
    ∙ ap (λ ns. ns ++ near ∷ []) c.loop-a.invariant
    ∙ ap (λ n. before ++ n ∷ []) (c.chosen_primary.ensures ∙ ap (λ ms. f (c.loop-a.a, get_or ms c.loop-a.a nobody)) listed)
    ∙ sym (numbered_next f members c.loop-a.a nobody inside)

pub returns : goal.returns
returns c =
    let listed : c.members-member-items.result.now ≡ members_of c.args.world.now c.args.set.0 = cc in
    let w = c.args.world.now in
    let same : length c.members-member-items.result.now ≡ length (members_of w c.args.set.0) = ap length listed in
    c.loop-a.invariant
    ∙ ap (map (chosen_primary w c.args.set.0 c.args.x.now)) (take_all c.loop-a.a (numbered_members w c.args.set.0) (omega (arith, same, c.loop-a-test.false, length-enumerate_from 0 (members_of w c.args.set.0))))
