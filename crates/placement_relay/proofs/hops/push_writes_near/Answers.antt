use Rattle.std.proofs.Common.{◌≡◌, ◌++◌, ◌<◌, ◌∙◌, sym, ap, arith, map, length, take, get_or, [], ◌∷◌}
use Rattle.std.proofs.lemmas.List.{take_all, append_assoc}
use Rattle.std.proofs.lemmas.List.FromFn.{length-enumerate_from}
use Rattle.workload.specs.World.{members_of}
use Rattle.placement_rows.specs.Centres.{numbered_members, nobody}
use Rattle.placement_relay.specs.Relay.{writes_near}
use Rattle.placement_rows.proofs.Loops.{numbered_next}
use Rattle.placement_relay.proofs.hops.push_writes_near.Goals as goal

pub loop-a-preserved : goal.loop-a-preserved
loop-a-preserved c =
    let listed : c.members-member-items.result.now ≡ members_of c.args.world.now c.args.set.0 = cc in
    let w = c.args.world.now in
    let members = members_of w c.args.set.0 in
    let inside : c.loop-a.a < length members = omega (arith, c.loop-a-test.true, ap length listed) in
    let rows = c.args.rows.now.items in
    let before = map (writes_near w c.args.set.0) (take c.loop-a.a (numbered_members w c.args.set.0)) in
    let row = c.in_ok-writes_near.field-0 in
    c.in_ok-push.ensures.items
    ∙ ap (λ rs. rs ++ row ∷ []) c.loop-a.invariant
    ∙ append_assoc rows before (row ∷ [])
    ∙ ap (λ r. rows ++ (before ++ r ∷ [])) (c.in_ok-writes_near.ensures ∙ ap (λ ms. writes_near w c.args.set.0 (c.loop-a.a, get_or ms c.loop-a.a nobody)) listed)
    ∙ ap (λ rs. rows ++ rs) (sym (numbered_next (writes_near w c.args.set.0) members c.loop-a.a nobody inside))

pub returns : goal.returns
returns c =
    let listed : c.members-member-items.result.now ≡ members_of c.args.world.now c.args.set.0 = cc in
    let same : length c.members-member-items.result.now ≡ length (members_of c.args.world.now c.args.set.0) = ap length listed in
    c.loop-a.invariant ∙ ap (λ xs. c.args.rows.now.items ++ map (writes_near c.args.world.now c.args.set.0) xs)
    (take_all c.loop-a.a (numbered_members c.args.world.now c.args.set.0) (omega (arith, same, c.loop-a-test.false, length-enumerate_from 0 (members_of c.args.world.now c.args.set.0))))
