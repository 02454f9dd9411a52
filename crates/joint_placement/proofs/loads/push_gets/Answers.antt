use Rattle.std.proofs.Common.{◌≡◌, ℕ, ◌+◌, ◌<◌, ◌++◌, [], ◌∷◌, ◌∙◌, sym, ap, arith, map, length, take, get_or}
use Rattle.std.proofs.lemmas.List.{take_all, append_assoc}
use Rattle.std.proofs.lemmas.List.FromFn.{length-enumerate_from}
use Rattle.workload.specs.World.{members_of}
use Rattle.workload.specs.declared.rules.Demand.{Demand}
use Rattle.placement_rows.specs.Centres.{numbered_members, nobody}
use Rattle.placement_relay.specs.Reading.{h}
use Rattle.placement_rows.proofs.Loops.{numbered_next}
use Rattle.joint_placement.specs.Loads.{units}
use Rattle.joint_placement.proofs.loads.push_gets.Goals as goal

pub loop-a-preserved : goal.loop-a-preserved
loop-a-preserved c =
    let listed : c.members-member-items.result.now ≡ members_of c.args.world.now c.args.set.0 = cc in
    let w = c.args.world.now in
    let members = members_of w c.args.set.0 in
    let f : ℕ × Demand → ℕ × ℕ = λ am. (c.args.first + h w am.0 c.args.dc.0, units c.args.unit am.1.gets) in
    let inside : c.loop-a.a < length members = omega (arith, c.loop-a-test.true, ap length listed) in
    let old = c.args.loads.now.items in
    let before = map f (take c.loop-a.a (numbered_members w c.args.set.0)) in
    let load : ℕ × ℕ = (c.args.first + c.reading.result, c.units.result) in
    let is : load ≡ f (c.loop-a.a, get_or members c.loop-a.a nobody) =
    ap (λ v. (c.args.first + v, c.units.result)) c.reading.ensures.variable
    ∙ ap (λ n. (c.args.first + h w c.loop-a.a c.args.dc.0, n)) (c.units.ensures.units ∙ ap (λ ms. units c.args.unit (get_or ms c.loop-a.a nobody).gets) listed) in
    c.in_ok-push.ensures.items
    ∙ ap (λ ls. ls ++ load ∷ []) c.loop-a.invariant
    ∙ append_assoc old before (load ∷ [])
    ∙ ap (λ l. old ++ (before ++ l ∷ [])) is
    ∙ ap (λ ls. old ++ ls) (sym (numbered_next f members c.loop-a.a nobody inside))

pub returns : goal.returns
returns c =
    let listed : c.members-member-items.result.now ≡ members_of c.args.world.now c.args.set.0 = cc in
    let w = c.args.world.now in
    let f : ℕ × Demand → ℕ × ℕ = λ am. (c.args.first + h w am.0 c.args.dc.0, units c.args.unit am.1.gets) in
    let same : length c.members-member-items.result.now ≡ length (members_of w c.args.set.0) = ap length listed in
    c.loop-a.invariant
    ∙ ap (λ ls. c.args.loads.now.items ++ map f ls) (take_all c.loop-a.a (numbered_members w c.args.set.0) (omega (arith, same, c.loop-a-test.false, length-enumerate_from 0 (members_of w c.args.set.0))))
