use Rattle.std.proofs.Common.{◌++◌, ◌<◌, ◌∙◌, ℕ, List, [], ◌∷◌, sym, ap, arith, map, length, take, get_or}
use Rattle.std.proofs.lemmas.List.{take_all, append_assoc}
use Rattle.std.proofs.lemmas.List.FromFn.{length-enumerate_from}
use Rattle.placement_rows.proofs.Loops.{numbered_next}
use Rattle.placement_strong.specs.Variables.{member_count, pairs}
use Rattle.placement_strong.specs.Rows.{numbered_pairs, writes_meet}
use Rattle.placement_strong.proofs.Pairs.{pair_at, place_at}
use Rattle.placement_strong.proofs.StrongSets.{few_members}
use Rattle.placement_strong.proofs.quorum_rows.push_writes_meet.Goals as goal

pub writes_meet-requires-clause-pair : goal.writes_meet-requires-clause-pair
writes_meet-requires-clause-pair c = omega (arith, place_at (member_count c.args.world.now c.args.set.0) (few_members c.args.world.now c.args.set.0 c.requires.strong) c.args.list.now c.requires.pairs c.loop-pair.pair c.loop-pair-test.true)

pub overflow_cast-pair : goal.overflow_cast-pair
overflow_cast-pair c = omega (arith, place_at (member_count c.args.world.now c.args.set.0) (few_members c.args.world.now c.args.set.0 c.requires.strong) c.args.list.now c.requires.pairs c.loop-pair.pair c.loop-pair-test.true)

pub writes_meet-requires-clause-first : goal.writes_meet-requires-clause-first
writes_meet-requires-clause-first c =
    let p = pair_at (member_count c.args.world.now c.args.set.0) c.args.list.now c.requires.pairs c.loop-pair.pair c.loop-pair-test.true in omega (arith, p.rises, p.low)

pub writes_meet-requires-clause-second : goal.writes_meet-requires-clause-second
writes_meet-requires-clause-second c = (pair_at (member_count c.args.world.now c.args.set.0) c.args.list.now c.requires.pairs c.loop-pair.pair c.loop-pair-test.true).low

pub loop-pair-preserved : goal.loop-pair-preserved
loop-pair-preserved c =
    let f = writes_meet c.args.world.now c.args.set.0 in
    let list = pairs (member_count c.args.world.now c.args.set.0) in
    let i = c.loop-pair.pair in
    let in' : i < length list = omega (arith, ap length c.requires.pairs, c.loop-pair-test.true) in
    let rows = c.args.rows.now.items in
    let before = map f (take i (numbered_pairs c.args.world.now c.args.set.0)) in
    let row = c.in_ok-writes_meet.field-0 in
    c.in_ok-push.ensures.items
    ∙ ap (λ rs. rs ++ row ∷ []) c.loop-pair.invariant
    ∙ append_assoc rows before (row ∷ [])
    ∙ ap (λ r. rows ++ (before ++ r ∷ [])) (c.in_ok-writes_meet.ensures ∙ ap (λ (ps : List (ℕ × ℕ)). f (i, get_or ps i (0, 0))) c.requires.pairs)
    ∙ ap (λ rs. rows ++ rs) (sym (numbered_next f list i (0, 0) in'))

pub returns : goal.returns
returns c =
    let list = pairs (member_count c.args.world.now c.args.set.0) in
    c.loop-pair.invariant
    ∙ ap (λ ps. c.args.rows.now.items ++ map (writes_meet c.args.world.now c.args.set.0) ps)
    (take_all c.loop-pair.pair (numbered_pairs c.args.world.now c.args.set.0) (omega (arith, ap length c.requires.pairs, c.loop-pair-test.false, length-enumerate_from 0 list)))
