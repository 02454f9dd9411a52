use Rattle.std.proofs.Common.{◌++◌, ◌<◌, ◌∙◌, ℕ, List, sym, ap, arith, length, take, get_or}
use Rattle.std.specs.List.{flat_map}
use Rattle.std.proofs.lemmas.List.{take_all, append_assoc}
use Rattle.std.proofs.lemmas.List.FromFn.{length-enumerate_from}
use Rattle.zero_one.specs.declared.rows.Row.{Row}
use Rattle.placement_rows.specs.Centres.{centres}
use Rattle.placement_rows.proofs.Loops.{numbered_pieces_next}
use Rattle.placement_strong.specs.Variables.{member_count, pairs}
use Rattle.placement_strong.specs.Rows.{numbered_pairs, writes_meet_within}
use Rattle.placement_strong.proofs.Pairs.{pair_at, place_at}
use Rattle.placement_strong.proofs.StrongSets.{few_members}
use Rattle.placement_strong.proofs.backed_rows.push_writes_meet_within.Goals as goal

pub push_writes_meet_within_pair-requires-clause-pair : goal.push_writes_meet_within_pair-requires-clause-pair
push_writes_meet_within_pair-requires-clause-pair c = omega (arith, place_at (member_count c.args.world.now c.args.set.0) (few_members c.args.world.now c.args.set.0 c.requires.strong) c.args.list.now c.requires.pairs c.loop-pair.pair c.loop-pair-test.true)

pub overflow_cast-pair : goal.overflow_cast-pair
overflow_cast-pair c = omega (arith, place_at (member_count c.args.world.now c.args.set.0) (few_members c.args.world.now c.args.set.0 c.requires.strong) c.args.list.now c.requires.pairs c.loop-pair.pair c.loop-pair-test.true)

pub push_writes_meet_within_pair-requires-clause-first : goal.push_writes_meet_within_pair-requires-clause-first
push_writes_meet_within_pair-requires-clause-first c =
    let p = pair_at (member_count c.args.world.now c.args.set.0) c.args.list.now c.requires.pairs c.loop-pair.pair c.loop-pair-test.true in omega (arith, p.rises, p.low)

pub push_writes_meet_within_pair-requires-clause-second : goal.push_writes_meet_within_pair-requires-clause-second
push_writes_meet_within_pair-requires-clause-second c = (pair_at (member_count c.args.world.now c.args.set.0) c.args.list.now c.requires.pairs c.loop-pair.pair c.loop-pair-test.true).low

pub loop-pair-preserved : goal.loop-pair-preserved
loop-pair-preserved c =
    let f : ℕ × (ℕ × ℕ) → List Row = λ p. flat_map (writes_meet_within c.args.world.now c.args.set.0 p) (centres c.args.world.now) in
    let list = pairs (member_count c.args.world.now c.args.set.0) in
    let i = c.loop-pair.pair in
    let in' : i < length list = omega (arith, ap length c.requires.pairs, c.loop-pair-test.true) in
    let rows = c.args.rows.now.items in
    let before = flat_map f (take i (numbered_pairs c.args.world.now c.args.set.0)) in
    let here = f (i, get_or c.args.list.now i (0, 0)) in
    c.in_ok-push_writes_meet_within_pair.ensures
    ∙ ap (λ rs. rs ++ here) c.loop-pair.invariant
    ∙ append_assoc rows before here
    ∙ ap (λ (ps : List (ℕ × ℕ)). rows ++ (before ++ f (i, get_or ps i (0, 0)))) c.requires.pairs
    ∙ ap (λ rs. rows ++ rs) (sym (numbered_pieces_next f list i (0, 0) in'))

pub returns : goal.returns
returns c =
    let list = pairs (member_count c.args.world.now c.args.set.0) in
    c.loop-pair.invariant
    ∙ ap (λ ps. c.args.rows.now.items ++ flat_map (λ p. flat_map (writes_meet_within c.args.world.now c.args.set.0 p) (centres c.args.world.now)) ps)
    (take_all c.loop-pair.pair (numbered_pairs c.args.world.now c.args.set.0) (omega (arith, ap length c.requires.pairs, c.loop-pair-test.false, length-enumerate_from 0 list)))
