use Rattle.std.proofs.Common.{◌≡◌, ℕ, ◌+◌, ◌^◌, ◌≤◌, List, ◌++◌, length, map, All, ◌∙◌, sym, ap, subst, arith}
use Rattle.std.specs.List.{flat_map, range_with_len}
use Rattle.placement_rows.proofs.Loops.{pieces_next}
use Rattle.joint_placement.specs.Variables.{first_of}
use Rattle.joint_placement.specs.Capacity.{set_loads, joint_loads, load_from}
use Rattle.joint_placement.proofs.Counting.{first-next, first-up}
use Rattle.joint_placement.proofs.SmallLoads.{small-loads}
use Rattle.joint_placement.proofs.loads.loads_of.Goals as goal

pub loop-set-preserved : goal.loop-set-preserved
loop-set-preserved c =
    let w = c.args.world.now in
    let set = c.loop-set.set in
    let inv = c.loop-set.invariant in
    let piece : ℕ → List (ℕ × ℕ) = λ s. map (load_from (first_of w s)) (set_loads w c.args.unit c.args.dc.0 s) in
    let up = first-up w (length w.sets) (set + 1) (omega (arith, c.loop-set-test.true, c.sets-set-end.ensures)) in
    let next : c.loop-set.first + c.variables_of.result ≡ first_of w (set + 1) = omega (arith, inv.next, c.variables_of.ensures.count, first-next w set) in
    record {
      gathered = c.in_ok-push_set.ensures
          ∙ ap (λ ls. ls ++ map (load_from c.loop-set.first) (set_loads w c.args.unit c.args.dc.0 set)) inv.gathered
          ∙ ap (λ k. flat_map piece (range_with_len 0 set) ++ map (load_from k) (set_loads w c.args.unit c.args.dc.0 set)) inv.next
          ∙ sym (pieces_next piece set);
      next = next;
      low = omega (arith, next, up, c.requires.variables);
    }

pub returns-clause-loads : goal.returns-clause-loads
unfolding joint_loads
returns-clause-loads c =
    let w = c.args.world.now in
    let piece : ℕ → List (ℕ × ℕ) = λ s. map (load_from (first_of w s)) (set_loads w c.args.unit c.args.dc.0 s) in
    let end : c.loop-set.set ≡ length w.sets = omega (arith, c.loop-set-test.false, c.loop-set.auto.set-end, c.sets-set-end.ensures) in
    c.loop-set.invariant.gathered ∙ ap (λ n. flat_map piece (range_with_len 0 n)) end

pub returns-clause-small : goal.returns-clause-small
unfolding joint_loads
returns-clause-small c =
    let w = c.args.world.now in
    let piece : ℕ → List (ℕ × ℕ) = λ s. map (load_from (first_of w s)) (set_loads w c.args.unit c.args.dc.0 s) in
    let end : c.loop-set.set ≡ length w.sets = omega (arith, c.loop-set-test.false, c.loop-set.auto.set-end, c.sets-set-end.ensures) in
    let all : c.loop-set.loads.items ≡ joint_loads w c.args.unit c.args.dc.0 = c.loop-set.invariant.gathered ∙ ap (λ n. flat_map piece (range_with_len 0 n)) end in
    subst (All (λ load. load.1 ≤ 2 ^ 34)) (sym all) (small-loads w c.args.unit c.args.dc.0 c.centre_count-centres.ensures.complete c.requires.some c.requires.unit)
