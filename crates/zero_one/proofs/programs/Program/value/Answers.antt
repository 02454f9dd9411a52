use Rattle.std.proofs.Common.{◌≡◌, ◌<◌, ◌^◌, arith, length, get_or, ap, sym, ◌∙◌}
use Rattle.zero_one.specs.Contents.{Contents}
use Rattle.zero_one.proofs.Values.{value_of_one, value_of_zero}
use Rattle.zero_one.proofs.programs.Program.value.Goals as goal
use Rattle.zero_one.proofs.programs.Program.value.Goals.{then-x-i, else-x-i}

pub loop-i-preserved : goal.loop-i-preserved
loop-i-preserved c =
    let costs = c.deref-cost-items.result.now in
    let same : length c.args.x.now ≡ length costs = rw c.deref-cost-items.ensures.value (c.requires ∙ sym (ap (λ (p : Contents). length p.costs) c.self.view_is)) in
    elim c.if-x-i.branch [
      | then-x-i w ↦
          let cheap : get_or costs c.loop-i.i 0 < 10 ^ 24 = (let h = c.loop-i-test.true in rw c.deref-cost-items.ensures.value (c.self.invariant.costs c.loop-i.i 0 (rw c.deref-cost-items.ensures.value at h))) in
          let more = value_of_one costs c.args.x.now c.loop-i.i c.loop-i-test.true same (rw c.as_slice-x.ensures at w.if-x-i.true) in
          (omega (arith, more), omega (arith, cheap))
      | else-x-i w ↦
          let more = value_of_zero costs c.args.x.now c.loop-i.i c.loop-i-test.true same (rw c.as_slice-x.ensures at w.if-x-i.false) in
          (omega (arith, more), omega arith)
    ]
