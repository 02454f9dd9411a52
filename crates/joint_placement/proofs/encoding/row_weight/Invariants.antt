use Rattle.std.proofs.Common.{◌≡◌, ◌+◌, ◌*◌, ◌^◌, ◌≤◌, take, sum_by, unsigned_abs}
use Rattle.joint_placement.proofs.encoding.row_weight.Given as goal

abbrev pub invariant-loop-entry : goal.invariant-loop-entry
invariant-loop-entry l =
    (l.weight ≡ unsigned_abs l.fn.row.bound + sum_by (λ entry. unsigned_abs entry.coef) (take l.entry-index l.entry-items)) × (l.weight ≤ 2 ^ 31 + l.entry-index * 2 ^ 31)
