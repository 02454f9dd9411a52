use Rattle.std.proofs.Common.{◌≡◌, ℕ, ◌+◌, ◌*◌, ◌^◌, ◌≤◌, pos, ◌-ℤ◌, take, get_or, unsigned_abs, sum_by}
use Rattle.bound_cert.specs.Leaves.{column_part, bound_part}
use Rattle.bound_cert.specs.Sizes.{pairs_weight}
use Rattle.bound_cert.proofs.bounds.take_rows.Given as goal

abbrev pub invariant-loop-pair : goal.invariant-loop-pair
invariant-loop-pair l =
    record {
      asked : l.asked ≡ bound_part l.rows (take l.pair-index l.pairs);
      each : (var : ℕ) → get_or l.scratch var (pos 0) ≡ get_or l.fn.scratch var (pos 0) -ℤ column_part l.rows (take l.pair-index l.pairs) var;
      size : sum_by unsigned_abs l.scratch + unsigned_abs l.asked ≤ sum_by unsigned_abs l.fn.scratch + 10 ^ 30 * pairs_weight l.rows (take l.pair-index l.pairs);
    }
