use Rattle.std.proofs.Common.{◌≡◌, take, sum}
use Rattle.std.specs.List.{AllWithin}
use Rattle.primal_dual.specs.Tables.{LiesWithin}
use Rattle.primal_dual.proofs.layout.lay_out.Given as goal

abbrev pub invariant-loop-line : goal.invariant-loop-line
invariant-loop-line l =
    record {
      total : l.total ≡ sum (take l.line l.counts);
      within : AllWithin (LiesWithin (sum l.counts)) l.spans 0 l.line;
    }
