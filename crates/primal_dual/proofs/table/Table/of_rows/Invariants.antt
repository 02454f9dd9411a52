use Rattle.std.proofs.Common.{◌≡◌, ◌≤◌, length, take}
use Rattle.std.specs.List.{All}
use Rattle.zero_one.specs.Rows.{weight_of}
use Rattle.primal_dual.specs.Tables.{AreKnown, LiesWithin, terms_size}
use Rattle.primal_dual.proofs.table.Table.of_rows.Given as goal

abbrev pub invariant-loop-row : goal.invariant-loop-row
invariant-loop-row l =
    record {
      known : AreKnown l.others l.terms.items;
      within : All (LiesWithin (length l.terms.items)) l.spans.items;
      size : terms_size l.terms.items ≤ weight_of (take l.row-index l.row-items);
      count : length l.spans.items ≡ l.row-index;
    }
