use Rattle.std.proofs.Common.{◌≤◌, length, take}
use Rattle.std.specs.List.{All}
use Rattle.zero_one.specs.Rows.{weight_of}
use Rattle.primal_dual.specs.Tables.{AreKnown, LiesWithin, terms_size}
use Rattle.primal_dual.proofs.layout.fill.Given as goal

abbrev pub invariant-loop-j : goal.invariant-loop-j
invariant-loop-j l =
    record {
      known : AreKnown (length l.rows) l.terms;
      within : All (LiesWithin (length l.terms)) l.spans;
      size : terms_size l.terms ≤ weight_of (take l.j l.rows);
    }
