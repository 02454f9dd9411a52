use Rattle.std.proofs.Common.{ℕ, ◌+◌, ◌<◌, ◌≤◌, length, take}
use Rattle.std.specs.List.{All}
use Rattle.bound_cert.specs.Sizes.{coefs_size}
use Rattle.primal_dual.specs.Tables.{AreKnown, LiesWithin, terms_size}
use Rattle.primal_dual.proofs.layout.fill_row.Given as goal

abbrev pub invariant-loop-entry : goal.invariant-loop-entry
invariant-loop-entry l =
    record {
      known : (others : ℕ) → l.row < others → AreKnown others l.fn.terms → AreKnown others l.terms;
      within : All (LiesWithin (length l.terms)) l.spans;
      size : terms_size l.terms ≤ terms_size l.fn.terms + coefs_size (take l.entry-index l.entries);
    }
