use Rattle.std.proofs.Common.{ℕ, ◌+◌, ◌<◌, ◌≤◌, length, take}
use Rattle.std.specs.List.{All}
use Rattle.bound_cert.specs.Sizes.{coefs_size}
use Rattle.primal_dual.specs.Tables.{AreKnown, terms_size}
use Rattle.primal_dual.proofs.layout.add_terms.Given as goal

abbrev pub invariant-loop-entry : goal.invariant-loop-entry
invariant-loop-entry l =
    record {
      grown : length l.initial.terms.items ≤ length l.terms.items;
      known : (others : ℕ) → AreKnown others l.initial.terms.items → All (λ entry. entry.var < others) l.entries → AreKnown others l.terms.items;
      size : terms_size l.terms.items ≤ terms_size l.initial.terms.items + coefs_size (take l.entry-index l.entries);
    }
