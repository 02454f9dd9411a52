use Rattle.std.proofs.Common.{◌≤◌, ◌^◌}
use Rattle.std.specs.Prelude.{slice_range}
use Rattle.std.specs.List.{AllWithin}
use Rattle.primal_dual.specs.Tables.{terms_size}
use Rattle.primal_dual.proofs.layout.greatest_size.Given as goal

abbrev pub invariant-loop-span : goal.invariant-loop-span
invariant-loop-span l =
    record {
      sized : AllWithin (λ span. terms_size (slice_range l.terms span.begin span.end) ≤ l.greatest) l.spans 0 l.span-index;
      least : 1 ≤ l.greatest;
      greatest : l.greatest ≤ 10 ^ 7;
    }
