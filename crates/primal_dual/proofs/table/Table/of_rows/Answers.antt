use Rattle.std.proofs.Common.{arith, sym, length, length-append, ◌∷◌, []}
use Rattle.std.proofs.lemmas.List.Elements.{All-push}
use Rattle.zero_one.specs.Rows.{KnowsItsVars}
use Rattle.primal_dual.specs.Tables.{LiesWithin}
use Rattle.primal_dual.specs.declared.table.Span.{Span}
use Rattle.primal_dual.proofs.Terms.{within_more, row_more, row_knows}
use Rattle.primal_dual.proofs.table.Table.of_rows.Goals as goal

pub loop-row-preserved : goal.loop-row-preserved
loop-row-preserved c =
    let rows = c.rows-row-items.result.now in
    let row = c.row-item.result in
    let more = row_more rows c.loop-row.row-index row c.loop-row-test.true c.row-item.is in
    let knows : KnowsItsVars (length c.costs-others.result.now) c.row-item.result = (let known = rw (sym c.rows-row-items.ensures.rows, sym c.costs-others.ensures.costs) at c.rows-row-items.ensures.within.known in row_knows _ rows c.loop-row.row-index row c.loop-row-test.true c.row-item.is known) in
    let spans = c.loop-row.spans.items in
    let span : Span = record { begin = c.len-begin.result; end = c.len-end.result } in
    record {
      known = c.add_terms.ensures.known (length c.costs-others.result.now) c.loop-row.invariant.known (rw c.as_slice.ensures knows);
      within = rw c.in_ok-push.ensures.items (All-push (LiesWithin (length c.add_terms.new.terms.items)) spans span (within_more _ _ spans c.add_terms.ensures.grown c.loop-row.invariant.within) (omega (arith, c.add_terms.ensures.grown, c.len-begin.ensures, c.len-end.ensures), omega (arith, c.len-end.ensures)));
      size = (let size = rw c.as_slice.ensures at c.add_terms.ensures.size in omega (arith, size, more, c.loop-row.invariant.size));
      count = rw c.in_ok-push.ensures.items (omega (arith, length-append spans (span ∷ []), c.loop-row.invariant.count));
    }
