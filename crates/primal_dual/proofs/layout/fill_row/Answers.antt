use Rattle.std.proofs.Common.{◌≡◌, ◌≤◌, arith, get_or, ℤ, ◌^◌, ◌<◌, length, unsigned_abs, to_z, of_z, pos, ◌-ℤ◌, FitsSigned, rules}
use Rattle.std.specs.Int.{w32}
use Rattle.std.proofs.lemmas.Int.{ints, to_z-of_z}
use Rattle.std.proofs.lemmas.List.Sums.{get_or-le-sum_by}
use Rattle.zero_one.specs.declared.rows.Entry.{Entry}
use Rattle.primal_dual.proofs.Terms.{no_entry, entry_more, size_set, known_set, within_set}
use Rattle.primal_dual.specs.declared.table.Span.{Span}
use Rattle.primal_dual.specs.declared.table.Term.{Term}
use Rattle.primal_dual.proofs.layout.fill_row.Goals as goal
use Rattle.primal_dual.proofs.layout.fill_row.Goals.{then-span-terms, else-span-terms}

turned_size : (z : ℤ) → unsigned_abs z ≤ 10 ^ 7 → unsigned_abs (to_z w32 (of_z w32 (pos 0 -ℤ to_z w32 (of_z w32 z)))) ≡ unsigned_abs z
turned_size z small =
    let one : to_z w32 (of_z w32 z) ≡ z = to_z-of_z w32 z (omega (arith, ints)) in
    let two : to_z w32 (of_z w32 (pos 0 -ℤ z)) ≡ pos 0 -ℤ z = to_z-of_z w32 _ (omega (arith, ints)) in
    rw (one, two) (omega (arith, ints))

pub loop-entry-preserved : goal.loop-entry-preserved
loop-entry-preserved c =
    let more = entry_more c.args.entries.now c.loop-entry.entry-index c.loop-entry-test.true in
    let entry = get_or c.args.entries.now c.loop-entry.entry-index no_entry in
    let span : Span = get_or c.loop-entry.spans c.from-line.result (record { begin = 0; end = 0 }) in
    let terms = c.loop-entry.terms in
    elim c.if-span-terms.branch [
      | then-span-terms w ↦
          let term : Term = record { other = c.args.row; coef = to_z w32 (of_z w32 (pos 0 -ℤ to_z w32 (of_z w32 entry.coef))) } in
          let fits : FitsSigned w32 (get_or c.args.entries.now c.loop-entry.entry-index no_entry).coef = search rules in
          let light = get_or-le-sum_by (λ (e : Entry). unsigned_abs e.coef) c.args.entries.now c.loop-entry.entry-index no_entry c.loop-entry-test.true in
          let same : unsigned_abs (to_z w32 (of_z w32 (pos 0 -ℤ to_z w32 (of_z w32 (get_or c.args.entries.now c.loop-entry.entry-index no_entry).coef)))) ≡ unsigned_abs (get_or c.args.entries.now c.loop-entry.entry-index no_entry).coef = turned_size (get_or c.args.entries.now c.loop-entry.entry-index no_entry).coef (omega (arith, light, c.requires.light)) in
          let written = size_set terms span.end term w.if-span-terms.true in
          let inside : c.from-line.result < length c.loop-entry.spans = search rules in
          let lies = c.loop-entry.invariant.within c.from-line.result (record { begin = 0; end = 0 }) inside in
          rw (w.terms-is, w.spans-is) (record {
            known = λ others below old. known_set others terms span.end _ below (c.loop-entry.invariant.known others below old);
            within = within_set terms span.end _ c.loop-entry.spans c.from-line.result _ (omega arith, omega arith) c.loop-entry.invariant.within;
            size = omega (arith, written, same, more, c.loop-entry.invariant.size);
          })
      | else-span-terms w ↦
          rw (w.terms-is, w.spans-is) (record {
            known = c.loop-entry.invariant.known;
            within = c.loop-entry.invariant.within;
            size = omega (arith, more, c.loop-entry.invariant.size);
          })
    ]
