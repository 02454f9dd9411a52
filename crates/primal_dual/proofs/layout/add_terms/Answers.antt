use Rattle.std.proofs.Common.{◌≡◌, arith, get_or, length-append, ◌++◌, ◌∷◌, [], ap, unsigned_abs, FitsSigned, to_z, of_z, rules}
use Rattle.std.specs.Int.{w32}
use Rattle.std.proofs.lemmas.Int.{to_z-of_z}
use Rattle.primal_dual.proofs.Terms.{no_entry, entry_more, size_push, known_push}
use Rattle.primal_dual.specs.declared.table.Term.{Term}
use Rattle.primal_dual.proofs.layout.add_terms.Goals as goal

pub loop-entry-preserved : goal.loop-entry-preserved
loop-entry-preserved c =
    let entry = get_or c.args.entries.now c.loop-entry.entry-index no_entry in
    let terms = c.loop-entry.terms.items in
    let term : Term = record { other = entry.var; coef = to_z w32 (of_z w32 entry.coef) } in
    let fits : FitsSigned w32 (get_or c.args.entries.now c.loop-entry.entry-index no_entry).coef = search rules in
    let same : to_z w32 (of_z w32 (get_or c.args.entries.now c.loop-entry.entry-index no_entry).coef) ≡ (get_or c.args.entries.now c.loop-entry.entry-index no_entry).coef = to_z-of_z w32 _ fits in
    let more = entry_more c.args.entries.now c.loop-entry.entry-index c.loop-entry-test.true in
    let now : c.push.new.self.items ≡ c.loop-entry.terms.items ++ term ∷ [] = c.in_ok-push.ensures.items in
    let size = size_push terms term in
    rw now (record {
      grown = omega (arith, length-append terms (term ∷ []), c.loop-entry.invariant.grown);
      known = λ others old below. known_push others terms term (c.loop-entry.invariant.known others old below) (below _ _ c.loop-entry-test.true);
      size = omega (arith, size, more, ap unsigned_abs same, c.loop-entry.invariant.size);
    })
