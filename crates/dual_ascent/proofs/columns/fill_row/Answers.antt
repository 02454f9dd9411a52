use Rattle.std.proofs.Common.{◌≡◌, ◌<◌, ◌+◌, ◌∙◌, ℕ, [], ◌∷◌, ◌++◌, List, length, get_or, set, unsigned_abs, to_z, of_z, sym, subst, arith, ap, rules, FitsSigned, length-set}
use Rattle.std.specs.Int.{w32}
use Rattle.std.specs.List.{All}
use Rattle.std.proofs.lemmas.Int.{to_z-of_z}
use Rattle.std.proofs.lemmas.List.{take_all}
use Rattle.std.proofs.lemmas.List.Sums.{sum_by_more}
use Rattle.zero_one.specs.declared.rows.Entry.{Entry}
use Rattle.bound_cert.specs.Sizes.{coefs_size}
use Rattle.bound_cert.proofs.Scratch.{no_entry}
use Rattle.dual_ascent.specs.declared.columns.Term.{Term}
use Rattle.dual_ascent.specs.Columns.{AreIn, AreLight}
use Rattle.dual_ascent.proofs.Filling.{known_more, light_more}
use Rattle.dual_ascent.proofs.columns.fill_row.Goals as goal

pub loop-entry-preserved : goal.loop-entry-preserved
loop-entry-preserved c =
    let columns = c.loop-entry.columns in
    let old = c.index-columns-from.result in
    let coef = (get_or c.args.entries.now c.loop-entry.entry-index no_entry).coef in
    let term : Term = record { row = c.args.row; coef = to_z w32 (of_z w32 (get_or c.args.entries.now c.loop-entry.entry-index no_entry).coef) } in
    let pushed : c.push.new.self ≡ get_or c.loop-entry.columns c.from.result c.index-columns-from.result ++ record { row = c.args.row; coef = to_z w32 (of_z w32 (get_or c.args.entries.now c.loop-entry.entry-index no_entry).coef) } ∷ [] = c.in_ok-push.ensures.ok in
    let fits : FitsSigned w32 (get_or c.args.entries.now c.loop-entry.entry-index no_entry).coef = search rules in
    let read : unsigned_abs (to_z w32 (of_z w32 (get_or c.args.entries.now c.loop-entry.entry-index no_entry).coef)) ≡ unsigned_abs (get_or c.args.entries.now c.loop-entry.entry-index no_entry).coef = ap unsigned_abs (to_z-of_z w32 (get_or c.args.entries.now c.loop-entry.entry-index no_entry).coef fits) in
    let named = c.requires.known c.loop-entry.entry-index no_entry c.loop-entry-test.true in
    let inside : c.from.result < length c.loop-entry.columns = omega (arith, named, c.from.ensures, c.loop-entry.invariant.0) in
    let P : ℕ → List Term → Type 0 = λ rows column. All (AreIn rows) (set c.loop-entry.columns c.from.result column) in
    let Q : ℕ → List Term → Type 0 = λ size column. All (AreLight size) (set c.loop-entry.columns c.from.result column) in
    let more = sum_by_more (λ (entry : Entry). unsigned_abs entry.coef) c.args.entries.now c.loop-entry.entry-index no_entry c.loop-entry-test.true in (
      length-set columns c.from.result _ ∙ c.loop-entry.invariant.0,
      λ rows here all. subst (P rows) (sym pushed) (known_more rows columns c.from.result old term inside here (c.loop-entry.invariant.1 rows here all)),
      λ size all. subst (Q _) (sym pushed) (light_more _ _ columns c.from.result old term inside (omega (arith, more, read)) (c.loop-entry.invariant.2 size all)),
    )

pub returns-clause-light : goal.returns-clause-light
returns-clause-light c = λ size all.
    let whole = take_all c.loop-entry.entry-index c.args.entries.now c.loop-entry-test.false in
    let P : List Entry → Type 0 = λ entries. All (AreLight (size + coefs_size entries)) c.loop-entry.columns in
    subst P whole (c.loop-entry.invariant.2 size all)
