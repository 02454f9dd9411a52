use Rattle.std.proofs.Common.{ℕ, ℤ, List, ◌≡◌, ◌≤◌, ◌<◌, ◌+◌, ◌^◌, ◌∙◌, arith, pos, unsigned_abs, get_or, length, take, to_z, of_z, ap, rules, FitsSigned, length-set}
use Rattle.std.specs.Int.{w32, w64}
use Rattle.std.proofs.lemmas.Int.{ints, to_z-of_z}
use Rattle.std.proofs.lemmas.List.Sums.{sum_by_more, sum_by-take-le}
use Rattle.dual_ascent.specs.declared.columns.Term.{Term}
use Rattle.dual_ascent.specs.Columns.{terms_size, IsColumn}
use Rattle.dual_ascent.specs.Tallies.{reach}
use Rattle.dual_ascent.proofs.Filling.{no_term}
use Rattle.dual_ascent.proofs.Reaching.{reach_at, reach_set}
use Rattle.dual_ascent.proofs.tally.add.Goals.{then-after-lt0, else-after-lt0}
use Rattle.dual_ascent.proofs.tally.add.Goals as goal

-- the excess that is changed is small
small : (column : List Term) (excess : List ℤ) (i row before : ℕ) → i < length column → row ≡ (get_or column i no_term).row → IsColumn (length excess) column → before ≤ 2 ^ 61 → reach excess ≤ before + terms_size (take i column) → (row < length excess) × (unsigned_abs (get_or excess row (pos 0)) < 2 ^ 62)
small column excess i row before within is terms low reached =
    let inside : row < length excess = (let named = terms.known i no_term within in omega (arith, named, is)) in
    let front = sum_by-take-le (λ (t : Term). unsigned_abs t.coef) column i in
    (inside, omega (arith, reach_at excess row (pos 0) inside, reached, low, terms.light, front))

pub changed-after-requires : goal.changed-after-requires
changed-after-requires c =
    let terms = rw (← c.loop-term.invariant.0) at c.requires.column in
    let here = small c.args.column.now c.loop-term.excess c.loop-term.term-index c.from-row.result (reach c.args.excess.now) c.loop-term-test.true c.from-row.ensures terms c.requires.reach c.loop-term.invariant.2 in
    omega (arith, ints, here.1)

pub loop-term-preserved : goal.loop-term-preserved
loop-term-preserved c =
    let column = c.args.column.now in
    let terms = rw (← c.loop-term.invariant.0) at c.requires.column in
    let here = small c.args.column.now c.loop-term.excess c.loop-term.term-index c.from-row.result (reach c.args.excess.now) c.loop-term-test.true c.from-row.ensures terms c.requires.reach c.loop-term.invariant.2 in
    let fits : FitsSigned w32 (get_or c.args.column.now c.loop-term.term-index no_term).coef = search rules in
    let read : unsigned_abs (to_z w32 (of_z w32 (get_or c.args.column.now c.loop-term.term-index no_term).coef)) ≡ unsigned_abs (get_or c.args.column.now c.loop-term.term-index no_term).coef = ap unsigned_abs (to_z-of_z w32 (get_or c.args.column.now c.loop-term.term-index no_term).coef fits) in
    let before = reach_at c.loop-term.excess c.from-row.result (pos 0) here.0 in
    let more = sum_by_more (λ (t : Term). unsigned_abs t.coef) column c.loop-term.term-index no_term c.loop-term-test.true in
    let after : unsigned_abs (to_z w64 (of_z w64 c.changed-after.result)) ≤ reach c.args.excess.now + terms_size (take (c.loop-term.term-index + 1) c.args.column.now) = omega (arith, ints, c.changed-after.ensures, read, here.1, before, more, c.loop-term.invariant.2) in (
      length-set c.loop-term.excess c.from-row.result _ ∙ c.loop-term.invariant.0,
      elim c.if-after-lt0.branch [
        | then-after-lt0 w ↦ w.unmet-is ∙ w.push.ensures ∙ c.loop-term.invariant.1
        | else-after-lt0 w ↦ w.unmet-is ∙ c.loop-term.invariant.1
      ],
      reach_set c.loop-term.excess c.from-row.result _ _ (omega (arith, more, c.loop-term.invariant.2)) after,
    )
