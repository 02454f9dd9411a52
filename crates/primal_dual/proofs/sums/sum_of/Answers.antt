use Rattle.std.proofs.Common.{◌≡◌, ℕ, ◌≤◌, ◌<◌, ◌+◌, ◌*◌, ◌^◌, ℤ, List, pos, length, get_or, unsigned_abs, arith, rules, to_z, of_z, FitsSigned}
use Rattle.std.specs.Int.{w32, w64}
use Rattle.std.proofs.lemmas.Int.{ints, to_z-of_z}
use Rattle.primal_dual.specs.declared.table.Term.{Term}
use Rattle.primal_dual.specs.Tables.{terms_size}
use Rattle.primal_dual.specs.Summing.{AreSummable}
use Rattle.primal_dual.proofs.Totals.{no_term, total_small, term_le, term_more, front_le}
use Rattle.primal_dual.proofs.sums.sum_of.Goals as goal

-- a step's part is small
part_small : (terms : List Term) (values : List ℤ) (i at : ℕ) (s : AreSummable terms values) → i < length terms → at < length values → unsigned_abs (get_or terms i no_term).coef * unsigned_abs (get_or values at (pos 0)) ≤ 2 ^ 61
part_small terms values i at s h inside =
    let shown = s.shown at (pos 0) inside in
    let part = term_le terms i (17 * s.limit + 8) (get_or values at (pos 0)) h shown in
    omega (arith, part, total_small (terms_size terms) s.limit s.light s.small)

pub product-sum-requires : goal.product-sum-requires
product-sum-requires c =
    let inside : c.from.result < length c.args.values.now = search rules in
    let fits : FitsSigned w32 (get_or c.args.terms.now c.loop-term.term-index no_term).coef = search rules in
    let coef : to_z w32 (of_z w32 (get_or c.args.terms.now c.loop-term.term-index no_term).coef) ≡ (get_or c.args.terms.now c.loop-term.term-index no_term).coef = to_z-of_z w32 _ fits in
    let fits' : FitsSigned w64 (get_or c.args.values.now c.from.result (pos 0)) = search rules in
    let value : to_z w64 (of_z w64 (get_or c.args.values.now c.from.result (pos 0))) ≡ get_or c.args.values.now c.from.result (pos 0) = to_z-of_z w64 _ fits' in
    let small = part_small c.args.terms.now c.args.values.now c.loop-term.term-index c.from.result c.requires c.loop-term-test.true inside in
    rw (coef, value) (omega (arith, small))

pub overflow_add-sum : goal.overflow_add-sum
overflow_add-sum c =
    let inside : c.from.result < length c.args.values.now = search rules in
    let s = c.requires in
    let small = part_small c.args.terms.now c.args.values.now c.loop-term.term-index c.from.result s c.loop-term-test.true inside in
    let before = c.loop-term.invariant s.limit s.shown in
    let front = front_le c.args.terms.now c.loop-term.term-index (17 * s.limit + 8) in
    let all = total_small _ s.limit s.light s.small in
    let fits : FitsSigned w32 (get_or c.args.terms.now c.loop-term.term-index no_term).coef = search rules in
    let coef : to_z w32 (of_z w32 (get_or c.args.terms.now c.loop-term.term-index no_term).coef) ≡ (get_or c.args.terms.now c.loop-term.term-index no_term).coef = to_z-of_z w32 _ fits in
    let fits' : FitsSigned w64 (get_or c.args.values.now c.from.result (pos 0)) = search rules in
    let value : to_z w64 (of_z w64 (get_or c.args.values.now c.from.result (pos 0))) ≡ get_or c.args.values.now c.from.result (pos 0) = to_z-of_z w64 _ fits' in
    let is = rw (coef, value) at c.product-sum.ensures in
    omega (arith, ints, before, front, all, small, is)

pub loop-term-preserved : goal.loop-term-preserved
loop-term-preserved c = λ limit shown.
    let inside : c.from.result < length c.args.values.now = search rules in
    let s = c.requires in
    let small = part_small c.args.terms.now c.args.values.now c.loop-term.term-index c.from.result s c.loop-term-test.true inside in
    let fits : FitsSigned w32 (get_or c.args.terms.now c.loop-term.term-index no_term).coef = search rules in
    let coef : to_z w32 (of_z w32 (get_or c.args.terms.now c.loop-term.term-index no_term).coef) ≡ (get_or c.args.terms.now c.loop-term.term-index no_term).coef = to_z-of_z w32 _ fits in
    let fits' : FitsSigned w64 (get_or c.args.values.now c.from.result (pos 0)) = search rules in
    let value : to_z w64 (of_z w64 (get_or c.args.values.now c.from.result (pos 0))) ≡ get_or c.args.values.now c.from.result (pos 0) = to_z-of_z w64 _ fits' in
    let is = rw (coef, value) at c.product-sum.ensures in
    let more = term_more c.args.terms.now c.loop-term.term-index (17 * limit + 8) _ _ (get_or c.args.values.now c.from.result (pos 0)) c.loop-term-test.true (shown c.from.result (pos 0) inside) (c.loop-term.invariant limit shown) is in
    let before = c.loop-term.invariant s.limit s.shown in
    let front = front_le c.args.terms.now c.loop-term.term-index (17 * s.limit + 8) in
    let all = total_small _ s.limit s.light s.small in
    omega (arith, ints, before, front, all, small, is, more)

pub returns : goal.returns
returns c =
    let s = c.requires in
    let all = total_small _ s.limit s.light s.small in
    omega (arith, ints, c.loop-term.invariant s.limit s.shown, front_le c.args.terms.now c.loop-term.term-index (17 * s.limit + 8), all)
