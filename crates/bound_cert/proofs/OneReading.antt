-- A text is that of at most one line.
use Rattle.std.proofs.Common.{◌≡◌, ℕ, ◌^◌, ◌<◌, List, [], ◌++◌, slice_index, sym, ap, ◌∙◌, arith, codes}
use Rattle.std.specs.Fmt.{decimal}
use Rattle.span_base.specs.Number.{number_of}
use Rattle.span_base.proofs.Spelling.{decimal_reads}
use Rattle.bound_cert.specs.declared.leaves.Pair.{Pair}
use Rattle.bound_cert.specs.declared.leaves.Line.TheVariants.{Branch, Close}
use Rattle.bound_cert.specs.Text.{line_text}
use Rattle.bound_cert.specs.Laws.{LinesHaveOneReading}
use Rattle.bound_cert.proofs.Fronts.{row, number, start, step, run, Gap, leaf_gap}
use Rattle.bound_cert.proofs.Places.{leaf_of}

one_decimal : (a b : ℕ) → a < 10 ^ 38 → b < 10 ^ 38 → decimal a ≡ decimal b → a ≡ b
one_decimal a b low low' e = sym (decimal_reads a low).1 ∙ ap number_of e ∙ (decimal_reads b low').1

one_row : (s t : ℕ) (ps qs : List Pair) → number (row s ps) [] ≡ number (row t qs) [] → (s ≡ t) × (ps ≡ qs)
one_row s t ps qs e = (cc, cc)

tail_of : (xs ys : List ℕ) → codes "b " ++ xs ≡ codes "b " ++ ys → xs ≡ ys
tail_of xs ys e = cc

pub one_reading : LinesHaveOneReading
one_reading (Branch a) (Branch b) low low' e = ap Branch (one_decimal a b low low' (tail_of (decimal a) (decimal b) e))
one_reading (Branch a) (Close b) low low' e = absurd (let first : 98 ≡ 108 = ap (λ t. slice_index t 0) e in omega arith)
one_reading (Close a) (Branch b) low low' e = absurd (let first : 108 ≡ 98 = ap (λ t. slice_index t 0) e in omega arith)
one_reading (Close a) (Close b) low low' e =
    let gap : Gap (run start (line_text (Close a))) a.s a.pairs = leaf_gap a low in
    let gap' : Gap (run start (line_text (Close b))) b.s b.pairs = leaf_gap b low' in
    let same : number (row a.s a.pairs) [] ≡ number (row b.s b.pairs) [] = sym gap.next ∙ ap (λ t. step (run start t) 32) e ∙ gap'.next in
    let parts = one_row a.s b.s a.pairs b.pairs same in
    (λ i. Close (leaf_of (parts.0 i) (parts.1 i)))
