-- The grounds against a line shut each other out.
use Rattle.std.proofs.Common.{◌≡◌, ℕ, ◌+◌, ◌<◌, ◌≤◌, Bool, Option, Some, None, List, length, refl, sym, ap, subst, ◌∙◌, arith}
use Rattle.std.specs.List.{All, Any}
use Rattle.std.proofs.lemmas.Int.{ints}
use Rattle.std.proofs.lemmas.Option.{slice_get_within}
use Rattle.zero_one.specs.Contents.{Contents}
use Rattle.bound_cert.specs.declared.leaves.Line.{Line}
use Rattle.bound_cert.specs.declared.leaves.Line.TheVariants.{Branch, Close}
use Rattle.bound_cert.specs.declared.leaves.Pair.{Pair}
use Rattle.cert_checker.specs.declared.faults.CertFault.{CertFault}
use Rattle.cert_checker.specs.declared.faults.CertFault.TheVariants.{NoSuchVar, VarTwice, RowUnknown, Range, NotClosed}
use Rattle.cert_checker.specs.declared.turns.Turn.{Turn}
use Rattle.cert_checker.specs.Paths.{path_after, fixed_by}
use Rattle.cert_checker.proofs.Trails.{length-fixed_over}
use Rattle.cert_checker.specs.Lines.{IsTakenUnder, IsTakenAt, IsTaken, IsRefusedUnder, IsRefusedAt, IsRefused}

not_both : (rows : ℕ) (pairs : List Pair) → Any (λ pair. rows ≤ pair.row) pairs → All (λ pair. pair.row < rows) pairs → ⊥
not_both rows pairs (k, x, within, here, unknown) all =
    let P : Pair → Type 0 = λ pair. pair.row < rows in
    let known : x.row < rows = subst P here (all k x within) in
    omega (arith, known, unknown)

not_taken : (program : Contents) (fixed : List (Option Bool)) (number : ℕ) (line : Line) (fault : CertFault) → length fixed ≡ length program.costs → IsRefusedUnder program fixed number line fault → IsTakenUnder program fixed line → ⊥
not_taken program fixed number (Branch var) NoSuchVar size is free =
    omega (arith, slice_get_within fixed var None free, size, is)
not_taken program fixed number (Branch var) VarTwice size is free = is.1 free
not_taken program fixed number (Branch var) fault size is free = is
not_taken program fixed number (Close end) RowUnknown size is taken = not_both (length program.rows) end.pairs is taken.0.existing
not_taken program fixed number (Close end) Range size is taken = is.1 taken.0
not_taken program fixed number (Close end) (NotClosed line) size is taken =
    omega (arith, ints, is.2, taken.1 is.1)
not_taken program fixed number (Close end) fault size is taken = is

same_ground : (program : Contents) (fixed : List (Option Bool)) (number : ℕ) (line : Line) (fault other : CertFault) → IsRefusedUnder program fixed number line fault → IsRefusedUnder program fixed number line other → other ≡ fault
same_ground program fixed number (Branch var) NoSuchVar NoSuchVar is o = refl
same_ground program fixed number (Branch var) NoSuchVar VarTwice is o = absurd (omega (arith, is, o.0))
same_ground program fixed number (Branch var) NoSuchVar other is o = absurd o
same_ground program fixed number (Branch var) VarTwice NoSuchVar is o = absurd (omega (arith, is.0, o))
same_ground program fixed number (Branch var) VarTwice VarTwice is o = refl
same_ground program fixed number (Branch var) VarTwice other is o = absurd o
same_ground program fixed number (Branch var) fault other is o = absurd is
same_ground program fixed number (Close end) RowUnknown RowUnknown is o = refl
same_ground program fixed number (Close end) RowUnknown Range is o = absurd (not_both (length program.rows) end.pairs is o.0)
same_ground program fixed number (Close end) RowUnknown (NotClosed line) is o = absurd (not_both (length program.rows) end.pairs is o.0.existing)
same_ground program fixed number (Close end) RowUnknown other is o = absurd o
same_ground program fixed number (Close end) Range RowUnknown is o = absurd (not_both (length program.rows) end.pairs o is.0)
same_ground program fixed number (Close end) Range Range is o = refl
same_ground program fixed number (Close end) Range (NotClosed line) is o = absurd (is.1 o.0)
same_ground program fixed number (Close end) Range other is o = absurd o
same_ground program fixed number (Close end) (NotClosed line) RowUnknown is o = absurd (not_both (length program.rows) end.pairs o is.0.existing)
same_ground program fixed number (Close end) (NotClosed line) Range is o = absurd (o.1 is.0)
same_ground program fixed number (Close end) (NotClosed line) (NotClosed more) is o = ap (λ n. NotClosed n) (o.3 ∙ sym is.3)
same_ground program fixed number (Close end) (NotClosed line) other is o = absurd o
same_ground program fixed number (Close end) fault other is o = absurd is

one_at : (program : Contents) (path : Option (List Turn)) (number : ℕ) (line : Line) (fault : CertFault) → IsRefusedAt program path number line fault → (¬ IsTakenAt program path line) × ((other : CertFault) → IsRefusedAt program path number line other → other ≡ fault)
one_at program None number line fault is = (λ taken. taken, λ other o. o ∙ sym is)
one_at program (Some path) number line fault is = (
  λ taken. not_taken program (fixed_by program path) number line fault (length-fixed_over (length program.costs) path) is taken,
  λ other o. same_ground program (fixed_by program path) number line fault other is o,
)

pub one_answer : (program : Contents) (lines : List Line) (line : Line) (fault : CertFault) → IsRefused program lines line fault → (¬ IsTaken program lines line) × ((other : CertFault) → IsRefused program lines line other → other ≡ fault)
one_answer program lines line fault is = one_at program (path_after lines) (length lines + 1) line fault is
