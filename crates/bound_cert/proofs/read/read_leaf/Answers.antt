use Rattle.std.proofs.Common.{refl, subst, sym, lit≤, All}
use Rattle.std.proofs.lemmas.Result.{err_from_is_err_and}
use Rattle.bound_cert.proofs.Fronts.{scale, row, mult}
use Rattle.std.proofs.lemmas.List.Elements.{All-nil, All-push}
use Rattle.bound_cert.proofs.Lines.{IsBetween, leaf_begins, number_found, number_refused, space_refused, colon_refused, between_none, between_more, row_stands, mult_stands}
use Rattle.bound_cert.specs.Reading.{HasLowRow}
use Rattle.bound_cert.proofs.read.read_leaf.Goals as goal

pub returns-in_err-s : goal.returns-in_err-s
returns-in_err-s c =
    let p = err_from_is_err_and c.from_residual.result c.from_residual.ensures.1 in
    let no = number_refused c.args.text.now 2 scale 4294967295 _ (leaf_begins c.args.text.now c.requires) refl c.in_err-s.ensures in
    rw (p.1, p.2) (record { reads = no.reads; ranges = tt })

pub loop-at-init : goal.loop-at-init
loop-at-init c =
    let text = c.args.text.now in
    let s = c.in_ok-s.s in
    let here = number_found text 2 scale 4294967295 s (leaf_begins text c.requires) refl c.in_ok-s.ensures in (
      subst (IsBetween text s.end s.value) (sym c.new-pairs.ensures) (between_none text s.end s.value here),
      subst (All HasLowRow) (sym c.new-pairs.ensures) (All-nil HasLowRow),
    )

pub returns-in_err-row_at : goal.returns-in_err-row_at
returns-in_err-row_at c =
    let p = err_from_is_err_and c.from_residual-in_err-row_at.result c.from_residual-in_err-row_at.ensures.1 in
    let no = space_refused c.args.text.now c.loop-at.at c.in_ok-s.s.value c.loop-at.pairs _ c.loop-at.invariant.0 c.loop-at-test.true c.in_err-row_at.ensures in
    rw (p.1, p.2) (record { reads = no.reads; ranges = tt })

pub returns-in_err-row : goal.returns-in_err-row
returns-in_err-row c =
    let text = c.args.text.now in
    let s = c.in_ok-s.s.value in
    let p = err_from_is_err_and c.from_residual-in_err-row.result c.from_residual-in_err-row.ensures.1 in
    let here = row_stands text c.loop-at.at s c.loop-at.pairs c.in_ok-row_at.row_at c.loop-at.invariant.0 c.in_ok-row_at.ensures in
    let no = number_refused text c.in_ok-row_at.row_at (row s c.loop-at.pairs) 65535 _ here refl c.in_err-row.ensures in
    rw (p.1, p.2) (record { reads = no.reads; ranges = tt })

pub returns-in_err-mult_at : goal.returns-in_err-mult_at
returns-in_err-mult_at c =
    let text = c.args.text.now in
    let s = c.in_ok-s.s.value in
    let p = err_from_is_err_and c.from_residual-in_err-mult_at.result c.from_residual-in_err-mult_at.ensures.1 in
    let here = row_stands text c.loop-at.at s c.loop-at.pairs c.in_ok-row_at.row_at c.loop-at.invariant.0 c.in_ok-row_at.ensures in
    let behind = number_found text c.in_ok-row_at.row_at (row s c.loop-at.pairs) 65535 c.in_ok-row.row here refl c.in_ok-row.ensures in
    let no = colon_refused text c.in_ok-row.row.end s c.loop-at.pairs c.in_ok-row.row.value _ behind c.in_err-mult_at.ensures in
    rw (p.1, p.2) (record { reads = no.reads; ranges = tt })

pub returns-in_err-mult : goal.returns-in_err-mult
returns-in_err-mult c =
    let text = c.args.text.now in
    let s = c.in_ok-s.s.value in
    let r = c.in_ok-row.row.value in
    let p = err_from_is_err_and c.from_residual-in_err-mult.result c.from_residual-in_err-mult.ensures.1 in
    let here = row_stands text c.loop-at.at s c.loop-at.pairs c.in_ok-row_at.row_at c.loop-at.invariant.0 c.in_ok-row_at.ensures in
    let behind = number_found text c.in_ok-row_at.row_at (row s c.loop-at.pairs) 65535 c.in_ok-row.row here refl c.in_ok-row.ensures in
    let after_colon = mult_stands text c.in_ok-row.row.end s c.loop-at.pairs r c.in_ok-mult_at.mult_at behind c.in_ok-mult_at.ensures in
    let no = number_refused text c.in_ok-mult_at.mult_at (mult s c.loop-at.pairs r) _ _ after_colon (lit≤ tt) c.in_err-mult.ensures in
    rw (p.1, p.2) (record { reads = no.reads; ranges = tt })

pub loop-at-preserved : goal.loop-at-preserved
loop-at-preserved c =
    let text = c.args.text.now in
    let s = c.in_ok-s.s.value in
    let r = c.in_ok-row.row.value in
    let m = c.in_ok-mult.mult in
    let here = row_stands text c.loop-at.at s c.loop-at.pairs c.in_ok-row_at.row_at c.loop-at.invariant.0 c.in_ok-row_at.ensures in
    let behind = number_found text c.in_ok-row_at.row_at (row s c.loop-at.pairs) 65535 c.in_ok-row.row here refl c.in_ok-row.ensures in
    let after_colon = mult_stands text c.in_ok-row.row.end s c.loop-at.pairs r c.in_ok-mult_at.mult_at behind c.in_ok-mult_at.ensures in
    let last = number_found text c.in_ok-mult_at.mult_at (mult s c.loop-at.pairs r) _ m after_colon (lit≤ tt) c.in_ok-mult.ensures in
    let longer = between_more text m.end s c.loop-at.pairs r m.value last in (
      subst (IsBetween text m.end s) (sym c.in_ok-push.ensures.ok) longer,
      subst (All HasLowRow) (sym c.in_ok-push.ensures.ok) (All-push HasLowRow c.loop-at.pairs _ c.loop-at.invariant.1 c.in_ok-row.ensures.low),
    )
