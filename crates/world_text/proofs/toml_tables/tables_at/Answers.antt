use Rattle.std.proofs.Common.{◌≡◌, sym, refl}
use Rattle.toml.specs.View.{view, table_view, array_view, items_view}
use Rattle.world_text.specs.Toml.{tables_in, tables_at, at_top}
use Rattle.world_text.proofs.Members.{array_is, no_array, tables_some, tables_none}
use Rattle.world_text.proofs.toml_tables.tables_at.Goals as goal

pub returns-in_default-clause-some : goal.returns-in_default-clause-some
unfolding tables_in
returns-in_default-clause-some c = rw (← c.word.ensures, ← c.in_default.ensures) (refl, refl)

pub returns-in_err-as_array-clause-none : goal.returns-in_err-as_array-clause-none
returns-in_err-as_array-clause-none c =
    rw (c.from_residual.ensures, ← c.word.ensures, ← c.in-Some.ensures) (no_array (view c.in-Some.value.now) (sym c.in_err-as_array.ensures))

pub returns-clause-some : goal.returns-clause-some
returns-clause-some c =
    let array = array_is (view c.in-Some.value.now) (array_view c.in_ok-as_array.field-0.now) (sym c.in_ok-as_array.ensures) in
    let at : tables_at (at_top (table_view c.args.document.now) c.args.kind) ≡ tables_in (items_view c.as_slice-values.result.now) =
    rw (← c.word.ensures, ← c.in-Some.ensures, c.as_slice-values.ensures.value) array in
    rw c.then_some.ensures (tables_some c.are_tables.result c.as_slice-values.result _ c.are_tables.ensures at)

pub returns-clause-none : goal.returns-clause-none
returns-clause-none c =
    let array = array_is (view c.in-Some.value.now) (array_view c.in_ok-as_array.field-0.now) (sym c.in_ok-as_array.ensures) in
    let at : tables_at (at_top (table_view c.args.document.now) c.args.kind) ≡ tables_in (items_view c.as_slice-values.result.now) =
    rw (← c.word.ensures, ← c.in-Some.ensures, c.as_slice-values.ensures.value) array in
    rw c.then_some.ensures (tables_none c.are_tables.result c.as_slice-values.result _ c.are_tables.ensures at)
