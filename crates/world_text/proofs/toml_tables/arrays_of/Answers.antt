use Rattle.toml.specs.View.{table_view}
use Rattle.world_text.specs.declared.toml_tables.Arrays.{Arrays}
use Rattle.world_text.proofs.Documents.{unknown_key, without_centres, without_links, without_sets, without_uses, entries_there}
use Rattle.world_text.proofs.toml_tables.arrays_of.Goals as goal

pub returns-then-not-has_known_keys-clause-none : goal.returns-then-not-has_known_keys-clause-none
returns-then-not-has_known_keys-clause-none c =
    unknown_key (table_view c.args.document.now) c.has_known_keys.result c.has_known_keys.ensures c.if-not-has_known_keys.true

pub returns-in_err-tables_at-clause-none : goal.returns-in_err-tables_at-clause-none
returns-in_err-tables_at-clause-none c = rw c.from_residual.ensures (without_centres (table_view c.args.document.now) c.in_err-tables_at.ensures.none)

pub returns-in_err-tables_at-2-clause-none : goal.returns-in_err-tables_at-2-clause-none
returns-in_err-tables_at-2-clause-none c = rw c.from_residual-in_err-tables_at-2.ensures (without_links (table_view c.args.document.now) c.in_err-tables_at-2.ensures.none)

pub returns-in_err-tables_at-3-clause-none : goal.returns-in_err-tables_at-3-clause-none
returns-in_err-tables_at-3-clause-none c = rw c.from_residual-in_err-tables_at-3.ensures (without_sets (table_view c.args.document.now) c.in_err-tables_at-3.ensures.none)

pub returns-in_err-tables_at-4-clause-none : goal.returns-in_err-tables_at-4-clause-none
returns-in_err-tables_at-4-clause-none c = rw c.from_residual-in_err-tables_at-4.ensures (without_uses (table_view c.args.document.now) c.in_err-tables_at-4.ensures.none)

pub returns-clause-some : goal.returns-clause-some
returns-clause-some c =
    let arrays : Arrays = record { centres = c.in_ok-tables_at.field-0; links = c.in_ok-tables_at-2.field-0; sets = c.in_ok-tables_at-3.field-0; uses = c.in_ok-tables_at-4.field-0 } in
    entries_there (table_view c.args.document.now) c.has_known_keys.result arrays c.has_known_keys.ensures c.if-not-has_known_keys.false
    c.in_ok-tables_at.ensures.some c.in_ok-tables_at-2.ensures.some c.in_ok-tables_at-3.ensures.some c.in_ok-tables_at-4.ensures.some
