use Rattle.std.proofs.Common.{◌≡◌, [], map, drop}
use Rattle.csv.specs.Records.{fields_of, partial_of}
use Rattle.toml.specs.View.{table_view}
use Rattle.world_text.specs.Toml.{fields_at}
use Rattle.world_text.specs.Taken.{key_of, entry_of}
use Rattle.world_text.proofs.Filling.{joined}
use Rattle.world_text.proofs.toml_tables.fill_record.Given as goal

abbrev pub invariant-loop-key : goal.invariant-loop-key
invariant-loop-key l = record {
  fields : entry_of l.fn.version l.fn.kind l.fn.value ≡ joined (fields_of l.row) (fields_at (table_view l.table) (map key_of (drop l.key-index l.keys)));
  partial : partial_of l.row ≡ [];
}
