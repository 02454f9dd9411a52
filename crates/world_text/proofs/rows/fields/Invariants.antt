use Rattle.std.proofs.Common.{◌≡◌, map, take}
use Rattle.csv.specs.Records.{fields_of}
use Rattle.world_text.proofs.rows.fields.Given as goal

abbrev pub invariant-loop-field : goal.invariant-loop-field
invariant-loop-field l = (map (λ f. f.now) l.fields.items ≡ take l.field-iterator.at (fields_of l.row)) × (l.field-iterator.row.now ≡ l.row)
