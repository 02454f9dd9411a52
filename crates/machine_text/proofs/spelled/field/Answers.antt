use Rattle.std.proofs.Common.{sym}
use Rattle.csv.specs.Records.{fields_of}
use Rattle.csv.proofs.RecordFacts.{field-get, field-there}
use Rattle.machine_text.proofs.spelled.field.Goals as goal

pub unreachable-requires : goal.unreachable-requires
unreachable-requires c = field-there (fields_of c.args.row.now) c.args.i c.requires (let e = rw c.in-None.is at c.get.ensures.value in sym e)

pub returns : goal.returns
returns c = let e = rw c.in-Some.is at c.get.ensures.value in sym (field-get (fields_of c.args.row.now) c.args.i c.in-Some.field.now (sym e))
