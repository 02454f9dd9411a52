use Rattle.machine_text.proofs.FirstRecords.{all_left}
use Rattle.machine_text.proofs.rows.rows_of.Goals as goal

pub returns-clause-all : goal.returns-clause-all
returns-clause-all c =
    let rdr = c.into_byte_records.ensures.rdr in
    all_left c.into_byte_records.result c.args.text.now (rw rdr c.from_reader.ensures.state) (rw rdr c.from_reader.ensures.source)
