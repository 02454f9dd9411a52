use Rattle.csv.specs.Records.{fields_of}
use Rattle.machine_text.specs.Rows.{records_left}
use Rattle.machine_text.proofs.Taking.{end_ok, end_err}
use Rattle.machine_text.proofs.read.take_end.Goals as goal
use Rattle.machine_text.proofs.read.take_end.Goals.{in-None, in-Some}

pub returns-clause-ended : goal.returns-clause-ended
returns-clause-ended c = elim c.match-branch-2.branch [
  | in-None w ↦ rw w.result-is (end_ok c.args.line (records_left c.args.rows.now) (rw w.in-None.is at c.in_ok-next_row.ensures.row))
  | in-Some w ↦ rw w.result-is tt
]

pub returns-clause-fault : goal.returns-clause-fault
returns-clause-fault c = elim c.match-branch-2.branch [
  | in-None w ↦ rw w.result-is tt
  | in-Some w ↦
      rw w.result-is (end_err c.args.line (records_left c.args.rows.now) (records_left c.next_row.new.rows) (fields_of w.in-Some.field-0) (rw w.in-Some.is at c.in_ok-next_row.ensures.row))
]
