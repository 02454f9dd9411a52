use Rattle.schedule_text.proofs.TablesRead.{table_said}
use Rattle.schedule_text.proofs.tables.table_of.Goals as goal

pub returns : goal.returns
returns c = table_said c.args.setting.now c.args.rest c.in_ok-table.table c.fitting.result c.as_slice.result.now c.if-is_none.ensures c.in_ok-table.ensures c.as_slice.ensures c.fitting.ensures
