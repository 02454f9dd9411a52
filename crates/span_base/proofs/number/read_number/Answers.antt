use Rattle.span_base.proofs.Spelling.{no_number_breaks}
use Rattle.span_base.proofs.number.read_number.Goals as goal

pub returns-in-empty : goal.returns-in-empty
returns-in-empty c = no_number_breaks c.args.text.now c.in-empty.len_below
