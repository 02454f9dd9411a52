use Rattle.schedule_text.proofs.Cuts.{split_none, split_here}
use Rattle.schedule_text.proofs.parts.first_piece.Goals as goal

pub returns-in-Some-clause-pieces : goal.returns-in-Some-clause-pieces
returns-in-Some-clause-pieces c = split_here c.args.byte c.args.text.now c.in-Some.at c.in-Some.ensures.0 c.in-Some.ensures.1

pub returns-in-None-clause-pieces : goal.returns-in-None-clause-pieces
returns-in-None-clause-pieces c = split_none c.args.byte c.args.text.now c.in-None.ensures
