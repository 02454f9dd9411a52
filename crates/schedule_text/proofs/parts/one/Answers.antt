use Rattle.schedule_text.proofs.Pieced.{not_one}
use Rattle.schedule_text.proofs.parts.one.Goals as goal

pub returns-then-is_some : goal.returns-then-is_some
returns-then-is_some c = not_one c.args.byte c.args.text c.in-Some.text c.first_piece.result.0 c.first_piece.result.1 c.in-Some.is c.first_piece.ensures.pieces c.if-is_some.ensures
