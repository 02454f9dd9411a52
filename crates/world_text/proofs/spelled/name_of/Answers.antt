use Rattle.std.proofs.Common.{rules}
use Rattle.world_text.proofs.Names.{IsUtf8-from_name}
use Rattle.world_text.proofs.spelled.name_of.Goals as goal

pub returns-in-Err-clause-name : goal.returns-in-Err-clause-name
returns-in-Err-clause-name c = absurd (c.in-Err.ensures.cases.0 (IsUtf8-from_name c.args.text.now (search rules)))
