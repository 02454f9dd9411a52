use Rattle.std.proofs.Common.{[]}
use Rattle.world_text.specs.ReadWorld.{completed, read_from}
use Rattle.world_text.proofs.Taking.{world_from, gap_from, told}
use Rattle.world_text.proofs.draft.Draft.complete_at.Goals as goal

pub returns-in-Ok : goal.returns-in-Ok
returns-in-Ok c = world_from c.args.line c.args.self c.in-Ok.world c.in-Ok.ensures

pub returns-in-Err : goal.returns-in-Err
returns-in-Err c =
    rw c.at.ensures
    (told (read_from c.args.line c.args.self []) c.args.line (completed c.args.self) c.in-Err.refusal (gap_from c.args.line c.args.self) c.in-Err.ensures)
