use Rattle.std.proofs.Common.{refl}
use Rattle.wire_msg.specs.Frames.{big, tag_bytes}
use Rattle.replica_journal.proofs.worked.worked_records.Goals as goal

pub returns : goal.returns
unfolding big tag_bytes
returns c = record { none = refl; one = refl }
