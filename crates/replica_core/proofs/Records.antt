-- A message's record in a journal is small.
use Rattle.std.proofs.Common.{◌<◌, arith}
use Rattle.wire_msg.specs.declared.message.Message.{Message}
use Rattle.wire_msg.specs.declared.message.Message.TheVariants.{Read, Ask, Store, Repair, Confirm, Freeze, Seed, Push, Lookup, Switch, Have, Yes, Held, Gone, Here, Switched}
use Rattle.wire_msg.specs.Lawful.{IsLawful}
use Rattle.replica_core.specs.Taking.{IsLogged, record_size}

-- the record of a lawful message is small
pub record_small : (message : Message) → IsLawful message → IsLogged message → record_size message < 5000
record_small (Read tag key epoch) m l = omega arith
record_small (Ask tag key stamp) m l = omega arith
record_small (Store tag key stamp value) m l = omega (arith, m.1.1.1.0)
record_small (Repair tag key epoch stamp value) m l = omega (arith, m.1.1.1.1.0)
record_small (Confirm tag key stamp) m l = omega arith
record_small (Freeze tag key epoch) m l = omega arith
record_small (Seed tag key epoch stamp value) m l = omega (arith, m.1.1.1.1.0)
record_small (Push tag key stamp onward value) m l = omega (arith, m.1.1.1.1.0)
record_small (Lookup tag key) m l = omega arith
record_small (Switch tag key old_epoch new_epoch) m l = omega arith
record_small (Have tag replica version mark value) m l = absurd (omega arith)
record_small (Yes tag replica) m l = omega arith
record_small (Held tag replica stamp) m l = omega arith
record_small (Gone tag replica epoch) m l = omega arith
record_small (Here tag key epoch policy latest_epoch latest_policy) m l = absurd (omega arith)
record_small (Switched tag key done epoch) m l = omega arith
