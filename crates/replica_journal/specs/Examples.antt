-- A message and a disk for worked examples.
use Rattle.std.specs.Prelude.{[], ◌∷◌}
use Rattle.wire_msg.specs.declared.message.Message.{Message}
use Rattle.wire_msg.specs.declared.message.Message.TheVariants.{Freeze}
use Rattle.replica_journal.specs.Disk.{History, Wrote, Synced}

-- of call 1 of proxy 3, in its slot 2 of generation 1 and in phase 4: epoch 7 of key 5 ends
abbrev pub freeze : Message
freeze = Freeze (record { call = record { proxy = 3; seq = 1 }; slot = 2; generation = 1; phase = 4 }) (record { 0 = 5 }) 7

-- two bytes are safe, and three were written over the second since
abbrev pub rewritten : History
rewritten = Wrote 1 3 (7 ∷ 8 ∷ 9 ∷ []) ∷ Synced ∷ Wrote 0 2 (1 ∷ 2 ∷ []) ∷ []
