-- What a replica keeps of a key, and how messages change it.
use Rattle.std.specs.Prelude.{ℕ, Bool, ◌&&◌, not, nat_le, max, if◌then◌else◌, List, []}
use Rattle.std.specs.Ordering.{is_gt}
use Rattle.ticket_rules.specs.declared.stamp.Stamp.{Stamp}
use Rattle.ticket_rules.specs.Stamp.{stamp_cmp, stamp_zero, greater, grants, stores}
use Rattle.wire_msg.specs.declared.message.Message.{Message}
use Rattle.wire_msg.specs.declared.message.Message.TheVariants.{Read, Ask, Store, Repair, Confirm, Freeze, Seed, Push, Lookup, Switch, Have, Yes, Held, Gone, Here, Switched}
use Rattle.replica_core.specs.declared.kept.Kept.{Kept}

-- what is kept of a key at first
abbrev pub opening : Kept
opening = record { version = stamp_zero; value = []; mark = stamp_zero; fence = stamp_zero; frozen = 0 }

-- whether the epoch is over
abbrev pub is_over : Kept → ℕ → Bool
is_over kept epoch = nat_le epoch kept.frozen

-- with this version and value, where the version is above the one that is kept
abbrev pub merge : Kept → Stamp → List ℕ → Kept
merge kept stamp value = if is_gt (stamp_cmp stamp kept.version) then record kept { version = stamp; value = value } else kept

-- after a merge that the end of the epoch forbids
abbrev pub after_merge : Kept → ℕ → Stamp → List ℕ → Kept
after_merge kept epoch stamp value = if is_over kept epoch then kept else merge kept stamp value

-- after a ticket was asked for
abbrev pub after_ask : Kept → Stamp → Kept
after_ask kept stamp = if not (is_over kept stamp.epoch) && grants stamp kept.fence kept.version then record kept { fence = stamp } else kept

-- after a value was to be stored under a ticket
abbrev pub after_store : Kept → Stamp → List ℕ → Kept
after_store kept stamp value = if not (is_over kept stamp.epoch) && stores stamp kept.fence then merge kept stamp value else kept

-- after a stamp was confirmed
abbrev pub after_confirm : Kept → Stamp → Kept
after_confirm kept stamp = record kept { mark = greater kept.mark stamp }

-- after an epoch was ended
abbrev pub after_freeze : Kept → ℕ → Kept
after_freeze kept epoch = record kept { frozen = max kept.frozen epoch }

-- what is kept of a key after a message
abbrev pub kept_after : Kept → Message → Kept
kept_after kept (Read tag key epoch) = kept
kept_after kept (Ask tag key stamp) = after_ask kept stamp
kept_after kept (Store tag key stamp value) = after_store kept stamp value
kept_after kept (Repair tag key epoch stamp value) = after_merge kept epoch stamp value
kept_after kept (Confirm tag key stamp) = after_confirm kept stamp
kept_after kept (Freeze tag key epoch) = after_freeze kept epoch
kept_after kept (Seed tag key epoch stamp value) = after_merge kept epoch stamp value
kept_after kept (Push tag key stamp onward value) = after_merge kept stamp.epoch stamp value
kept_after kept (Lookup tag key) = kept
kept_after kept (Switch tag key old_epoch new_epoch) = kept
kept_after kept (Have tag replica version mark value) = kept
kept_after kept (Yes tag replica) = kept
kept_after kept (Held tag replica stamp) = kept
kept_after kept (Gone tag replica epoch) = kept
kept_after kept (Here tag key epoch policy latest_epoch latest_policy) = kept
kept_after kept (Switched tag key done epoch) = kept
