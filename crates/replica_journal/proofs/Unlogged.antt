-- A message that no journal keeps changes nothing that a replica keeps.
use Rattle.std.proofs.Common.{◌≡◌, ◌⊎◌, inl, inr, List, refl, ap, arith}
use Rattle.std.proofs.lemmas.Bool.{cases_lt}
use Rattle.std.proofs.lemmas.List.{set-get_or}
use Rattle.wire_msg.specs.declared.message.Message.{Message}
use Rattle.wire_msg.specs.declared.message.Message.TheVariants.{Read, Ask, Store, Repair, Confirm, Freeze, Seed, Push, Lookup, Switch, Have, Yes, Held, Gone, Here, Switched}
use Rattle.wire_msg.specs.Fields.{kind_of}
use Rattle.replica_core.specs.declared.kept.Kept.{Kept}
use Rattle.replica_core.specs.Keeping.{opening}
use Rattle.replica_core.specs.Rule.{State, step}
use Rattle.replica_core.specs.Taking.{IsLogged}

pub unlogged_stays : (state : State) (message : Message) → ¬ IsLogged message → (step state message).state ≡ state
unlogged_stays state (Read tag key epoch) no_record = ap (λ (kept : List Kept). record { number = state.number; kept = kept }) (set-get_or state.kept key.0 opening)
unlogged_stays state (Ask tag key stamp) no_record = absurd (no_record (omega arith, omega arith))
unlogged_stays state (Store tag key stamp value) no_record = absurd (no_record (omega arith, omega arith))
unlogged_stays state (Repair tag key epoch stamp value) no_record = absurd (no_record (omega arith, omega arith))
unlogged_stays state (Confirm tag key stamp) no_record = absurd (no_record (omega arith, omega arith))
unlogged_stays state (Freeze tag key epoch) no_record = absurd (no_record (omega arith, omega arith))
unlogged_stays state (Seed tag key epoch stamp value) no_record = absurd (no_record (omega arith, omega arith))
unlogged_stays state (Push tag key stamp onward value) no_record = absurd (no_record (omega arith, omega arith))
unlogged_stays state (Lookup tag key) no_record = refl
unlogged_stays state (Switch tag key closing next) no_record = refl
unlogged_stays state (Have tag replica version mark value) no_record = refl
unlogged_stays state (Yes tag replica) no_record = refl
unlogged_stays state (Held tag replica stamp) no_record = refl
unlogged_stays state (Gone tag replica epoch) no_record = refl
unlogged_stays state (Here tag key epoch policy latest_epoch latest_policy) no_record = refl
unlogged_stays state (Switched tag key done epoch) no_record = refl

pub logged_or_not : (message : Message) → IsLogged message ⊎ (¬ IsLogged message)
logged_or_not message = elim (cases_lt (kind_of message) 2) [
  | inl low ↦ inr (λ logged. omega (arith, low, logged.0))
  | inr high ↦ elim (cases_lt 8 (kind_of message)) [ inl above ↦ inr (λ logged. omega (arith, above, logged.1)) | inr below ↦ inl (high, below) ]
]
