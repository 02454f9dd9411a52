-- A journal is opened again on what a crash kept of a sound disk.
use Rattle.std.proofs.Common.{ℕ, ◌≡◌, ◌≤◌, List, length, Option, Some, Result, Ok, Err, IfOk, sym, ◌∙◌, ap, subst, arith}
use Rattle.wire_msg.specs.declared.message.Message.{Message}
use Rattle.replica_core.specs.Rule.{State, opening_state}
use Rattle.replica_journal.specs.declared.open_fault.OpenCause.TheVariants as cause
use Rattle.replica_journal.specs.declared.replay.Place.{Place}
use Rattle.replica_journal.specs.Disk.{History, bytes_of}
use Rattle.replica_journal.specs.Records.{HasRecords, records_of, state_after}
use Rattle.replica_journal.specs.Opened.{Opens}
use Rattle.replica_journal.specs.Stopped.{Holds, Reopens}
use Rattle.replica_journal.proofs.Rows.{one_row, no_damage}

pub reopened : (number keys : ℕ) (before : History) (now : Option History) (state : State) (place : Place) → Opens number keys (Some before) now (Ok (record { replica = state; place = place }))
    → Reopens number keys (bytes_of before) state place
reopened number keys before now state place opens =
    let answer = opens.2.answer in
    record { messages = answer.messages; held = answer.held; made = answer.state; gate = answer.rest.gate }

pub undamaged_again : (number keys at : ℕ) (before : History) (now : Option History) → Opens number keys (Some before) now (Err (cause.Damaged at))
    → (messages : List Message) × HasRecords keys (bytes_of before) messages → ⊥
undamaged_again number keys at before now opens row = no_damage keys (bytes_of before) at row.0 opens.2.answer row.1

-- the replica has the state that the image holds
pub same_state : (number keys limit : ℕ) (image : List ℕ) (held state : State) (place : Place) → Holds number keys image held limit → Reopens number keys image state place
    → (state ≡ held) × (place.gate ≤ limit)
same_state number keys limit image held state place holds opens =
    let same : opens.messages ≡ holds.messages = one_row keys image opens.messages holds.messages opens.held holds.held in (
      opens.made ∙ ap (state_after (opening_state number keys)) same ∙ sym holds.made,
      omega (arith, opens.gate, ap (λ (ms : List Message). length (records_of ms)) same, holds.short),
    )

-- the same of what is the same
pub holds_at : (n m keys k limit : ℕ) (image bytes : List ℕ) (state : State) → m ≡ n → k ≡ keys → bytes ≡ image → Holds n keys image state limit → Holds m k bytes state limit
holds_at n m keys k limit image bytes state a b c holds =
    subst (λ (x : ℕ). Holds x k bytes state limit) (sym a) (subst (λ (x : ℕ). Holds n x bytes state limit) (sym b) (subst (λ (x : List ℕ). Holds n keys x state limit) (sym c) holds))

pub if_ok : {A : Type 0} {E : Type 0} (P Q : A → Type 0) (result : Result A E) → ((a : A) → P a → Q a) → IfOk result P → IfOk result Q
if_ok P Q (Ok a) f p = f a p
if_ok P Q (Err e) f p = tt
