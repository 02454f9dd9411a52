-- A sound disk stays sound while its journal is opened, messages are taken, and over a crash.
use Rattle.std.proofs.Common.{ℕ, ◌≡◌, inl, inr, Bool, List, [], ◌∷◌, ◌++◌, length, Result, refl, sym, ap, subst, arith}
use Rattle.wire_msg.specs.declared.message.Message.{Message}
use Rattle.replica_core.specs.declared.journal.TakeFault.{TakeFault}
use Rattle.replica_core.specs.Rule.{State}
use Rattle.replica_journal.specs.declared.open_fault.OpenCause.{OpenCause}
use Rattle.replica_journal.specs.declared.opening.Opened.{Opened}
use Rattle.replica_journal.specs.Disk.{Change, Wrote, Synced, History, GoesOn, IsImage, IsLawfulHistory, bytes_of}
use Rattle.replica_journal.specs.Memory.{crashed}
use Rattle.replica_journal.specs.Opened.{IsOpening}
use Rattle.replica_journal.specs.Taken.{KeepsEither, IsTaken}
use Rattle.replica_journal.specs.Records.{HasRecords, IsDamagedAt, IsSoundDisk}
use Rattle.replica_journal.specs.Beginning.{IsNoWorse}
use Rattle.replica_journal.proofs.Crashes.{crashed_lawful, crashed_image, crashed_alone}
use Rattle.replica_journal.proofs.Puts.{reading_is_image}
use Rattle.replica_journal.proofs.Rows.{no_damage}

-- as it reads it holds a row of records
read_row : (keys : ℕ) (history : History) → IsSoundDisk keys history → (messages : List Message) × HasRecords keys (bytes_of history) messages
read_row keys history sound = sound.images (bytes_of history) (reading_is_image history sound.lawful)

pub undamaged : (keys : ℕ) (history : History) (at : ℕ) → IsSoundDisk keys history → IsDamagedAt keys (bytes_of history) at → ⊥
undamaged keys history at sound damage =
    let row = read_row keys history sound in
    no_damage keys (bytes_of history) at row.0 damage row.1

row_in : (keys : ℕ) (before : History) → IsSoundDisk keys before → (image : List ℕ) → IsNoWorse before image → (messages : List Message) × HasRecords keys image messages
row_in keys before sound image (inl (inl is)) = sound.images image is
row_in keys before sound image (inl (inr same)) = subst (λ (b : List ℕ). (messages : List Message) × HasRecords keys b messages) (sym same) (read_row keys before sound)
row_in keys before sound image (inr short) = ([], inl (short.1, refl))

-- an earlier moment of a lawful history is lawful
earlier_lawful : (changes : List Change) (history : History) → IsLawfulHistory (changes ++ history) → IsLawfulHistory history
earlier_lawful [] history lawful = lawful
earlier_lawful (Wrote at size landed ∷ changes) history lawful = earlier_lawful changes history lawful.2
earlier_lawful (Synced ∷ changes) history lawful = earlier_lawful changes history lawful

moment_lawful : (moment after : History) → GoesOn moment after → IsLawfulHistory after → IsLawfulHistory moment
moment_lawful moment after until lawful = earlier_lawful until.0 moment (subst IsLawfulHistory until.1 lawful)

pub opening_sound : (number keys : ℕ) (before after moment : History) (result : Result Opened OpenCause) → IsSoundDisk keys before → IsOpening number keys before after result
    → GoesOn before moment → GoesOn moment after → IsSoundDisk keys moment
opening_sound number keys before after moment result sound opens since until = record {
  lawful = moment_lawful moment after until (opens.lawful sound.lawful);
  images = λ image is. row_in keys before sound image (opens.moments moment since until image is);
}

either_row : (state : State) (message : Message) (image : List ℕ) → KeepsEither state message image → (messages : List Message) × HasRecords (length state.kept) image messages
either_row state message image (inl keeps) = (keeps.0, keeps.1)
either_row state message image (inr keeps) = (keeps.0, keeps.1)

pub take_sound : (before after moment : History) (state : State) (message : Message) (result : Result (Unit {0}) TakeFault) → IsSoundDisk (length state.kept) before → IsTaken before after state message result
    → GoesOn before moment → GoesOn moment after → IsSoundDisk (length state.kept) moment
take_sound before after moment state message result sound taken since until = record {
  lawful = moment_lawful moment after until (taken.lawful sound.lawful);
  images = λ image is. either_row state message image (taken.moments moment since until image is);
}

pub crash_sound : (keys : ℕ) (new : Bool) (history : History) → IsSoundDisk keys history → IsSoundDisk keys (crashed new history)
crash_sound keys new history sound = record {
  lawful = crashed_lawful new history sound.lawful;
  images = λ image is. subst (λ (b : List ℕ). (messages : List Message) × HasRecords keys b messages) (sym (crashed_alone new history image is))
      (sound.images (bytes_of (crashed new history)) (crashed_image new history sound.lawful));
}

pub empty_sound : (keys : ℕ) (history : History) → IsLawfulHistory history → ((image : List ℕ) → IsImage history image → image ≡ []) → IsSoundDisk keys history
empty_sound keys history lawful empty = record { lawful = lawful; images = λ image is. ([], inl (omega (arith, ap length (empty image is)), refl)) }
