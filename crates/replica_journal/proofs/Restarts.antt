-- What a crash keeps of a journal to which a record was to be appended.
use Rattle.std.proofs.Common.{ℕ, ◌≡◌, ◌+◌, ◌≤◌, inr, Bool, true, false, ◌&&◌, nat_le, List, [], ◌∷◌, ◌++◌, length, refl, sym, ◌∙◌, ap, subst, arith, length-append}
use Rattle.std.specs.Prelude.{if◌then◌else◌}
use Rattle.std.specs.Int.{w16}
use Rattle.std.proofs.lemmas.Bool.{le-leb, lt-leb}
use Rattle.wire_msg.specs.declared.message.Message.{Message}
use Rattle.wire_msg.specs.Fields.{kind_of}
use Rattle.wire_msg.specs.Frames.{big, frame_of}
use Rattle.wire_msg.specs.Lawful.{IsLawful}
use Rattle.wire_msg.specs.Sizes.{frame_size}
use Rattle.wire_msg.proofs.SizeLaws.{frame_length}
use Rattle.replica_core.specs.Rule.{State, step}
use Rattle.replica_core.specs.Taking.{IsLogged, record_size}
use Rattle.replica_journal.specs.declared.replay.Place.{Place}
use Rattle.replica_journal.specs.Disk.{History, Wrote, Synced, bytes_of}
use Rattle.replica_journal.specs.Memory.{crashed}
use Rattle.replica_journal.specs.Records.{IsRecord, IsJournal, body_of}
use Rattle.replica_journal.specs.Journaled.{IsKeptBy}
use Rattle.replica_journal.specs.Stopped.{is_kept, stopped, Holds, KeepsStopped}
use Rattle.replica_journal.proofs.Rows.{head_length}
use Rattle.replica_journal.proofs.Journals.{records_length}
use Rattle.replica_journal.proofs.Appending.{stage_rests, done_rests, written_leaves}
use Rattle.replica_journal.proofs.Crashes.{crashed_image}
use Rattle.replica_journal.proofs.Takings.{more}
use Rattle.replica_journal.proofs.Unlogged.{unlogged_stays}

-- a message that a journal has is kept by the call and the crash alone
logged_kept : (message : Message) (call : ℕ) (new : Bool) → IsLogged message → is_kept message call new ≡ (nat_le 3 call && new)
logged_kept message call new logged =
    ap (λ (b : Bool). ((b && nat_le (kind_of message) 8) && nat_le 3 call) && new) (le-leb 2 (kind_of message) logged.0)
    ∙ ap (λ (b : Bool). (b && nat_le 3 call) && new) (le-leb (kind_of message) 8 logged.1)

early_call : (call : ℕ) → call ≤ 2 → nat_le 3 call ≡ false
early_call call low = lt-leb 3 call (omega arith)

-- any other changes nothing
unlogged_stopped : (state : State) (message : Message) (call : ℕ) (new : Bool) → ¬ IsLogged message → stopped state message call new ≡ state
unlogged_stopped state message call new unlogged =
    elim (is_kept message call new) as (λ b. (if b then (step state message).state else state) ≡ state) [ true ↦ unlogged_stays state message unlogged | false ↦ refl ]

record_length : (message : Message) → IsLawful message → 1 + length (body_of message) ≡ record_size message
record_length message lawful =
    omega (arith, length-append (big w16 (frame_size message)) (frame_of message), head_length (frame_size message), frame_length message lawful)

module _ (state : State) (place : Place) (message : Message) (history : History) (kept : IsKeptBy history state place) where
  abbrev keys : ℕ
  keys = length state.kept

  -- the old records keep the old state
  holds_old : (image : List ℕ) → IsJournal keys image kept.messages → Holds state.number keys image state (place.gate + record_size message)
  holds_old image journal = record { messages = kept.messages; held = inr journal; made = kept.made; short = omega (arith, kept.rest.gate) }

  -- nothing was written
  pub still_holds : ¬ IsLogged message → (call : ℕ) → KeepsStopped state place message call history
  still_holds unlogged call lawful new =
      let image : List ℕ = bytes_of (crashed new history) in
      let journal : IsJournal keys image kept.messages = subst (λ (b : List ℕ). IsJournal keys b kept.messages) (sym (kept.rest.safe image (crashed_image new history lawful))) kept.rest.journal in
      subst (λ (s : State). Holds state.number keys image s (place.gate + record_size message)) (sym (unlogged_stopped state message call new unlogged)) (holds_old image journal)

  module _ (piece : List ℕ) (sound : IsRecord keys message) (spelled : piece ≡ body_of message ++ 0 ∷ []) where
    -- the record behind its gate, and then that made safe and the gate opened
    abbrev pub behind : History
    behind = Wrote (place.gate + 1) (length piece) piece ∷ history

    abbrev pub opened : History
    opened = Wrote place.gate 1 (1 ∷ []) ∷ Synced ∷ behind

    holds_new : (image : List ℕ) → IsJournal keys image (kept.messages ++ message ∷ []) → Holds state.number keys image (step state message).state (place.gate + record_size message)
    holds_new image journal = record {
      messages = kept.messages ++ message ∷ [];
      held = inr journal;
      made = more state place message piece sound spelled kept.messages kept.made;
      short = omega (arith, kept.rest.gate, records_length kept.messages message, record_length message sound.lawful);
    }

    pub early_holds : (call : ℕ) → call ≤ 2 → KeepsStopped state place message call behind
    early_holds call low lawful new =
        let image : List ℕ = bytes_of (crashed new behind) in
        let is : is_kept message call new ≡ false = logged_kept message call new sound.logged ∙ ap (λ (b : Bool). b && new) (early_call call low) in
        let same : stopped state message call new ≡ state = ap (λ (b : Bool). if b then (step state message).state else state) is in
        subst (λ (s : State). Holds state.number keys image s (place.gate + record_size message)) (sym same)
        (holds_old image (written_leaves keys history place.gate kept.messages message piece kept.rest sound spelled (length piece) piece image (crashed_image new behind lawful)))

    pub late_holds : (call : ℕ) → 3 ≤ call → KeepsStopped state place message call opened
    late_holds call high lawful false =
        let image : List ℕ = bytes_of (crashed false opened) in
        let is : is_kept message call false ≡ false = logged_kept message call false sound.logged ∙ ap (λ (b : Bool). b && false) (le-leb 3 call high) in
        let same : stopped state message call false ≡ state = ap (λ (b : Bool). if b then (step state message).state else state) is in
        subst (λ (s : State). Holds state.number keys image s (place.gate + record_size message)) (sym same)
        (holds_old image (stage_rests keys history place.gate kept.messages message piece kept.rest sound spelled).journal)
    late_holds call high lawful true =
        let image : List ℕ = bytes_of (crashed true opened) in
        let is : is_kept message call true ≡ true = logged_kept message call true sound.logged ∙ ap (λ (b : Bool). b && true) (le-leb 3 call high) in
        let now : stopped state message call true ≡ (step state message).state = ap (λ (b : Bool). if b then (step state message).state else state) is in
        subst (λ (s : State). Holds state.number keys image s (place.gate + record_size message)) (sym now)
        (holds_new image (done_rests keys history place.gate kept.messages message piece kept.rest sound spelled).journal)
