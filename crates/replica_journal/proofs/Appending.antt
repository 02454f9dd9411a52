-- The four calls that append a record: what a crash leaves at each moment.
use Rattle.std.proofs.Common.{ℕ, ◌≡◌, ◌≢◌, ◌+◌, ◌≤◌, inl, inr, List, [], ◌∷◌, ◌++◌, length, drop, get_or, refl, sym, ◌∙◌, ap, subst, arith, append_assoc, length-append}
use Rattle.wire_msg.specs.declared.message.Message.{Message}
use Rattle.replica_journal.specs.Disk.{History, Wrote, Synced, put, bytes_of, Torn, IsImage, IsLawfulHistory, GoesOn, AtEachMoment}
use Rattle.replica_journal.specs.Records.{IsRecord, body_of, records_of, IsClosed, IsJournal, IsAtRest, IsBeforeOrAfter}
use Rattle.replica_journal.proofs.Puts.{torn_behind, put_behind, torn_gate, put_gate}
use Rattle.replica_journal.proofs.Moments.{at_start, at_next, goes_on_here, goes_on_next}
use Rattle.replica_journal.proofs.Journals.{records_length, ended_at, longer, at_any_gate}

-- a gate that isn't open stands at the front
gate_of : (rest : List ℕ) → IsClosed rest → (gate : ℕ) × (behind : List ℕ) × (rest ≡ gate ∷ behind) × (gate ≢ 1)
gate_of [] closed = absurd closed
gate_of (gate ∷ behind) closed = (gate, behind, refl, closed)

module _ (keys : ℕ) (history : History) (place : ℕ) (messages : List Message) (message : Message) (piece : List ℕ)
    (rest : IsAtRest keys history place messages) (sound : IsRecord keys message) (spelled : piece ≡ body_of message ++ 0 ∷ []) where
  stands : (gate : ℕ) × (behind : List ℕ) × (rest.journal.rest ≡ gate ∷ behind) × (gate ≢ 1)
  stands = gate_of rest.journal.rest rest.journal.closed

  bytes : bytes_of history ≡ records_of messages ++ stands.0 ∷ stands.1
  bytes = rest.journal.spelled ∙ ap (λ (l : List ℕ). records_of messages ++ l) stands.2

  -- the record behind the closed gate, and then both synced, and then the gate opened
  abbrev pub written : ℕ → List ℕ → History
  written size landed = Wrote (place + 1) size landed ∷ history

  abbrev pub stage : History
  stage = Synced ∷ written (length piece) piece

  abbrev pub opened : List ℕ → History
  opened landed = Wrote place 1 landed ∷ stage

  abbrev pub done : History
  done = Synced ∷ opened (1 ∷ [])

  abbrev pub P : List ℕ → Type 0
  P = IsBeforeOrAfter keys messages message

  pub written_leaves : (size : ℕ) (landed image : List ℕ) → IsImage (written size landed) image → IsJournal keys image messages
  written_leaves size landed image is =
      let torn : Torn (length (records_of messages) + 1) size (records_of messages ++ stands.0 ∷ stands.1) image =
      subst (λ (p : ℕ). Torn (p + 1) size (records_of messages ++ stands.0 ∷ stands.1) image) rest.gate
      (subst (λ (b : List ℕ). Torn (place + 1) size b image) (rest.safe is.0 is.1 ∙ bytes) is.2) in
      subst (λ (b : List ℕ). IsJournal keys b messages) (sym (torn_behind (records_of messages) stands.0 stands.1 size image torn))
      (ended_at keys messages rest.journal.records stands.0 (drop (length (records_of messages) + 1) image) stands.3)

  staged : bytes_of stage ≡ records_of messages ++ stands.0 ∷ (body_of message ++ 0 ∷ drop (length piece) stands.1)
  staged =
      ap (λ (p : ℕ). put (bytes_of history) (p + 1) piece) rest.gate
      ∙ ap (λ (b : List ℕ). put b (length (records_of messages) + 1) piece) bytes
      ∙ put_behind (records_of messages) stands.0 stands.1 piece
      ∙ ap (λ (l : List ℕ). records_of messages ++ stands.0 ∷ l) (ap (λ (p : List ℕ). p ++ drop (length piece) stands.1) spelled ∙ append_assoc (body_of message) (0 ∷ []) (drop (length piece) stands.1))

  pub stage_rests : IsAtRest keys stage place messages
  stage_rests = record {
    journal = subst (λ (b : List ℕ). IsJournal keys b messages) (sym staged) (ended_at keys messages rest.journal.records stands.0 (body_of message ++ 0 ∷ drop (length piece) stands.1) stands.3);
    gate = rest.gate;
    safe = λ image is. is;
  }

  opened_leaves : (landed image : List ℕ) → IsImage (opened landed) image → IsBeforeOrAfter keys messages message image
  opened_leaves landed image is =
      let torn : Torn (length (records_of messages)) 1 (records_of messages ++ stands.0 ∷ (body_of message ++ 0 ∷ drop (length piece) stands.1)) image =
      subst (λ (p : ℕ). Torn p 1 (records_of messages ++ stands.0 ∷ (body_of message ++ 0 ∷ drop (length piece) stands.1)) image) rest.gate
      (subst (λ (b : List ℕ). Torn place 1 b image) (is.1 ∙ staged) is.2) in
      subst (IsBeforeOrAfter keys messages message) (sym (torn_gate (records_of messages) stands.0 (body_of message ++ 0 ∷ drop (length piece) stands.1) image torn))
      (at_any_gate keys messages rest.journal.records (get_or image (length (records_of messages)) 0) message (drop (length piece) stands.1) sound)

  is_open : bytes_of done ≡ records_of messages ++ 1 ∷ (body_of message ++ 0 ∷ drop (length piece) stands.1)
  is_open =
      ap (λ (p : ℕ). put (bytes_of stage) p (1 ∷ [])) rest.gate
      ∙ ap (λ (b : List ℕ). put b (length (records_of messages)) (1 ∷ [])) staged
      ∙ put_gate (records_of messages) stands.0 (body_of message ++ 0 ∷ drop (length piece) stands.1) 1

  pub done_rests : IsAtRest keys done (place + length piece) (messages ++ message ∷ [])
  done_rests = record {
    journal = subst (λ (b : List ℕ). IsJournal keys b (messages ++ message ∷ [])) (sym is_open) (longer keys messages rest.journal.records message (drop (length piece) stands.1) sound);
    gate = omega (arith, rest.gate, ap length spelled, length-append (body_of message) (0 ∷ []), records_length messages message);
    safe = λ image is. is;
  }

  pub at_first : AtEachMoment history history P
  at_first = at_start history P (λ image is. inl (inr (subst (λ (b : List ℕ). IsJournal keys b messages) (sym (rest.safe image is)) rest.journal)))

  pub at_written : (size : ℕ) (landed : List ℕ) → AtEachMoment history (written size landed) P
  at_written size landed = at_next history history (Wrote (place + 1) size landed) P at_first (λ image is. inl (inr (written_leaves size landed image is)))

  pub at_stage : AtEachMoment history stage P
  at_stage = at_next history (written (length piece) piece) Synced P (at_written (length piece) piece)
      (λ image is. inl (inr (subst (λ (b : List ℕ). IsJournal keys b messages) (sym is) stage_rests.journal)))

  pub at_opened : (landed : List ℕ) → AtEachMoment history (opened landed) P
  at_opened landed = at_next history stage (Wrote place 1 landed) P at_stage (opened_leaves landed)

  pub at_done : AtEachMoment history done P
  at_done = at_next history (opened (1 ∷ [])) Synced P (at_opened (1 ∷ []))
      (λ image is. inr (inr (subst (λ (b : List ℕ). IsJournal keys b (messages ++ message ∷ [])) (sym is) done_rests.journal)))

  pub lawful_written : (landed : List ℕ) → length landed ≤ length piece → IsLawfulHistory history → IsLawfulHistory (written (length piece) landed)
  lawful_written landed fits lawful = (omega (arith, rest.gate, ap length bytes, length-append (records_of messages) (stands.0 ∷ stands.1)), fits, lawful)

  pub lawful_stage : IsLawfulHistory history → IsLawfulHistory stage
  lawful_stage lawful = lawful_written piece (omega arith) lawful

  pub lawful_opened : (landed : List ℕ) → length landed ≤ 1 → IsLawfulHistory history → IsLawfulHistory (opened landed)
  lawful_opened landed fits lawful =
      let behind : List ℕ = body_of message ++ 0 ∷ drop (length piece) stands.1 in
      (omega (arith, rest.gate, ap length staged, length-append (records_of messages) (stands.0 ∷ behind)), fits, lawful_stage lawful)

  pub lawful_done : IsLawfulHistory history → IsLawfulHistory done
  lawful_done lawful = lawful_opened (1 ∷ []) (omega arith) lawful

  pub on_written : (size : ℕ) (landed : List ℕ) → GoesOn history (written size landed)
  on_written size landed = goes_on_next history history (Wrote (place + 1) size landed) (goes_on_here history)

  pub on_stage : GoesOn history stage
  on_stage = goes_on_next history (written (length piece) piece) Synced (on_written (length piece) piece)

  pub on_opened : (landed : List ℕ) → GoesOn history (opened landed)
  on_opened landed = goes_on_next history stage (Wrote place 1 landed) on_stage

  pub on_done : GoesOn history done
  on_done = goes_on_next history (opened (1 ∷ [])) Synced (on_opened (1 ∷ []))
