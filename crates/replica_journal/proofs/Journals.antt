-- What bytes with one record more, or with the front of one, are as a journal.
use Rattle.std.proofs.Common.{ℕ, ◌≡◌, ◌≢◌, ◌+◌, inl, inr, List, [], ◌∷◌, ◌++◌, length, refl, sym, ◌∙◌, ap, subst, arith, append_assoc, length-append}
use Rattle.std.proofs.lemmas.List.{append-nil}
use Rattle.std.proofs.lemmas.Bool.{cases_eq}
use Rattle.std.specs.List.{AllByRecursion}
use Rattle.wire_msg.specs.declared.message.Message.{Message}
use Rattle.replica_journal.specs.Records.{IsRecord, body_of, records_of, IsJournal, IsBeforeOrAfter}

-- the record of one message more
pub records_push : (messages : List Message) (message : Message) (rest : List ℕ) → records_of (messages ++ message ∷ []) ++ rest ≡ records_of messages ++ 1 ∷ (body_of message ++ rest)
records_push [] message rest = ap (λ (l : List ℕ). 1 ∷ (l ++ rest)) (append-nil (body_of message))
records_push (first ∷ messages) message rest =
    ap (λ (l : List ℕ). 1 ∷ l) (
    append_assoc (body_of first) (records_of (messages ++ message ∷ [])) rest
    ∙ ap (λ (l : List ℕ). body_of first ++ l) (records_push messages message rest)
    ∙ sym (append_assoc (body_of first) (records_of messages) (1 ∷ (body_of message ++ rest)))
    )

pub records_length : (messages : List Message) (message : Message) → length (records_of (messages ++ message ∷ [])) ≡ length (records_of messages) + 1 + length (body_of message)
records_length messages message =
    let whole : records_of (messages ++ message ∷ []) ++ [] ≡ records_of messages ++ 1 ∷ (body_of message ++ []) = records_push messages message [] in
    omega (
      arith,
      ap length whole,
      length-append (records_of (messages ++ message ∷ [])) [],
      length-append (records_of messages) (1 ∷ (body_of message ++ [])),
      length-append (body_of message) [],
    )

pub all_push : (P : Message → Type 0) (messages : List Message) (message : Message) → AllByRecursion P messages → P message → AllByRecursion P (messages ++ message ∷ [])
all_push P [] message all holds = (holds, tt)
all_push P (first ∷ messages) message all holds = (all.0, all_push P messages message all.1 holds)

module _ (keys : ℕ) (messages : List Message) (records : AllByRecursion (IsRecord keys) messages) where
  -- a closed gate behind the records ends them
  pub ended_at : (gate : ℕ) (rest : List ℕ) → gate ≢ 1 → IsJournal keys (records_of messages ++ gate ∷ rest) messages
  ended_at gate rest shut = record { rest = gate ∷ rest; spelled = refl; closed = shut; records = records }

  -- an open one has its record behind it
  pub longer : (message : Message) (rest : List ℕ) → IsRecord keys message
      → IsJournal keys (records_of messages ++ 1 ∷ (body_of message ++ 0 ∷ rest)) (messages ++ message ∷ [])
  longer message rest sound = record {
    rest = 0 ∷ rest;
    spelled = sym (records_push messages message (0 ∷ rest));
    closed = λ e. omega (arith, e);
    records = all_push (IsRecord keys) messages message records sound;
  }

  -- a whole record behind any gate counts or it doesn't
  pub at_any_gate : (gate : ℕ) (message : Message) (rest : List ℕ) → IsRecord keys message
      → IsBeforeOrAfter keys messages message (records_of messages ++ gate ∷ (body_of message ++ 0 ∷ rest))
  at_any_gate gate message rest sound = elim (cases_eq gate 1) [
    | inl opened ↦ inr (inr (subst (λ (g : ℕ). IsJournal keys (records_of messages ++ g ∷ (body_of message ++ 0 ∷ rest)) (messages ++ message ∷ [])) (sym opened) (longer message rest sound)))
    | inr shut ↦ inl (inr (ended_at gate (body_of message ++ 0 ∷ rest) shut))
  ]
