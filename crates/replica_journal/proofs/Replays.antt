-- A journal is replayed record after record.
use Rattle.std.proofs.Common.{ℕ, ◌≡◌, ◌+◌, ◌-◌, ◌<◌, ◌≤◌, ◌⊎◌, inl, inr, List, [], ◌∷◌, ◌++◌, length, take, drop, Option, Some, None, Ok, Err, refl, sym, ◌∙◌, ap, arith, length-append, length-drop, take-append-drop}
use Rattle.std.proofs.Math.Seq.{take-add}
use Rattle.std.proofs.lemmas.List.{append-nil, take_at, length_push}
use Rattle.wire_msg.specs.declared.message.Message.{Message}
use Rattle.replica_core.specs.Rule.{State, step}
use Rattle.replica_journal.specs.declared.record.AtGate.TheVariants.{Record, Closed, Damaged}
use Rattle.replica_journal.specs.declared.open_fault.OpenCause.TheVariants as cause
use Rattle.replica_journal.specs.Disk.{History, bytes_of}
use Rattle.replica_journal.specs.Records.{IsRecord, body_of, records_of, state_after}
use Rattle.replica_journal.specs.Windows.{IsFoundAt, IsInside}
use Rattle.replica_journal.specs.Replaying.{IsEnd, IsReplayedOf, ReplaysOf}
use Rattle.replica_journal.proofs.Journals.{records_push, records_length, all_push}

pub state_push : (start : State) (messages : List Message) (message : Message) → state_after start (messages ++ message ∷ []) ≡ (step (state_after start messages) message).state
state_push start [] message = refl
state_push start (first ∷ messages) message = state_push (step start first).state messages message

pub replay_start : (told : Option History) (keys end : ℕ) (start : State) → 0 < end → IsEnd told end → IsReplayedOf told keys start start 0 0
replay_start None keys end start some is = tt
replay_start (Some history) keys end start some is = record {
  messages = [];
  front = refl;
  at = refl;
  records = tt;
  number = refl;
  state = refl;
  inside = omega (arith, some, is.0);
}

pub replay_more : (told : Option History) (keys : ℕ) (start now next : State) (place count size : ℕ) (message : Message) → IsReplayedOf told keys start now place count
    → IsFoundAt told keys place (Record message size) → next ≡ (step now message).state → IsReplayedOf told keys start next (place + size) (count + 1)
replay_more None keys start now next place count size message done found is = tt
replay_more (Some history) keys start now next place count size message done found is =
    let bytes = bytes_of history in
    let behind : drop place (bytes_of history) ≡ (1 ∷ body_of message) ++ found.rest = found.spelled in
    let piece : take size (drop place (bytes_of history)) ≡ 1 ∷ body_of message =
    ap (take size) behind ∙ take_at (1 ∷ body_of message) found.rest size (omega (arith, found.takes)) in
    let long : length (bytes_of history) - place ≡ size + length found.rest =
    omega (arith, length-drop place (bytes_of history), ap length behind, length-append (1 ∷ body_of message) found.rest, found.takes) in
    record {
      messages = done.messages ++ message ∷ [];
      front =
          take-add place size (bytes_of history)
          ∙ ap (λ (l : List ℕ). l ++ take size (drop place (bytes_of history))) done.front
          ∙ ap (λ (l : List ℕ). records_of done.messages ++ l) (piece ∙ ap (λ (l : List ℕ). 1 ∷ l) (sym (append-nil (body_of message))))
          ∙ sym (records_push done.messages message [])
          ∙ append-nil (records_of (done.messages ++ message ∷ []));
      at = omega (arith, done.at, found.takes, records_length done.messages message);
      records = all_push (IsRecord keys) done.messages message done.records found.sound;
      number = omega (arith, done.number, length_push done.messages message);
      state = is ∙ ap (λ (s : State). (step s message).state) done.state ∙ sym (state_push start done.messages message);
      inside = omega (arith, long, found.some, done.inside);
    }

-- the bytes up to a place and from there on
split : (place : ℕ) (bytes front : List ℕ) → take place bytes ≡ front → bytes ≡ front ++ drop place bytes
split place bytes front is = sym (take-append-drop place bytes) ∙ ap (λ (l : List ℕ). l ++ drop place bytes) is

pub replay_ends : (told : Option History) (keys : ℕ) (start now : State) (place count : ℕ) → IsReplayedOf told keys start now place count → IsFoundAt told keys place Closed
    → ReplaysOf told keys start now (Ok (record { gate = place; records = count }))
replay_ends None keys start now place count done found = tt
replay_ends (Some history) keys start now place count done found = record {
  messages = done.messages;
  journal = record {
    rest = drop place (bytes_of history);
    spelled = split place (bytes_of history) (records_of done.messages) done.front;
    closed = found;
    records = done.records;
  };
  at = done.at;
  number = done.number;
  state = done.state;
}

head_of : List ℕ → ℕ
head_of [] = 0
head_of (x ∷ xs) = x

not_both : (rest : List ℕ) → 0 ∷ [] ≡ 1 ∷ rest → ⊥
unfolding head_of
not_both rest is = omega (arith, ap head_of is)

long_enough : (place end : ℕ) (bytes rest : List ℕ) → end ≡ length bytes → (1 < end) ⊎ (bytes ≡ 0 ∷ []) → place < length bytes → drop place bytes ≡ 1 ∷ rest → 1 < length bytes
long_enough place end bytes rest is (inl long) inside found = omega (arith, is, long)
long_enough place end bytes rest is (inr closed) inside found =
    let first : place ≡ 0 = omega (arith, inside, ap length closed) in
    absurd (not_both rest (sym (ap (drop 0) closed) ∙ ap (λ (n : ℕ). drop n bytes) (sym first) ∙ found))

pub replay_damaged : (told : Option History) (keys end : ℕ) (start now : State) (place count : ℕ) → IsEnd told end → IsReplayedOf told keys start now place count → IsFoundAt told keys place Damaged
    → ReplaysOf told keys start now (Err (cause.Damaged place))
replay_damaged None keys end start now place count is done found = tt
replay_damaged (Some history) keys end start now place count is done found = record {
  long = long_enough place end (bytes_of history) found.rest is.0 is.1 done.inside found.spelled;
  messages = done.messages;
  rest = found.rest;
  spelled = split place (bytes_of history) (records_of done.messages) done.front ∙ ap (λ (l : List ℕ). records_of done.messages ++ l) found.spelled;
  records = done.records;
  place = done.at;
  damaged = found.unsound;
}

-- a record that was found ends before the disk does
pub replay_overrun : (told : Option History) (keys end : ℕ) (start now : State) (place count size : ℕ) (message : Message) → IsEnd told end → IsReplayedOf told keys start now place count
    → IsFoundAt told keys place (Record message size) → end - place ≤ size → ReplaysOf told keys start now (Err (cause.Damaged place))
replay_overrun None keys end start now place count size message is done found over = tt
replay_overrun (Some history) keys end start now place count size message is done found over =
    absurd (omega (arith, over, is.0, found.some, found.takes, done.inside, length-drop place (bytes_of history), ap length found.spelled, length-append (body_of message) found.rest))

-- a place that was reached is before the end
pub replay_inside : (told : Option History) (keys : ℕ) (start now : State) (place count : ℕ) → IsReplayedOf told keys start now place count → IsInside told place
replay_inside None keys start now place count done = tt
replay_inside (Some history) keys start now place count done = done.inside
