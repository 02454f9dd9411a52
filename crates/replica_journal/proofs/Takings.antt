-- What taking a message leaves of a journal that kept the state.
use Rattle.std.proofs.Common.{ℕ, ◌≡◌, ◌+◌, inl, inr, List, [], ◌∷◌, ◌++◌, length, Option, Some, None, is_some, Result, Ok, Err, OnOk, refl, sym, ◌∙◌, ap, subst, arith, length-append}
use Rattle.std.proofs.lemmas.List.{length_push}
use Rattle.span_base.specs.declared.sink.DeviceFault.{DeviceFault}
use Rattle.span_base.specs.declared.sink.DeviceFault.TheVariants as device
use Rattle.wire_msg.specs.declared.message.Message.{Message}
use Rattle.replica_core.specs.declared.journal.TakeFault.{TakeFault}
use Rattle.replica_core.specs.Rule.{State, opening_state, step}
use Rattle.replica_journal.specs.declared.replay.Place.{Place}
use Rattle.replica_journal.specs.Disk.{History, IsImage, IsWithin, bytes_of}
use Rattle.replica_journal.specs.Records.{IsRecord, IsAtRest, IsBeforeOrAfter, IsJournal, Keeps, body_of, records_of, state_after}
use Rattle.replica_journal.specs.Appended.{Appended}
use Rattle.replica_journal.specs.Journaled.{IsKeptBy, IsKeptIn}
use Rattle.replica_journal.specs.Taken.{KeepsState, KeepsEither, LeavesEither, IsTaken, Takes, taken_by}
use Rattle.replica_journal.proofs.Moments.{at_start, goes_on_here}
use Rattle.replica_journal.proofs.Replays.{state_push}
use Rattle.replica_journal.proofs.Rows.{some_closed}

-- a disk at rest keeps what its messages make
at_rest_keeps : (keys : ℕ) (history : History) (number place : ℕ) (messages : List Message) (state : State) → IsAtRest keys history place messages
    → state ≡ state_after (opening_state number keys) messages → (image : List ℕ) → IsImage history image → Keeps number keys image state
at_rest_keeps keys history number place messages state rest made image is =
    (messages, inr (subst (λ (b : List ℕ). IsJournal keys b messages) (sym (rest.safe image is)) rest.journal), made)

pub keeps_at_rest : (history : History) (state : State) (place : Place) → IsKeptBy history state place → (image : List ℕ) → IsImage history image → KeepsState state image
keeps_at_rest history state place kept = at_rest_keeps (length state.kept) history state.number place.gate kept.messages state kept.rest kept.made

-- nothing was written
module _ (state : State) (place : Place) (message : Message) (result : Result (Unit {0}) TakeFault) (same : OnOk result ((step state message).state ≡ state)) where
  still_done : (history : History) → IsKeptBy history state place → (r : Result (Unit {0}) TakeFault) → OnOk r ((step state message).state ≡ state)
      → OnOk r ((image : List ℕ) → IsImage history image → Keeps state.number (length state.kept) image (step state message).state)
  still_done history kept (Ok done) stays = λ image is. subst (λ (s : State). Keeps state.number (length state.kept) image s) (sym stays) (keeps_at_rest history state place kept image is)
  still_done history kept (Err fault) stays = tt

  pub still : (told : Option History) → IsKeptIn told state place → Takes told told state message result
  still None kept = refl
  still (Some history) kept = (
    history,
    refl,
    record {
      on = goes_on_here history;
      lawful = λ lawful. lawful;
      moments = at_start history (KeepsEither state message) (λ image is. inl (keeps_at_rest history state place kept image is));
      done = still_done history kept result same;
    },
  )

pub still_refused : (told : Option History) (state : State) (place : Place) (message : Message) (result : Result (Unit {0}) TakeFault) (why : TakeFault) → result ≡ Err why
    → IsKeptIn told state place → Takes told told state message result
still_refused told state place message result why is kept =
    subst (λ (r : Result (Unit {0}) TakeFault). Takes told told state message r) (sym is) (still state place message (Err why) tt told kept)

-- at each moment a crash leaves the state from before or the one after the message, and so it does at the end
pub leaves_either : (told told' : Option History) (state : State) (message : Message) (result : Result (Unit {0}) TakeFault) → Takes told told' state message result
    → LeavesEither told' state (step state message).state
leaves_either None told' state message result same = subst (λ (t : Option History). LeavesEither t state (step state message).state) (sym same) tt
leaves_either (Some before) told' state message result (after, is, taken) =
    subst (λ (t : Option History). LeavesEither t state (step state message).state) (sym is) (taken.moments after taken.on (goes_on_here after))

-- a gate stands behind the records
pub kept_within : (told : Option History) (state : State) (place : Place) → IsKeptIn told state place → IsWithin told (place.gate + 1)
kept_within None state place kept = tt
kept_within (Some history) state place kept =
    let journal : IsJournal (length state.kept) (bytes_of history) kept.messages = kept.rest.journal in
    omega (arith, kept.rest.gate, ap length journal.spelled, length-append (records_of kept.messages) journal.rest, some_closed journal.rest journal.closed)

-- a record was appended, or was to be
module _ (state : State) (place : Place) (message : Message) (piece : List ℕ) (sound : IsRecord (length state.kept) message) (spelled : piece ≡ body_of message ++ 0 ∷ []) where
  -- what an append says of every journal
  abbrev pub AppendSays : Option History → Option History → Result (Unit {0}) DeviceFault → Type 0
  AppendSays told now answer = (keys : ℕ) (before after : History) (messages : List Message) (m : Message) → told ≡ Some before → now ≡ Some after
      → IsAtRest keys before place.gate messages → IsRecord keys m → piece ≡ body_of m ++ 0 ∷ [] → Appended keys before after place.gate (length piece) messages m answer

  pub more : (messages : List Message) → state ≡ state_after (opening_state state.number (length state.kept)) messages
      → (step state message).state ≡ state_after (opening_state state.number (length state.kept)) (messages ++ message ∷ [])
  more messages made = ap (λ (s : State). (step s message).state) made ∙ sym (state_push (opening_state state.number (length state.kept)) messages message)

  either : (messages : List Message) → state ≡ state_after (opening_state state.number (length state.kept)) messages → (image : List ℕ)
      → IsBeforeOrAfter (length state.kept) messages message image → KeepsEither state message image
  either messages made image (inl has) = inl (messages, has, made)
  either messages made image (inr has) = inr (messages ++ message ∷ [], has, more messages made)

  module _ (before after : History) (kept : IsKeptBy before state place) where
    taken_done : (answer : Result (Unit {0}) DeviceFault) → Appended (length state.kept) before after place.gate (length piece) kept.messages message answer
        → OnOk (taken_by answer) ((image : List ℕ) → IsImage after image → Keeps state.number (length state.kept) image (step state message).state)
    taken_done (Ok done) appended =
        at_rest_keeps (length state.kept) after state.number (place.gate + length piece) (kept.messages ++ message ∷ []) (step state message).state appended.done (more kept.messages kept.made)
    taken_done (Err device.Failed) appended = tt
    taken_done (Err device.NoMemory) appended = tt

    is_taken : (answer : Result (Unit {0}) DeviceFault) → Appended (length state.kept) before after place.gate (length piece) kept.messages message answer
        → IsTaken before after state message (taken_by answer)
    is_taken answer appended = record {
      on = appended.on;
      lawful = appended.lawful;
      moments = λ moment since until image is. either kept.messages kept.made image (appended.moments moment since until image is);
      done = taken_done answer appended;
    }

    longer : (new : State) (gate records : ℕ) → new ≡ (step state message).state → new.number ≡ state.number → length new.kept ≡ length state.kept
        → gate ≡ place.gate + length piece → records ≡ place.records + 1
        → Appended (length state.kept) before after place.gate (length piece) kept.messages message (Ok tt) → IsKeptBy after new (record { gate = gate; records = records })
    longer new gate records is number keys there count appended = record {
      messages = kept.messages ++ message ∷ [];
      rest = subst (λ (n : ℕ). IsAtRest n after gate (kept.messages ++ message ∷ [])) (sym keys)
          (subst (λ (p : ℕ). IsAtRest (length state.kept) after p (kept.messages ++ message ∷ [])) (sym there) appended.done);
      count = omega (arith, count, kept.count, length_push kept.messages message);
      made = is ∙ more kept.messages kept.made ∙ ap (λ (s : State). state_after s (kept.messages ++ message ∷ [])) (same_opening new.number state.number (length new.kept) (length state.kept) number keys);
    }
      where
        same_opening : (a b m n : ℕ) → a ≡ b → m ≡ n → opening_state b n ≡ opening_state a m
        same_opening a b m n e f = ap (λ (x : ℕ). opening_state x n) (sym e) ∙ ap (opening_state a) (sym f)

  both : (told now : Option History) → is_some now ≡ is_some told → (answer : Result (Unit {0}) DeviceFault) → AppendSays told now answer → IsKeptIn told state place → Takes told now state message (taken_by answer)
  both None None some answer says kept = refl
  both None (Some after) some answer says kept = absurd (cc)
  both (Some before) None some answer says kept = absurd (cc)
  both (Some before) (Some after) some answer says kept =
      (after, refl, is_taken before after kept answer (says (length state.kept) before after kept.messages message refl refl kept.rest sound spelled))

  pub logs : (told now : Option History) → is_some now ≡ is_some told → (answer : Result (Unit {0}) DeviceFault) → AppendSays told now answer → IsKeptIn told state place
      → (result : Result (Unit {0}) TakeFault) → result ≡ taken_by answer → Takes told now state message result
  logs told now some answer says kept result is = subst (λ (r : Result (Unit {0}) TakeFault). Takes told now state message r) (sym is) (both told now some answer says kept)

  -- the journal keeps the new state
  pub keeps_more : (told now : Option History) → is_some now ≡ is_some told → AppendSays told now (Ok tt) → IsKeptIn told state place
      → (new : State) (gate records : ℕ) → new ≡ (step state message).state → new.number ≡ state.number → length new.kept ≡ length state.kept
      → gate ≡ place.gate + length piece → records ≡ place.records + 1 → IsKeptIn now new (record { gate = gate; records = records })
  keeps_more None None some says kept new gate records is number keys there count = tt
  keeps_more None (Some after) some says kept new gate records is number keys there count = absurd (cc)
  keeps_more (Some before) None some says kept new gate records is number keys there count = tt
  keeps_more (Some before) (Some after) some says kept new gate records is number keys there count =
      longer before after kept new gate records is number keys there count (says (length state.kept) before after kept.messages message refl refl kept.rest sound spelled)

  -- want of memory leaves it as it was
  pub keeps_still : (told now : Option History) → is_some now ≡ is_some told → AppendSays told now (Err device.NoMemory) → IsKeptIn told state place → IsKeptIn now state place
  keeps_still None None some says kept = tt
  keeps_still None (Some after) some says kept = absurd (cc)
  keeps_still (Some before) None some says kept = tt
  keeps_still (Some before) (Some after) some says kept = record {
    messages = kept.messages;
    rest = (says (length state.kept) before after kept.messages message refl refl kept.rest sound spelled).undone refl;
    count = kept.count;
    made = kept.made;
  }
