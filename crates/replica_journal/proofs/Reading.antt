-- What the bytes behind an open gate say.
use Rattle.std.proofs.Common.{ℕ, ◌≡◌, ◌+◌, ◌<◌, ◌≤◌, List, [], ◌∷◌, ◌++◌, length, take, drop, get_or, Some, None, IfSome, refl, sym, ◌∙◌, ap, subst, arith, append_assoc, length-append, length-drop, take-append-drop, zero, suc}
use Rattle.std.proofs.lemmas.List.{append-nil, length-take, take_at, take-append-le}
use Rattle.std.proofs.lemmas.Nat.{be_bytes_2}
use Rattle.std.specs.Int.{w16, from_be_bytes, to_be_bytes}
use Rattle.wire_msg.specs.declared.message.Message.{Message}
use Rattle.wire_msg.specs.declared.message.Message.TheVariants.{Read, Ask, Store, Repair, Confirm, Freeze, Seed, Push, Lookup, Switch, Have, Yes, Held, Gone, Here, Switched}
use Rattle.wire_msg.specs.Frames.{big, frame_of}
use Rattle.wire_msg.specs.Lawful.{IsLawful}
use Rattle.wire_msg.specs.Laws.{FitsBytes, IsFrame}
use Rattle.wire_msg.specs.Sizes.{frame_size}
use Rattle.wire_msg.proofs.Readings.{wide16}
use Rattle.wire_msg.proofs.MessageLaws.{told_apart}
use Rattle.wire_msg.proofs.SizeLaws.{frame_length}
use Rattle.replica_core.specs.Rule.{request_key}
use Rattle.replica_core.specs.Taking.{IsLogged}
use Rattle.replica_journal.specs.Records.{IsSoundRecord}
use Rattle.replica_journal.specs.AtGate.{FrameHolds, IsRecordAt, IsShort, IsUnsound}
use Rattle.replica_journal.proofs.Rows.{head_length, behind_head}

-- a frame that a journal may hold is at most that of a Repair or a Seed
pub frame_small : (message : Message) → IsLogged message → IsLawful message → frame_size message ≤ 4133
frame_small (Read t k e) g m = absurd (omega (arith, g.0))
frame_small (Ask t k s) g m = omega arith
frame_small (Store t k s v) g m = omega (arith, m.1.1.1.0)
frame_small (Repair t k e s v) g m = omega (arith, m.1.1.1.1.0)
frame_small (Confirm t k s) g m = omega arith
frame_small (Freeze t k e) g m = omega arith
frame_small (Seed t k e s v) g m = omega (arith, m.1.1.1.1.0)
frame_small (Push t k s o v) g m = omega (arith, m.1.1.1.1.0)
frame_small (Lookup t k) g m = absurd (omega (arith, g.1))
frame_small (Switch t k c o) g m = absurd (omega (arith, g.1))
frame_small (Have t r s m v) g l = absurd (omega (arith, g.1))
frame_small (Yes t r) g m = absurd (omega (arith, g.1))
frame_small (Held t r s) g m = absurd (omega (arith, g.1))
frame_small (Gone t r e) g m = absurd (omega (arith, g.1))
frame_small (Here t k e p l q) g m = absurd (omega (arith, g.1))
frame_small (Switched t k d e) g m = absurd (omega (arith, g.1))

-- the message of a frame that no journal may hold
pub holds_none : (keys : ℕ) (frame : List ℕ) (message : Message) → IsLawful message → FitsBytes message → frame_of message ≡ frame
    → (IsLogged message × IfSome (request_key message) (λ key. key.0 < keys) → ⊥) → FrameHolds keys frame None
holds_none keys frame message lawful fits is wrong other sound same =
    let one : other ≡ message = (told_apart other message sound.lawful lawful sound.fits fits [] (append-nil (frame_of other) ∙ same ∙ sym is)).0 in
    wrong (subst (λ (m : Message). IsLogged m × IfSome (request_key m) (λ key. key.0 < keys)) one (sound.logged, sound.key))

pub no_frame : (keys : ℕ) (frame : List ℕ) → ¬ IsFrame frame → FrameHolds keys frame None
no_frame keys frame none message sound same = none (message, sound.lawful, sound.fits, same)

two_bytes : (high low : ℕ) → high < 256 → low < 256 → (i : ℕ) → get_or (high ∷ low ∷ []) i 0 < 256
two_bytes high low h l zero = h
two_bytes high low h l (suc zero) = l
two_bytes high low h l (suc (suc i)) = omega arith

module _ (keys : ℕ) (high low : ℕ) (rest : List ℕ) where
  abbrev len : ℕ
  len = from_be_bytes w16 (high ∷ low ∷ [])

  -- a sound record's length is the one that is spelled, and its frame stands behind it
  spelled_size : (bytes : List ℕ) (s : IsSoundRecord keys (high ∷ low ∷ bytes)) → (frame_size s.message ≡ len) × (bytes ≡ frame_of s.message ++ s.rest)
  unfolding big
  spelled_size bytes s =
      let head : high ∷ low ∷ [] ≡ to_be_bytes w16 (frame_size s.message) =
      ap (take 2) s.spelled ∙ ap (take 2) (append_assoc (big w16 (frame_size s.message)) (frame_of s.message) s.rest)
      ∙ take_at (big w16 (frame_size s.message)) (frame_of s.message ++ s.rest) 2 (head_length (frame_size s.message)) in
      let size : from_be_bytes w16 (to_be_bytes w16 (frame_size s.message)) ≡ frame_size s.message =
      wide16.again (frame_size s.message) (omega (arith, frame_small s.message s.sound.logged s.sound.lawful)) in
      (sym size ∙ ap (from_be_bytes w16) (sym head), ap (drop 2) s.spelled ∙ behind_head s.message s.rest)

  pub short_behind : (high < 256) → (low < 256) → length rest ≤ len → IsShort keys (1 ∷ high ∷ low ∷ rest)
  short_behind h l few = record {
    rest = high ∷ low ∷ rest;
    spelled = refl;
    unsound = λ s.
        let is = spelled_size rest s in
        omega (arith, few, is.0, ap length is.1, length-append (frame_of s.message) s.rest, s.some, frame_length s.message s.sound.lawful);
    few = omega (arith, h, l, few);
  }

  pub unsound_behind : len < length rest → FrameHolds keys (take len rest) None → IsUnsound keys (1 ∷ high ∷ low ∷ rest)
  unsound_behind long none = record {
    rest = high ∷ low ∷ rest;
    spelled = refl;
    unsound = λ more s.
        let is = spelled_size (rest ++ more) s in
        let size : length (frame_of s.message) ≡ len = frame_length s.message s.sound.lawful ∙ is.0 in
        none s.message s.sound (
        sym (take_at (frame_of s.message) s.rest len size)
        ∙ ap (take len) (sym is.1)
        ∙ take-append-le len rest more (omega (arith, long))
        );
  }

  pub record_behind : (high < 256) → (low < 256) → len < length rest → (message : Message) (size : ℕ) → FrameHolds keys (take len rest) (Some message) → size ≡ 3 + len
      → IsRecordAt keys (1 ∷ high ∷ low ∷ rest) message size
  unfolding big
  record_behind h l long message size holds takes =
      let spells : frame_size message ≡ len = sym (frame_length message holds.0.lawful) ∙ ap length holds.1 ∙ omega (arith, length-take len rest, long) in
      let head : to_be_bytes w16 (frame_size message) ≡ high ∷ low ∷ [] = be_bytes_2 (high ∷ low ∷ []) (frame_size message) refl (two_bytes high low h l) spells in
      record {
        rest = drop len rest;
        spelled = sym (ap (λ (b : List ℕ). 1 ∷ b) (
            ap (λ (b : List ℕ). b ++ frame_of message ++ drop len rest) head
            ∙ ap (λ (b : List ℕ). (high ∷ low ∷ []) ++ b ++ drop len rest) holds.1
            ∙ ap (λ (b : List ℕ). high ∷ low ∷ b) (take-append-drop len rest)
            ));
        sound = holds.0;
        some = omega (arith, length-drop len rest, long);
        takes = omega (arith, takes, spells, length-append (big w16 (frame_size message)) (frame_of message), head_length (frame_size message), frame_length message holds.0.lawful);
      }
