-- What a length in two bytes and the bytes behind it are.
use Rattle.std.proofs.Common.{ℕ, zero, suc, ◌+◌, ◌≡◌, ◌<◌, ◌≤◌, ◌⊎◌, List, [], ◌∷◌, ◌++◌, length, take, drop, get_or, refl, sym, ◌∙◌, ap, arith, append_assoc, length-append, length-take, take-append-drop}
use Rattle.std.proofs.lemmas.Nat.{be_bytes_2}
use Rattle.std.specs.Int.{w16, from_be_bytes}
use Rattle.wire_msg.specs.declared.message.Message.{Message}
use Rattle.wire_msg.specs.Frames.{big, frame_of}
use Rattle.wire_msg.specs.Sizes.{frame_size}
use Rattle.wire_msg.proofs.SizeLaws.{frame_length}
use Rattle.replica_journal.proofs.Rows.{head_length}
use Rattle.span_service.specs.Requests.{IsRequest, IsBadFrame, IsBadLength, IsBadBehind, IsCut}
use Rattle.span_service.specs.Fronts.{IsRequestAt}

two_bytes : (high low : ℕ) → high < 256 → low < 256 → (i : ℕ) → get_or (high ∷ low ∷ []) i 0 < 256
two_bytes high low h l zero = h
two_bytes high low h l (suc zero) = l
two_bytes high low h l (suc (suc i)) = omega arith

module _ (high low : ℕ) (rest : List ℕ) (len : ℕ) (h : high < 256) (l : low < 256) (is : len ≡ from_be_bytes w16 (high ∷ low ∷ [])) where
  head : big w16 len ≡ high ∷ low ∷ []
  unfolding big
  head = be_bytes_2 (high ∷ low ∷ []) len refl (two_bytes high low h l) is

  spelled : high ∷ low ∷ rest ≡ big w16 len ++ rest
  spelled = sym (ap (λ (b : List ℕ). b ++ rest) head)

  pub bad_length : len < 65536 → (len ≡ 0) ⊎ (8192 < len) → IsBadLength (high ∷ low ∷ rest) 0
  bad_length short wrong = record { size = len; rest = rest; spelled = spelled; short = short; wrong = wrong; place = refl }

  pub cut : 1 ≤ len → len ≤ 8192 → length rest < len → IsCut (high ∷ low ∷ rest)
  cut some short part = record { size = len; front = rest; spelled = spelled; some = some; short = short; part = part }

  whole : len ≤ length rest → length (take len rest) ≡ len
  whole fits = omega (arith, length-take len rest, fits)

  behind : high ∷ low ∷ rest ≡ big w16 len ++ (take len rest ++ drop len rest)
  behind = spelled ∙ ap (λ (b : List ℕ). big w16 len ++ b) (sym (take-append-drop len rest))

  pub bad_behind : (keys at : ℕ) → 1 ≤ len → len ≤ 8192 → len ≤ length rest → IsBadFrame keys (take len rest) at → IsBadBehind keys (high ∷ low ∷ rest) at
  bad_behind keys at some short fits bad = record {
    frame = take len rest;
    rest = drop len rest;
    spelled = behind ∙ ap (λ (n : ℕ). big w16 n ++ (take len rest ++ drop len rest)) (sym (whole fits));
    some = omega (arith, some, whole fits);
    short = omega (arith, short, whole fits);
    bad = bad;
  }

  pub request_at : (keys : ℕ) (message : Message) (size : ℕ) → len ≤ length rest → IsRequest keys message → frame_of message ≡ take len rest → size ≡ 2 + len → IsRequestAt keys (high ∷ low ∷ rest) message size
  request_at keys message size fits sound frame takes =
      let spells : frame_size message ≡ len = sym (frame_length message sound.lawful) ∙ ap length frame ∙ whole fits in
      record {
        rest = drop len rest;
        spelled = behind
            ∙ ap (λ (n : ℕ). big w16 n ++ (take len rest ++ drop len rest)) (sym spells)
            ∙ ap (λ (b : List ℕ). big w16 (frame_size message) ++ (b ++ drop len rest)) (sym frame)
            ∙ sym (append_assoc (big w16 (frame_size message)) (frame_of message) (drop len rest));
        sound = sound;
        takes = omega (arith, takes, spells, length-append (big w16 (frame_size message)) (frame_of message), head_length (frame_size message), frame_length message sound.lawful);
      }
