-- What a piece that is put into bytes leaves.
use Rattle.std.proofs.Common.{ℕ, ◌≡◌, ◌+◌, ◌-◌, ◌<◌, ◌≤◌, max, List, [], ◌∷◌, ◌++◌, length, take, drop, get_or, refl, sym, ◌∙◌, ap, arith, append_assoc, length-append, length-drop, take-append-drop}
use Rattle.std.proofs.lemmas.List.{length-take, length_push, take_at, drop_at, drop-drop, drop_more}
use Rattle.replica_journal.specs.Disk.{History, Wrote, Synced, put, bytes_of, Torn, IsImage, IsLawfulHistory}

pub put_length : (bytes : List ℕ) (at : ℕ) (piece : List ℕ) → at ≤ length bytes → length (put bytes at piece) ≡ max (length bytes) (at + length piece)
put_length bytes at piece within =
    omega (
      arith,
      length-append (take at bytes ++ piece) (drop (at + length piece) bytes),
      length-append (take at bytes) piece,
      length-take at bytes,
      length-drop (at + length piece) bytes,
    )

-- a piece that was put into bytes might have been cut short just so
torn_put : (bytes : List ℕ) (at size : ℕ) (landed : List ℕ) → at ≤ length bytes → length landed ≤ size → Torn at size bytes (put bytes at landed)
torn_put bytes at size landed within fits =
    let whole : put bytes at landed ≡ take at bytes ++ (landed ++ drop (at + length landed) bytes) = append_assoc (take at bytes) landed (drop (at + length landed) bytes) in
    let front : length (take at bytes) ≡ at = omega (arith, length-take at bytes) in
    let back : drop at (put bytes at landed) ≡ landed ++ drop (at + length landed) bytes = ap (drop at) whole ∙ drop_at (take at bytes) (landed ++ drop (at + length landed) bytes) at front in
    let over : length landed + (size - length landed) ≡ size = omega arith in
    record {
      before = ap (take at) whole ∙ take_at (take at bytes) (landed ++ drop (at + length landed) bytes) at front;
      after =
          sym (drop-drop size at (put bytes at landed))
          ∙ ap (drop size) back
          ∙ ap (λ (n : ℕ). drop n (landed ++ drop (at + length landed) bytes)) (sym over)
          ∙ sym (drop-drop (size - length landed) (length landed) (landed ++ drop (at + length landed) bytes))
          ∙ ap (drop (size - length landed)) (drop_at landed (drop (at + length landed) bytes) (length landed) refl)
          ∙ drop-drop (size - length landed) (at + length landed) bytes
          ∙ ap (λ (n : ℕ). drop n bytes) (omega arith);
      no_shorter = omega (arith, put_length bytes at landed within);
      no_longer = omega (arith, put_length bytes at landed within);
    }

-- a crash may leave the disk as it reads
pub reading_is_image : (history : History) → IsLawfulHistory history → IsImage history (bytes_of history)
reading_is_image [] lawful = refl
reading_is_image (Wrote at size landed ∷ history) lawful =
    (bytes_of history, reading_is_image history lawful.2, torn_put (bytes_of history) at size landed lawful.0 lawful.1)
reading_is_image (Synced ∷ history) lawful = refl

module _ (front : List ℕ) (gate : ℕ) (rest : List ℕ) where
  split : front ++ gate ∷ rest ≡ (front ++ gate ∷ []) ++ rest
  split = sym (append_assoc front (gate ∷ []) rest)

  upto : take (length front + 1) (front ++ gate ∷ rest) ≡ front ++ gate ∷ []
  upto = ap (take (length front + 1)) split ∙ take_at (front ++ gate ∷ []) rest (length front + 1) (length_push front gate)

  behind : drop (length front + 1) (front ++ gate ∷ rest) ≡ rest
  behind = ap (drop (length front + 1)) split ∙ drop_at (front ++ gate ∷ []) rest (length front + 1) (length_push front gate)

  before : take (length front) (front ++ gate ∷ rest) ≡ front
  before = take_at front (gate ∷ rest) (length front) refl

  -- a write behind the gate that a crash cuts short leaves the gate and what stands before it
  pub torn_behind : (size : ℕ) (image : List ℕ) → Torn (length front + 1) size (front ++ gate ∷ rest) image
      → image ≡ front ++ gate ∷ drop (length front + 1) image
  torn_behind size image torn =
      sym (take-append-drop (length front + 1) image)
      ∙ ap (λ (l : List ℕ). l ++ drop (length front + 1) image) (torn.before ∙ upto)
      ∙ append_assoc front (gate ∷ []) (drop (length front + 1) image)

  pub put_behind : (piece : List ℕ) → put (front ++ gate ∷ rest) (length front + 1) piece ≡ front ++ gate ∷ (piece ++ drop (length piece) rest)
  put_behind piece =
      let after : drop (length front + 1 + length piece) (front ++ gate ∷ rest) ≡ drop (length piece) rest =
      sym (drop-drop (length piece) (length front + 1) (front ++ gate ∷ rest)) ∙ ap (drop (length piece)) behind in
      ap (λ (l : List ℕ). l ++ piece ++ drop (length front + 1 + length piece) (front ++ gate ∷ rest)) upto
      ∙ ap (λ (l : List ℕ). (front ++ gate ∷ []) ++ piece ++ l) after
      ∙ append_assoc (front ++ gate ∷ []) piece (drop (length piece) rest)
      ∙ append_assoc front (gate ∷ []) (piece ++ drop (length piece) rest)

  -- a write of the gate that a crash cuts short leaves any gate, and what stands before it and behind it
  pub torn_gate : (image : List ℕ) → Torn (length front) 1 (front ++ gate ∷ rest) image
      → image ≡ front ++ get_or image (length front) 0 ∷ rest
  torn_gate image torn =
      let long : length front < length image = omega (arith, torn.no_shorter, length-append front (gate ∷ rest)) in
      let back : drop (length front) image ≡ get_or image (length front) 0 ∷ rest =
      drop_more image (length front) 0 long ∙ ap (λ (l : List ℕ). get_or image (length front) 0 ∷ l) (torn.after ∙ behind) in
      sym (take-append-drop (length front) image)
      ∙ ap (λ (l : List ℕ). l ++ drop (length front) image) (torn.before ∙ before)
      ∙ ap (λ (l : List ℕ). front ++ l) back

  pub put_gate : (opened : ℕ) → put (front ++ gate ∷ rest) (length front) (opened ∷ []) ≡ front ++ opened ∷ rest
  put_gate opened =
      ap (λ (l : List ℕ). l ++ (opened ∷ []) ++ drop (length front + 1) (front ++ gate ∷ rest)) before
      ∙ ap (λ (l : List ℕ). front ++ (opened ∷ []) ++ l) behind
      ∙ append_assoc front (opened ∷ []) rest
