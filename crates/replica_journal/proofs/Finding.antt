-- What a window says of a gate is so of the disk.
use Rattle.std.proofs.Common.{ℕ, ◌≡◌, ◌+◌, ◌-◌, ◌<◌, ◌≤◌, List, [], ◌∷◌, ◌++◌, length, take, drop, Option, Some, None, sym, ◌∙◌, ap, subst, arith, append_assoc, length-append, take-append-drop}
use Rattle.std.specs.Prelude.{MatchOption, IfSome}
use Rattle.std.proofs.lemmas.List.{length-take, drop-take, drop-append-le, drop-drop, drop_all, append-nil}
use Rattle.replica_journal.specs.declared.record.AtGate.{AtGate}
use Rattle.replica_journal.specs.declared.record.AtGate.TheVariants.{Record, Closed, Damaged}
use Rattle.replica_journal.specs.declared.window.Window.{Window}
use Rattle.replica_journal.specs.Disk.{History, bytes_of}
use Rattle.replica_journal.specs.Records.{IsClosed, body_of}
use Rattle.replica_journal.specs.AtGate.{IsAtGate, IsShort}
use Rattle.replica_journal.specs.Windows.{HasFront, IsWindow, IsInside, IsFound, IsFoundAt, IsSoundFound}

closed_more : (window more : List ℕ) → IsClosed window → IsClosed (window ++ more)
closed_more [] more closed = absurd closed
closed_more (gate ∷ window) more closed = closed

-- whatever bytes follow
with_more : (keys : ℕ) (window more : List ℕ) (found : AtGate) → IsAtGate keys window (Some found) → IsFound keys (window ++ more) found
with_more keys window more (Record message size) at = record {
  rest = at.rest ++ more;
  spelled = ap (λ (l : List ℕ). l ++ more) at.spelled ∙ ap (λ (l : List ℕ). 1 ∷ l) (append_assoc (body_of message) at.rest more);
  sound = at.sound;
  some = omega (arith, at.some, length-append at.rest more);
  takes = at.takes;
}
with_more keys window more Closed at = closed_more window more at
with_more keys window more Damaged at = record {
  rest = at.rest ++ more;
  spelled = ap (λ (l : List ℕ). l ++ more) at.spelled;
  unsound = at.unsound more;
}

-- the bytes of the file from a place in the window on
window_at : (file buf : List ℕ) (at start len : ℕ) → HasFront file at buf len → start ≤ len → len ≤ length buf
    → drop (at + start) file ≡ take (len - start) (drop start buf) ++ drop (at + len) file
window_at file buf at start len front within fits =
    let sum : start + (len - start) ≡ len = omega arith in
    let size : length (take len buf) ≡ len = omega (arith, length-take len buf) in
    let whole : drop at file ≡ take len buf ++ drop (at + len) file =
    sym (take-append-drop len (drop at file))
    ∙ ap (λ (l : List ℕ). l ++ drop len (drop at file)) (sym front.bytes)
    ∙ ap (λ (l : List ℕ). take len buf ++ l) (drop-drop len at file) in
    let piece : drop start (take len buf) ≡ take (len - start) (drop start buf) =
    ap (λ (n : ℕ). drop start (take n buf)) (sym sum) ∙ drop-take start (len - start) buf in
    sym (drop-drop start at file)
    ∙ ap (drop start) whole
    ∙ drop-append-le start (take len buf) (drop (at + len) file) (omega (arith, size))
    ∙ ap (λ (l : List ℕ). l ++ drop (at + len) file) piece

found_in : (keys : ℕ) (file buf : List ℕ) (at start len : ℕ) (found : AtGate) → HasFront file at buf len → start ≤ len → len ≤ length buf
    → IsAtGate keys (take (len - start) (drop start buf)) (Some found) → IsFound keys (drop (at + start) file) found
found_in keys file buf at start len found front within fits is =
    subst (λ (l : List ℕ). IsFound keys l found) (sym (window_at file buf at start len front within fits))
    (with_more keys (take (len - start) (drop start buf)) (drop (at + len) file) found is)

-- too few bytes in a window that begins at the gate are all that there are
short_in : (keys : ℕ) (file buf : List ℕ) (at len : ℕ) → HasFront file at buf len → len ≤ length buf → 65538 < length buf
    → IsShort keys (take (len - 0) (drop 0 buf)) → IsFound keys (drop (at + 0) file) Damaged
short_in keys file buf at len front fits long short =
    let few : len ≤ 65538 = omega (arith, short.few, length-take (len - 0) (drop 0 buf)) in
    let last : length file ≤ at + len = front.rest (omega arith) in
    let none : drop (at + len) file ≡ [] = drop_all (at + len) file last in
    let whole : drop (at + 0) file ≡ take (len - 0) (drop 0 buf) =
    window_at file buf at 0 len front (omega arith) fits ∙ ap (λ (l : List ℕ). take (len - 0) (drop 0 buf) ++ l) none ∙ append-nil (take (len - 0) (drop 0 buf)) in
    record {
      rest = short.rest;
      spelled = whole ∙ short.spelled;
      unsound = short.unsound;
    }

-- what the window's bytes say of a gate, for who looks there
abbrev pub Says : Option History → ℕ → Window → ℕ → Option AtGate → Type 0
Says told keys window gate found = MatchOption found (window.at ≡ gate → IsInside told gate → IsFoundAt told keys gate Damaged) (λ at. IsFoundAt told keys gate at)

-- a window that ends before the gate says nothing, but where it begins there
pub nothing_here : (told : Option History) (keys : ℕ) (window : Window) (gate : ℕ) → IsWindow told window → window.at ≤ gate → window.len ≤ gate - window.at → Says told keys window gate None
nothing_here None keys window gate is from past = λ same inside. tt
nothing_here (Some history) keys window gate is from past = λ same inside.
    absurd (omega (arith, is.size, same, inside, is.front.rest (omega (arith, is.size, same, past))))

pub looked : (told : Option History) (keys : ℕ) (window : Window) (gate start : ℕ) (found : Option AtGate) → IsWindow told window → gate ≡ window.at + start → start < window.len
    → IsAtGate keys (take (window.len - start) (drop start window.bytes.items)) found → Says told keys window gate found
looked None keys window gate start None is here within at = λ same inside. tt
looked None keys window gate start (Some found) is here within at = tt
looked (Some history) keys window gate start (Some found) is here within at =
    subst (λ (p : ℕ). IsFound keys (drop p (bytes_of history)) found) (sym here)
    (found_in keys (bytes_of history) window.bytes.items window.at start window.len found is.front (omega arith) (omega (arith, is.size, is.within)) at)
looked (Some history) keys window gate start None is here within at = λ same inside.
    let first : start ≡ 0 = omega (arith, here, same) in
    subst (λ (p : ℕ). IsFound keys (drop p (bytes_of history)) Damaged) (ap (λ (n : ℕ). window.at + n) (sym first) ∙ sym here)
    (short_in keys (bytes_of history) window.bytes.items window.at window.len is.front (omega (arith, is.size, is.within)) (omega (arith, is.size))
    (subst (λ (n : ℕ). IsShort keys (take (window.len - n) (drop n window.bytes.items))) first at))

-- a record that the window has is sound, and takes some bytes
pub sound_found : (keys : ℕ) (window : List ℕ) (found : Option AtGate) → IsAtGate keys window found → IfSome found (λ at. IsSoundFound keys at)
sound_found keys window None at = tt
sound_found keys window (Some (Record message size)) at = (at.sound, omega (arith, at.takes))
sound_found keys window (Some Closed) at = tt
sound_found keys window (Some Damaged) at = tt
