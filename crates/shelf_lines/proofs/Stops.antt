-- Line feeds among the bytes read, and lines that pass a limit.
use Rattle.std.proofs.Common.{◌≡◌, ◌≢◌, ℕ, ◌+◌, ◌-◌, ◌<◌, ◌≤◌, min, List, [], ◌∷◌, ◌++◌, length, take, drop, refl, sym, ◌∙◌, ap, subst, arith, append_assoc, get_or, take_all, take-take, le_refl, eq-eqb, length-drop}
use Rattle.std.proofs.lemmas.Bool.{eqb-true}
use Rattle.std.proofs.lemmas.List.{length-take, get_or-take, get_or-drop, get_or_default, take_more}
use Rattle.std.proofs.lemmas.List.Elements.{All-append, All-take}
use Rattle.std.proofs.Math.Seq.{take-add}
use Rattle.std.specs.Prelude.{Option, Some, None, Err, slice_index, true}
use Rattle.span_base.specs.Files.{Files}
use Rattle.memchr.specs.Find.{IsFirstByte, is_byte}
use Rattle.shelf_lines.specs.declared.limits.LinesFault.{LinesFault}
use Rattle.shelf_lines.specs.declared.limits.LinesFault.TheVariants.{Absent, ReadFault, LineTooLong, FileTooLarge, NoMemory}
use Rattle.shelf_lines.specs.Lines.{IsLine, fed, Begins, StopsAt, IsAbsent}
use Rattle.shelf_lines.specs.Finds.{IsShelfFault, IsFedAt}
use Rattle.shelf_lines.specs.Limits.{Allows}
use Rattle.shelf_lines.proofs.Bytes.{Begins-take}

-- a fault of the shelf stops the reader anywhere
pub StopsAt-shelf : (files now : Option Files) (name front : List ℕ) (line_limit file_limit : ℕ) (fault : LinesFault) → now ≡ files
    → IsShelfFault now name fault → StopsAt files name front line_limit file_limit fault
StopsAt-shelf files now name front line_limit file_limit Absent same fails = subst (λ (f : Option Files). IsAbsent f name) same fails
StopsAt-shelf files now name front line_limit file_limit ReadFault same fails = tt
StopsAt-shelf files now name front line_limit file_limit LineTooLong same fails = absurd fails
StopsAt-shelf files now name front line_limit file_limit FileTooLarge same fails = absurd fails
StopsAt-shelf files now name front line_limit file_limit NoMemory same fails = tt

-- the front of a line has no line feed either
pub IsLine-front : (text : List ℕ) (m n : ℕ) → m ≤ n → IsLine (take n text) → IsLine (take m text)
IsLine-front text m n le line =
    let same : take m (take n text) ≡ take m text = take-take m n text le in
    subst IsLine same (All-take (λ byte. byte ≢ 10) m (take n text) line)

-- no byte of these passes the test, up to a place
IsLine-below : (hay : List ℕ) (n : ℕ) → n ≤ length hay → ((k : ℕ) → 0 ≤ k → k < n → ¬ (is_byte 10 (slice_index hay k) ≡ true)) → IsLine (take n hay)
IsLine-below hay n le none k d lt =
    let len : length (take n hay) ≡ min n (length hay) = length-take n hay in
    let low : k < n = omega arith in
    let here : get_or (take n hay) k d ≡ get_or hay k 0 = get_or-take n hay k d low ∙ get_or_default hay k d 0 (omega arith) in
    (λ is. none k (omega arith) low (eq-eqb (get_or hay k 0) 10 (sym here ∙ is)))

-- what is searched now, and the bytes searched before
IsLine-more : (bytes : List ℕ) (searched n : ℕ) → IsLine (take searched bytes) → IsLine (take n (drop searched bytes)) → IsLine (take (searched + n) bytes)
IsLine-more bytes searched n before now =
    subst IsLine (sym (take-add searched n bytes)) (All-append (λ byte. byte ≢ 10) (take searched bytes) (take n (drop searched bytes)) before now)

-- where a search finds no line feed, the bytes are a line
pub IsLine-unfound : (bytes hay : List ℕ) (searched : ℕ) → hay ≡ drop searched bytes → IsLine (take searched bytes)
    → IsFirstByte (is_byte 10) hay None → IsLine bytes
IsLine-unfound bytes hay searched is before none =
    let now : IsLine (take (length hay) hay) = IsLine-below hay (length hay) (le_refl (length hay)) none in
    let whole : take (searched + length hay) bytes ≡ bytes = take_all _ _ (omega (arith, ap length is, length-drop searched bytes)) in
    subst IsLine whole (IsLine-more bytes searched (length hay) before (subst (λ (t : List ℕ). IsLine (take (length hay) t)) is now))

-- where it finds one, the bytes before it are a line
pub IsLine-found : (bytes hay : List ℕ) (searched at : ℕ) → hay ≡ drop searched bytes → IsLine (take searched bytes)
    → IsFirstByte (is_byte 10) hay (Some at) → IsLine (take (searched + at) bytes)
IsLine-found bytes hay searched at is before found =
    let now : IsLine (take at hay) = IsLine-below hay at (omega (arith, found.0.high)) found.0.before in
    IsLine-more bytes searched at before (subst (λ (t : List ℕ). IsLine (take at t)) is now)

pub fed-found : (bytes hay : List ℕ) (searched at : ℕ) → searched ≤ length bytes → hay ≡ drop searched bytes
    → IsFirstByte (is_byte 10) hay (Some at) → (searched + at + 1 ≤ length bytes) × (take (searched + at + 1) bytes ≡ fed (take (searched + at) bytes))
fed-found bytes hay searched at within is found =
    let high : at < length hay = found.0.high in
    let there : searched + at < length bytes = omega (arith, ap length is, length-drop searched bytes) in
    let feed : get_or bytes (searched + at) 0 ≡ 10 =
    sym (get_or-drop searched bytes at 0) ∙ ap (λ (t : List ℕ). get_or t at 0) (sym is) ∙ eqb-true (get_or hay at 0) 10 found.1 in
    (omega arith, take_more bytes (searched + at) 0 there ∙ ap (λ (b : ℕ). take (searched + at) bytes ++ b ∷ []) feed)

-- what is searched, as the code slices it
searched_is : (window bytes : List ℕ) (searched : ℕ) → bytes ≡ window → take (length bytes - searched) (drop searched bytes) ≡ drop searched window
searched_is window bytes searched is =
    take_all _ _ (omega (arith, length-drop searched bytes)) ∙ ap (drop searched) is

-- what a search finds behind what was searched before
pub record FeedsAt (window : List ℕ) (len : ℕ) : Type 0 where
  pub line : IsLine (take len window)
  pub there : len + 1 ≤ length window
  pub feed : take (len + 1) window ≡ fed (take len window)

pub found_in : (window bytes : List ℕ) (searched at : ℕ) → bytes ≡ window → searched ≤ length window → IsLine (take searched window)
    → IsFirstByte (is_byte 10) (take (length bytes - searched) (drop searched bytes)) (Some at) → FeedsAt window (searched + at)
found_in window bytes searched at is within before found =
    let hay = take (length bytes - searched) (drop searched bytes) in
    let same = searched_is window bytes searched is in
    let feed = fed-found window hay searched at within same found in
    record { line = IsLine-found window hay searched at same before found; there = feed.0; feed = feed.1 }

pub unfound_in : (window bytes : List ℕ) (searched : ℕ) (r : Option ℕ) → bytes ≡ window → IsLine (take searched window)
    → IsFirstByte (is_byte 10) (take (length bytes - searched) (drop searched bytes)) r → ((at : ℕ) → ¬ (r ≡ Some at)) → IsLine window
unfound_in window bytes searched None is before none not_some =
    IsLine-unfound window (take (length bytes - searched) (drop searched bytes)) searched (searched_is window bytes searched is) before none
unfound_in window bytes searched (Some at) is before none not_some = absurd (not_some at refl)

-- a line that passes a limit is told so
pub StopsAt-limit : (files : Option Files) (name front bytes : List ℕ) (line_limit file_limit room len end : ℕ) (fault : LinesFault)
    → room + length front ≡ file_limit → len ≤ end → end ≤ length bytes → IsLine (take len bytes) → Begins files name (front ++ bytes)
    → Allows line_limit room len end (Err fault) → StopsAt files name front line_limit file_limit fault
StopsAt-limit files name front bytes line_limit file_limit room len end Absent fits le there line begins allows = absurd allows
StopsAt-limit files name front bytes line_limit file_limit room len end ReadFault fits le there line begins allows = absurd allows
StopsAt-limit files name front bytes line_limit file_limit room len end NoMemory fits le there line begins allows = absurd allows
StopsAt-limit files name front bytes line_limit file_limit room len end LineTooLong fits le there line begins allows =
    let size : length (take (line_limit + 1) bytes) ≡ min (line_limit + 1) (length bytes) = length-take (line_limit + 1) bytes in
    record {
      front = take (line_limit + 1) bytes;
      line = IsLine-front bytes (line_limit + 1) len (omega (arith, allows)) line;
      long = omega (arith, allows);
      within = omega (arith, allows);
      there = Begins-take files name front bytes (line_limit + 1) begins;
    }
StopsAt-limit files name front bytes line_limit file_limit room len end FileTooLarge fits le there line begins allows =
    let size : length (take room bytes) ≡ min room (length bytes) = length-take room bytes in
    let past : room < length bytes = omega (arith, allows) in
    let one_more : take (room + 1) bytes ≡ take room bytes ++ get_or bytes room 0 ∷ [] = take_more bytes room 0 past in
    record {
      front = take room bytes;
      past = get_or bytes room 0;
      line = IsLine-front bytes room len (omega (arith, allows)) line;
      short = omega (arith, allows);
      full = omega (arith, allows);
      there = subst (Begins files name)
          (ap (λ (t : List ℕ). front ++ t) one_more ∙ sym (append_assoc front (take room bytes) (get_or bytes room 0 ∷ [])))
          (Begins-take files name front bytes (room + 1) begins);
    }
