-- What is read is spelled so, and what is spelled so is read: for numbers, and for one after the other.
use Rattle.std.proofs.Common.{◌≡◌, ℕ, zero, suc, ◌+◌, ◌%◌, ◌^◌, ◌<◌, ◌≤◌, Bool, true, false, cond, ltb, ◌&&◌, nat_le, List, [], ◌∷◌, ◌++◌, length, get_or, take, drop, Result, Ok, Err, refl, sym, ap, ◌∙◌, append_assoc, arith, inl, inr}
use Rattle.std.specs.Int.{Width, w8, w16, w32, w64, byte_len, from_be_bytes, to_be_bytes}
use Rattle.std.specs.List.{flat_map, AllByRecursion}
use Rattle.std.proofs.lemmas.Bool.{cases_lt, ltb-false, le-ltb}
use Rattle.std.proofs.lemmas.Bool.Decides.{nat_tests}
use Rattle.std.proofs.lemmas.List.{take_at, drop_at, take-append-drop, length-append, length-take, length-drop, get_or-drop, get_or-take, get_or_past}
use Rattle.std.proofs.lemmas.Nat.{be_bytes_2, be_bytes_4, be_bytes_8, from_be_bytes-to_be_bytes_2, from_be_bytes-to_be_bytes_4, from_be_bytes-to_be_bytes_8}
use Rattle.wire_msg.specs.Frames.{big}
use Rattle.wire_msg.specs.Faults.{Reading, ◌>>=◌, number_at, many_at}

abbrev pub IsBytes : List ℕ → Type 0
IsBytes bytes = (i : ℕ) → get_or bytes i 0 < 256

-- bytes of a frame of so many
pub record Good (size : ℕ) (bytes : List ℕ) : Type 0 where
  pub fits : IsBytes bytes
  pub within : length bytes ≤ size

pub Good-drop : (size n : ℕ) (bytes : List ℕ) → Good size bytes → Good size (drop n bytes)
Good-drop size n bytes good = record { fits = λ i. rw get_or-drop (good.fits (n + i)); within = omega (arith, good.within, length-drop n bytes) }

IsBytes-take : (n : ℕ) (bytes : List ℕ) → IsBytes bytes → IsBytes (take n bytes)
IsBytes-take n bytes h i =
    elim (cases_lt i n) [
      | inl lt ↦ rw (get_or-take n bytes i 0 lt) (h i)
      | inr le ↦ rw (get_or_past (take n bytes) i 0 (omega (arith, length-take n bytes))) (omega arith)
    ]

-- the text stands in front of the rest
pub record Takes (size : ℕ) (bytes text rest : List ℕ) : Type 0 where
  pub parts : bytes ≡ text ++ rest
  pub good : Good size rest

pub Takes-none : (size : ℕ) (bytes : List ℕ) → Good size bytes → Takes size bytes [] bytes
Takes-none size bytes good = record { parts = refl; good = good }

pub Takes-then : {size : ℕ} {a x b y c : List ℕ} → Takes size a x b → Takes size b y c → Takes size a (x ++ y) c
Takes-then {size} {a} {x} {b} {y} {c} p q = record { parts = p.parts ∙ ap (λ (t : List ℕ). x ++ t) q.parts ∙ sym (append_assoc x y c); good = q.good }

abbrev pub HoldsBy : {X : Type 0} → ℕ → (X → List ℕ → Type 0) → Reading X → Type 0
HoldsBy size P (Ok x) = P x.0 x.1
HoldsBy size P (Err left) = left ≤ size

-- what is read is so, and a fault lies within the frame
pub record Holds {X : Type 0} (size : ℕ) (P : X → List ℕ → Type 0) (r : Reading X) : Type 0 where
  pub by : HoldsBy size P r

pub Holds-ok : {X : Type 0} {size : ℕ} (P : X → List ℕ → Type 0) (x : X) (rest : List ℕ) → P x rest → Holds size P (Ok (x, rest))
Holds-ok P x rest h = record { by = h }

pub Holds-err : {X : Type 0} {size : ℕ} (P : X → List ℕ → Type 0) (left : ℕ) → left ≤ size → Holds size P (Err left)
Holds-err P left h = record { by = h }

bind : {X Y : Type 0} (size : ℕ) (P : X → List ℕ → Type 0) (Q : Y → List ℕ → Type 0) (r : Reading X) (f : X × List ℕ → Reading Y) → HoldsBy size P r → ((x : X) (rest : List ℕ) → P x rest → Holds size Q (f (x, rest))) → HoldsBy size Q (r >>= f)
bind size P Q (Ok x) f h more = (more x.0 x.1 h).by
bind size P Q (Err left) f h more = h

pub Holds-bind : {X Y : Type 0} {size : ℕ} {P : X → List ℕ → Type 0} {r : Reading X} (Q : Y → List ℕ → Type 0) (f : X × List ℕ → Reading Y) → Holds size P r → ((x : X) (rest : List ℕ) → P x rest → Holds size Q (f (x, rest))) → Holds size Q (r >>= f)
Holds-bind {X} {Y} {size} {P} {r} Q f h more = record { by = bind size P Q r f h.by more }

-- ---- numbers

pub record IsWide (w : Width) (limit : ℕ) : Type 0 where
  pub len : (n : ℕ) → length (to_be_bytes w n) ≡ byte_len w
  pub back : (bytes : List ℕ) → length bytes ≡ byte_len w → IsBytes bytes → to_be_bytes w (from_be_bytes w bytes) ≡ bytes
  pub again : (n : ℕ) → n < limit → from_be_bytes w (to_be_bytes w n) ≡ n
  pub below : (bytes : List ℕ) → IsBytes bytes → from_be_bytes w bytes < limit

one_byte : (bytes : List ℕ) → length bytes ≡ 1 → IsBytes bytes → (get_or bytes 0 0 % 256) ∷ [] ≡ bytes
one_byte [] len fits = absurd (omega arith)
one_byte (b ∷ []) len fits = let low : b < 256 = fits 0 in let same : b % 256 ≡ b = omega arith in ap (λ x. x ∷ []) same
one_byte (b ∷ c ∷ bs) len fits = absurd (omega arith)

pub wide8 : IsWide w8 (2 ^ 8)
wide8 = record {
  len = λ n. refl;
  back = λ bytes len fits. one_byte bytes len fits;
  again = λ n lt. omega arith;
  below = λ bytes fits. omega (arith, fits 0);
}

pub wide16 : IsWide w16 (2 ^ 16)
wide16 = record {
  len = λ n. refl;
  back = λ bytes len fits. be_bytes_2 bytes _ len fits refl;
  again = λ n lt. from_be_bytes-to_be_bytes_2 n lt;
  below = λ bytes fits. omega (arith, fits 0, fits 1);
}

pub wide32 : IsWide w32 (2 ^ 32)
wide32 = record {
  len = λ n. refl;
  back = λ bytes len fits. be_bytes_4 bytes _ len fits refl;
  again = λ n lt. from_be_bytes-to_be_bytes_4 n lt;
  below = λ bytes fits. omega (arith, fits 0, fits 1, fits 2, fits 3);
}

pub wide64 : IsWide w64 (2 ^ 64)
wide64 = record {
  len = λ n. refl;
  back = λ bytes len fits. be_bytes_8 bytes _ len fits refl;
  again = λ n lt. from_be_bytes-to_be_bytes_8 n lt;
  below = λ bytes fits. omega (arith, fits 0, fits 1, fits 2, fits 3, fits 4, fits 5, fits 6, fits 7);
}

-- a number that was read, and its bytes
pub record TakesNumber (size : ℕ) (w : Width) (limit low high : ℕ) (bytes : List ℕ) (n : ℕ) (rest : List ℕ) : Type 0 where
  pub takes : Takes size bytes (big w n) rest
  pub least : low ≤ n
  pub most : n ≤ high
  pub fits : n < limit

in_range : (a b n : ℕ) → (nat_le a n && nat_le n b) ≡ true → (a ≤ n) × (n ≤ b)
in_range a b n h = grind (arith, nat_tests)

is_in_range : (a b n : ℕ) → a ≤ n → n ≤ b → (nat_le a n && nat_le n b) ≡ true
is_in_range a b n h k = grind (arith, nat_tests)

pub number_takes : {size : ℕ} {bytes : List ℕ} {w : Width} {limit : ℕ} (wide : IsWide w limit) (least most : ℕ) → Good size bytes → Holds size (TakesNumber size w limit least most bytes) (number_at w least most bytes)
unfolding number_at big
number_takes {size} {bytes} {w} {limit} wide least most good =
    go (ltb (length bytes) (byte_len w)) (nat_le least number && nat_le number most) refl refl
  where
    number : ℕ
    number = from_be_bytes w (take (byte_len w) bytes)

    taken : byte_len w ≤ length bytes → to_be_bytes w number ≡ take (byte_len w) bytes
    taken long = wide.back (take (byte_len w) bytes) (omega (arith, length-take (byte_len w) bytes)) (IsBytes-take (byte_len w) bytes good.fits)

    go : (short right : Bool) → ltb (length bytes) (byte_len w) ≡ short → (nat_le least number && nat_le number most) ≡ right → Holds size (TakesNumber size w limit least most bytes) (cond short (Err 0) (cond right (Ok (number, drop (byte_len w) bytes)) (Err (length bytes))))
    go true right s r = Holds-err (TakesNumber size w limit least most bytes) 0 (omega arith)
    go false false s r = Holds-err (TakesNumber size w limit least most bytes) (length bytes) good.within
    go false true s r =
        let range = in_range least most number r in
        Holds-ok (TakesNumber size w limit least most bytes) number (drop (byte_len w) bytes) (record {
          takes = record { parts = rw (taken (ltb-false _ _ s)) (sym (take-append-drop (byte_len w) bytes)); good = Good-drop size (byte_len w) bytes good };
          least = range.0;
          most = range.1;
          fits = wide.below (take (byte_len w) bytes) (IsBytes-take (byte_len w) bytes good.fits);
        })

pub number_again : {w : Width} {limit : ℕ} (wide : IsWide w limit) (least most n : ℕ) (rest : List ℕ) → least ≤ n → n ≤ most → n < limit → number_at w least most (big w n ++ rest) ≡ Ok (n, rest)
unfolding number_at big
number_again {w} {limit} wide least most n rest low high lt =
    let len = wide.len n in
    let long : ltb (length (to_be_bytes w n ++ rest)) (byte_len w) ≡ false = le-ltb _ _ (omega (arith, length-append (to_be_bytes w n) rest)) in
    rw (long, take_at (to_be_bytes w n) rest (byte_len w) len, drop_at (to_be_bytes w n) rest (byte_len w) len, wide.again n lt, is_in_range least most n low high) refl

-- the next is read from the bytes that are left
pub then_read : {X Y : Type 0} {r : Reading X} {x : X} {rest : List ℕ} {y : Result Y ℕ} (f : X × List ℕ → Result Y ℕ) → r ≡ Ok (x, rest) → f (x, rest) ≡ y → (r >>= f) ≡ y
then_read {X} {Y} {r} {x} {rest} {y} f read next = ap (λ (s : Reading X). s >>= f) read ∙ next

-- ---- many

pub many_takes : {X : Type 0} {size : ℕ} (one_at : List ℕ → Reading X) (spell : X → List ℕ) (Q : X → Type 0)
    → ((bytes : List ℕ) → Good size bytes → Holds size (λ x rest. Takes size bytes (spell x) rest × Q x) (one_at bytes))
    → (count : ℕ) (bytes : List ℕ) → Good size bytes → Holds size (λ xs rest. Takes size bytes (flat_map spell xs) rest × AllByRecursion Q xs × (length xs ≡ count)) (many_at one_at count bytes)
unfolding many_at
many_takes {X} {size} one_at spell Q one zero bytes good = Holds-ok (λ xs rest. Takes size bytes (flat_map spell xs) rest × AllByRecursion Q xs × (length xs ≡ 0)) [] bytes (Takes-none size bytes good, tt, refl)
many_takes {X} {size} one_at spell Q one (suc count) bytes good =
    let P : List X → List ℕ → Type 0 = λ xs rest. Takes size bytes (flat_map spell xs) rest × AllByRecursion Q xs × (length xs ≡ suc count) in
    Holds-bind P _ (one bytes good) (λ x b1 h.
    Holds-bind P _ (many_takes one_at spell Q one count b1 h.0.good) (λ xs b2 k.
    Holds-ok P (x ∷ xs) b2 (Takes-then h.0 k.0, (h.1, k.1), ap suc k.2)))

pub many_again : {X : Type 0} (one_at : List ℕ → Reading X) (spell : X → List ℕ) (xs : List X) (rest : List ℕ) → AllByRecursion (λ x. (after : List ℕ) → one_at (spell x ++ after) ≡ Ok (x, after)) xs → many_at one_at (length xs) (flat_map spell xs ++ rest) ≡ Ok (xs, rest)
unfolding many_at
many_again one_at spell [] rest each = refl
many_again one_at spell (x ∷ xs) rest each =
    let regrouped : flat_map spell (x ∷ xs) ++ rest ≡ spell x ++ (flat_map spell xs ++ rest) = append_assoc (spell x) (flat_map spell xs) rest in
    ap (many_at one_at (suc (length xs))) regrouped
    ∙ then_read _ (each.0 (flat_map spell xs ++ rest)) (then_read _ (many_again one_at spell xs rest each.1) refl)
