-- Where a text leaves a grammar that is put together from parts.
use Rattle.std.proofs.Common.{◌≡◌, ℕ, zero, suc, ◌+◌, ◌<◌, ◌≤◌, ◌⊎◌, inl, inr, Bool, true, false, if◌then◌else◌, ◌==◌, List, [], ◌∷◌, ◌++◌, length, take, drop, cond, ◌&&◌, Ok, Err, refl, ap, subst, ◌∙◌, arith}
use Rattle.std.specs.Prelude.{Result}
use Rattle.std.specs.List.{list_all, prefix_len}
use Rattle.std.proofs.lemmas.List.Sums.{prefix_len-le-length}
use Rattle.std.proofs.lemmas.Bool.{eqb-true, eq-eqb, cases_lt}
use Rattle.std.proofs.lemmas.List.{take-append-le, take-take, length-take}
use Rattle.span_base.specs.Grammar.{CanGoOn, BreaksAt}
use Rattle.span_base.specs.Name.{IsName, is_name_byte}
use Rattle.span_base.proofs.Breaks.{earlier}
use Rattle.slo_rules.specs.PolicyLines.{◌>>=◌, behind}
use Rattle.slo_rules.proofs.NamesRead.{Stops}

-- a text leaves a grammar so many bytes before its end
pub record BreaksBefore (G : List ℕ → Type 0) (text : List ℕ) (left : ℕ) : Type 0 where
  pub place : ℕ
  pub sum : place + left ≡ length text
  pub breaks : BreaksAt G text place

-- one byte in front
pub breaks_cons : (G H : List ℕ → Type 0) (c : ℕ) (text : List ℕ) (left : ℕ) → ((t : List ℕ) → G t → H (c ∷ t)) → ((t : List ℕ) → H (c ∷ t) → G t) → BreaksBefore G text left → BreaksBefore H (c ∷ text) left
breaks_cons G H c text left on back b =
    let inner : BreaksAt G text b.place = b.breaks in
    let within : b.place ≤ length text = inner.within in
    let sum : b.place + left ≡ length text = b.sum in
    record {
      place = suc b.place;
      sum = omega arith;
      breaks = record {
        faulty = λ h. inner.faulty (back text h);
        within = omega arith;
        before = (inner.before.0, on (take b.place text ++ inner.before.0) inner.before.1);
        there = λ inside more.
            let one : suc b.place + 1 ≡ suc (b.place + 1) = omega arith in
            let m : CanGoOn H (take (suc (b.place + 1)) (c ∷ text)) = subst (λ (n : ℕ). CanGoOn H (take n (c ∷ text))) one more in
            inner.there (omega arith) (m.0, back (take (b.place + 1) text ++ m.0) m.1);
      };
    }

-- some bytes in front
pub breaks_front : (H : List ℕ → Type 0) (front text : List ℕ) (left : ℕ) → BreaksBefore (λ t. H (front ++ t)) text left → BreaksBefore H (front ++ text) left
breaks_front H [] text left b = b
breaks_front H (c ∷ front) text left b =
    breaks_cons (λ t. H (c ∷ t)) H c (front ++ text) left (λ t h. h) (λ t h. h) (breaks_front (λ t. H (c ∷ t)) front text left b)

-- two grammars of which the larger is the smaller one for texts that begin as this one
pub breaks_agree : (G N : List ℕ → Type 0) (text : List ℕ) (k left : ℕ) → ((t : List ℕ) → N t → G t) → CanGoOn N (take k text)
    → ((t : List ℕ) → take (k + 1) t ≡ take (k + 1) text → G t → N t) → BreaksBefore N text left → BreaksBefore G text left
breaks_agree G N text k left on go back b =
    let inner : BreaksAt N text b.place = b.breaks in
    record {
      place = b.place;
      sum = b.sum;
      breaks = record {
        faulty = λ h. inner.faulty (back text refl h);
        within = inner.within;
        before = (inner.before.0, on (take b.place text ++ inner.before.0) inner.before.1);
        there = λ inside more. elim (cases_lt b.place k) [
          | inl low ↦ absurd (inner.there inside (earlier N text b.place k (omega arith) go))
          | inr high ↦ inner.there inside (more.0, back (take (b.place + 1) text ++ more.0) (begins inside high more.0) more.1)
        ];
      };
    }
  where
    begins : b.place < length text → k ≤ b.place → (r : List ℕ) → take (k + 1) (take (b.place + 1) text ++ r) ≡ take (k + 1) text
    begins inside high r =
        let long : k + 1 ≤ length (take (b.place + 1) text) = omega (arith, length-take (b.place + 1) text) in
        take-append-le (k + 1) (take (b.place + 1) text) r long ∙ take-take (k + 1) (b.place + 1) text (omega arith)

-- what comes behind a part: some text is of it
pub record Inhabited (N : List ℕ → Type 0) : Type 0 where
  pub text : List ℕ
  pub is : N text

-- and none begins as a name goes on
pub record Follows (N : List ℕ → Type 0) : Type 0 where
  pub some : Inhabited N
  pub stops : (t : List ℕ) → N t → Stops t

-- a word and what follows
abbrev pub Then : List ℕ → (List ℕ → Type 0) → List ℕ → Type 0
Then word N text = (t : List ℕ) × (word ++ t ≡ text) × N t

-- a name and what follows
abbrev pub NameThen : (List ℕ → Type 0) → List ℕ → Type 0
NameThen N text = (name : List ℕ) × (t : List ℕ) × IsName name × (name ++ t ≡ text) × N t

-- a reading reads a part of a grammar, where what follows is such: what it reads is of the part if what
-- it leaves is of what follows, and the text breaks where what it leaves does; or it tells where the text breaks
abbrev pub ReadsAs : {A : Type 0} → (A → List ℕ) → ((List ℕ → Type 0) → Type 0) → ((List ℕ → Type 0) → List ℕ → Type 0) → List ℕ → Result A ℕ → Type 1
ReadsAs rest C T text (Ok a) = (N : List ℕ → Type 0) → C N → (N (rest a) → T N text) × ((left : ℕ) → BreaksBefore N (rest a) left → BreaksBefore (T N) text left)
ReadsAs rest C T text (Err left) = (N : List ℕ → Type 0) → C N → BreaksBefore (T N) text left

-- one reading after another
pub bind_as : {A B : Type 0} (ra : A → List ℕ) (rb : B → List ℕ) (C D : (List ℕ → Type 0) → Type 0) (T U : (List ℕ → Type 0) → List ℕ → Type 0) (text : List ℕ) (reading : Result A ℕ) (f : A → Result B ℕ)
    → ((N : List ℕ → Type 0) → D N → C (U N)) → ReadsAs ra C T text reading → ((a : A) → reading ≡ Ok a → ReadsAs rb D U (ra a) (f a)) → ReadsAs rb D (λ N. T (U N)) text (reading >>= f)
bind_as ra rb C D T U text (Err left) f keep first next = λ N d. first (U N) (keep N d)
bind_as {A} {B} ra rb C D T U text (Ok a) f keep first next = go (f a) (next a refl)
  where
    go : (r : Result B ℕ) → ReadsAs rb D U (ra a) r → ReadsAs rb D (λ N. T (U N)) text r
    go (Ok b) second = λ N d. (λ n. (first (U N) (keep N d)).0 ((second N d).0 n), λ left h. (first (U N) (keep N d)).1 left ((second N d).1 left h))
    go (Err left) second = λ N d. (first (U N) (keep N d)).1 left (second N d)

-- a word is read as itself
pub word_as : (word text : List ℕ) → ReadsAs (λ (r : List ℕ). r) Inhabited (Then word) text (behind word text)
unfolding behind
word_as [] text = λ N some. (λ n. (text, refl, n), λ left b. breaks_agree (Then [] N) N text 0 left (λ t n. (t, refl, n)) (some.text, some.is) (λ t e h. subst N h.1 h.2) b)
word_as (c ∷ word) [] = λ N some. record {
  place = 0;
  sum = refl;
  breaks = record {
    faulty = λ h. let e : (c ∷ word) ++ h.0 ≡ [] = h.1 in cc;
    within = omega arith;
    before = ((c ∷ word) ++ some.text, (some.text, refl, some.is));
    there = λ inside. absurd (let h : 0 < 0 = inside in omega arith);
  };
}
word_as (c ∷ word) (d ∷ text) = go (c == d) refl (behind word text) (word_as word text)
  where
    on : (N : List ℕ → Type 0) → c ≡ d → (t : List ℕ) → Then word N t → Then (c ∷ word) N (d ∷ t)
    on N e t h = (h.0, (λ i. e i ∷ h.1 i), h.2)

    back : (N : List ℕ → Type 0) (t : List ℕ) → Then (c ∷ word) N (d ∷ t) → Then word N t
    back N t h = let e : c ∷ (word ++ h.0) ≡ d ∷ t = h.1 in (h.0, (let f : word ++ h.0 ≡ t = cc in f), h.2)

    longer : c ≡ d → (r : Result (List ℕ) ℕ) → ReadsAs (λ (r : List ℕ). r) Inhabited (Then word) text r → ReadsAs (λ (r : List ℕ). r) Inhabited (Then (c ∷ word)) (d ∷ text) r
    longer e (Ok rest) rec = λ N some. (λ n. on N e text ((rec N some).0 n), λ left b. breaks_cons (Then word N) (Then (c ∷ word) N) d text left (on N e) (back N) ((rec N some).1 left b))
    longer e (Err left) rec = λ N some. breaks_cons (Then word N) (Then (c ∷ word) N) d text left (on N e) (back N) (rec N some)

    other : (N : List ℕ → Type 0) → (c == d) ≡ false → (t : List ℕ) → Then (c ∷ word) N (d ∷ t) → ⊥
    other N ne t h = let e : c ∷ (word ++ h.0) ≡ d ∷ t = h.1 in let same : c ≡ d = cc in let f : (c == d) ≡ true = eq-eqb c d same in cc

    go : (b : Bool) → (c == d) ≡ b → (r : Result (List ℕ) ℕ) → ReadsAs (λ (r : List ℕ). r) Inhabited (Then word) text r → ReadsAs (λ (r : List ℕ). r) Inhabited (Then (c ∷ word)) (d ∷ text) (if b then r else Err (length text + 1))
    go true e r rec = longer (eqb-true c d e) r rec
    go false ne r rec = λ N some. record {
      place = 0;
      sum = omega arith;
      breaks = record {
        faulty = λ h. other N ne text h;
        within = omega arith;
        before = ((c ∷ word) ++ some.text, (some.text, refl, some.is));
        there = λ inside more. other N ne more.0 more.1;
      };
    }

-- the first of a longest run of a name's bytes
pub run_fits : (n : ℕ) (xs : List ℕ) → list_all is_name_byte (take (prefix_len is_name_byte (take n xs)) xs) ≡ true
run_fits zero xs = refl
run_fits (suc n) [] = refl
run_fits (suc n) (x ∷ xs) = go (is_name_byte x) refl (run_fits n xs)
  where
    k : ℕ
    k = prefix_len is_name_byte (take n xs)

    go : (b : Bool) → is_name_byte x ≡ b → list_all is_name_byte (take k xs) ≡ true → list_all is_name_byte (take (cond b (1 + k) 0) (x ∷ xs)) ≡ true
    go true fits rec =
        let one : 1 + k ≡ suc k = omega arith in
        ap (λ m. list_all is_name_byte (take m (x ∷ xs))) one ∙ ap (λ b. b && list_all is_name_byte (take k xs)) fits ∙ rec
    go false fits rec = refl

-- it ends where no name goes on, or at its greatest length
pub run_ends : (n : ℕ) (xs : List ℕ) → Stops (drop (prefix_len is_name_byte (take n xs)) xs) ⊎ (prefix_len is_name_byte (take n xs) ≡ n)
run_ends zero xs = inr refl
run_ends (suc n) [] = inl tt
run_ends (suc n) (x ∷ xs) = go (is_name_byte x) refl (run_ends n xs)
  where
    k : ℕ
    k = prefix_len is_name_byte (take n xs)

    go : (b : Bool) → is_name_byte x ≡ b → Stops (drop k xs) ⊎ (k ≡ n) → Stops (drop (cond b (1 + k) 0) (x ∷ xs)) ⊎ (cond b (1 + k) 0 ≡ suc n)
    go false fits rec = inl fits
    go true fits (inl stops) = let one : suc k ≡ 1 + k = omega arith in inl (subst (λ (m : ℕ). Stops (drop m (x ∷ xs))) one stops)
    go true fits (inr full) = inr (omega arith)

pub run_within : (n : ℕ) (xs : List ℕ) → (prefix_len is_name_byte (take n xs) ≤ n) × (prefix_len is_name_byte (take n xs) ≤ length xs)
run_within n xs =
    let h : prefix_len is_name_byte (take n xs) ≤ length (take n xs) = prefix_len-le-length is_name_byte (take n xs) in
    (omega (arith, length-take n xs), omega (arith, length-take n xs))
