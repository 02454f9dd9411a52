-- Names and lists of names as parts of a grammar.
use Rattle.std.proofs.Common.{◌≡◌, ℕ, zero, suc, ◌+◌, ◌<◌, ◌⊎◌, inl, inr, Bool, true, false, cond, if◌then◌else◌, ◌&&◌, ◌==◌, nat_lt, nat_le, List, [], ◌∷◌, ◌++◌, length, take, drop, Option, Ok, Err, refl, sym, ap, subst, ◌∙◌, arith}
use Rattle.std.specs.Prelude.{codes}
use Rattle.std.specs.List.{list_all, prefix_len}
use Rattle.std.proofs.lemmas.Bool.{eqb-true, eq-eqb, and_parts, and_from, lt-ltb, le-leb, cases_eq}
use Rattle.std.proofs.lemmas.List.{length-take, take-append-drop}
use Rattle.std.proofs.Math.Seq.{drop-append_seam}
use Rattle.span_base.specs.Name.{IsName, is_name_byte}
use Rattle.span_base.specs.declared.ids.DcId.{DcId}
use Rattle.workload.specs.World.{Lists}
use Rattle.slo_rules.specs.PolicyLines.{behind, name_len, name_at, centre_named, centre_at}
use Rattle.slo_rules.proofs.NamesRead.{Stops, spelled, name_counts}
use Rattle.slo_rules.proofs.Grammars.{BreaksBefore, breaks_front, breaks_agree, Inhabited, Follows, Then, NameThen, ReadsAs, bind_as, word_as, run_fits, run_ends, run_within}

-- the count of a name's bytes is that of the name, where the text ends as a name does
counted : (name t : List ℕ) → IsName name → Stops t ⊎ (length name ≡ 32) → name_len (name ++ t) ≡ length name
counted name t is (inl stops) = let s = spelled name is in name_counts 32 name t s.bytes s.few stops
counted name t is (inr full) = full_counts name t (spelled name is).bytes full
  where
    counts : (n : ℕ) (xs ys : List ℕ) → list_all is_name_byte xs ≡ true → length xs ≡ n → prefix_len is_name_byte (take n (xs ++ ys)) ≡ n
    counts zero xs ys fits e = refl
    counts (suc n) [] ys fits e = absurd (omega arith)
    counts (suc n) (x ∷ xs) ys fits e =
        let parts = and_parts (is_name_byte x) (list_all is_name_byte xs) fits in
        let rest : prefix_len is_name_byte (take n (xs ++ ys)) ≡ n = counts n xs ys parts.1 (omega arith) in
        let first : prefix_len is_name_byte (take (suc n) ((x ∷ xs) ++ ys)) ≡ 1 + prefix_len is_name_byte (take n (xs ++ ys)) = ap (λ b. cond b (1 + prefix_len is_name_byte (take n (xs ++ ys))) 0) parts.0 in
        omega arith

    full_counts : (xs ys : List ℕ) → list_all is_name_byte xs ≡ true → length xs ≡ 32 → name_len (xs ++ ys) ≡ length xs
    full_counts xs ys fits e = counts 32 xs ys fits e ∙ sym e

-- a text is a name and what follows in one way alone
one_way : (N : List ℕ → Type 0) → Follows N → (name t : List ℕ) → IsName name → Stops t ⊎ (length name ≡ 32) → NameThen N (name ++ t) → N t
one_way N f name t is ends h =
    let e : h.0 ++ h.1 ≡ name ++ t = h.3 in
    let same : length h.0 ≡ length name = sym (counted h.0 h.1 h.2 (inl (f.stops h.1 h.4))) ∙ ap name_len e ∙ counted name t is ends in
    let rest : h.1 ≡ t = sym (drop-append_seam h.0 h.1) ∙ ap (λ n. drop n (h.0 ++ h.1)) same ∙ ap (drop (length name)) e ∙ drop-append_seam name t in
    subst N rest h.4

same_stops : (rest t : List ℕ) → take 1 t ≡ take 1 rest → Stops rest → Stops t
same_stops rest [] e stops = tt
same_stops [] (c ∷ t) e stops = absurd (let f : c ∷ [] ≡ [] = e in cc)
same_stops (d ∷ rest) (c ∷ t) e stops = let f : c ∷ [] ≡ d ∷ [] = e in let same : c ≡ d = cc in ap is_name_byte same ∙ stops

no_name_yet : (text : List ℕ) → name_len text ≡ 0 → (N : List ℕ → Type 0) → Follows N → (front : List ℕ) → take 1 front ≡ take 1 text → NameThen N front → ⊥
no_name_yet text none N f front same h = go h.0 h.1 h.2 h.3 text none same
  where
    go : (name t : List ℕ) → IsName name → name ++ t ≡ front → (text : List ℕ) → name_len text ≡ 0 → take 1 front ≡ take 1 text → ⊥
    go [] t is e text none same = absurd (let s = (spelled [] is).some in omega arith)
    go (c ∷ name) t is e [] none same = absurd (let first : c ∷ [] ≡ [] = ap (take 1) e ∙ same in cc)
    go (c ∷ name) t is e (d ∷ text) none same =
        let first : c ∷ [] ≡ d ∷ [] = ap (take 1) e ∙ same in
        let eq : c ≡ d = cc in
        let fits : is_name_byte d ≡ true = ap is_name_byte (sym eq) ∙ (and_parts (is_name_byte c) (list_all is_name_byte name) (spelled (c ∷ name) is).bytes).0 in
        let len : name_len (d ∷ text) ≡ 1 + prefix_len is_name_byte (take 31 text) = ap (λ b. cond b (1 + prefix_len is_name_byte (take 31 text)) 0) fits in
        omega arith

front_same : (text r : List ℕ) → 0 < length text → take 1 (take 1 text ++ r) ≡ take 1 text
front_same [] r inside = absurd (omega arith)
front_same (c ∷ text) r inside = refl

-- a name is read as one
pub name_as : (w : Lists) (text : List ℕ) → ReadsAs (λ (r : Option DcId × List ℕ). r.1) Follows NameThen text (name_at w text)
unfolding name_at
name_as w text = go (name_len text == 0) refl
  where
    n : ℕ
    n = name_len text

    named : (n == 0) ≡ false → IsName (take n text)
    named some =
        let within = run_within 32 text in
        let len : length (take n text) ≡ n = omega (arith, length-take n text) in
        let pos : 0 < n = elim (cases_eq n 0) [ inl z ↦ absurd (let f : (n == 0) ≡ true = eq-eqb n 0 z in cc) | inr nz ↦ omega arith ] in
        and_from (list_all is_name_byte (take n text)) (nat_lt 0 (length (take n text)) && nat_le (length (take n text)) 32) (run_fits 32 text)
        (and_from (nat_lt 0 (length (take n text))) (nat_le (length (take n text)) 32) (lt-ltb 0 (length (take n text)) (omega arith)) (le-leb (length (take n text)) 32 (omega arith)))

    ends : Stops (drop n text) ⊎ (length (take n text) ≡ 32)
    ends = elim (run_ends 32 text) [
      | inl stops ↦ inl stops
      | inr full ↦ inr (let within = run_within 32 text in omega (arith, length-take n text))
    ]

    as_rest : (t : List ℕ) → take 1 t ≡ take 1 (drop n text) → Stops t ⊎ (length (take n text) ≡ 32)
    as_rest t same = elim ends [ inl stops ↦ inl (same_stops (drop n text) t same stops) | inr full ↦ inr full ]

    go : (b : Bool) → (n == 0) ≡ b → ReadsAs (λ (r : Option DcId × List ℕ). r.1) Follows NameThen text (if b then Err (length text) else Ok (centre_named w (take n text), drop n text))
    go true none = λ N f.
        let zero_len : n ≡ 0 = eqb-true n 0 none in
        record {
          place = 0;
          sum = omega arith;
          breaks = record {
            faulty = λ h. no_name_yet text zero_len N f text refl h;
            within = omega arith;
            before = ((97 ∷ []) ++ f.some.text, (97 ∷ [], f.some.text, refl, refl, f.some.is));
            there = λ inside more. no_name_yet text zero_len N f (take 1 text ++ more.0) (front_same text more.0 inside) more.1;
          };
        }
    go false some = λ N f.
        let name : List ℕ = take n text in
        let rest : List ℕ = drop n text in
        let is : IsName name = named some in
        let parts : name ++ rest ≡ text = take-append-drop n text in (
          λ follows. (name, rest, is, parts, follows),
          λ left b.
              let agreed : BreaksBefore (λ t. NameThen N (name ++ t)) rest left =
              breaks_agree (λ t. NameThen N (name ++ t)) N rest 0 left (λ t follows. (name, t, is, refl, follows)) (f.some.text, f.some.is) (λ t same h. one_way N f name t is (as_rest t same) h) b in
              subst (λ (t : List ℕ). BreaksBefore (NameThen N) t left) parts (breaks_front (NameThen N) name rest left agreed),
        )

-- a space, a name and what follows
abbrev pub Spaced : (List ℕ → Type 0) → List ℕ → Type 0
Spaced N text = Then (codes " ") (NameThen N) text

pub centre_as : (w : Lists) (text : List ℕ) → ReadsAs (λ (r : Option DcId × List ℕ). r.1) Follows Spaced text (centre_at w text)
unfolding centre_at
centre_as w text =
    bind_as {A = List ℕ} {B = Option DcId × List ℕ} (λ r. r) (λ r. r.1) Inhabited Follows (Then (codes " ")) NameThen text (behind (codes " ") text) (name_at w)
    (λ N f. record { text = (97 ∷ []) ++ f.some.text; is = (97 ∷ [], f.some.text, refl, refl, f.some.is) })
    (word_as (codes " ") text) (λ rest e. name_as w rest)
