-- A list of names as a part of a grammar.
use Rattle.std.proofs.Common.{◌≡◌, ℕ, zero, suc, ◌+◌, ◌<◌, ◌≤◌, ◌⊎◌, inl, inr, Bool, true, false, if◌then◌else◌, ◌==◌, nat_eq, List, [], ◌∷◌, ◌++◌, length, take, drop, Option, Ok, Err, refl, sym, ap, subst, ◌∙◌, append_assoc, arith}
use Rattle.std.specs.Prelude.{Result, codes}
use Rattle.std.specs.Cmp.Lexicographic.{pointwise}
use Rattle.std.proofs.lemmas.Bool.{eqb-true, eq-eqb, ne_eqb, and_parts}
use Rattle.std.proofs.lemmas.List.{length-drop}
use Rattle.std.proofs.lemmas.List.Elements.{All-nil, All-cons, All-head, All-tail}
use Rattle.span_base.specs.Grammar.{CanGoOn}
use Rattle.span_base.specs.Name.{IsName}
use Rattle.span_base.specs.declared.ids.DcId.{DcId}
use Rattle.span_base.specs.declared.dc_set.DcSet.{DcSet}
use Rattle.workload.specs.World.{Lists}
use Rattle.slo_rules.specs.declared.policy_line.PolicyFault.{PolicyFault}
use Rattle.slo_rules.specs.PolicyLines.{◌>>=◌, behind, name_len, name_at, centre_named, centre_at, centres_at, with_centre, is_over}
use Rattle.slo_rules.specs.LineGrammar.{list_text, AreNames}
use Rattle.slo_rules.proofs.CentreLists.{nothing_at}
use Rattle.slo_rules.proofs.NamesRead.{Stops, first_byte}
use Rattle.slo_rules.proofs.Grammars.{BreaksBefore, breaks_agree, Inhabited, Follows, ReadsAs}
use Rattle.slo_rules.proofs.NameGrammars.{Spaced, centre_as}

-- a list of names and what follows
abbrev pub ListThen : (List ℕ → Type 0) → List ℕ → Type 0
ListThen N text = (names : List (List ℕ)) × (t : List ℕ) × AreNames names × (list_text names ++ t ≡ text) × N t

-- what may follow a list
pub record Ends (closed : Bool) (N : List ℕ → Type 0) : Type 0 where
  pub follows : Follows N
  pub over : (t : List ℕ) → N t → is_over closed t ≡ true

-- behind a name comes what follows the list, or more of the list
abbrev More : (List ℕ → Type 0) → List ℕ → Type 0
More N t = N t ⊎ ListThen N t

to_list : (N : List ℕ → Type 0) (text : List ℕ) → Spaced (More N) text → ListThen N text
to_list N text h = go h.2.4
  where
    name : List ℕ
    name = h.2.0

    whole : codes " " ++ (name ++ h.2.1) ≡ text
    whole = ap (λ (t : List ℕ). codes " " ++ t) h.2.3 ∙ h.1

    go : More N h.2.1 → ListThen N text
    go (inl n) = (name ∷ [], h.2.1, record { some = omega arith; each = All-cons IsName name [] h.2.2 (All-nil IsName) }, append_assoc (codes " " ++ name) [] h.2.1 ∙ whole, n)
    go (inr l) = (
      name ∷ l.0,
      l.1,
      record { some = omega arith; each = All-cons IsName name l.0 h.2.2 l.2.each },
      append_assoc (codes " " ++ name) (list_text l.0) l.1 ∙ ap (λ (t : List ℕ). codes " " ++ (name ++ t)) l.3 ∙ whole,
      l.4,
    )

from_names : (N : List ℕ → Type 0) (names : List (List ℕ)) (t : List ℕ) → AreNames names → N t → Spaced (More N) (list_text names ++ t)
from_names N [] t are n = absurd (let h = are.some in omega arith)
from_names N (name ∷ []) t are n =
    (name ++ t, sym (append_assoc (codes " " ++ name) [] t), (name, t, All-head IsName name [] are.each, refl, inl n))
from_names N (name ∷ (m ∷ ms)) t are n =
    let tail : AreNames (m ∷ ms) = record { some = omega arith; each = All-tail IsName name (m ∷ ms) are.each } in
    let rest : List ℕ = list_text (m ∷ ms) ++ t in
    (name ++ rest, sym (append_assoc (codes " " ++ name) (list_text (m ∷ ms)) t), (name, rest, All-head IsName name (m ∷ ms) are.each, refl, inr (m ∷ ms, t, tail, refl, n)))

from_list : (N : List ℕ → Type 0) (text : List ℕ) → ListThen N text → Spaced (More N) text
from_list N text l = subst (Spaced (More N)) l.3 (from_names N l.0 l.1 l.2 l.4)

-- a list begins with a space and a name
names_not_over : (closed : Bool) (names : List (List ℕ)) (t : List ℕ) → AreNames names → is_over closed (list_text names ++ t) ≡ false
names_not_over closed [] t are = absurd (let h = are.some in omega arith)
names_not_over false (name ∷ names) t are = ne_eqb (length (list_text (name ∷ names) ++ t)) 0 (λ e. omega arith)
names_not_over true (name ∷ names) t are =
    ap (is_over true) (append_assoc (codes " " ++ name) (list_text names) t) ∙ first_byte name (list_text names ++ t) (All-head IsName name names are.each)

not_over : (closed : Bool) (N : List ℕ → Type 0) (t : List ℕ) → ListThen N t → is_over closed t ≡ false
not_over closed N t l = ap (is_over closed) (sym l.3) ∙ names_not_over closed l.0 l.1 l.2

names_stop : (names : List (List ℕ)) (t : List ℕ) → AreNames names → Stops (list_text names ++ t)
names_stop [] t are = absurd (let h = are.some in omega arith)
names_stop (name ∷ names) t are = refl

more_follows : (closed : Bool) (N : List ℕ → Type 0) → Ends closed N → Follows (More N)
more_follows closed N ends = record {
  some = record { text = ends.follows.some.text; is = inl ends.follows.some.is };
  stops = λ t h. stops t h;
}
  where
    stops : (t : List ℕ) → More N t → Stops t
    stops t (inl n) = ends.follows.stops t n
    stops t (inr l) = subst Stops l.3 (names_stop l.0 l.1 l.2)

one_name : (N : List ℕ → Type 0) (some : Inhabited N) → ListThen N (codes " a" ++ some.text)
one_name N some = (codes "a" ∷ [], some.text, record { some = omega arith; each = All-cons IsName (codes "a") [] refl (All-nil IsName) }, refl, some.is)

-- where the parts of a list break the list does
list_breaks : (N : List ℕ → Type 0) (text : List ℕ) (left : ℕ) → Inhabited N → BreaksBefore (Spaced (More N)) text left → BreaksBefore (ListThen N) text left
list_breaks N text left some b =
    let l = one_name N some in
    breaks_agree (ListThen N) (Spaced (More N)) text 0 left (to_list N) (codes " a" ++ some.text, from_list N (codes " a" ++ some.text) l) (λ t same h. from_list N t h) b

-- whether a list is over is seen by two bytes
over_same : (closed : Bool) (s t : List ℕ) → take 2 s ≡ take 2 t → is_over closed s ≡ is_over closed t
over_same true s t e = ap (pointwise nat_eq (codes " ;")) e
over_same false [] [] e = refl
over_same false [] (c ∷ t) e = absurd (short t e)
  where
    short : (t : List ℕ) → take 2 [] ≡ take 2 (c ∷ t) → ⊥
    short t e = cc
over_same false (c ∷ s) [] e = absurd (short s e)
  where
    short : (s : List ℕ) → take 2 (c ∷ s) ≡ take 2 [] → ⊥
    short s e = cc
over_same false (c ∷ s) (d ∷ t) e = ne_eqb (length (c ∷ s)) 0 (λ z. omega arith) ∙ sym (ne_eqb (length (d ∷ t)) 0 (λ z. omega arith))

-- what is over begins with a space, or is nothing
begins : (t : List ℕ) → is_over true t ≡ true → take 1 t ≡ codes " "
begins [] e = cc
begins (c ∷ t) e =
    let parts = and_parts (nat_eq 32 c) (pointwise nat_eq (59 ∷ []) (take 1 t)) e in
    let same : 32 ≡ c = eqb-true 32 c parts.0 in
    ap (λ d. d ∷ []) (sym same)

-- what follows can go on with the first byte of what is over
over_goes_on : (closed : Bool) (N : List ℕ → Type 0) (rest : List ℕ) → Ends closed N → is_over closed rest ≡ true → CanGoOn N (take 1 rest)
over_goes_on false N [] ends e = (ends.follows.some.text, ends.follows.some.is)
over_goes_on false N (c ∷ rest) ends e = absurd (let f : (length (c ∷ rest) == 0) ≡ false = ne_eqb (length (c ∷ rest)) 0 (λ z. omega arith) in cc)
over_goes_on true N rest ends e = go ends.follows.some.text ends.follows.some.is (begins ends.follows.some.text (ends.over ends.follows.some.text ends.follows.some.is))
  where
    go : (t : List ℕ) → N t → take 1 t ≡ codes " " → CanGoOn N (take 1 rest)
    go [] n first = cc
    go (c ∷ t) n first = (t, subst (λ (front : List ℕ). N (front ++ t)) (first ∙ sym (begins rest e)) n)

over_breaks : (closed : Bool) (N : List ℕ → Type 0) (rest : List ℕ) (left : ℕ) → Ends closed N → is_over closed rest ≡ true → BreaksBefore N rest left → BreaksBefore (More N) rest left
over_breaks closed N rest left ends over b = breaks_agree (More N) N rest 1 left (λ t n. inl n) (over_goes_on closed N rest ends over) back b
  where
    back : (t : List ℕ) → take 2 t ≡ take 2 rest → More N t → N t
    back t same (inl n) = n
    back t same (inr l) = absurd (let f : false ≡ true = sym (not_over closed N t l) ∙ over_same closed t rest same ∙ over in cc)

-- where a list goes on
more_breaks : (closed : Bool) (N : List ℕ → Type 0) (rest : List ℕ) (left : ℕ) → Ends closed N → is_over closed rest ≡ false → BreaksBefore (ListThen N) rest left → BreaksBefore (More N) rest left
more_breaks closed N rest left ends over b = go rest over b
  where
    some : ListThen N (codes " a" ++ ends.follows.some.text)
    some = one_name N ends.follows.some

    back_two : (rest : List ℕ) → is_over closed rest ≡ false → (t : List ℕ) → take 2 t ≡ take 2 rest → More N t → ListThen N t
    back_two rest over t same (inl n) = absurd (let f : true ≡ false = sym (ends.over t n) ∙ over_same closed t rest same ∙ over in cc)
    back_two rest over t same (inr l) = l

    back_one : (closed : Bool) → ((t : List ℕ) → N t → is_over closed t ≡ true) → (c : ℕ) (rest : List ℕ) → (32 == c) ≡ false → (t : List ℕ) → take 1 t ≡ c ∷ [] → More N t → ListThen N t
    back_one false over c rest ne [] same (inl n) = cc
    back_one false over c rest ne (d ∷ t) same (inl n) = absurd (let f : (length (d ∷ t) == 0) ≡ false = ne_eqb (length (d ∷ t)) 0 (λ z. omega arith) in let e : (length (d ∷ t) == 0) ≡ true = over (d ∷ t) n in cc)
    back_one true over c rest ne t same (inl n) = absurd (let e : c ∷ [] ≡ codes " " = sym same ∙ begins t (over t n) in let eq : 32 ≡ c = cc in let f : (32 == c) ≡ true = eq-eqb 32 c eq in cc)
    back_one closed over c rest ne t same (inr l) = l

    go : (rest : List ℕ) → is_over closed rest ≡ false → BreaksBefore (ListThen N) rest left → BreaksBefore (More N) rest left
    go [] over b = breaks_agree (More N) (ListThen N) [] 1 left (λ t l. inr l) (codes " a" ++ ends.follows.some.text, some) (back_two [] over) b
    go (c ∷ rest) over b = by (32 == c) refl
      where
        by : (x : Bool) → (32 == c) ≡ x → BreaksBefore (More N) (c ∷ rest) left
        by true e =
            let same : 32 ≡ c = eqb-true 32 c e in
            breaks_agree (More N) (ListThen N) (c ∷ rest) 1 left (λ t l. inr l) (codes "a" ++ ends.follows.some.text, subst (λ (d : ℕ). ListThen N (d ∷ (codes "a" ++ ends.follows.some.text))) same some) (back_two (c ∷ rest) over) b
        by false ne =
            breaks_agree (More N) (ListThen N) (c ∷ rest) 0 left (λ t l. inr l) (codes " a" ++ ends.follows.some.text, some) (back_one closed ends.over c rest ne) b

rest_of : Result (Option DcId × List ℕ) ℕ → List ℕ
rest_of (Ok a) = a.1
rest_of (Err left) = []

-- a centre takes some bytes
name_shorter : (w : Lists) (text : List ℕ) (a : Option DcId × List ℕ) → name_at w text ≡ Ok a → length a.1 ≤ length text
unfolding name_at rest_of
name_shorter w text a e = go (name_len text == 0) e
  where
    go : (b : Bool) → (if b then Err (length text) else Ok (centre_named w (take (name_len text) text), drop (name_len text) text)) ≡ Ok a → length a.1 ≤ length text
    go true e = cc
    go false e = let same : drop (name_len text) text ≡ a.1 = ap (λ (r : Result (Option DcId × List ℕ) ℕ). rest_of r) e in omega (arith, length-drop (name_len text) text, ap length same)

centre_shorter : (w : Lists) (text : List ℕ) (a : Option DcId × List ℕ) → centre_at w text ≡ Ok a → length a.1 < length text
unfolding centre_at behind
centre_shorter w [] a e = cc
centre_shorter w (c ∷ text) a e = go (32 == c) e
  where
    go : (b : Bool) → ((if b then Ok text else Err (length text + 1)) >>= name_at w) ≡ Ok a → length a.1 < length (c ∷ text)
    go true e = let h = name_shorter w text a e in omega arith
    go false e = cc

-- a list is read as one
pub list_as : (w : Lists) (closed : Bool) (most : ℕ) (so_far : Result DcSet PolicyFault) (text : List ℕ) → length text ≤ most
    → ReadsAs (λ (r : Result DcSet PolicyFault × List ℕ). r.1) (Ends closed) ListThen text (centres_at w closed most so_far text)
unfolding centres_at
list_as w closed zero so_far [] enough = λ N ends.
    let none = nothing_at w [] enough in
    let first = subst (ReadsAs (λ (r : Option DcId × List ℕ). r.1) Follows Spaced []) none (centre_as w []) in
    list_breaks N [] 0 ends.follows.some (first (More N) (more_follows closed N ends))
list_as w closed zero so_far (c ∷ text) enough = λ N ends. absurd (let h : length (c ∷ text) ≤ 0 = enough in omega arith)
list_as w closed (suc most) so_far text enough = go (centre_at w text) refl (centre_as w text) (λ far rest short. list_as w closed most far rest short)
  where
    on : (a : Option DcId × List ℕ) → ReadsAs (λ (r : Option DcId × List ℕ). r.1) Follows Spaced text (Ok a) → is_over closed a.1 ≡ false
        → (r : Result (Result DcSet PolicyFault × List ℕ) ℕ) → ReadsAs (λ (r : Result DcSet PolicyFault × List ℕ). r.1) (Ends closed) ListThen a.1 r → ReadsAs (λ (r : Result DcSet PolicyFault × List ℕ). r.1) (Ends closed) ListThen text r
    on a first over (Ok b) rec = λ N ends.
        let f = first (More N) (more_follows closed N ends) in
        (λ n. to_list N text (f.0 (inr ((rec N ends).0 n))), λ left h. list_breaks N text left ends.follows.some (f.1 left (more_breaks closed N a.1 left ends over ((rec N ends).1 left h))))
    on a first over (Err left) rec = λ N ends.
        let f = first (More N) (more_follows closed N ends) in
        list_breaks N text left ends.follows.some (f.1 left (more_breaks closed N a.1 left ends over (rec N ends)))

    by : (a : Option DcId × List ℕ) → centre_at w text ≡ Ok a → ReadsAs (λ (r : Option DcId × List ℕ). r.1) Follows Spaced text (Ok a)
        → ((far : Result DcSet PolicyFault) (rest : List ℕ) → length rest ≤ most → ReadsAs (λ (r : Result DcSet PolicyFault × List ℕ). r.1) (Ends closed) ListThen rest (centres_at w closed most far rest))
        → (o : Bool) → is_over closed a.1 ≡ o
        → ReadsAs (λ (r : Result DcSet PolicyFault × List ℕ). r.1) (Ends closed) ListThen text (if o then Ok (with_centre so_far a.0, a.1) else centres_at w closed most (with_centre so_far a.0) a.1)
    by a e first rec true over = λ N ends.
        let f = first (More N) (more_follows closed N ends) in
        (λ n. to_list N text (f.0 (inl n)), λ left h. list_breaks N text left ends.follows.some (f.1 left (over_breaks closed N a.1 left ends over h)))
    by a e first rec false over =
        let shorter = centre_shorter w text a e in
        on a first over (centres_at w closed most (with_centre so_far a.0) a.1) (rec (with_centre so_far a.0) a.1 (omega arith))

    go : (r : Result (Option DcId × List ℕ) ℕ) → centre_at w text ≡ r → ReadsAs (λ (r : Option DcId × List ℕ). r.1) Follows Spaced text r
        → ((far : Result DcSet PolicyFault) (rest : List ℕ) → length rest ≤ most → ReadsAs (λ (r : Result DcSet PolicyFault × List ℕ). r.1) (Ends closed) ListThen rest (centres_at w closed most far rest))
        → ReadsAs (λ (r : Result DcSet PolicyFault × List ℕ). r.1) (Ends closed) ListThen text (r >>= (λ centre. if is_over closed centre.1 then Ok (with_centre so_far centre.0, centre.1) else centres_at w closed most (with_centre so_far centre.0) centre.1))
    go (Err left) e first rec = λ N ends. list_breaks N text left ends.follows.some (first (More N) (more_follows closed N ends))
    go (Ok a) e first rec = by a e first rec (is_over closed a.1) refl
