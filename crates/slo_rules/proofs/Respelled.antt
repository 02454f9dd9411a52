-- What a line says is spelled so.
use Rattle.std.proofs.Common.{◌≡◌, ℕ, zero, suc, ◌+◌, ◌<◌, ◌≤◌, inl, inr, Bool, true, false, cond, if◌then◌else◌, ◌==◌, nat_eq, List, [], ◌∷◌, ◌++◌, length, map, take, drop, get_or, Option, Some, None, Ok, Err, refl, sym, ap, subst, ◌∙◌, append_assoc, append-nil, arith}
use Rattle.std.specs.Prelude.{Result, codes, option_map}
use Rattle.std.specs.List.{All, filter, range_with_len, position}
use Rattle.std.specs.Cmp.Lexicographic.{pointwise, same_text}
use Rattle.std.proofs.lemmas.Bool.{eqb-true, cases_eq}
use Rattle.std.proofs.lemmas.List.{length-map, take-append-drop}
use Rattle.std.proofs.lemmas.List.Quantifiers.{position-Some}
use Rattle.std.proofs.lemmas.List.Elements.{All-nil, All-cons, All-head, All-tail}
use Rattle.std.proofs.Math.ListN.{get_or-map}
use Rattle.span_base.specs.declared.ids.DcId.{DcId}
use Rattle.span_base.specs.declared.dc_set.DcSet.{DcSet}
use Rattle.span_base.specs.DcSet.{has, centres_of, centres_below, no_centre as no_dc, insert}
use Rattle.span_base.proofs.Sets.{has-insert_same, has-insert_other}
use Rattle.price_tables.specs.declared.prices.Centre.{Centre}
use Rattle.price_tables.specs.Tables.{no_centre}
use Rattle.workload.specs.World.{Lists, centre_count, name_of}
use Rattle.slo_rules.specs.Rules.{lies_below}
use Rattle.slo_rules.specs.declared.policy_line.PolicyFault.{PolicyFault}
use Rattle.slo_rules.specs.declared.policy_line.PolicyFault.TheVariants.{Unknown, Order}
use Rattle.slo_rules.specs.PolicyLines.{◌>>=◌, behind, name_len, name_at, centre_named, centre_at, centres_at, with_centre, is_over}
use Rattle.slo_rules.proofs.ProviderNames.{below-lies_below}
use Rattle.slo_rules.proofs.ListsRead.{spaced, with_centres}

-- the parts of a reading
abbrev first_of : Result (Option DcId × List ℕ) ℕ → Option DcId
first_of (Ok a) = a.0
first_of (Err left) = None

abbrev rest_of : Result (Option DcId × List ℕ) ℕ → List ℕ
rest_of (Ok a) = a.1
rest_of (Err left) = []

abbrev set_of_reading : Result (Result DcSet PolicyFault × List ℕ) ℕ → Result DcSet PolicyFault
set_of_reading (Ok a) = a.0
set_of_reading (Err left) = Err Unknown

abbrev rest_of_list : Result (Result DcSet PolicyFault × List ℕ) ℕ → List ℕ
rest_of_list (Ok a) = a.1
rest_of_list (Err left) = []

-- a word that is passed stands there
pub word_spells : (word text rest : List ℕ) → behind word text ≡ Ok rest → text ≡ word ++ rest
unfolding behind
word_spells [] text rest e = cc
word_spells (c ∷ word) [] rest e = cc
word_spells (c ∷ word) (d ∷ text) rest e = go (c == d) refl e (λ f. word_spells word text rest f)
  where
    go : (b : Bool) → (c == d) ≡ b → (if b then behind word text else Err (length text + 1)) ≡ Ok rest → (behind word text ≡ Ok rest → text ≡ word ++ rest) → d ∷ text ≡ c ∷ (word ++ rest)
    go true same e rec = (λ i. sym (eqb-true c d same) i ∷ rec e i)
    go false ne e rec = cc

-- a centre that is found has the name
name_found : (w : Lists) (name : List ℕ) (dc : DcId) → centre_named w name ≡ Some dc → (name ≡ name_of w dc.0) × (dc.0 < centre_count w)
name_found w name dc e = go (position (pointwise nat_eq name) names) refl e
  where
    names : List (List ℕ)
    names = map (λ (c : Centre). c.name) w.centres

    number : ℕ → DcId
    number = λ d. record { 0 = d }

    go : (o : Option ℕ) → position (pointwise nat_eq name) names ≡ o → option_map number o ≡ Some dc → (name ≡ name_of w dc.0) × (dc.0 < centre_count w)
    go (Some n) at e =
        let found = position-Some (pointwise nat_eq name) names n [] at in
        let same : number n ≡ dc = cc in
        let is : n ≡ dc.0 = ap (λ (d : DcId). d.0) same in
        let inside : n < length names = found.0 in
        let many : length names ≡ length w.centres = length-map w.centres (λ (c : Centre). c.name) in
        (same_text name (get_or names n []) (sym found.1) ∙ get_or-map (λ (c : Centre). c.name) w.centres n no_centre ∙ ap (name_of w) is, omega arith)
    go None at e = cc

-- so a name that is read
name_spells : (w : Lists) (text : List ℕ) (dc : DcId) (rest : List ℕ) → name_at w text ≡ Ok (Some dc, rest) → (text ≡ name_of w dc.0 ++ rest) × (dc.0 < centre_count w)
unfolding name_at
name_spells w text dc rest e = go (name_len text == 0) e
  where
    name : List ℕ
    name = take (name_len text) text

    go : (b : Bool) → if◌then◌else◌ {A = Result (Option DcId × List ℕ) ℕ} b (Err (length text)) (Ok (centre_named w name, drop (name_len text) text)) ≡ Ok (Some dc, rest) → (text ≡ name_of w dc.0 ++ rest) × (dc.0 < centre_count w)
    go true e = cc
    go false e =
        let first : centre_named w name ≡ Some dc = ap first_of e in
        let behind : drop (name_len text) text ≡ rest = ap rest_of e in
        let found = name_found w name dc first in
        (sym (take-append-drop (name_len text) text) ∙ (λ i. found.0 i ++ behind i), found.1)

pub centre_spells : (w : Lists) (text : List ℕ) (dc : DcId) (rest : List ℕ) → centre_at w text ≡ Ok (Some dc, rest) → (text ≡ codes " " ++ (name_of w dc.0 ++ rest)) × (dc.0 < centre_count w)
unfolding centre_at
centre_spells w text dc rest e = go (behind (codes " ") text) refl e
  where
    go : (r : Result (List ℕ) ℕ) → behind (codes " ") text ≡ r → (r >>= name_at w) ≡ Ok (Some dc, rest) → (text ≡ codes " " ++ (name_of w dc.0 ++ rest)) × (dc.0 < centre_count w)
    go (Ok t) is e =
        let name = name_spells w t dc rest e in
        (word_spells (codes " ") text t is ∙ ap (λ (u : List ℕ). codes " " ++ u) name.0, name.1)
    go (Err left) is e = cc

-- a list with a fault gives no set
faulty : (w : Lists) (closed : Bool) (most : ℕ) (fault : PolicyFault) (text : List ℕ) (s : DcSet) (rest : List ℕ) → centres_at w closed most (Err fault) text ≡ Ok (Ok s, rest) → ⊥
unfolding centres_at
faulty w closed zero fault text s rest e = cc
faulty w closed (suc most) fault text s rest e = go (centre_at w text) e (λ t h. faulty w closed most fault t s rest h)
  where
    go : (r : Result (Option DcId × List ℕ) ℕ) → (r >>= (λ centre. if is_over closed centre.1 then Ok (Err fault, centre.1) else centres_at w closed most (Err fault) centre.1)) ≡ Ok (Ok s, rest)
        → ((t : List ℕ) → centres_at w closed most (Err fault) t ≡ Ok (Ok s, rest) → ⊥) → ⊥
    go (Err left) e rec = cc
    go (Ok a) e rec = by (is_over closed a.1) e
      where
        by : (o : Bool) → (if o then Ok (Err fault, a.1) else centres_at w closed most (Err fault) a.1) ≡ Ok (Ok s, rest) → ⊥
        by true e = let bad : Result DcSet PolicyFault = Err fault in let f : bad ≡ Ok s = ap set_of_reading e in cc
        by false e = rec a.1 e

-- the centres that a list names
pub record Names (w : Lists) (t : DcSet) (text : List ℕ) (s : DcSet) (rest : List ℕ) : Type 0 where
  pub centres : List ℕ
  pub spelled : text ≡ spaced w centres ++ rest
  pub below : All (λ d. d < centre_count w) centres
  pub gives : with_centres (Ok t) centres ≡ Ok s

pub list_spells : (w : Lists) (closed : Bool) (most : ℕ) (t : DcSet) (text : List ℕ) (s : DcSet) (rest : List ℕ) → centres_at w closed most (Ok t) text ≡ Ok (Ok s, rest) → Names w t text s rest
unfolding centres_at
list_spells w closed zero t text s rest e = cc
list_spells w closed (suc most) t text s rest e = go (centre_at w text) refl e (λ u v h. list_spells w closed most u v s rest h)
  where
    add : (dc : DcId) (after : List ℕ) → centre_at w text ≡ Ok (Some dc, after) → (u : DcSet) → with_centre (Ok t) (Some dc) ≡ Ok u → Names w u after s rest → Names w t text s rest
    add dc after at u with_dc n =
        let c = centre_spells w text dc after at in
        record {
          centres = dc.0 ∷ n.centres;
          spelled = c.0 ∙ ap (λ (v : List ℕ). codes " " ++ (name_of w dc.0 ++ v)) n.spelled ∙ sym (append_assoc (codes " " ++ name_of w dc.0) (spaced w n.centres) rest);
          below = All-cons (λ d. d < centre_count w) dc.0 n.centres c.1 n.below;
          gives = ap (λ (r : Result DcSet PolicyFault). with_centres r n.centres) with_dc ∙ n.gives;
        }

    next : (dc : DcId) (after : List ℕ) → centre_at w text ≡ Ok (Some dc, after) → (r : Result DcSet PolicyFault) → with_centre (Ok t) (Some dc) ≡ r → (o : Bool)
        → (if o then Ok (r, after) else centres_at w closed most r after) ≡ Ok (Ok s, rest)
        → ((u : DcSet) (v : List ℕ) → centres_at w closed most (Ok u) v ≡ Ok (Ok s, rest) → Names w u v s rest) → Names w t text s rest
    next dc after at (Ok u) with_dc true e rec =
        let so_far : Result DcSet PolicyFault = Ok u in
        let set : so_far ≡ Ok s = ap set_of_reading e in
        let after_is : after ≡ rest = ap rest_of_list e in
        add dc after at u with_dc (record { centres = []; spelled = after_is; below = All-nil (λ d. d < centre_count w); gives = set })
    next dc after at (Ok u) with_dc false e rec = add dc after at u with_dc (rec u after e)
    next dc after at (Err fault) with_dc true e rec = absurd (let bad : Result DcSet PolicyFault = Err fault in let f : bad ≡ Ok s = ap set_of_reading e in cc)
    next dc after at (Err fault) with_dc false e rec = absurd (faulty w closed most fault after s rest e)

    none : (o : Bool) (after : List ℕ) → (if o then Ok (Err Unknown, after) else centres_at w closed most (Err Unknown) after) ≡ Ok (Ok s, rest) → ⊥
    none true after e = let bad : Result DcSet PolicyFault = Err Unknown in let f : bad ≡ Ok s = ap set_of_reading e in cc
    none false after e = faulty w closed most Unknown after s rest e

    go : (r : Result (Option DcId × List ℕ) ℕ) → centre_at w text ≡ r
        → (r >>= (λ centre. if is_over closed centre.1 then Ok (with_centre (Ok t) centre.0, centre.1) else centres_at w closed most (with_centre (Ok t) centre.0) centre.1)) ≡ Ok (Ok s, rest)
        → ((u : DcSet) (v : List ℕ) → centres_at w closed most (Ok u) v ≡ Ok (Ok s, rest) → Names w u v s rest) → Names w t text s rest
    go (Err left) at e rec = cc
    go (Ok a) at e rec = by a.0 refl
      where
        by : (o : Option DcId) → a.0 ≡ o → Names w t text s rest
        by (Some dc) is =
            let P : Option DcId → Type 0 = λ o. (if is_over closed a.1 then Ok (with_centre (Ok t) o, a.1) else centres_at w closed most (with_centre (Ok t) o) a.1) ≡ Ok (Ok s, rest) in
            let here : centre_at w text ≡ Ok (Some dc, a.1) = at ∙ ap (λ (o : Option DcId). Ok (o, a.1)) is in
            next dc a.1 here (with_centre (Ok t) (Some dc)) refl (is_over closed a.1) (subst P is e) rec
        by None is =
            let P : Option DcId → Type 0 = λ o. (if is_over closed a.1 then Ok (with_centre (Ok t) o, a.1) else centres_at w closed most (with_centre (Ok t) o) a.1) ≡ Ok (Ok s, rest) in
            absurd (none (is_over closed a.1) a.1 (subst P is e))

-- numbers of a range that a set has, with one more that is above all of them
filter_more : (t : DcSet) (d n a : ℕ) → d < 16 → ((e : ℕ) → has t e ≡ true → e < d) → a ≤ d → d < a + n → filter (has (insert t d)) (range_with_len a n) ≡ filter (has t) (range_with_len a n) ++ d ∷ []
filter_more t d zero a low all from within = absurd (omega arith)
filter_more t d (suc n) a low all from within = elim (cases_eq a d) [
  | inl same ↦ at_end same
  | inr other ↦
      let rec = filter_more t d n (a + 1) low all (omega arith) (omega arith) in
      ap (λ b. cond b (a ∷ filter (has (insert t d)) (range_with_len (a + 1) n)) (filter (has (insert t d)) (range_with_len (a + 1) n))) (has-insert_other t d a other)
      ∙ step (has t a) rec
]
  where
    step : (b : Bool) → filter (has (insert t d)) (range_with_len (a + 1) n) ≡ filter (has t) (range_with_len (a + 1) n) ++ d ∷ []
        → cond b (a ∷ filter (has (insert t d)) (range_with_len (a + 1) n)) (filter (has (insert t d)) (range_with_len (a + 1) n)) ≡ cond b (a ∷ filter (has t) (range_with_len (a + 1) n)) (filter (has t) (range_with_len (a + 1) n)) ++ d ∷ []
    step true rec = ap (λ ds. a ∷ ds) rec
    step false rec = rec

    nothing_above : (s : DcSet) (k b : ℕ) → ((e : ℕ) → b ≤ e → has s e ≡ false) → filter (has s) (range_with_len b k) ≡ []
    nothing_above s zero b none = refl
    nothing_above s (suc k) b none =
        ap (λ c. cond c (b ∷ filter (has s) (range_with_len (b + 1) k)) (filter (has s) (range_with_len (b + 1) k))) (none b (omega arith))
        ∙ nothing_above s k (b + 1) (λ e high. none e (omega arith))

    above : (e : ℕ) → d ≤ e → has t e ≡ false
    above e high = go (has t e) refl
      where
        go : (b : Bool) → has t e ≡ b → b ≡ false
        go true there = absurd (let h = all e there in omega arith)
        go false there = refl

    at_end : a ≡ d → filter (has (insert t d)) (range_with_len a (suc n)) ≡ filter (has t) (range_with_len a (suc n)) ++ d ∷ []
    at_end same =
        let P : ℕ → Type 0 = λ x. filter (has (insert t d)) (range_with_len x (suc n)) ≡ filter (has t) (range_with_len x (suc n)) ++ d ∷ [] in
        let left : filter (has (insert t d)) (range_with_len d (suc n)) ≡ d ∷ [] =
        ap (λ c. cond c (d ∷ filter (has (insert t d)) (range_with_len (d + 1) n)) (filter (has (insert t d)) (range_with_len (d + 1) n))) (has-insert_same t d low)
        ∙ ap (λ ds. d ∷ ds) (nothing_above (insert t d) n (d + 1) (λ e high. has-insert_other t d e (λ z. omega arith) ∙ above e (omega arith))) in
        let right : filter (has t) (range_with_len d (suc n)) ≡ [] = nothing_above t (suc n) d above in
        let here : P d = left ∙ ap (λ ds. ds ++ d ∷ []) (sym right) in
        subst P (sym same) here

centres_more : (t : DcSet) (d : ℕ) → d < 16 → lies_below d t ≡ true → centres_of (insert t d) ≡ centres_of t ++ d ∷ []
unfolding centres_of centres_below
centres_more t d low below = filter_more t d 16 0 low (λ e there. below-lies_below d t e below there) (omega arith) (omega arith)

-- the centres of a set are those of its list, in order
pub set_spells : (t : DcSet) (ds : List ℕ) (s : DcSet) → All (λ d. d < 16) ds → with_centres (Ok t) ds ≡ Ok s → centres_of s ≡ centres_of t ++ ds
set_spells t [] s low e = let same : t ≡ s = cc in ap centres_of (sym same) ∙ sym (append-nil (centres_of t))
set_spells t (d ∷ ds) s low e = go (lies_below d t) refl e (λ u h. set_spells u ds s (All-tail (λ d. d < 16) d ds low) h)
  where
    stuck : (ds : List ℕ) → with_centres (Err Order) ds ≡ Ok s → ⊥
    stuck [] e = cc
    stuck (d ∷ ds) e = stuck ds e

    go : (b : Bool) → lies_below d t ≡ b → with_centres (if b then Ok (insert t d) else Err Order) ds ≡ Ok s → ((u : DcSet) → with_centres (Ok u) ds ≡ Ok s → centres_of s ≡ centres_of u ++ ds) → centres_of s ≡ centres_of t ++ d ∷ ds
    go true below e rec =
        rec (insert t d) e ∙ ap (λ cs. cs ++ ds) (centres_more t d (All-head (λ d. d < 16) d ds low) below) ∙ append_assoc (centres_of t) (d ∷ []) ds
    go false above e rec = absurd (stuck ds e)

pub no_centres : centres_of no_dc ≡ []
unfolding centres_of centres_below
no_centres = refl
