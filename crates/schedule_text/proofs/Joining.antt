-- Pieces that are joined, and fall apart again where they were joined.
use Rattle.std.proofs.Common.{◌≡◌, ℕ, suc, ◌+◌, ◌<◌, ◌≤◌, min, Bool, true, false, cond, ◌||◌, List, [], ◌∷◌, ◌++◌, length, take, drop, slice_index_or, drop-cons, add-one, refl, sym, ap, ◌∙◌, append_assoc, append-nil, arith}
use Rattle.std.specs.Prelude.{OnOk, Result, Ok, Err, nat_le, map, codes}
use Rattle.std.specs.List.{flat_map}
use Rattle.std.specs.Fmt.{decimal}
use Rattle.std.proofs.lemmas.List.{map-append, take_all, take_min}
use Rattle.std.proofs.Math.Seq.{drop-length}
use Rattle.std.proofs.Math.ListN.{drop_of_length-le}
use Rattle.std.proofs.lemmas.Bool.{leb-true}
use Rattle.std.proofs.lemmas.Grind.{flat_map-append}
use Rattle.std.proofs.lemmas.List.Folds.{flat_map-map}
use Rattle.span_base.specs.declared.dc_set.DcSet.{DcSet}
use Rattle.span_base.specs.declared.policy.Hop.{Hop}
use Rattle.span_base.specs.declared.policy.Near.{Near}
use Rattle.span_base.specs.declared.policy.Quorum.{Quorum}
use Rattle.span_base.specs.DcSet.{has, centres_below}
use Rattle.span_base.proofs.Sets.{centres_of-is, centres_below-more, centres_below-zero}
use Rattle.epoch_directory.specs.declared.table.SetPolicy.{SetPolicy}
use Rattle.schedule_text.specs.Words.{split}
use Rattle.schedule_text.specs.Printed.{joined, commas, next_text, parents_text, replicas_text, spaced, quorum_text, near_text, entry_words, table_words, lane_text, lane_words}

-- what follows from what a call did, where it did it
pub on_ok : {T E A B : Type 0} (result : Result T E) → (A → B) → OnOk result A → OnOk result B
on_ok (Ok x) f a = f a
on_ok (Err e) f a = tt

-- ---- one piece more

-- there is a number
abbrev pub has_some : List ℕ → Bool
has_some [] = false
has_some (n ∷ ns) = true

commas_more : (ns : List ℕ) (n : ℕ) → commas (ns ++ n ∷ []) ≡ commas ns ++ next_text (has_some ns) true n
unfolding joined next_text
commas_more [] n = append-nil (decimal n)
commas_more (m ∷ ms) n =
    ap (λ (ts : List (List ℕ)). decimal m ++ flat_map (λ next. 44 ∷ next) ts) (map-append decimal ms (n ∷ []))
    ∙ ap (λ (t : List ℕ). decimal m ++ t) (flat_map-append (λ next. 44 ∷ next) (map decimal ms) (decimal n ∷ []))
    ∙ ap (λ (t : List ℕ). decimal m ++ (flat_map (λ next. 44 ∷ next) (map decimal ms) ++ 44 ∷ t)) (append-nil (decimal n))
    ∙ sym (append_assoc (decimal m) (flat_map (λ next. 44 ∷ next) (map decimal ms)) (44 ∷ decimal n))

-- the replicas below a centre
pub replicas_none : (set : DcSet) (text : List ℕ) → text ≡ text ++ commas (centres_below set 0)
unfolding joined
replicas_none set text = sym (ap (λ (ns : List ℕ). text ++ commas ns) (centres_below-zero set) ∙ append-nil text)

pub none_below : (set : DcSet) → false ≡ has_some (centres_below set 0)
none_below set = sym (ap (λ (ns : List ℕ). has_some ns) (centres_below-zero set))

pub replicas_more : (set : DcSet) (d : ℕ) (text before after : List ℕ) (some : Bool) → before ≡ text ++ commas (centres_below set d) → some ≡ has_some (centres_below set d)
    → after ≡ before ++ next_text some (has set d) d → after ≡ text ++ commas (centres_below set (d + 1))
unfolding next_text
replicas_more set d text before after some so_far is grown =
    grown ∙ ap (λ (b : Bool). before ++ next_text b (has set d) d) is ∙ ap (λ (t : List ℕ). t ++ next_text (has_some (centres_below set d)) (has set d) d) so_far
    ∙ append_assoc text (commas (centres_below set d)) (next_text (has_some (centres_below set d)) (has set d) d)
    ∙ ap (λ (t : List ℕ). text ++ t) (by_test (has set d)) ∙ ap (λ (ns : List ℕ). text ++ commas ns) (sym (centres_below-more set d))
  where
    by_test : (b : Bool) → commas (centres_below set d) ++ next_text (has_some (centres_below set d)) b d ≡ commas (centres_below set d ++ cond b (d ∷ []) [])
    by_test true = sym (commas_more (centres_below set d) d)
    by_test false = append-nil (commas (centres_below set d)) ∙ ap commas (sym (append-nil (centres_below set d)))

pub some_more : (set : DcSet) (d : ℕ) (some now : Bool) → some ≡ has_some (centres_below set d) → now ≡ (some || has set d) → now ≡ has_some (centres_below set (d + 1))
some_more set d some now is told =
    told ∙ ap (λ (b : Bool). b || has set d) is ∙ by_test (centres_below set d) (has set d) ∙ ap (λ (ns : List ℕ). has_some ns) (sym (centres_below-more set d))
  where
    by_test : (ns : List ℕ) (b : Bool) → (has_some ns || b) ≡ has_some (ns ++ cond b (d ∷ []) [])
    by_test [] true = refl
    by_test [] false = refl
    by_test (n ∷ ns) b = refl

pub replicas_all : (set : DcSet) (d : ℕ) (text : List ℕ) → d ≡ 16 → text ++ commas (centres_below set d) ≡ text ++ replicas_text set
replicas_all set d text is = ap (λ (n : ℕ). text ++ commas (centres_below set n)) is ∙ ap (λ (ns : List ℕ). text ++ commas ns) (sym (centres_of-is set))

-- the parents of hops, from the first on
pub parents_from : (hops : List Hop) (first : Hop) (rest : List Hop) (text before after : List ℕ) → hops ≡ first ∷ rest → before ≡ text ++ decimal first.parent.0
    → after ≡ before ++ flat_map (λ hop. 44 ∷ decimal hop.parent.0) rest → after ≡ text ++ parents_text hops
unfolding joined
parents_from hops first rest text before after are led grown =
    grown ∙ ap (λ (t : List ℕ). t ++ flat_map (λ (hop : Hop). 44 ∷ decimal hop.parent.0) rest) led
    ∙ append_assoc text (decimal first.parent.0) (flat_map (λ (hop : Hop). 44 ∷ decimal hop.parent.0) rest)
    ∙ ap (λ (t : List ℕ). text ++ (decimal first.parent.0 ++ t)) (sym (flat_map-map (λ next. 44 ∷ next) (λ (h : Hop). decimal h.parent.0) rest) ∙ ap (λ (ts : List (List ℕ)). flat_map (λ next. 44 ∷ next) ts) (maps rest))
    ∙ ap (λ (hs : List Hop). text ++ parents_text hs) (sym are)
  where
    maps : (hops : List Hop) → map (λ (h : Hop). decimal h.parent.0) hops ≡ map decimal (map (λ (h : Hop). h.parent.0) hops)
    maps [] = refl
    maps (h ∷ hs) = ap (λ (ts : List (List ℕ)). decimal h.parent.0 ∷ ts) (maps hs)

pub parents_over : (hops : List Hop) (text : List ℕ) → hops ≡ [] → text ≡ text ++ parents_text hops
unfolding joined
parents_over hops text none = sym (ap (λ (hs : List Hop). text ++ parents_text hs) none ∙ append-nil text)

-- the entries of a table, from the first on
pub entries_from_first : (table : List SetPolicy) (first : SetPolicy) (rest : List SetPolicy) (text before after : List ℕ) → table ≡ first ∷ rest → before ≡ text ++ spaced (entry_words first)
    → after ≡ before ++ flat_map (λ next. codes " ;" ++ spaced (entry_words next)) rest → after ≡ text ++ spaced (table_words table)
unfolding joined
entries_from_first table first rest text before after are led grown =
    grown ∙ ap (λ (t : List ℕ). t ++ flat_map (λ (next : SetPolicy). codes " ;" ++ spaced (entry_words next)) rest) led
    ∙ append_assoc text (spaced (entry_words first)) (flat_map (λ (next : SetPolicy). codes " ;" ++ spaced (entry_words next)) rest)
    ∙ ap (λ (t : List ℕ). text ++ (spaced (entry_words first) ++ t)) (later rest)
    ∙ ap (λ (t : List ℕ). text ++ t) (sym (flat_map-append (λ word. 32 ∷ word) (entry_words first) (flat_map (λ next. codes ";" ∷ next) (map entry_words rest))))
    ∙ ap (λ (entries : List SetPolicy). text ++ spaced (table_words entries)) (sym are)
  where
    later : (table : List SetPolicy) → flat_map (λ next. codes " ;" ++ spaced (entry_words next)) table ≡ spaced (flat_map (λ next. codes ";" ∷ next) (map entry_words table))
    later [] = refl
    later (next ∷ rest) =
        ap (λ (t : List ℕ). (codes " ;" ++ spaced (entry_words next)) ++ t) (later rest)
        ∙ sym (flat_map-append (λ word. 32 ∷ word) (codes ";" ∷ entry_words next) (flat_map (λ next. codes ";" ∷ next) (map entry_words rest)))

pub entries_over : (table : List SetPolicy) (text : List ℕ) → table ≡ [] → text ≡ text ++ spaced (table_words table)
unfolding joined
entries_over table text none = sym (ap (λ (entries : List SetPolicy). text ++ spaced (table_words entries)) none ∙ append-nil text)

-- the members of a policy, each behind a space
pub quorums_all : (members : List Quorum) (i : ℕ) (text after : List ℕ) → length members ≤ i → after ≡ text ++ flat_map (λ q. 32 ∷ quorum_text q) (take i members) → after ≡ text ++ spaced (map quorum_text members)
quorums_all members i text after past so_far =
    so_far ∙ ap (λ (qs : List Quorum). text ++ flat_map (λ q. 32 ∷ quorum_text q) qs) (take_all i members past) ∙ ap (λ (t : List ℕ). text ++ t) (sym (flat_map-map (λ word. 32 ∷ word) quorum_text members))

pub nears_all : (primary : List Near) (i : ℕ) (text after : List ℕ) → length primary ≤ i → after ≡ text ++ flat_map (λ near. 32 ∷ near_text near) (take i primary) → after ≡ text ++ spaced (map near_text primary)
nears_all primary i text after past so_far =
    so_far ∙ ap (λ (ns : List Near). text ++ flat_map (λ near. 32 ∷ near_text near) ns) (take_all i primary past) ∙ ap (λ (t : List ℕ). text ++ t) (sym (flat_map-map (λ word. 32 ∷ word) near_text primary))

-- the members of a relay policy that are left, with their hops
pub lanes_none : (count : ℕ) (hops : List Hop) (primary : List Near) (i : ℕ) (text whole : List ℕ) → length primary ≤ i → text ++ spaced (lane_words count hops (drop i primary)) ≡ whole → text ≡ whole
unfolding lane_words
lanes_none count hops primary i text whole past so_far =
    sym (append-nil text) ∙ ap (λ (nears : List Near). text ++ spaced (lane_words count hops nears)) (sym (drop_of_length-le primary past)) ∙ so_far

pub lanes_more : (count own : ℕ) (hops : List Hop) (primary : List Near) (i : ℕ) (near d : Near) (before after whole : List ℕ) (front back : List Hop) → i < length primary → near ≡ slice_index_or primary i d → own ≡ min count (length hops)
    → front ≡ take own hops → back ≡ drop own hops → before ++ spaced (lane_words count hops (drop i primary)) ≡ whole → after ≡ before ++ 32 ∷ lane_text near front → after ++ spaced (lane_words count back (drop (i + 1) primary)) ≡ whole
unfolding lane_words
lanes_more count own hops primary i near d before after whole front back within is few fronts backs so_far grown =
    let nears = drop (i + 1) primary in
    let here : drop i primary ≡ near ∷ nears = (let e = drop-cons primary i d within in rw add-one (e ∙ ap (λ (n : Near). n ∷ drop (suc i) primary) (sym is))) in
    let left : back ≡ drop count hops = backs ∙ rw few (drop_min count hops) in
    let mine : front ≡ take count hops = fronts ∙ rw few (take_min count hops) in
    ap (λ (t : List ℕ). t ++ spaced (lane_words count back nears)) grown
    ∙ append_assoc before (32 ∷ lane_text near front) (spaced (lane_words count back nears))
    ∙ ap (λ (hs : List Hop). before ++ ((32 ∷ lane_text near hs) ++ spaced (lane_words count back nears))) mine
    ∙ ap (λ (hs : List Hop). before ++ ((32 ∷ lane_text near (take count hops)) ++ spaced (lane_words count hs nears))) left
    ∙ ap (λ (ns : List Near). before ++ spaced (lane_words count hops ns)) (sym here) ∙ so_far
  where
    drop_min : (n : ℕ) (xs : List Hop) → drop (min n (length xs)) xs ≡ drop n xs
    drop_min n xs = by_test (nat_le n (length xs)) refl
      where
        by_test : (b : Bool) → nat_le n (length xs) ≡ b → drop (min n (length xs)) xs ≡ drop n xs
        by_test true is = let low = leb-true n (length xs) is in let e : min n (length xs) ≡ n = omega (arith, low) in rw e refl
        by_test false is =
            let past : length xs ≤ n = grind arith in
            let e : min n (length xs) ≡ length xs = omega (arith, past) in
            rw e (drop-length xs ∙ sym (drop_of_length-le xs past))

-- ---- the pieces again

-- no item of the list passes
abbrev pub AreFree : {A : Type 0} → (A → Bool) → List A → Type 0
AreFree ends [] = Unit {0}
AreFree ends (item ∷ items) = (ends item ≡ false) × AreFree ends items

abbrev pub AllFree : {A : Type 0} → (A → Bool) → List (List A) → Type 0
AllFree ends [] = Unit {0}
AllFree ends (piece ∷ pieces) = AreFree ends piece × AllFree ends pieces

pub free_append : {A : Type 0} (ends : A → Bool) (xs ys : List A) → AreFree ends xs → AreFree ends ys → AreFree ends (xs ++ ys)
free_append ends [] ys h i = i
free_append ends (x ∷ xs) ys h i = (h.0, free_append ends xs ys h.1 i)

split_end : {A : Type 0} (ends : A → Bool) (piece : List A) → AreFree ends piece → split ends piece ≡ piece ∷ []
unfolding split
split_end ends [] free = refl
split_end ends (x ∷ xs) free = rw free.0 (rw (split_end ends xs free.1) refl)

split_at_item : {A : Type 0} (ends : A → Bool) (item : A) (piece rest : List A) → ends item ≡ true → AreFree ends piece → split ends (piece ++ item ∷ rest) ≡ piece ∷ split ends rest
unfolding split
split_at_item ends item [] rest is free = rw is refl
split_at_item ends item (x ∷ xs) rest is free = rw free.0 (rw (split_at_item ends item xs rest is free.1) refl)

-- pieces without the item fall apart as they were joined
pub split_joined : {A : Type 0} (ends : A → Bool) (item : A) (piece : List A) (pieces : List (List A)) → ends item ≡ true → AllFree ends (piece ∷ pieces)
    → split ends (joined item (piece ∷ pieces)) ≡ piece ∷ pieces
unfolding joined
split_joined ends item piece [] is free = ap (split ends) (append-nil piece) ∙ split_end ends piece free.0
split_joined {A} ends item piece (next ∷ pieces) is free =
    split_at_item ends item piece (joined item (next ∷ pieces)) is free.0 ∙ ap (λ (ps : List (List A)). piece ∷ ps) (split_joined ends item next pieces is free.1)
