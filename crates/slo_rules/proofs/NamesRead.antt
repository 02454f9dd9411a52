-- The names that a policy's lines spell are read back.
use Rattle.std.proofs.Common.{◌≡◌, ℕ, zero, suc, ◌+◌, ◌<◌, ◌≤◌, true, false, cond, if◌then◌else◌, ◌&&◌, ◌==◌, List, [], ◌∷◌, ◌++◌, length, map, take, drop, get_or, nat_eq, Option, Some, Ok, Err, refl, sym, ap, ◌∙◌, arith}
use Rattle.std.specs.Prelude.{codes, nat_lt, nat_le, option_map}
use Rattle.std.specs.List.{list_all, prefix_len, starts_with, position, position_or_len, IsDistinct}
use Rattle.std.specs.Cmp.Lexicographic.{pointwise}
use Rattle.std.proofs.lemmas.Bool.{and_parts, ltb-true, leb-true, lt-ltb, eq-eqb, ne_eqb}
use Rattle.std.proofs.lemmas.Cmp.{nat_list_eq_equiv}
use Rattle.std.proofs.Math.ListN.{get_or-map}
use Rattle.std.proofs.Math.Seq.{take-append_seam, drop-append_seam}
use Rattle.std.proofs.lemmas.List.{length-map}
use Rattle.std.proofs.lemmas.List.Sums.{position_or_len_is}
use Rattle.std.proofs.lemmas.Map.Keys.{apart_from_distinct}
use Rattle.span_base.specs.Name.{IsName, is_name_byte}
use Rattle.span_base.specs.declared.ids.DcId.{DcId}
use Rattle.price_tables.specs.declared.prices.Centre.{Centre}
use Rattle.price_tables.specs.Tables.{no_centre}
use Rattle.workload.specs.World.{Lists, centre_count, name_of, IsNamed}
use Rattle.slo_rules.specs.PolicyLines.{◌>>=◌, behind, name_len, name_at, centre_named, centre_at}

-- no name goes on with this text
abbrev pub Stops : List ℕ → Type 0
Stops [] = Unit {0}
Stops (c ∷ rest) = is_name_byte c ≡ false

none_left : (n : ℕ) (ys : List ℕ) → Stops ys → prefix_len is_name_byte (take n ys) ≡ 0
none_left zero ys stops = refl
none_left (suc n) [] stops = refl
none_left (suc n) (c ∷ ys) stops = ap (λ b. cond b (1 + prefix_len is_name_byte (take n ys)) 0) stops

-- the name's bytes are counted, and no more
pub name_counts : (n : ℕ) (xs ys : List ℕ) → list_all is_name_byte xs ≡ true → length xs ≤ n → Stops ys → prefix_len is_name_byte (take n (xs ++ ys)) ≡ length xs
name_counts n [] ys all few stops = none_left n ys stops
name_counts zero (x ∷ xs) ys all few stops = absurd (omega arith)
name_counts (suc n) (x ∷ xs) ys all few stops =
    let parts = and_parts (is_name_byte x) (list_all is_name_byte xs) all in
    let rest : prefix_len is_name_byte (take n (xs ++ ys)) ≡ length xs = name_counts n xs ys parts.1 (omega arith) stops in
    let first : prefix_len is_name_byte (take (suc n) ((x ∷ xs) ++ ys)) ≡ 1 + prefix_len is_name_byte (take n (xs ++ ys)) = ap (λ b. cond b (1 + prefix_len is_name_byte (take n (xs ++ ys))) 0) parts.0 in
    omega arith

-- how a name is spelled
pub record Spelled (name : List ℕ) : Type 0 where
  pub bytes : list_all is_name_byte name ≡ true
  pub some : 0 < length name
  pub few : length name ≤ 32

pub spelled : (name : List ℕ) → IsName name → Spelled name
spelled name is =
    let a = and_parts (list_all is_name_byte name) (nat_lt 0 (length name) && nat_le (length name) 32) is in
    let b = and_parts (nat_lt 0 (length name)) (nat_le (length name) 32) a.1 in
    record { bytes = a.0; some = ltb-true 0 (length name) b.0; few = leb-true (length name) 32 b.1 }

-- a name is read back
name_reads : (w : Lists) (name rest : List ℕ) → IsName name → Stops rest → name_at w (name ++ rest) ≡ Ok (centre_named w name, rest)
unfolding name_at
name_reads w name rest is stops =
    let s = spelled name is in
    let len : name_len (name ++ rest) ≡ length name = name_counts 32 name rest s.bytes s.few stops in
    let some : (length name == 0) ≡ false = ne_eqb (length name) 0 (λ e. let h = s.some in omega arith) in
    ap (λ n. if n == 0 then Err (length (name ++ rest)) else Ok (centre_named w (take n (name ++ rest)), drop n (name ++ rest))) len
    ∙ ap (λ b. if b then Err (length (name ++ rest)) else Ok (centre_named w (take (length name) (name ++ rest)), drop (length name) (name ++ rest))) some
    ∙ (λ i. Ok (centre_named w (take-append_seam name rest i), drop-append_seam name rest i))

-- a word is passed where it stands
pub word_passes : (word rest : List ℕ) → behind word (word ++ rest) ≡ Ok rest
unfolding behind
word_passes [] rest = refl
word_passes (c ∷ word) rest =
    ap (λ b. if b then behind word (word ++ rest) else Err (length (word ++ rest) + 1)) (eq-eqb c c refl) ∙ word_passes word rest

-- the place of the name at i is i
place_of : (names : List (List ℕ)) (i : ℕ) → IsDistinct (pointwise nat_eq) names → i < length names → position (pointwise nat_eq (get_or names i [])) names ≡ Some i
place_of names i distinct within = go (position_or_len_is (pointwise nat_eq name) names i [] (omega arith) others (λ h. nat_list_eq_equiv.refl name))
  where
    name : List ℕ
    name = get_or names i []

    others : (k : ℕ) → k < i → pointwise nat_eq name (get_or names k []) ≡ false
    others k low = nat_list_eq_equiv.symm name (get_or names k []) ∙ apart_from_distinct (pointwise nat_eq) names k i [] distinct low within

    go : position_or_len (pointwise nat_eq name) names ≡ i → position (pointwise nat_eq name) names ≡ Some i
    go e = rw (e, lt-ltb i (length names) within) refl

-- a centre is found by its name
pub centre_found : (w : Lists) (d : ℕ) → IsNamed w → d < centre_count w → centre_named w (name_of w d) ≡ Some (record { 0 = d })
centre_found w d named low =
    let names : List (List ℕ) = map (λ (c : Centre). c.name) w.centres in
    let is : get_or names d [] ≡ name_of w d = get_or-map (λ (c : Centre). c.name) w.centres d no_centre in
    let found : position (pointwise nat_eq (get_or names d [])) names ≡ Some d = place_of names d named.distinct (let n : length names ≡ length w.centres = length-map w.centres (λ (c : Centre). c.name) in omega arith) in
    let at : position (pointwise nat_eq (name_of w d)) names ≡ Some d = ap (λ n. position (pointwise nat_eq n) names) (sym is) ∙ found in
    let number : ℕ → DcId = λ dc. record { 0 = dc } in
    ap (option_map number) at

-- a centre of the world has a name
pub is_named : (w : Lists) (d : ℕ) → IsNamed w → d < centre_count w → IsName (name_of w d)
is_named w d named low = named.names d no_centre low

-- no name begins with a semicolon
pub first_byte : (name rest : List ℕ) → IsName name → starts_with nat_eq (codes " " ++ (name ++ rest)) (codes " ;") ≡ false
first_byte [] rest is = absurd (let h = (spelled [] is).some in omega arith)
first_byte (c ∷ name) rest is =
    let fits : is_name_byte c ≡ true = (and_parts (is_name_byte c) (list_all is_name_byte name) (spelled (c ∷ name) is).bytes).0 in
    ap (λ b. b && true) (ne_eqb 59 c (λ e. let f : is_name_byte 59 ≡ true = ap is_name_byte e ∙ fits in cc))

-- a space and a name are read back
pub centre_reads : (w : Lists) (d : ℕ) (rest : List ℕ) → IsNamed w → d < centre_count w → Stops rest → centre_at w (codes " " ++ (name_of w d ++ rest)) ≡ Ok (Some (record { 0 = d }), rest)
unfolding centre_at
centre_reads w d rest named low stops =
    ap (λ r. r >>= name_at w) (word_passes (codes " ") (name_of w d ++ rest))
    ∙ name_reads w (name_of w d) rest (is_named w d named low) stops
    ∙ ap (λ (c : Option DcId). Ok (c, rest)) (centre_found w d named low)
