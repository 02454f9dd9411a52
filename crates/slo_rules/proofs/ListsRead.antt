-- A list of centres that a policy's line spells is read back.
use Rattle.std.proofs.Common.{◌≡◌, ℕ, zero, suc, ◌+◌, ◌<◌, ◌≤◌, ◌^◌, inl, inr, Bool, true, false, cond, if◌then◌else◌, ◌&&◌, nat_lt, List, [], ◌∷◌, ◌++◌, length, Some, Ok, Err, refl, sym, ap, subst, ◌∙◌, append_assoc, length-append, arith}
use Rattle.std.specs.Prelude.{codes, Result, IsTrue}
use Rattle.std.specs.List.{All, flat_map, filter, range_with_len, list_all}
use Rattle.std.proofs.lemmas.Bool.{lt-ltb, ltb-true, le-ltb, and_parts, ne_eqb, cases_eq, cases_lt}
use Rattle.std.proofs.lemmas.Nat.{or_lt}
use Rattle.std.proofs.Math.Pow.{pow-lt}
use Rattle.std.proofs.lemmas.List.Elements.{All-head, All-tail}
use Rattle.span_base.specs.declared.dc_set.DcSet.{DcSet}
use Rattle.span_base.specs.DcSet.{bits_of, has, centres_of, centres_below, no_centre as no_dc, insert}
use Rattle.span_base.proofs.Sets.{has-no_centre, has-insert_same, has-insert_other, same_set, All-centres_of}
use Rattle.workload.specs.World.{Lists, centre_count, name_of, IsNamed}
use Rattle.slo_rules.specs.Rules.{lies_below}
use Rattle.slo_rules.specs.declared.policy_line.PolicyFault.{PolicyFault}
use Rattle.slo_rules.specs.declared.policy_line.PolicyFault.TheVariants.{Order}
use Rattle.slo_rules.specs.PolicyLines.{centres_at, with_centre, is_over}
use Rattle.slo_rules.proofs.CentreLists.{one_more}
use Rattle.slo_rules.proofs.NamesRead.{Stops, centre_reads, is_named, first_byte}

-- the centres so far and more, one after another
abbrev pub with_centres : Result DcSet PolicyFault → List ℕ → Result DcSet PolicyFault
with_centres so_far [] = so_far
with_centres so_far (d ∷ ds) = with_centres (with_centre so_far (Some (record { 0 = d }))) ds

-- names, each behind a space
abbrev pub spaced : Lists → List ℕ → List ℕ
spaced w ds = flat_map (λ dc. codes " " ++ name_of w dc) ds

-- a list goes on where a name follows
goes_on : (w : Lists) (closed : Bool) (d : ℕ) (rest : List ℕ) → IsNamed w → d < centre_count w → is_over closed (codes " " ++ (name_of w d ++ rest)) ≡ false
goes_on w false d rest named low = ne_eqb (length (codes " " ++ (name_of w d ++ rest))) 0 (λ e. absurd (omega arith))
goes_on w true d rest named low = first_byte (name_of w d) rest (is_named w d named low)

-- all names of a list are read back
pub list_reads : (w : Lists) (closed : Bool) (most : ℕ) (so_far : Result DcSet PolicyFault) (d : ℕ) (ds rest : List ℕ) → IsNamed w → All (λ c. c < centre_count w) (d ∷ ds)
    → length (spaced w (d ∷ ds) ++ rest) ≤ most → is_over closed rest ≡ true → Stops rest
    → centres_at w closed most so_far (spaced w (d ∷ ds) ++ rest) ≡ Ok (with_centres so_far (d ∷ ds), rest)
list_reads w closed zero so_far d ds rest named low enough over stops = absurd (let h : length (spaced w (d ∷ ds) ++ rest) ≤ 0 = enough in omega arith)
list_reads w closed (suc most) so_far d [] rest named low enough over stops =
    let same : spaced w (d ∷ []) ++ rest ≡ codes " " ++ (name_of w d ++ rest) = append_assoc (codes " " ++ name_of w d) [] rest in
    ap (centres_at w closed (suc most) so_far) same
    ∙ one_more w closed most so_far (codes " " ++ (name_of w d ++ rest)) (Some (record { 0 = d })) rest true (centre_reads w d rest named (All-head (λ c. c < centre_count w) d [] low) stops) over
list_reads w closed (suc most) so_far d (e ∷ ds) rest named low enough over stops =
    let tail = All-tail (λ c. c < centre_count w) d (e ∷ ds) low in
    let low_d : d < centre_count w = All-head (λ c. c < centre_count w) d (e ∷ ds) low in
    let low_e : e < centre_count w = All-head (λ c. c < centre_count w) e ds tail in
    let more : List ℕ = spaced w (e ∷ ds) ++ rest in
    let text : List ℕ = codes " " ++ (name_of w d ++ more) in
    let same : spaced w (d ∷ e ∷ ds) ++ rest ≡ text = append_assoc (codes " " ++ name_of w d) (spaced w (e ∷ ds)) rest in
    let next : more ≡ codes " " ++ (name_of w e ++ (spaced w ds ++ rest)) = append_assoc (codes " " ++ name_of w e) (spaced w ds) rest in
    let on : is_over closed more ≡ false = ap (is_over closed) next ∙ goes_on w closed e (spaced w ds ++ rest) named low_e in
    let shorter : length more ≤ most = let h : length text ≤ suc most = subst (λ (t : List ℕ). length t ≤ suc most) same enough in omega (arith, length-append (codes " ") (name_of w d ++ more), length-append (name_of w d) more) in
    ap (centres_at w closed (suc most) so_far) same
    ∙ one_more w closed most so_far text (Some (record { 0 = d })) more false (centre_reads w d more named low_d refl) on
    ∙ list_reads w closed most (with_centre so_far (Some (record { 0 = d }))) e ds rest named tail shorter over stops

-- the centres of a set that are below a number, as a set of 16 bits
record IsFront (s : DcSet) (a : ℕ) (t : DcSet) : Type 0 where
  bits : bits_of t < 2 ^ 16
  centres : (d : ℕ) → has t d ≡ (has s d && nat_lt d a)

lies : (t : DcSet) (a : ℕ) (ds : List ℕ) → ((d : ℕ) → has t d ≡ true → d < a) → All (λ d. IsTrue (has t d)) ds → list_all (λ dc. nat_lt dc a) ds ≡ true
lies t a [] low all = refl
lies t a (d ∷ ds) low all =
    ap (λ b. b && list_all (λ dc. nat_lt dc a) ds) (lt-ltb d a (low d (All-head (λ d. IsTrue (has t d)) d ds all)))
    ∙ lies t a ds low (All-tail (λ d. IsTrue (has t d)) d ds all)

front_lies : (s : DcSet) (a : ℕ) (t : DcSet) → IsFront s a t → lies_below a t ≡ true
front_lies s a t f = lies t a (centres_of t) (λ d h. ltb-true d a (and_parts (has s d) (nat_lt d a) (sym (f.centres d) ∙ h)).1) (All-centres_of t)

-- a number apart from `a` is below `a` where it is below the next one
apart : (a d : ℕ) → (d ≡ a → ⊥) → nat_lt d a ≡ nat_lt d (a + 1)
apart a d ne = elim (cases_lt d a) [
  | inl below ↦ lt-ltb d a below ∙ sym (lt-ltb d (a + 1) (omega arith))
  | inr past ↦ le-ltb d a past ∙ sym (le-ltb d (a + 1) (omega arith))
]

-- a front and the next centre
front_with : (s : DcSet) (a : ℕ) (t : DcSet) → a < 16 → has s a ≡ true → IsFront s a t → IsFront s (a + 1) (insert t a)
front_with s a t low there f = record {
  bits = or_lt 16 (bits_of t) (2 ^ a) f.bits (pow-lt low);
  centres = λ d. elim (cases_eq d a) [
    | inl same ↦
        let here : nat_lt a (a + 1) ≡ true = lt-ltb a (a + 1) (omega arith) in
        let P : ℕ → Type 0 = λ n. has (insert t a) n ≡ (has s n && nat_lt n (a + 1)) in
        let at : P a = has-insert_same t a low ∙ sym (ap (λ b. b && nat_lt a (a + 1)) there ∙ here) in
        subst P (sym same) at
    | inr other ↦ has-insert_other t a d other ∙ f.centres d ∙ ap (λ b. has s d && b) (apart a d other)
  ];
}

front_without : (s : DcSet) (a : ℕ) (t : DcSet) → has s a ≡ false → IsFront s a t → IsFront s (a + 1) t
front_without s a t absent f = record {
  bits = f.bits;
  centres = λ d. elim (cases_eq d a) [
    | inl same ↦
        let none : has s d ≡ false = ap (has s) same ∙ absent in
        f.centres d ∙ ap (λ b. b && nat_lt d a) none ∙ sym (ap (λ b. b && nat_lt d (a + 1)) none)
    | inr other ↦ f.centres d ∙ ap (λ b. has s d && b) (apart a d other)
  ];
}

and_true : (b : Bool) → (b && true) ≡ b
and_true true = refl
and_true false = refl

and_false : (b : Bool) → (b && false) ≡ false
and_false true = refl
and_false false = refl

set_from : (s : DcSet) (n a : ℕ) (t : DcSet) → bits_of s < 2 ^ 16 → a + n ≡ 16 → IsFront s a t → with_centres (Ok t) (filter (has s) (range_with_len a n)) ≡ Ok s
set_from s zero a t low end f =
    ap Ok (same_set t s f.bits low (λ d inside. f.centres d ∙ ap (λ b. has s d && b) (lt-ltb d a (omega arith)) ∙ and_true (has s d)))
set_from s (suc n) a t low end f = go (has s a) refl (λ u g. set_from s n (a + 1) u low (omega arith) g)
  where
    rest : List ℕ
    rest = filter (has s) (range_with_len (a + 1) n)

    go : (b : Bool) → has s a ≡ b → ((u : DcSet) → IsFront s (a + 1) u → with_centres (Ok u) rest ≡ Ok s) → with_centres (Ok t) (cond b (a ∷ rest) rest) ≡ Ok s
    go true there more =
        ap (λ b. with_centres (if b then Ok (insert t a) else Err Order) rest) (front_lies s a t f)
        ∙ more (insert t a) (front_with s a t (omega arith) there f)
    go false absent more = more t (front_without s a t absent f)

-- a set of 16 bits is read back from its centres
pub set_reads : (s : DcSet) → bits_of s < 2 ^ 16 → with_centres (Ok no_dc) (centres_of s) ≡ Ok s
unfolding centres_of centres_below
set_reads s low = set_from s 16 0 no_dc low refl (record { bits = omega arith; centres = λ d. has-no_centre d ∙ sym (ap (λ b. has s d && b) (le-ltb d 0 (omega arith)) ∙ and_false (has s d)) })
