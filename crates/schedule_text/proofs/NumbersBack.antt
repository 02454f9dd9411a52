-- Numbers, values and sets of replicas that are printed say what they were printed of.
use Rattle.std.proofs.Common.{◌≡◌, ◌≢◌, ℕ, zero, suc, ◌+◌, ◌/◌, ◌%◌, ◌<◌, ◌≤◌, ◌^◌, ◌==◌, Bool, true, false, cond, ◌&&◌, List, [], ◌∷◌, length, Option, Some, None, Result, Ok, refl, sym, ap, subst, ◌∙◌, arith}
use Rattle.std.specs.Prelude.{codes, map, slice_index}
use Rattle.std.specs.List.{All, list_all, filter, range_with_len}
use Rattle.std.specs.Fmt.{decimal}
use Rattle.std.proofs.lemmas.Bool.{and_from, eqb-true, le-leb, lt-ltb}
use Rattle.std.proofs.lemmas.List.Elements.{All-head, All-tail}
use Rattle.std.proofs.lemmas.List.Sums.{AllPass-from_list_all}
use Rattle.std.proofs.lemmas.Nat.{or_lt}
use Rattle.std.proofs.Math.Pow.{pow-lt}
use Rattle.hex.specs.Hex.{encode_lower, encode_with, lower_digits, IsBytes}
use Rattle.hex.proofs.HexLemmas.{decode_of-encode_lower, length-encode_with}
use Rattle.span_base.specs.DcSet.{has, bits_of, insert, no_centre, centres_of, centres_below}
use Rattle.span_base.specs.declared.dc_set.DcSet.{DcSet}
use Rattle.span_base.specs.declared.ids.DcId.{DcId}
use Rattle.span_base.specs.declared.words.What.{What}
use Rattle.span_base.specs.declared.words.What.TheVariants as what
use Rattle.span_base.proofs.Spelling.{decimal_reads}
use Rattle.span_base.proofs.Sets.{has-insert_same, has-insert_other, has-no_centre, same_set}
use Rattle.run_marks.specs.Text.{value_text}
use Rattle.schedule_text.specs.declared.flaw.Flaw.{Flaw}
use Rattle.schedule_text.specs.Words.{is_word, split_at}
use Rattle.schedule_text.specs.Numbers.{spelled, number_says, count_says, centre_says, replica_says, rises, next_replica, with_replica, replicas_from, replicas_say, is_lower_digit, value_says}
use Rattle.schedule_text.specs.Printed.{commas, replicas_text}
use Rattle.schedule_text.specs.Spellable.{AreReplicas, IsSpelledValue}
use Rattle.schedule_text.proofs.Joining.{split_joined}
use Rattle.schedule_text.proofs.Bytes.{AllBelow, all_free, digits_of_each}
use Rattle.std.specs.Char.{is_ascii_digit}

-- ---- numbers

pub number_back : (limit : What) (most n : ℕ) → most < 10 ^ 38 → n ≤ most → number_says limit most (decimal n) ≡ Ok n
unfolding number_says spelled
number_back limit most n wide low = let it = decimal_reads n (omega (arith, wide, low)) in rw it.0 (rw it.1 (rw (le-leb n most low) refl))

pub count_back : (n : ℕ) → n < 2 ^ 32 → count_says (decimal n) ≡ Ok n
count_back n low = number_back what.Number 4294967295 n (omega arith) (omega (arith, low))

pub centre_back : (centre : DcId) → centre.0 < 16 → centre_says (decimal centre.0) ≡ Ok centre
unfolding centre_says
centre_back centre low = rw (number_back what.Centres 15 centre.0 (omega arith) (omega (arith, low))) refl

pub replica_back : (replicas d : ℕ) → replicas ≤ 16 → d < replicas → replica_says replicas (decimal d) ≡ Ok (record { 0 = d })
unfolding replica_says
replica_back replicas d few low = rw (centre_back (record { 0 = d }) (omega (arith, few, low))) (rw (lt-ltb d replicas low) refl)

spelled_back : (d : ℕ) → d < 10 ^ 38 → spelled (decimal d) ≡ Some d
unfolding spelled
spelled_back d low = let it = decimal_reads d low in rw it.0 (rw it.1 refl)

-- ---- values

lower_at : (d : ℕ) → d < 16 → is_lower_digit (slice_index lower_digits d) ≡ true
lower_at d small = AllPass-from_list_all is_lower_digit lower_digits refl d 0 small

all_lower : (bytes : List ℕ) → IsBytes bytes → list_all is_lower_digit (encode_lower bytes) ≡ true
unfolding encode_with
all_lower [] h = refl
all_lower (b ∷ bs) h = let small : b < 256 = h 0 in and_from _ _ (lower_at (b / 16) (omega arith)) (and_from _ _ (lower_at (b % 16) (omega arith)) (all_lower bs (λ i. h (suc i))))

-- digits are no hyphen
no_hyphen : (bytes : List ℕ) → is_word (encode_lower bytes) (codes "-") ≡ false
unfolding encode_with
no_hyphen [] = refl
no_hyphen (c ∷ cs) = by_test (slice_index lower_digits (c / 16) == 45)
  where
    by_test : (t : Bool) → (t && false) ≡ false
    by_test true = refl
    by_test false = refl

pub value_back : (value : List ℕ) → IsSpelledValue value → value_says (value_text value) ≡ Ok value
unfolding value_says
value_back [] fits = refl
value_back (b ∷ bs) fits =
    let n = length-encode_with lower_digits (b ∷ bs) in
    let few = fits.few in
    rw (no_hyphen (b ∷ bs)) (rw (le-leb 2 (length (encode_lower (b ∷ bs))) (omega (arith, n))) (rw (le-leb (length (encode_lower (b ∷ bs))) 8192 (omega (arith, n, few)))
    (rw (all_lower (b ∷ bs) fits.bytes) (rw (decode_of-encode_lower (b ∷ bs) fits.bytes) refl))))

-- ---- sets of replicas

-- the set with these centres too
abbrev inserted : DcSet → List ℕ → DcSet
inserted set [] = set
inserted set (d ∷ ds) = inserted (insert set d) ds

-- centres that rise from behind this one
abbrev Rise : Option ℕ → List ℕ → Type 0
Rise before [] = Unit {0}
Rise None (d ∷ ds) = Rise (Some d) ds
Rise (Some b) (d ∷ ds) = (b < d) × Rise (Some d) ds

-- the next replica of a list
next_back : (replicas : ℕ) (before : Option ℕ) (set : DcSet) (d : ℕ) → rises before (Some d) ≡ true → replicas ≤ 16 → d < replicas → with_replica (Ok set) (next_replica replicas before (decimal d)) ≡ Ok (insert set d)
next_back replicas before set d rise few low = rw (spelled_back d (omega (arith, few, low))) (rw rise (rw (replica_back replicas d few low) refl))

one_more : (replicas : ℕ) (before : Option ℕ) (set : DcSet) (d : ℕ) (texts : List (List ℕ)) → rises before (Some d) ≡ true → replicas ≤ 16 → d < replicas
    → replicas_from replicas before (Ok set) (decimal d ∷ texts) ≡ replicas_from replicas (Some d) (Ok (insert set d)) texts
unfolding replicas_from
one_more replicas before set d texts rise few low =
    ap (λ (o : Option ℕ). replicas_from replicas o (with_replica (Ok set) (next_replica replicas before (decimal d))) texts) (spelled_back d (omega (arith, few, low)))
    ∙ ap (λ (r : Result DcSet Flaw). replicas_from replicas (Some d) r texts) (next_back replicas before set d rise few low)

from_back : (replicas : ℕ) (before : Option ℕ) (set : DcSet) (ds : List ℕ) → replicas ≤ 16 → Rise before ds → AllBelow replicas ds → replicas_from replicas before (Ok set) (map decimal ds) ≡ Ok (inserted set ds)
unfolding replicas_from
from_back replicas before set [] few rise low = refl
from_back replicas None set (d ∷ ds) few rise low = one_more replicas None set d (map decimal ds) refl few low.0 ∙ from_back replicas (Some d) (insert set d) ds few rise low.1
from_back replicas (Some b) set (d ∷ ds) few rise low = one_more replicas (Some b) set d (map decimal ds) (lt-ltb b d rise.0) few low.0 ∙ from_back replicas (Some d) (insert set d) ds few rise.1 low.1

-- the centres of a set from one on
rise_behind : (s : DcSet) (k n b : ℕ) → b < k → Rise (Some b) (filter (has s) (range_with_len k n))
rise_behind s k zero b past = tt
rise_behind s k (suc n) b past = by_test (has s k) (rise_behind s (k + 1) n k (omega arith)) (rise_behind s (k + 1) n b (omega (arith, past)))
  where
    by_test : (there : Bool) → Rise (Some k) (filter (has s) (range_with_len (k + 1) n)) → Rise (Some b) (filter (has s) (range_with_len (k + 1) n))
        → Rise (Some b) (cond there (k ∷ filter (has s) (range_with_len (k + 1) n)) (filter (has s) (range_with_len (k + 1) n)))
    by_test true h i = (past, h)
    by_test false h i = i

rise_all : (s : DcSet) (k n : ℕ) → Rise None (filter (has s) (range_with_len k n))
rise_all s k zero = tt
rise_all s k (suc n) = by_test (has s k) (rise_behind s (k + 1) n k (omega arith)) (rise_all s (k + 1) n)
  where
    by_test : (there : Bool) → Rise (Some k) (filter (has s) (range_with_len (k + 1) n)) → Rise None (filter (has s) (range_with_len (k + 1) n))
        → Rise None (cond there (k ∷ filter (has s) (range_with_len (k + 1) n)) (filter (has s) (range_with_len (k + 1) n)))
    by_test true h i = h
    by_test false h i = i

risen : (s : DcSet) → Rise None (centres_of s)
unfolding centres_of centres_below
risen s = rise_all s 0 16

-- the set so far has the centres below this one that the whole has, and no others
record IsFront (s set : DcSet) (k : ℕ) : Type 0 where
  below : (d : ℕ) → d < k → has set d ≡ has s d
  above : (d : ℕ) → k ≤ d → has set d ≡ false
  bits : bits_of set < 2 ^ 16

front_in : (s set : DcSet) (k : ℕ) → k < 16 → has s k ≡ true → IsFront s set k → IsFront s (insert set k) (k + 1)
front_in s set k low there front = record {
  below = λ d h. by_test d h (d == k) refl;
  above = λ d h. has-insert_other set k d (λ e. absurd (omega (arith, h, e))) ∙ front.above d (omega (arith, h));
  bits = or_lt 16 (bits_of set) (2 ^ k) front.bits (pow-lt low);
}
  where
    by_test : (d : ℕ) → d < k + 1 → (b : Bool) → (d == k) ≡ b → has (insert set k) d ≡ has s d
    by_test d h true is = let e = eqb-true d k is in rw e (has-insert_same set k low ∙ sym there)
    by_test d h false is =
        let ne : d ≢ k = λ e. absurd (grind arith) in
        has-insert_other set k d ne ∙ front.below d (grind arith)

front_out : (s set : DcSet) (k : ℕ) → has s k ≡ false → IsFront s set k → IsFront s set (k + 1)
front_out s set k none front = record {
  below = λ d h. by_test d h (d == k) refl;
  above = λ d h. front.above d (omega (arith, h));
  bits = front.bits;
}
  where
    by_test : (d : ℕ) → d < k + 1 → (b : Bool) → (d == k) ≡ b → has set d ≡ has s d
    by_test d h true is = let e = eqb-true d k is in rw e (front.above k (omega arith) ∙ sym none)
    by_test d h false is = front.below d (grind arith)

built : (s set : DcSet) (k n : ℕ) → k + n ≤ 16 → IsFront s set k → IsFront s (inserted set (filter (has s) (range_with_len k n))) (k + n)
built s set k zero few front = let e : k ≡ k + 0 = omega arith in subst (λ (m : ℕ). IsFront s set m) e front
built s set k (suc n) few front =
    let e : k + 1 + n ≡ k + suc n = omega arith in
    subst (λ (m : ℕ). IsFront s (inserted set (filter (has s) (range_with_len k (suc n)))) m) e
    (by_test (has s k) refl (λ next. built s (insert set k) (k + 1) n (omega (arith, few)) next) (λ next. built s set (k + 1) n (omega (arith, few)) next))
  where
    by_test : (b : Bool) → has s k ≡ b
        → (IsFront s (insert set k) (k + 1) → IsFront s (inserted (insert set k) (filter (has s) (range_with_len (k + 1) n))) (k + 1 + n))
        → (IsFront s set (k + 1) → IsFront s (inserted set (filter (has s) (range_with_len (k + 1) n))) (k + 1 + n))
        → IsFront s (inserted set (cond b (k ∷ filter (has s) (range_with_len (k + 1) n)) (filter (has s) (range_with_len (k + 1) n)))) (k + 1 + n)
    by_test true is h i = h (front_in s set k (omega (arith, few)) is front)
    by_test false is h i = i (front_out s set k is front)

centres_build : (s : DcSet) → bits_of s < 65536 → inserted no_centre (centres_of s) ≡ s
unfolding centres_of centres_below
centres_build s small =
    let whole = built s no_centre 0 16 (omega arith) (record { below = λ d h. absurd (omega (arith, h)); above = λ d h. has-no_centre d; bits = omega arith }) in
    same_set (inserted no_centre (filter (has s) (range_with_len 0 16))) s whole.bits small (λ d h. whole.below d h)

pub below_each : (most : ℕ) (ds : List ℕ) → All (λ d. d < most) ds → AllBelow most ds
below_each most [] all = tt
below_each most (d ∷ ds) all = (All-head (λ d. d < most) d ds all, below_each most ds (All-tail (λ d. d < most) d ds all))

pub below_more : (most more : ℕ) (ds : List ℕ) → most ≤ more → AllBelow most ds → AllBelow more ds
below_more most more [] wider low = tt
below_more most more (d ∷ ds) wider low = let l = low.0 in (omega (arith, wider, l), below_more most more ds wider low.1)

-- a list of numbers that is printed falls into them
pub commas_split : (ns : List ℕ) → 0 < length ns → AllBelow 16 ns → split_at 44 (commas ns) ≡ map decimal ns
commas_split [] some low = absurd (omega (arith, some))
commas_split (n ∷ ns) some low = split_joined (λ c. c == 44) 44 (decimal n) (map decimal ns) refl (all_free is_ascii_digit 44 (map decimal (n ∷ ns)) refl (digits_of_each (n ∷ ns) low))

pub replicas_below : (replicas : ℕ) (set : DcSet) → replicas ≤ 16 → AreReplicas replicas set → AllBelow 16 (centres_of set)
replicas_below replicas set few are = below_more replicas 16 (centres_of set) few (below_each replicas (centres_of set) are.below)

pub replicas_split : (replicas : ℕ) (set : DcSet) → replicas ≤ 16 → AreReplicas replicas set → split_at 44 (replicas_text set) ≡ map decimal (centres_of set)
replicas_split replicas set few are = commas_split (centres_of set) are.some (replicas_below replicas set few are)

pub replicas_back : (replicas : ℕ) (set : DcSet) → replicas ≤ 16 → AreReplicas replicas set → replicas_say replicas (replicas_text set) ≡ Ok set
unfolding replicas_say
replicas_back replicas set few are =
    rw (replicas_split replicas set few are)
    (from_back replicas None no_centre (centres_of set) few (risen set) (below_each replicas (centres_of set) are.below) ∙ ap Ok (centres_build set are.bits))
