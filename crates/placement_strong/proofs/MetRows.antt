-- What it means that a choice meets the rows of a strong set.
use Rattle.std.proofs.Common.{◌≡◌, ℕ, ◌+◌, ◌*◌, ◌<◌, ◌≤◌, Bool, true, List, [], ◌∷◌, ◌++◌, map, arith}
use Rattle.std.specs.List.{count_by, AllByRecursion, flat_map}
use Rattle.workload.specs.World.{Lists, centre_count, rule_of}
use Rattle.zero_one.specs.Rows.{Meets, bit_of}
use Rattle.placement_rows.specs.Centres.{centres, write_near}
use Rattle.placement_rows.proofs.Each.{each-append, each-split, each-map, each-map_back, each-flat_map, each-flat_map_back, each-range, each-range_at}
use Rattle.placement_rows.proofs.Values.{meets-plus, meets-plus-back, meets-under, meets-under-back}
use Rattle.placement_strong.specs.Variables.{member_count, members, member_at, g_var, w_var, u_var, v_var}
use Rattle.placement_strong.specs.Rows.{meeting_places, write_places, meets, meets_within, writes, writes_meet, writes_meet_within, reads_replica, writes_replica, numbered_pairs, strong_rows}

-- one variable is 1 only where another is
abbrev pub Only : List Bool → ℕ → ℕ → Type 0
Only x up low = bit_of x low ≡ true → bit_of x up ≡ true

-- a read set and a write set meet in enough centres, each of them in both
pub record SetsMeet (w : Lists) (set : ℕ) (x : List Bool) (a b : ℕ) : Type 0 where
  pub many : 2 * (rule_of w set).f + 1 ≤ count_by (λ d. bit_of x (u_var w set a b d)) (meeting_places w set a b)
  pub reads : (d : ℕ) → d < centre_count w → Only x (g_var w a d) (u_var w set a b d)
  pub writes : (d : ℕ) → d < centre_count w → Only x (w_var w set b d) (u_var w set a b d)

-- so do the write sets of a numbered pair
pub record WritesMeet (w : Lists) (set : ℕ) (x : List Bool) (p : ℕ × (ℕ × ℕ)) : Type 0 where
  pub many : 2 * (rule_of w set).f + 1 ≤ count_by (λ d. bit_of x (v_var w set p.0 d)) (write_places w set p.1.0 p.1.1)
  pub first : (d : ℕ) → d < centre_count w → Only x (w_var w set p.1.0 d) (v_var w set p.0 d)
  pub second : (d : ℕ) → d < centre_count w → Only x (w_var w set p.1.1 d) (v_var w set p.0 d)

-- what a choice that meets the rows does for a member: its write set has enough centres, and its
-- sets have replicas
pub record HasSets (w : Lists) (set : ℕ) (x : List Bool) (a : ℕ) : Type 0 where
  pub many : 2 * (rule_of w set).f + 1 ≤ count_by (λ d. bit_of x (w_var w set a d)) (write_near w set (member_at w set a))
  pub reads : (d : ℕ) → d < centre_count w → Only x d (g_var w a d)
  pub writes : (d : ℕ) → d < centre_count w → Only x d (w_var w set a d)

pub record Chooses (w : Lists) (set : ℕ) (x : List Bool) : Type 0 where
  pub meeting : (a b : ℕ) → a < member_count w set → b < member_count w set → SetsMeet w set x a b
  pub pairs : AllByRecursion (WritesMeet w set x) (numbered_pairs w set)
  pub keeping : (a : ℕ) → a < member_count w set → HasSets w set x a

module _ (w : Lists) (set : ℕ) (x : List Bool) where
  Enough : ℕ → ℕ → Type 0
  Enough a b = 2 * (rule_of w set).f + 1 ≤ count_by (λ d. bit_of x (u_var w set a b d)) (meeting_places w set a b)

  Both : ℕ → ℕ → ℕ → Type 0
  Both a b d = Only x (g_var w a d) (u_var w set a b d) × Only x (w_var w set b d) (u_var w set a b d)

  Filled : ℕ → Type 0
  Filled a = 2 * (rule_of w set).f + 1 ≤ count_by (λ d. bit_of x (w_var w set a d)) (write_near w set (member_at w set a))

  PairEnough : ℕ × (ℕ × ℕ) → Type 0
  PairEnough p = 2 * (rule_of w set).f + 1 ≤ count_by (λ d. bit_of x (v_var w set p.0 d)) (write_places w set p.1.0 p.1.1)

  PairBoth : ℕ × (ℕ × ℕ) → ℕ → Type 0
  PairBoth p d = Only x (w_var w set p.1.0 d) (v_var w set p.0 d) × Only x (w_var w set p.1.1 d) (v_var w set p.0 d)

  Read : ℕ → ℕ → Type 0
  Read a d = Only x d (g_var w a d)

  Written : ℕ → ℕ → Type 0
  Written a d = Only x d (w_var w set a d)

  pub rows-from : Chooses w set x → AllByRecursion (Meets x) (strong_rows w set)
  unfolding Enough Both Filled PairEnough PairBoth Read Written
  rows-from c =
      let n = centre_count w in
      let k = member_count w set in
      let least = 2 * (rule_of w set).f + 1 in
      let m = Meets x in
      let low : AllByRecursion (λ a. a < k) (members w set) = each-range (λ a. a < k) 0 k (λ a from to. omega arith) in
      let near : AllByRecursion (λ d. d < n) (centres w) = each-range (λ d. d < n) 0 n (λ d from to. omega arith) in
      let one = each-flat_map m (λ a. a < k) (λ a. map (meets w set a) (members w set))
      (λ a in'. each-map m (λ b. b < k) (meets w set a) (λ b in''. meets-plus x (u_var w set a b) (meeting_places w set a b) least (c.meeting a b in' in'').many) (members w set) low) (members w set) low in
      let two = each-flat_map m (λ a. a < k) (λ a. flat_map (λ b. flat_map (meets_within w set a b) (centres w)) (members w set))
      (λ a in'. each-flat_map m (λ b. b < k) (λ b. flat_map (meets_within w set a b) (centres w))
      (λ b in''. each-flat_map m (λ d. d < n) (meets_within w set a b)
      (λ d in'''. let s = c.meeting a b in' in'' in (meets-under x (g_var w a d) (u_var w set a b d) (s.reads d in'''), (meets-under x (w_var w set b d) (u_var w set a b d) (s.writes d in'''), tt))) (centres w) near) (members w set) low) (members w set) low in
      let three = each-map m (λ a. a < k) (writes w set) (λ a in'. meets-plus x (w_var w set a) (write_near w set (member_at w set a)) least (c.keeping a in').many) (members w set) low in
      let four = each-map m (WritesMeet w set x) (writes_meet w set) (λ p met. meets-plus x (v_var w set p.0) (write_places w set p.1.0 p.1.1) least met.many) (numbered_pairs w set) c.pairs in
      let five = each-flat_map m (WritesMeet w set x) (λ p. flat_map (writes_meet_within w set p) (centres w))
      (λ p met. each-flat_map m (λ d. d < n) (writes_meet_within w set p)
      (λ d in'. (meets-under x (w_var w set p.1.0 d) (v_var w set p.0 d) (met.first d in'), (meets-under x (w_var w set p.1.1 d) (v_var w set p.0 d) (met.second d in'), tt))) (centres w) near) (numbered_pairs w set) c.pairs in
      let six = each-flat_map m (λ a. a < k) (λ a. map (reads_replica w a) (centres w)) (λ a in'. each-map m (λ d. d < n) (reads_replica w a) (λ d in''. meets-under x d (g_var w a d) ((c.keeping a in').reads d in'')) (centres w) near) (members w set) low in
      let seven = each-flat_map m (λ a. a < k) (λ a. map (writes_replica w set a) (centres w)) (λ a in'. each-map m (λ d. d < n) (writes_replica w set a) (λ d in''. meets-under x d (w_var w set a d) ((c.keeping a in').writes d in'')) (centres w) near) (members w set) low in
      each-append m _ _ (each-append m _ _ (each-append m _ _ (each-append m _ _ (each-append m _ _ (each-append m _ _ one two) three) four) five) six) seven

  pub rows-back : AllByRecursion (Meets x) (strong_rows w set) → Chooses w set x
  unfolding Enough Both Filled PairEnough PairBoth Read Written
  rows-back all =
      let n = centre_count w in
      let k = member_count w set in
      let least = 2 * (rule_of w set).f + 1 in
      let m = Meets x in
      let ms = members w set in
      let ps = numbered_pairs w set in
      let one = flat_map (λ a. map (meets w set a) ms) ms in
      let two = flat_map (λ a. flat_map (λ b. flat_map (meets_within w set a b) (centres w)) ms) ms in
      let three = map (writes w set) ms in
      let four = map (writes_meet w set) ps in
      let five = flat_map (λ p. flat_map (writes_meet_within w set p) (centres w)) ps in
      let six = flat_map (λ a. map (reads_replica w a) (centres w)) ms in
      let seven = flat_map (λ a. map (writes_replica w set a) (centres w)) ms in
      let s7 = each-split m (((((one ++ two) ++ three) ++ four) ++ five) ++ six) seven all in
      let s6 = each-split m ((((one ++ two) ++ three) ++ four) ++ five) six s7.0 in
      let s5 = each-split m (((one ++ two) ++ three) ++ four) five s6.0 in
      let s4 = each-split m ((one ++ two) ++ three) four s5.0 in
      let s3 = each-split m (one ++ two) three s4.0 in
      let s2 = each-split m one two s3.0 in
      let enough = each-flat_map_back m (λ a. AllByRecursion (Enough a) ms) (λ a. map (meets w set a) ms)
      (λ a met. each-map_back m (Enough a) (meets w set a) (λ b met. meets-plus-back x (u_var w set a b) (meeting_places w set a b) least met) ms met) ms s2.0 in
      let both = each-flat_map_back m (λ a. AllByRecursion (λ b. AllByRecursion (Both a b) (centres w)) ms) (λ a. flat_map (λ b. flat_map (meets_within w set a b) (centres w)) ms)
      (λ a met. each-flat_map_back m (λ b. AllByRecursion (Both a b) (centres w)) (λ b. flat_map (meets_within w set a b) (centres w))
      (λ b met. each-flat_map_back m (Both a b) (meets_within w set a b)
      (λ d met. (meets-under-back x (g_var w a d) (u_var w set a b d) met.0, meets-under-back x (w_var w set b d) (u_var w set a b d) met.1.0)) (centres w) met) ms met) ms s2.1 in
      let filled = each-map_back m Filled (writes w set) (λ a met. meets-plus-back x (w_var w set a) (write_near w set (member_at w set a)) least met) ms s3.1 in
      let pair_enough = each-map_back m PairEnough (writes_meet w set) (λ p met. meets-plus-back x (v_var w set p.0) (write_places w set p.1.0 p.1.1) least met) ps s4.1 in
      let pair_both = each-flat_map_back m (λ p. AllByRecursion (PairBoth p) (centres w)) (λ p. flat_map (writes_meet_within w set p) (centres w))
      (λ p met. each-flat_map_back m (PairBoth p) (writes_meet_within w set p)
      (λ d met. (meets-under-back x (w_var w set p.1.0 d) (v_var w set p.0 d) met.0, meets-under-back x (w_var w set p.1.1 d) (v_var w set p.0 d) met.1.0)) (centres w) met) ps s5.1 in
      let read = each-flat_map_back m (λ a. AllByRecursion (Read a) (centres w)) (λ a. map (reads_replica w a) (centres w)) (λ a met. each-map_back m (Read a) (reads_replica w a) (λ d met. meets-under-back x d (g_var w a d) met) (centres w) met) ms s6.1 in
      let written = each-flat_map_back m (λ a. AllByRecursion (Written a) (centres w)) (λ a. map (writes_replica w set a) (centres w)) (λ a met. each-map_back m (Written a) (writes_replica w set a) (λ d met. meets-under-back x d (w_var w set a d) met) (centres w) met) ms s7.1 in
      record {
        meeting = λ a b in' in''.
            let here = each-range_at (λ b. AllByRecursion (Both a b) (centres w)) 0 k (each-range_at (λ a. AllByRecursion (λ b. AllByRecursion (Both a b) (centres w)) ms) 0 k both a (omega arith) (omega arith)) b (omega arith) (omega arith) in
            record {
              many = each-range_at (Enough a) 0 k (each-range_at (λ a. AllByRecursion (Enough a) ms) 0 k enough a (omega arith) (omega arith)) b (omega arith) (omega arith);
              reads = λ d low. (each-range_at (Both a b) 0 n here d (omega arith) (omega arith)).0;
              writes = λ d low. (each-range_at (Both a b) 0 n here d (omega arith) (omega arith)).1;
            };
        pairs = together ps pair_enough pair_both;
        keeping = λ a in'. record {
          many = each-range_at Filled 0 k filled a (omega arith) (omega arith);
          reads = λ d low. each-range_at (Read a) 0 n (each-range_at (λ a. AllByRecursion (Read a) (centres w)) 0 k read a (omega arith) (omega arith)) d (omega arith) (omega arith);
          writes = λ d low. each-range_at (Written a) 0 n (each-range_at (λ a. AllByRecursion (Written a) (centres w)) 0 k written a (omega arith) (omega arith)) d (omega arith) (omega arith);
        };
      }
    where
      together : (ps : List (ℕ × (ℕ × ℕ))) → AllByRecursion PairEnough ps → AllByRecursion (λ p. AllByRecursion (PairBoth p) (centres w)) ps → AllByRecursion (WritesMeet w set x) ps
      together [] enough both = tt
      together (p ∷ ps) enough both = (
        record {
          many = enough.0;
          first = λ d low. (each-range_at (PairBoth p) 0 (centre_count w) both.0 d (omega arith) (omega arith)).0;
          second = λ d low. (each-range_at (PairBoth p) 0 (centre_count w) both.0 d (omega arith) (omega arith)).1;
        },
        together ps enough.1 both.1,
      )
