-- How long the lines of a plan are.
use Rattle.std.proofs.Common.{ℕ, zero, suc, ◌+◌, ◌*◌, ◌^◌, ◌<◌, ◌≤◌, List, [], ◌∷◌, ◌++◌, length, map, add-one, arith, lit<, lit≤, codes, length-append}
use Rattle.std.specs.Prelude.{All, slice_index, slice_index_or}
use Rattle.std.specs.List.{flat_map, range_with_len}
use Rattle.std.specs.List.Sorted.{IsStrictlyIncreasing}
use Rattle.std.specs.Fmt.{decimal}
use Rattle.std.proofs.lemmas.Bool.{and_parts, leb-true}
use Rattle.std.proofs.lemmas.Fmt.{length-decimal-le_wide}
use Rattle.std.proofs.lemmas.List.{length-map}
use Rattle.std.proofs.lemmas.List.Elements.{All-nil, All-cons, All-head, All-tail, All-map, All-append}
use Rattle.std.proofs.lemmas.List.FromFn.{length-range_with_len}
use Rattle.std.proofs.lemmas.List.Sums.{length-filter, count_by-le-length}
use Rattle.std.proofs.Math.Nat.{lt_of_lt_of_le, lt_of_le_of_lt}
use Rattle.span_base.specs.Name.{IsName}
use Rattle.span_base.specs.declared.dc_set.DcSet.{DcSet}
use Rattle.span_base.specs.DcSet.{has, centres_of, centres_below}
use Rattle.span_base.specs.declared.policy.Policy.{Policy}
use Rattle.span_base.specs.declared.policy.Policy.TheVariants.{Direct, Relay, Strong}
use Rattle.span_base.specs.declared.policy.Near.{Near}
use Rattle.span_base.specs.declared.policy.Hop.{Hop}
use Rattle.span_base.specs.declared.policy.Quorum.{Quorum}
use Rattle.price_tables.specs.declared.prices.Centre.{Centre}
use Rattle.price_tables.specs.Tables.{no_centre}
use Rattle.workload.specs.declared.rules.AccessSet.{AccessSet}
use Rattle.workload.specs.declared.rules.Mode.{Mode}
use Rattle.workload.specs.declared.rules.Mode.TheVariants as mode
use Rattle.workload.specs.Load.{no_set, IsSetLoaded}
use Rattle.workload.specs.Modes.{word_of}
use Rattle.workload.specs.World.{Lists, IsNamed, name_of, set_of, rule_of}
use Rattle.zero_one.specs.Contents.{Contents}
use Rattle.zero_one.specs.Program.{IsWithinLimits}
use Rattle.bound_cert.specs.declared.leaves.Pair.{Pair}
use Rattle.bound_cert.specs.declared.leaves.Line.{Line}
use Rattle.bound_cert.specs.declared.leaves.Line.TheVariants.{Branch, Close}
use Rattle.bound_cert.specs.Text.{line_text, pair_text, pairs_text}
use Rattle.cert_checker.specs.declared.turns.Turn.{Turn}
use Rattle.cert_checker.specs.Paths.{fixed_by}
use Rattle.cert_checker.specs.Lines.{IsTakenUnder}
use Rattle.slo_rules.specs.PolicyText.{names_text, replicas_line, primary_line, hop_line, quorum_line, policy_lines}
use Rattle.plan_check.proofs.NextSet.{set_words}
use Rattle.plan_check.proofs.Taking.{one_within}

-- a line is within its limit
abbrev pub IsShort : List ℕ → Type 0
IsShort line = length line ≤ 1048576

joined : (a b : List ℕ) (m n : ℕ) → length a ≤ m → length b ≤ n → length (a ++ b) ≤ m + n
joined a b m n low low' = omega (arith, length-append a b)

digits_few : (n k : ℕ) → 0 < k → n < 10 ^ k → n < 10 ^ 38 → length (decimal n) ≤ k
digits_few n k some fits small = length-decimal-le_wide k n some fits (lt_of_lt_of_le small (lit≤ tt))

-- names
name_len : (text : List ℕ) → IsName text → length text ≤ 32
name_len text is = leb-true (length text) 32 (and_parts _ _ (and_parts _ _ is).1).1

centre_len : (centres : List Centre) (dc : ℕ) → All (λ c. IsName c.name) centres → length (slice_index_or centres dc no_centre).name ≤ 32
centre_len [] dc named = lit≤ tt
centre_len (c ∷ centres) zero named = name_len c.name (All-head (λ x. IsName x.name) c centres named)
centre_len (c ∷ centres) (suc dc) named = centre_len centres dc (All-tail (λ x. IsName x.name) c centres named)

set_len : (sets : List AccessSet) (set : ℕ) → All IsSetLoaded sets → length (slice_index_or sets set no_set).name ≤ 32
set_len [] set loaded = lit≤ tt
set_len (s ∷ sets) zero loaded = name_len s.name (All-head IsSetLoaded s sets loaded).name
set_len (s ∷ sets) (suc set) loaded = set_len sets set (All-tail IsSetLoaded s sets loaded)

word_len : (m : Mode) → length (word_of m) ≤ 6
word_len mode.Direct = lit≤ tt
word_len mode.Relay = lit≤ tt
word_len mode.Strong = lit≤ tt

-- the line of a set
pub set_short : (w : Lists) (set variables : ℕ) → IsNamed w → variables < 10 ^ 20 → IsShort (set_words w set variables)
set_short w set variables named few =
    let name = (set_of w set).name in
    let word = word_of (rule_of w set).mode in
    let digits = digits_few variables 20 (lit< tt) few (lt_of_lt_of_le few (lit≤ tt)) in
    let all = joined (codes "set " ++ name ++ codes " " ++ word ++ codes " ") (decimal variables) 44 20
    (joined (codes "set " ++ name ++ codes " " ++ word) (codes " ") 43 1
    (joined (codes "set " ++ name ++ codes " ") word 37 6
    (joined (codes "set " ++ name) (codes " ") 36 1 (joined (codes "set ") name 4 32 (lit≤ tt) (set_len w.sets set named.sets.each)) (lit≤ tt))
    (word_len (rule_of w set).mode)) (lit≤ tt)) digits in
    omega (arith, all)

-- the line of a cost
pub cost_short : (cost : ℕ) → cost < 10 ^ 38 → IsShort (codes "result complete " ++ decimal cost)
cost_short cost low = let all = joined (codes "result complete ") (decimal cost) 16 38 (lit≤ tt) (digits_few cost 38 (lit< tt) low low) in omega (arith, all)

-- the lines of a policy
centres_few : (s : DcSet) → length (centres_of s) ≤ 16
unfolding centres_of centres_below
centres_few s = omega (arith, length-filter (has s) (range_with_len 0 16), count_by-le-length (has s) (range_with_len 0 16), length-range_with_len 0 16)

names_len : (w : Lists) (dcs : List ℕ) → IsNamed w → length (flat_map (λ dc. codes " " ++ name_of w dc) dcs) ≤ 33 * length dcs
names_len w [] named = omega arith
names_len w (dc ∷ dcs) named =
    let first = joined (codes " ") (name_of w dc) 1 32 (lit≤ tt) (centre_len w.centres dc named.names) in
    let all = joined (codes " " ++ name_of w dc) (flat_map (λ d. codes " " ++ name_of w d) dcs) 33 (33 * length dcs) first (names_len w dcs named) in
    omega (arith, all)

set_names_len : (w : Lists) (s : DcSet) → IsNamed w → length (names_text w s) ≤ 528
set_names_len w s named = omega (arith, names_len w (centres_of s) named, centres_few s)

replicas_short : (w : Lists) (s : DcSet) → IsNamed w → IsShort (replicas_line w s)
replicas_short w s named = let all = joined (codes "replicas") (names_text w s) 8 528 (lit≤ tt) (set_names_len w s named) in omega (arith, all)

primary_short : (w : Lists) (near : Near) → IsNamed w → IsShort (primary_line w near)
primary_short w near named =
    let member = name_of w near.member.0 in
    let all = joined (codes "primary " ++ member ++ codes " ") (name_of w near.at.0) 41 32
    (joined (codes "primary " ++ member) (codes " ") 40 1 (joined (codes "primary ") member 8 32 (lit≤ tt) (centre_len w.centres near.member.0 named.names)) (lit≤ tt))
    (centre_len w.centres near.at.0 named.names) in
    omega (arith, all)

hop_short : (w : Lists) (hop : Hop) → IsNamed w → IsShort (hop_line w hop)
hop_short w hop named =
    let member = name_of w hop.member.0 in
    let child = name_of w hop.child.0 in
    let first = joined (codes "parent ") member 7 32 (lit≤ tt) (centre_len w.centres hop.member.0 named.names) in
    let second = joined (codes "parent " ++ member ++ codes " ") child 40 32 (joined (codes "parent " ++ member) (codes " ") 39 1 first (lit≤ tt)) (centre_len w.centres hop.child.0 named.names) in
    let all = joined (codes "parent " ++ member ++ codes " " ++ child ++ codes " ") (name_of w hop.parent.0) 73 32
    (joined (codes "parent " ++ member ++ codes " " ++ child) (codes " ") 72 1 second (lit≤ tt)) (centre_len w.centres hop.parent.0 named.names) in
    omega (arith, all)

quorum_short : (w : Lists) (q : Quorum) → IsNamed w → IsShort (quorum_line w q)
quorum_short w q named =
    let member = name_of w q.dc.0 in
    let reads = names_text w q.read in
    let first = joined (codes "quorum ") member 7 32 (lit≤ tt) (centre_len w.centres q.dc.0 named.names) in
    let second = joined (codes "quorum " ++ member ++ codes " read") reads 44 528 (joined (codes "quorum " ++ member) (codes " read") 39 5 first (lit≤ tt)) (set_names_len w q.read named) in
    let all = joined (codes "quorum " ++ member ++ codes " read" ++ reads ++ codes " ; write") (names_text w q.write) 580 528
    (joined (codes "quorum " ++ member ++ codes " read" ++ reads) (codes " ; write") 572 8 second (lit≤ tt)) (set_names_len w q.write named) in
    omega (arith, all)

each_short : {X : Type 0} (line : X → List ℕ) (xs : List X) → ((x : X) → IsShort (line x)) → All IsShort (map line xs)
each_short line [] short = All-nil IsShort
each_short line (x ∷ xs) short = All-cons IsShort (line x) (map line xs) (short x) (each_short line xs short)

pub policy_short : (w : Lists) (p : Policy) → IsNamed w → All IsShort (policy_lines w p)
policy_short w (Direct f replicas primary) named =
    All-cons IsShort (replicas_line w replicas) (map (primary_line w) primary) (replicas_short w replicas named) (each_short (primary_line w) primary (λ near. primary_short w near named))
policy_short w (Relay f replicas primary parent) named =
    let primaries = map (primary_line w) primary in
    let hops = map (hop_line w) parent in
    All-cons IsShort (replicas_line w replicas) (primaries ++ hops) (replicas_short w replicas named)
    (All-append IsShort primaries hops (each_short (primary_line w) primary (λ near. primary_short w near named)) (each_short (hop_line w) parent (λ hop. hop_short w hop named)))
policy_short w (Strong f replicas members) named =
    All-cons IsShort (replicas_line w replicas) (map (quorum_line w) members) (replicas_short w replicas named) (each_short (quorum_line w) members (λ q. quorum_short w q named))

-- rows that rise are no more than there are
row_places : (rows : List ℕ) → IsStrictlyIncreasing rows → (k : ℕ) → k < length rows → k ≤ slice_index rows k
row_places rows rising zero inside = omega arith
row_places rows rising (suc k) inside =
    let up : slice_index rows k < slice_index rows (k + 1) = rising k (omega (arith, inside)) in
    let up' : slice_index rows k < slice_index rows (suc k) = rw add-one at up in
    omega (arith, up', row_places rows rising k (omega (arith, inside)))

few_rows : (n : ℕ) (rows : List ℕ) → IsStrictlyIncreasing rows → All (λ row. row < n) rows → length rows ≤ n
few_rows n [] rising below = omega arith
few_rows n (row ∷ rows) rising below =
    let inside : length rows < length (row ∷ rows) = omega arith in
    let low : slice_index (row ∷ rows) (length rows) < n = below (length rows) 0 inside in
    omega (arith, row_places (row ∷ rows) rising (length rows) inside, low)

abbrev IsLowPair : Pair → Type 0
IsLowPair pair = (pair.row < 10 ^ 5) × (pair.mult < 10 ^ 38)

pairs_len : (pairs : List Pair) → All IsLowPair pairs → length (pairs_text pairs) ≤ 45 * length pairs
pairs_len [] low = omega arith
pairs_len (pair ∷ pairs) low =
    let here : IsLowPair pair = All-head IsLowPair pair pairs low in
    let row = digits_few pair.row 5 (lit< tt) here.0 (lt_of_lt_of_le here.0 (lit≤ tt)) in
    let mult = digits_few pair.mult 38 (lit< tt) here.1 here.1 in
    let first = joined (codes " " ++ decimal pair.row ++ codes ":") (decimal pair.mult) 7 38
    (joined (codes " " ++ decimal pair.row) (codes ":") 6 1 (joined (codes " ") (decimal pair.row) 1 5 (lit≤ tt) row) (lit≤ tt)) mult in
    let all = joined (pair_text pair) (pairs_text pairs) 45 (45 * length pairs) first (pairs_len pairs (All-tail IsLowPair pair pairs low)) in
    omega (arith, all)

-- the lines of a tree
pub line_short : (program : Contents) (path : List Turn) (line : Line) → IsWithinLimits program → IsTakenUnder program (fixed_by program path) line → IsShort (line_text line)
line_short program path (Branch var) limits taken =
    let low : var ≤ 65535 = one_within program path (Branch var) limits taken in
    let all = joined (codes "b ") (decimal var) 2 5 (lit≤ tt) (digits_few var 5 (lit< tt) (lt_of_le_of_lt low (lit< tt)) (lt_of_le_of_lt low (lit< tt))) in
    omega (arith, all)
line_short program path (Close end) limits taken =
    let fits = taken.0 in
    let scale : end.s < 10 ^ 38 = lt_of_le_of_lt fits.scale (lit< tt) in
    let low : All IsLowPair end.pairs = (λ k d inside. (
      (let row = fits.existing k d inside in let small : (slice_index_or end.pairs k d).row ≤ 16384 = omega (arith, row, limits.row_count) in lt_of_le_of_lt small (lit< tt)),
      lt_of_le_of_lt (fits.multipliers k d inside).1 (lit< tt),
    )) in
    let row_of : Pair → ℕ = λ pair. pair.row in
    let few = few_rows (length program.rows) (map row_of end.pairs) fits.rising (All-map (λ row. row < length program.rows) row_of end.pairs fits.existing) in
    let all = joined (codes "l " ++ decimal end.s) (pairs_text end.pairs) 40 (45 * length end.pairs)
    (joined (codes "l ") (decimal end.s) 2 38 (lit≤ tt) (digits_few end.s 38 (lit< tt) scale scale)) (pairs_len end.pairs low) in
    omega (arith, all, few, length-map end.pairs row_of, limits.row_count)
