-- Whose turn it is: the item of a number among centres, among members, among the hops that are due.
use Rattle.std.proofs.Common.{◌≡◌, ℕ, zero, suc, ◌+◌, ◌-◌, ◌<◌, ◌≤◌, Bool, true, false, cond, List, [], ◌∷◌, ◌++◌, length, map, drop, drop-cons, get_or, add-one, Option, Some, None, refl, sym, ap, subst, ◌∙◌, ◌*◌, arith}
use Rattle.std.specs.Prelude.{slice_get, option_map}
use Rattle.std.proofs.lemmas.Option.{slice_get-map, slice_get_within}
use Rattle.std.proofs.lemmas.List.{length-map}
use Rattle.span_base.specs.declared.dc_set.DcSet.{DcSet}
use Rattle.span_base.specs.declared.ids.DcId.{DcId}
use Rattle.span_base.specs.DcSet.{has, centres_of}
use Rattle.workload.specs.World.{Lists, rule_of, members_of}
use Rattle.workload.specs.declared.rules.Mode.{Mode}
use Rattle.workload.specs.declared.rules.Mode.TheVariants as mode
use Rattle.workload.specs.declared.rules.Demand.{Demand}
use Rattle.slo_rules.specs.Centres.{centres_from}
use Rattle.slo_rules.specs.Rules.{centres_asking, hops_due}
use Rattle.slo_rules.specs.PolicyReading.{Draft, due_primary, due_quorum, due_hop, due_behind, due_of, due_in, or_then}
use Rattle.slo_rules.specs.declared.turn.Due.{Due}
use Rattle.slo_rules.specs.declared.turn.Due.TheVariants as due
use Rattle.slo_rules.specs.Rooms.{HasPlace}
use Rattle.span_base.proofs.Sets.{count_le}
use Rattle.slo_rules.proofs.Centres.{centres_of_is, centres_from-end, centres_from-next}
use Rattle.slo_rules.proofs.Hops.{few_due}

-- the centres from `d` on, counted from 0
pub nth_start : (s : DcSet) (n : ℕ) → slice_get (centres_of s) n ≡ slice_get (centres_from s 0) n
nth_start s n = ap (λ ds. slice_get ds n) (centres_of_is s)

pub nth_end : (s : DcSet) (d n : ℕ) → 16 ≤ d → slice_get (centres_from s d) n ≡ None
nth_end s d n past = ap (λ ds. slice_get ds n) (centres_from-end s d past)

with_d : (s : DcSet) (d : ℕ) (b : Bool) → d < 16 → has s d ≡ b → centres_from s d ≡ cond b (d ∷ centres_from s (d + 1)) (centres_from s (d + 1))
with_d s d b below there = centres_from-next s d below ∙ ap (λ c. cond c (d ∷ centres_from s (d + 1)) (centres_from s (d + 1))) there

pub nth_here : (s : DcSet) (d n : ℕ) → d < 16 → has s d ≡ true → n ≡ 0 → slice_get (centres_from s d) n ≡ Some d
nth_here s d n below there first = ap (λ ds. slice_get ds n) (with_d s d true below there) ∙ ap (slice_get (d ∷ centres_from s (d + 1))) first

get_later : {X : Type 0} (x : X) (xs : List X) (n : ℕ) → 0 < n → slice_get (x ∷ xs) n ≡ slice_get xs (n - 1)
get_later x xs zero some = absurd (omega arith)
get_later x xs (suc n) some = let e : n ≡ suc n - 1 = omega arith in ap (slice_get xs) e

pub nth_next : (s : DcSet) (d n : ℕ) → d < 16 → has s d ≡ true → 0 < n → slice_get (centres_from s d) n ≡ slice_get (centres_from s (d + 1)) (n - 1)
nth_next s d n below there some = ap (λ ds. slice_get ds n) (with_d s d true below there) ∙ get_later d (centres_from s (d + 1)) n some

pub nth_pass : (s : DcSet) (d n : ℕ) → d < 16 → has s d ≡ false → slice_get (centres_from s d) n ≡ slice_get (centres_from s (d + 1)) n
nth_pass s d n below absent = ap (λ ds. slice_get ds n) (with_d s d false below absent)

pub ruleset centre_places = (nth_start, nth_end, nth_here, nth_next, nth_pass)

-- an item of the first list, of the second
pub get_front : {X : Type 0} (xs ys : List X) (i : ℕ) → i < length xs → slice_get (xs ++ ys) i ≡ slice_get xs i
get_front [] ys i inside = absurd (omega arith)
get_front (x ∷ xs) ys zero inside = refl
get_front (x ∷ xs) ys (suc i) inside = get_front xs ys i (omega arith)

pub get_behind : {X : Type 0} (xs ys : List X) (i : ℕ) → length xs ≤ i → slice_get (xs ++ ys) i ≡ slice_get ys (i - length xs)
get_behind [] ys i past = let e : i ≡ i - 0 = omega arith in ap (slice_get ys) e
get_behind (x ∷ xs) ys zero past = absurd (omega arith)
get_behind (x ∷ xs) ys (suc i) past =
    let e : i - length xs ≡ suc i - length (x ∷ xs) = omega arith in
    get_behind xs ys i (omega arith) ∙ ap (slice_get ys) e

lane_count : (m : ℕ) (cs : List ℕ) → length {A = ℕ × ℕ} (map (λ dc. (m, dc)) cs) ≡ length cs
lane_count m cs = length-map {B = ℕ × ℕ} cs (λ (dc : ℕ). (m, dc))

-- a hop of the first member
pub hop_here : (m : ℕ) (rest cs : List ℕ) (left : ℕ) → left < length cs → slice_get (hops_due (m ∷ rest) cs) left ≡ option_map (λ c. (m, c)) (slice_get cs left)
hop_here m rest cs left inside =
    get_front (map (λ dc. (m, dc)) cs) (hops_due rest cs) left (omega (arith, lane_count m cs))
    ∙ slice_get-map {B = ℕ × ℕ} (λ (dc : ℕ). (m, dc)) cs left

-- a hop of a later member
pub hop_later : (m : ℕ) (rest cs : List ℕ) (left : ℕ) → length cs ≤ left → slice_get (hops_due (m ∷ rest) cs) left ≡ slice_get (hops_due rest cs) (left - length cs)
hop_later m rest cs left past =
    get_behind (map (λ dc. (m, dc)) cs) (hops_due rest cs) left (omega (arith, lane_count m cs))
    ∙ ap (λ n. slice_get (hops_due rest cs) (left - n)) (lane_count m cs)

-- the hops that are left, from the member of a number on
left_from : (members : List Demand) (cs : List ℕ) (i : ℕ) (d : Demand) → i < length members
    → hops_due (centres_asking (drop i members)) cs ≡ hops_due ((get_or members i d).dc.0 ∷ centres_asking (drop (i + 1) members)) cs
left_from members cs i d inside =
    ap (λ ms. hops_due (centres_asking ms) cs) (drop-cons members i d inside)
    ∙ ap (λ n. hops_due ((get_or members i d).dc.0 ∷ centres_asking (drop n members)) cs) (sym (add-one i))

-- the hop that is due is one of this member's
pub hop_found : (members : List Demand) (replicas : DcSet) (count left i : ℕ) (d : Demand) (child : Option DcId) → i < length members → left < length (centres_of replicas)
    → slice_get (hops_due (centres_asking members) (centres_of replicas)) count ≡ slice_get (hops_due (centres_asking (drop i members)) (centres_of replicas)) left
    → option_map (λ dc. dc.0) child ≡ slice_get (centres_of replicas) left
    → option_map (λ dc. due.Hop (get_or members i d).dc dc) child ≡ due_hop members replicas count
hop_found members replicas count left i d child inside few turn is =
    let cs = centres_of replicas in
    let m : DcId = (get_or members i d).dc in
    let hop : ℕ × ℕ → Due = λ lane. due.Hop (record { 0 = lane.0 }) (record { 0 = lane.1 }) in
    let here : slice_get (hops_due (centres_asking members) cs) count ≡ option_map (λ c. (m.0, c)) (option_map (λ (dc : DcId). dc.0) child) =
    turn ∙ ap (λ hops. slice_get hops left) (left_from members cs i d inside) ∙ hop_here m.0 (centres_asking (drop (i + 1) members)) cs left few ∙ ap (option_map (λ c. (m.0, c))) (sym is) in
    of_child child m ∙ ap (option_map hop) (sym here)
  where
    of_child : (o : Option DcId) (m : DcId) → option_map (λ dc. due.Hop m dc) o ≡ option_map (λ (lane : ℕ × ℕ). due.Hop (record { 0 = lane.0 }) (record { 0 = lane.1 })) (option_map (λ c. (m.0, c)) (option_map (λ (dc : DcId). dc.0) o))
    of_child (Some dc) m = refl
    of_child None m = refl

-- it is a later member's
pub hop_passes : (members : List Demand) (replicas : DcSet) (count left i each : ℕ) (d : Demand) → i < length members → each ≡ length (centres_of replicas) → each ≤ left
    → slice_get (hops_due (centres_asking members) (centres_of replicas)) count ≡ slice_get (hops_due (centres_asking (drop i members)) (centres_of replicas)) left
    → slice_get (hops_due (centres_asking members) (centres_of replicas)) count ≡ slice_get (hops_due (centres_asking (drop (i + 1) members)) (centres_of replicas)) (left - each)
hop_passes members replicas count left i each d inside is many turn =
    let cs = centres_of replicas in
    turn ∙ ap (λ hops. slice_get hops left) (left_from members cs i d inside)
    ∙ hop_later ((get_or members i d).dc.0) (centres_asking (drop (i + 1) members)) cs left (omega arith)
    ∙ ap (λ n. slice_get (hops_due (centres_asking (drop (i + 1) members)) cs) (left - n)) (sym is)

-- a line that is due has a place
primary_place : (d : Draft) (members : List Demand) (turn : Due) → length members ≤ 8 → due_primary members (length d.primary) ≡ Some turn → HasPlace d turn
primary_place d members turn few e = go (slice_get members (length d.primary)) refl e
  where
    go : (o : Option Demand) → slice_get members (length d.primary) ≡ o → option_map (λ m. due.Primary m.dc) o ≡ Some turn → HasPlace d turn
    go (Some m) is e =
        let P : Due → Type 0 = λ t. HasPlace d t in
        let inside : length d.primary < length members = slice_get_within members (length d.primary) m is in
        let low : length d.primary < 8 = omega arith in
        let same : due.Primary m.dc ≡ turn = cc in
        subst P same low
    go None is e = cc

quorum_place : (d : Draft) (members : List Demand) (turn : Due) → length members ≤ 8 → due_quorum members (length d.quorums) ≡ Some turn → HasPlace d turn
quorum_place d members turn few e = go (slice_get members (length d.quorums)) refl e
  where
    go : (o : Option Demand) → slice_get members (length d.quorums) ≡ o → option_map (λ m. due.Quorum m.dc) o ≡ Some turn → HasPlace d turn
    go (Some m) is e =
        let P : Due → Type 0 = λ t. HasPlace d t in
        let inside : length d.quorums < length members = slice_get_within members (length d.quorums) m is in
        let low : length d.quorums < 8 = omega arith in
        let same : due.Quorum m.dc ≡ turn = cc in
        subst P same low
    go None is e = cc

hop_place : (d : Draft) (members : List Demand) (replicas : DcSet) (turn : Due) → length members ≤ 8 → due_hop members replicas (length d.hops) ≡ Some turn → HasPlace d turn
hop_place d members replicas turn few e = go (slice_get (hops_due (centres_asking members) (centres_of replicas)) (length d.hops)) refl e
  where
    go : (o : Option (ℕ × ℕ)) → slice_get (hops_due (centres_asking members) (centres_of replicas)) (length d.hops) ≡ o → option_map (λ (lane : ℕ × ℕ). due.Hop (record { 0 = lane.0 }) (record { 0 = lane.1 })) o ≡ Some turn → HasPlace d turn
    go (Some lane) is e =
        let P : Due → Type 0 = λ t. HasPlace d t in
        let inside : length d.hops < length (hops_due (centres_asking members) (centres_of replicas)) = slice_get_within (hops_due (centres_asking members) (centres_of replicas)) (length d.hops) lane is in
        let all : length (hops_due (centres_asking members) (centres_of replicas)) ≤ length (centres_asking members) * 16 = few_due (centres_asking members) (centres_of replicas) (count_le replicas) in
        let low : length d.hops < 128 = omega (arith, length-map members (λ (m : Demand). m.dc.0)) in
        let same : due.Hop (record { 0 = lane.0 }) (record { 0 = lane.1 }) ≡ turn = cc in
        subst P same low
    go None is e = cc

behind_place : (m : Mode) (members : List Demand) (replicas : DcSet) (d : Draft) (turn : Due) → length members ≤ 8 → due_behind m members replicas d ≡ Some turn → HasPlace d turn
behind_place mode.Direct members replicas d turn few e = primary_place d members turn few e
behind_place mode.Relay members replicas d turn few e = go (due_primary members (length d.primary)) refl e
  where
    go : (o : Option Due) → due_primary members (length d.primary) ≡ o → or_then o (due_hop members replicas (length d.hops)) ≡ Some turn → HasPlace d turn
    go (Some first) is e = primary_place d members turn few (is ∙ e)
    go None is e = hop_place d members replicas turn few e
behind_place mode.Strong members replicas d turn few e = quorum_place d members turn few e

-- a line that is due has a place in the room of a reader
pub has_place : (w : Lists) (d : Draft) (turn : Due) → length (members_of w d.set) ≤ 8 → due_of w d ≡ Some turn → HasPlace d turn
has_place w d turn few e = go d.replicas refl
  where
    go : (o : Option DcSet) → d.replicas ≡ o → HasPlace d turn
    go None is =
        let P : Due → Type 0 = λ t. HasPlace d t in
        let same : due.Replicas ≡ turn = let f : due_in w d None ≡ Some turn = ap (due_in w d) (sym is) ∙ e in cc in
        subst P same tt
    go (Some replicas) is = behind_place (rule_of w d.set).mode (members_of w d.set) replicas d turn few (ap (due_in w d) (sym is) ∙ e)
