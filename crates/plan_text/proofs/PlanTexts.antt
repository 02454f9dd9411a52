-- Texts of plans are told apart, line by line.
use Rattle.std.proofs.Common.{◌≡◌, ℕ, suc, ◌+◌, ◌^◌, ◌<◌, ◌≤◌, Bool, true, false, ◌&&◌, ◌==◌, if◌then◌else◌, List, [], ◌∷◌, ◌++◌, length, map, Option, Some, slice_index, refl, sym, ap, subst, ◌∙◌, append_assoc, lit<, lit≤, arith}
use Rattle.std.specs.Prelude.{codes, slice_get, slice_index_or}
use Rattle.std.specs.List.{All, list_all}
use Rattle.std.specs.Char.{digit_value}
use Rattle.std.specs.Fmt.{decimal}
use Rattle.std.specs.Str.Parse.{AllDigits, digits_value}
use Rattle.std.proofs.lemmas.Bool.{ne_eqb}
use Rattle.std.proofs.lemmas.Fmt.{decimal_is_IsNumeral_wide}
use Rattle.std.proofs.lemmas.List.Elements.{All-nil, All-cons, All-head, All-tail, All-same}
use Rattle.std.proofs.lemmas.List.{map-append}
use Rattle.std.proofs.Math.Nat.{lt_of_lt_of_le, lt_of_le_of_lt}
use Rattle.span_base.specs.declared.policy.Policy.{Policy}
use Rattle.zero_one.specs.Contents.{Contents}
use Rattle.bound_cert.specs.declared.leaves.Pair.{Pair}
use Rattle.bound_cert.specs.declared.leaves.Line.{Line}
use Rattle.bound_cert.specs.declared.leaves.Line.TheVariants.{Branch, Close}
use Rattle.bound_cert.specs.declared.leaves.Goal.{Goal}
use Rattle.bound_cert.specs.Leaves.{LeafFits}
use Rattle.bound_cert.specs.Trees.{Tree, leaf, branch, lines_of, Node, nodes_of, all_free, fix, IsProof, IsClosed}
use Rattle.bound_cert.specs.Text.{line_text, pair_text, pairs_text}
use Rattle.bound_cert.specs.Reading.{IsWithinRanges, IsSpellable, IsSpellablePair}
use Rattle.bound_cert.proofs.OneReading.{one_reading}
use Rattle.workload.specs.World.{Lists, IsComplete, IsNamed}
use Rattle.slo_rules.specs.PolicyText.{policy_text}
use Rattle.slo_rules.specs.PolicyLaws.{IsPolicyOf}
use Rattle.slo_rules.proofs.ToldApart.{no_feed, OneLine, one_append, cut, cut_line as line_cut, same_after, told_apart}
use Rattle.plan_text.specs.Parts.{Ending, complete, none_allowed, cut_off, Part}
use Rattle.placement.specs.Placement.{program_of}
use Rattle.plan_text.specs.PlanText.{set_line, tree_line, tree_text, cost_line, cost_of, found_cost, found_text, cut_words, cut_line, ending_text, part_text, parts_text}
use Rattle.plan_text.specs.Plans.{EachPart, IsAcceptedPart, goal_of, FitsSet}
use Rattle.plan_text.specs.PlanLaws.{FitsEnding, FitsPart, PlanTextsAreToldApart}

-- a number is in one line
digits_one : (text : List ℕ) → AllDigits 10 text → OneLine text
digits_one [] h = refl
digits_one (c ∷ text) h =
    let other : (c == 10) ≡ false = ne_eqb c 10 (λ e. let P : ℕ → Type 0 = λ d. digit_value d < 10 in let f : digit_value 10 < 10 = subst P e h.0 in omega arith) in
    ap (λ b. (if b then false else true) && list_all no_feed text) other ∙ digits_one text h.1

pub number_one : (n : ℕ) → n < 10 ^ 64 → OneLine (decimal n)
number_one n low = digits_one (decimal n) (decimal_is_IsNumeral_wide n low).0.1

small_one : (n : ℕ) → n < 10 ^ 38 → OneLine (decimal n)
small_one n low = number_one n (lt_of_lt_of_le low (lit≤ tt))

pairs_one : (pairs : List Pair) → All IsSpellablePair pairs → OneLine (pairs_text pairs)
pairs_one [] low = refl
pairs_one (pair ∷ pairs) low =
    let here : IsSpellablePair pair = All-head IsSpellablePair pair pairs low in
    one_append (pair_text pair) (pairs_text pairs)
    (one_append (codes " " ++ decimal pair.row ++ codes ":") (decimal pair.mult)
    (one_append (codes " " ++ decimal pair.row) (codes ":") (one_append (codes " ") (decimal pair.row) refl (small_one pair.row here.0)) refl)
    (small_one pair.mult here.1))
    (pairs_one pairs (All-tail IsSpellablePair pair pairs low))

pub line_one : (line : Line) → IsSpellable line → OneLine (line_text line)
line_one (Branch var) low = one_append (codes "b ") (decimal var) refl (small_one var low)
line_one (Close end) low =
    one_append (codes "l " ++ decimal end.s) (pairs_text end.pairs)
    (one_append (codes "l ") (decimal end.s) refl (small_one end.s low.0))
    (pairs_one end.pairs low.1)

-- two texts that begin with a line each: the lines are equal, and what follows them
pub heads : (l m a b : List ℕ) → OneLine l → OneLine m → l ++ 10 ∷ a ≡ m ++ 10 ∷ b → (l ≡ m) × (a ≡ b)
heads l m a b one one' e =
    let lines : l ∷ cut a ≡ m ∷ cut b = sym (line_cut l a one) ∙ ap cut e ∙ line_cut m b one' in
    let same : l ≡ m = cc in
    let rest : m ++ 10 ∷ a ≡ m ++ 10 ∷ b = ap (λ t. t ++ 10 ∷ a) (sym same) ∙ e in
    (same, same_after (m ++ codes "\n") a b (append_assoc m (codes "\n") a ∙ rest ∙ sym (append_assoc m (codes "\n") b)))

-- a tree's line and what follows it
pub line_first : (line : Line) (lines : List Line) (rest : List ℕ) → tree_text (line ∷ lines) ++ rest ≡ line_text line ++ 10 ∷ (tree_text lines ++ rest)
line_first line lines rest = append_assoc (tree_line line) (tree_text lines) rest ∙ append_assoc (line_text line) (codes "\n") (tree_text lines ++ rest)

-- two bytes, one below the other
pub differ : (a b : ℕ) → a ≡ b → a < b → ⊥
differ a b same below = omega arith

-- a result begins otherwise than a line of a tree
pub no_result : (line : Line) (rest result : List ℕ) → slice_index result 0 ≡ 114 → line_text line ++ rest ≡ result → ⊥
no_result (Branch var) rest result is e = differ 98 114 (ap (λ (t : List ℕ). slice_index t 0) e ∙ is) (lit< tt)
no_result (Close end) rest result is e = differ 108 114 (ap (λ (t : List ℕ). slice_index t 0) e ∙ is) (lit< tt)

pub tree_told : (ls ms : List Line) (a b : List ℕ) → All IsSpellable ls → All IsSpellable ms → slice_index a 0 ≡ 114 → slice_index b 0 ≡ 114 → tree_text ls ++ a ≡ tree_text ms ++ b → (ls ≡ ms) × (a ≡ b)
tree_told [] [] a b low low' is is' e = (refl, e)
tree_told [] (m ∷ ms) a b low low' is is' e = absurd (no_result m (10 ∷ (tree_text ms ++ b)) a is (sym (line_first m ms b) ∙ sym e))
tree_told (l ∷ ls) [] a b low low' is is' e = absurd (no_result l (10 ∷ (tree_text ls ++ a)) b is' (sym (line_first l ls a) ∙ e))
tree_told (l ∷ ls) (m ∷ ms) a b low low' is is' e =
    let ok : IsSpellable l = All-head IsSpellable l ls low in
    let ok' : IsSpellable m = All-head IsSpellable m ms low' in
    let first = heads (line_text l) (line_text m) (tree_text ls ++ a) (tree_text ms ++ b) (line_one l ok) (line_one m ok') (sym (line_first l ls a) ∙ e ∙ line_first m ms b) in
    let same : l ≡ m = one_reading l m ok ok' first.0 in
    let rest : (ls ≡ ms) × (a ≡ b) = tree_told ls ms a b (All-tail IsSpellable l ls low) (All-tail IsSpellable m ms low') is is' first.1 in
    ((λ i. same i ∷ rest.0 i), rest.1)

-- a tree's text that begins with the lines of another, up to a result: what lines are left of it, and the text behind the first
pub tree_begun : (ls ms : List Line) (a b : List ℕ) → All IsSpellable ls → All IsSpellable ms → slice_index b 0 ≡ 114 → tree_text ls ++ a ≡ tree_text ms ++ b
    → (more : List Line) × (ms ≡ ls ++ more) × (a ≡ tree_text more ++ b)
tree_begun [] ms a b low low' is e = (ms, refl, e)
tree_begun (l ∷ ls) [] a b low low' is e = absurd (no_result l (10 ∷ (tree_text ls ++ a)) b is (sym (line_first l ls a) ∙ e))
tree_begun (l ∷ ls) (m ∷ ms) a b low low' is e =
    let ok : IsSpellable l = All-head IsSpellable l ls low in
    let ok' : IsSpellable m = All-head IsSpellable m ms low' in
    let first = heads (line_text l) (line_text m) (tree_text ls ++ a) (tree_text ms ++ b) (line_one l ok) (line_one m ok') (sym (line_first l ls a) ∙ e ∙ line_first m ms b) in
    let same : l ≡ m = one_reading l m ok ok' first.0 in
    let rest = tree_begun ls ms a b (All-tail IsSpellable l ls low) (All-tail IsSpellable m ms low') is first.1 in
    (rest.0, (λ i. sym same i ∷ rest.1 i), rest.2)

-- the lines of a proof can be spelled
node_lines : (fixed : List (Option Bool)) (tree : Tree) → map (λ node. node.line) (nodes_of fixed tree) ≡ lines_of tree
node_lines fixed (leaf end) = refl
node_lines fixed (branch var zeros ones) =
    ap (λ ls. Branch var ∷ ls)
    (map-append (λ (node : Node). node.line) (nodes_of (fix fixed var false) zeros) (nodes_of (fix fixed var true) ones)
    ∙ (λ i. node_lines (fix fixed var false) zeros i ++ node_lines (fix fixed var true) ones i))

abbrev HasSmallMultipliers : Line → Type 0
HasSmallMultipliers (Branch var) = Unit {0}
HasSmallMultipliers (Close end) = All (λ pair. pair.mult ≤ 10 ^ 30) end.pairs

small_at : (program : Contents) (goal : Goal) (fixed : List (Option Bool)) (line : Line) → IsClosed program goal (record { fixed = fixed; line = line }) → HasSmallMultipliers line
small_at program goal fixed (Branch var) closed = tt
small_at program goal fixed (Close end) closed = let fits : LeafFits program end = closed.0 in λ k d inside. (fits.multipliers k d inside).1

all_small : (program : Contents) (goal : Goal) (nodes : List Node) → All (IsClosed program goal) nodes → All HasSmallMultipliers (map (λ node. node.line) nodes)
all_small program goal [] closed = All-nil HasSmallMultipliers
all_small program goal (node ∷ nodes) closed =
    All-cons HasSmallMultipliers node.line (map (λ node. node.line) nodes)
    (small_at program goal node.fixed node.line (All-head (IsClosed program goal) node nodes closed))
    (all_small program goal nodes (All-tail (IsClosed program goal) node nodes closed))

pub proof_small : (program : Contents) (goal : Goal) (lines : List Line) → IsProof program lines goal → All HasSmallMultipliers lines
proof_small program goal lines proof =
    All-same HasSmallMultipliers lines (map (λ (node : Node). node.line) (nodes_of (all_free program) proof.tree))
    (proof.whole ∙ sym (node_lines (all_free program) proof.tree))
    (all_small program goal (nodes_of (all_free program) proof.tree) proof.closed)

pub spellable : (line : Line) → HasSmallMultipliers line → IsWithinRanges line → IsSpellable line
spellable (Branch var) small within = let h : var ≤ 65535 = within in lt_of_lt_of_le (let k : var < 65536 = omega arith in k) (lit≤ tt)
spellable (Close end) small within = (
  lt_of_lt_of_le (let h = within.0 in let k : end.s < 4294967296 = omega arith in k) (lit≤ tt),
  λ k d inside. (
    lt_of_lt_of_le (let h = within.1 k d inside in let r : (slice_index_or end.pairs k d).row < 65536 = omega arith in r) (lit≤ tt),
    lt_of_le_of_lt (small k d inside) (lit< tt),
  ),
)

pub all_spellable : (lines : List Line) → All HasSmallMultipliers lines → All IsWithinRanges lines → All IsSpellable lines
all_spellable lines small within = λ k d inside. spellable (slice_index_or lines k d) (small k d inside) (within k d inside)

-- costs of equal texts are equal
pub one_cost : (a b : ℕ) → a < 2 ^ 128 → b < 2 ^ 128 → decimal a ≡ decimal b → a ≡ b
one_cost a b low low' e =
    sym ((decimal_is_IsNumeral_wide a (lt_of_lt_of_le low (lit≤ tt))).1) ∙ ap (digits_value 10) e ∙ (decimal_is_IsNumeral_wide b (lt_of_lt_of_le low' (lit≤ tt))).1

-- what follows equal results is equal, and the results are
pub cost_first : (cost : ℕ) (rest : List ℕ) → cost_line cost ++ rest ≡ codes "result complete " ++ (decimal cost ++ 10 ∷ rest)
cost_first cost rest = append_assoc (codes "result complete " ++ decimal cost) (codes "\n") rest ∙ append_assoc (codes "result complete ") (decimal cost) (codes "\n" ++ rest)

pub complete_first : (w : Lists) (n cost : ℕ) (p : Policy) (rest : List ℕ) → ending_text w n (complete cost p) ++ rest ≡ codes "result complete " ++ (decimal cost ++ 10 ∷ (policy_text w p ++ rest))
complete_first w n cost p rest = append_assoc (cost_line cost) (policy_text w p) rest ∙ cost_first cost (policy_text w p ++ rest)

pub apart : (w : Lists) (n m cost : ℕ) (p : Policy) (a b : List ℕ) → ending_text w n (complete cost p) ++ a ≡ ending_text w m none_allowed ++ b → ⊥
apart w n m cost p a b e = differ 99 110 (ap (λ (t : List ℕ). slice_index t 7) (sym (complete_first w n cost p a) ∙ e)) (lit< tt)

ending_told : (w : Lists) → IsComplete w → IsNamed w → (set : ℕ) → set < length w.sets → (n m : ℕ) (x y : Ending) → FitsSet w set x → FitsSet w set y → FitsEnding x → FitsEnding y
    → (a b : List ℕ) → ending_text w n x ++ a ≡ ending_text w m y ++ b → (x ≡ y) × (a ≡ b)
ending_told w whole named set there n m (complete c p) (complete d q) ok ok' fit fit' a b e =
    let texts : decimal c ++ 10 ∷ (policy_text w p ++ a) ≡ decimal d ++ 10 ∷ (policy_text w q ++ b) =
    same_after (codes "result complete ") _ _ (sym (complete_first w n c p a) ∙ e ∙ complete_first w m d q b) in
    let first = heads (decimal c) (decimal d) (policy_text w p ++ a) (policy_text w q ++ b) (number_one c (lt_of_lt_of_le fit.0 (lit≤ tt))) (number_one d (lt_of_lt_of_le fit'.0 (lit≤ tt))) texts in
    let of_p : IsPolicyOf w set p = record { there = there; allowed = ok.0; sets = fit.1 } in
    let of_q : IsPolicyOf w set q = record { there = there; allowed = ok'.0; sets = fit'.1 } in
    let same : (p ≡ q) × (a ≡ b) = told_apart w whole named set p q of_p of_q a b first.1 in
    let costs : c ≡ d = one_cost c d fit.0 fit'.0 first.0 in
    ((λ i. complete (costs i) (same.0 i)), same.1)
ending_told w whole named set there n m (complete c p) none_allowed ok ok' fit fit' a b e = absurd (apart w n m c p a b e)
ending_told w whole named set there n m none_allowed (complete d q) ok ok' fit fit' a b e = absurd (apart w m n d q b a (sym e))
ending_told w whole named set there n m none_allowed none_allowed ok ok' fit fit' a b e = (refl, same_after (codes "result none\n") a b e)
ending_told w whole named set there n m (cut_off found) y ok ok' fit fit' a b e = absurd ok
ending_told w whole named set there n m (complete c p) (cut_off found) ok ok' fit fit' a b e = absurd ok'
ending_told w whole named set there n m none_allowed (cut_off found) ok ok' fit fit' a b e = absurd ok'

cut_begins : (n : ℕ) (rest : List ℕ) → slice_index (cut_words n ++ rest) 0 ≡ 114
unfolding cut_words
cut_begins n rest = refl

pub begins_result : (w : Lists) (n : ℕ) (x : Ending) (rest : List ℕ) → slice_index (ending_text w n x ++ rest) 0 ≡ 114
begins_result w n (complete c p) rest = ap (λ t. slice_index t 0) (complete_first w n c p rest)
begins_result w n none_allowed rest = refl
begins_result w n (cut_off found) rest =
    ap (λ t. slice_index t 0) (
    append_assoc (cut_line n (cost_of found)) (found_text w found) rest
    ∙ append_assoc (cut_words n ++ found_cost (cost_of found)) (codes "\n") (found_text w found ++ rest)
    ∙ append_assoc (cut_words n) (found_cost (cost_of found)) (codes "\n" ++ (found_text w found ++ rest)))
    ∙ cut_begins n (found_cost (cost_of found) ++ (codes "\n" ++ (found_text w found ++ rest)))

pub part_first : (w : Lists) (set : ℕ) (part : Part) (rest : List ℕ) → part_text w set part ++ rest ≡ set_line w set (length (program_of w set).costs) ++ (tree_text part.lines ++ (ending_text w (length part.lines) part.ending ++ rest))
part_first w set part rest =
    let first : List ℕ = set_line w set (length (program_of w set).costs) in
    append_assoc (first ++ tree_text part.lines) (ending_text w (length part.lines) part.ending) rest ∙ append_assoc first (tree_text part.lines) (ending_text w (length part.lines) part.ending ++ rest)

pub part_spellable : (w : Lists) (set : ℕ) (part : Part) → IsAcceptedPart w set part → FitsPart part → All IsSpellable part.lines
part_spellable w set part ok fit = all_spellable part.lines (proof_small (program_of w set) (goal_of part.ending) part.lines ok.shown) fit.lines

part_told : (w : Lists) → IsComplete w → IsNamed w → (set : ℕ) → set < length w.sets → (x y : Part) → IsAcceptedPart w set x → IsAcceptedPart w set y → FitsPart x → FitsPart y
    → (a b : List ℕ) → part_text w set x ++ a ≡ part_text w set y ++ b → (x ≡ y) × (a ≡ b)
part_told w whole named set there x y ok ok' fit fit' a b e =
    let behind : tree_text x.lines ++ (ending_text w (length x.lines) x.ending ++ a) ≡ tree_text y.lines ++ (ending_text w (length y.lines) y.ending ++ b) =
    same_after (set_line w set (length (program_of w set).costs)) _ _ (sym (part_first w set x a) ∙ e ∙ part_first w set y b) in
    let trees = tree_told x.lines y.lines (ending_text w (length x.lines) x.ending ++ a) (ending_text w (length y.lines) y.ending ++ b) (part_spellable w set x ok fit) (part_spellable w set y ok' fit') (begins_result w (length x.lines) x.ending a) (begins_result w (length y.lines) y.ending b) behind in
    let ends : (x.ending ≡ y.ending) × (a ≡ b) = ending_told w whole named set there (length x.lines) (length y.lines) x.ending y.ending ok.ending ok'.ending fit.ending fit'.ending a b trees.1 in
    ((λ i. record { lines = trees.0 i; ending = ends.0 i }), ends.1)

-- a fact of each part from a set on
abbrev pub EachFrom : (ℕ → Part → Type 0) → ℕ → List Part → Type 0
EachFrom P set [] = Unit {0}
EachFrom P set (part ∷ parts) = P set part × EachFrom P (set + 1) parts

each_from : (P : ℕ → Part → Type 0) (set : ℕ) (parts : List Part) → ((i : ℕ) (part : Part) → slice_get parts i ≡ Some part → P (set + i) part) → EachFrom P set parts
each_from P set [] each = tt
each_from P set (part ∷ parts) each =
    let here : set + 0 ≡ set = omega arith in (
      subst (λ (n : ℕ). P n part) here (each 0 part refl),
      each_from P (set + 1) parts (λ i p e. let there : set + suc i ≡ (set + 1) + i = omega arith in subst (λ (n : ℕ). P n p) there (each (suc i) p e)),
    )

pub each_all : (P : ℕ → Part → Type 0) (parts : List Part) → EachPart P parts → EachFrom P 0 parts
each_all P parts each = each_from P 0 parts (λ i part e. let same : i ≡ 0 + i = omega arith in subst (λ (n : ℕ). P n part) same (each i part e))

parts_told : (w : Lists) → IsComplete w → IsNamed w → (set : ℕ) (xs ys : List Part) → set + length xs ≡ length w.sets → set + length ys ≡ length w.sets
    → EachFrom (IsAcceptedPart w) set xs → EachFrom (IsAcceptedPart w) set ys → EachFrom (λ n part. FitsPart part) set xs → EachFrom (λ n part. FitsPart part) set ys
    → (a b : List ℕ) → parts_text w set xs ++ a ≡ parts_text w set ys ++ b → xs ≡ ys
parts_told w whole named set [] [] all all' ok ok' fit fit' a b e = refl
parts_told w whole named set [] (y ∷ ys) all all' ok ok' fit fit' a b e = absurd (omega arith)
parts_told w whole named set (x ∷ xs) [] all all' ok ok' fit fit' a b e = absurd (omega arith)
parts_told w whole named set (x ∷ xs) (y ∷ ys) all all' ok ok' fit fit' a b e =
    let both = part_told w whole named set (omega arith) x y ok.0 ok'.0 fit.0 fit'.0 (parts_text w (set + 1) xs ++ a) (parts_text w (set + 1) ys ++ b)
    (sym (append_assoc (part_text w set x) (parts_text w (set + 1) xs) a) ∙ e ∙ append_assoc (part_text w set y) (parts_text w (set + 1) ys) b) in
    let rest : xs ≡ ys = parts_told w whole named (set + 1) xs ys (omega arith) (omega arith) ok.1 ok'.1 fit.1 fit'.1 a b both.1 in
    λ i. both.0 i ∷ rest i

pub plans_told : PlanTextsAreToldApart
plans_told w whole named a b of_a of_b e =
    let texts : parts_text w 0 a ++ codes "end\n" ≡ parts_text w 0 b ++ codes "end\n" =
    same_after (codes "span-plan 1\n") _ _ (sym (append_assoc (codes "span-plan 1\n") (parts_text w 0 a) (codes "end\n")) ∙ e ∙ append_assoc (codes "span-plan 1\n") (parts_text w 0 b) (codes "end\n")) in
    parts_told w whole named 0 a b (let h = of_a.one_each in omega arith) (let h = of_b.one_each in omega arith)
    (each_all (IsAcceptedPart w) a of_a.accepted) (each_all (IsAcceptedPart w) b of_b.accepted) (each_all (λ n part. FitsPart part) a of_a.fit) (each_all (λ n part. FitsPart part) b of_b.fit) (codes "end\n") (codes "end\n") texts
