-- The lines of a proof are taken in their turn, and lines that are taken can be spelled.
use Rattle.std.proofs.Common.{◌≡◌, ℕ, zero, suc, ◌<◌, ◌≤◌, ℤ, pos, ◌<ℤ◌, true, false, Option, Some, None, List, [], ◌∷◌, ◌++◌, length, take, sym, ◌∙◌, subst, arith, append_assoc, append-nil, lit<}
use Rattle.std.specs.Prelude.{All, slice_get, slice_index_or}
use Rattle.std.proofs.lemmas.List.Elements.{All-nil, All-cons, All-head, All-tail}
use Rattle.std.proofs.lemmas.Option.{slice_get_within}
use Rattle.std.proofs.Math.Nat.{lt_of_le_of_lt}
use Rattle.zero_one.specs.Contents.{Contents}
use Rattle.zero_one.specs.Program.{IsWithinLimits}
use Rattle.bound_cert.specs.declared.leaves.Line.{Line}
use Rattle.bound_cert.specs.declared.leaves.Line.TheVariants.{Branch, Close}
use Rattle.bound_cert.specs.declared.leaves.Goal.{Goal}
use Rattle.bound_cert.specs.Closing.{Closes}
use Rattle.bound_cert.specs.Trees.{Tree, leaf, branch, lines_of, nodes_of, Node, IsTreeBelow, IsClosed, IsProof, fix}
use Rattle.bound_cert.specs.Text.{HasShortMultipliers}
use Rattle.bound_cert.specs.Reading.{IsSpellable, IsWithinRanges}
use Rattle.cert_checker.specs.declared.turns.Turn.{Turn}
use Rattle.cert_checker.specs.Paths.{turned_back, path_past, path_from, fixed_by}
use Rattle.cert_checker.specs.Lines.{IsTakenUnder, IsTakenAt, AreTaken}
use Rattle.cert_checker.proofs.Parsing.{TakenFrom, taken_along}
use Rattle.cert_checker.proofs.Trails.{length-fixed_over}

-- a fact of all items of a list, of its two parts
pub All-left : {X : Type 0} (P : X → Type 0) (xs ys : List X) → All P (xs ++ ys) → All P xs
All-left P [] ys all = All-nil P
All-left P (x ∷ xs) ys all = All-cons P x xs (All-head P x (xs ++ ys) all) (All-left P xs ys (All-tail P x (xs ++ ys) all))

pub All-right : {X : Type 0} (P : X → Type 0) (xs ys : List X) → All P (xs ++ ys) → All P ys
All-right P [] ys all = all
All-right P (x ∷ xs) ys all = All-right P xs ys (All-tail P x (xs ++ ys) all)

-- a leaf that closes with `s = 0` has a value above 0
above_none : (value : ℤ) (s : ℕ) (goal : Goal) → Closes value s goal → s ≡ 0 → pos 0 <ℤ value
above_none value zero goal closes none = closes
above_none value (suc s) goal closes none = absurd (omega arith)

-- the lines of a tree, along its paths
tree_taken : (program : Contents) (goal : Goal) (tree : Tree) (path : List Turn) (rest : List Line) → IsTreeBelow (fixed_by program path) tree
    → All (IsClosed program goal) (nodes_of (fixed_by program path) tree) → TakenFrom program (turned_back path) rest → TakenFrom program (Some path) (lines_of tree ++ rest)
tree_taken program goal (leaf end) path rest below closed next =
    let node : Node = record { fixed = fixed_by program path; line = Close end } in
    let here = All-head (IsClosed program goal) node [] closed in
    ((here.0, above_none _ end.s goal here.1), next)
tree_taken program goal (branch var zeros ones) path rest below closed next =
    let down : Turn = record { var = var; bit = false } in
    let up : Turn = record { var = var; bit = true } in
    let node : Node = record { fixed = fixed_by program path; line = Branch var } in
    let low = nodes_of (fix (fixed_by program path) var false) zeros in
    let high = nodes_of (fix (fixed_by program path) var true) ones in
    let both = All-tail (IsClosed program goal) node (low ++ high) closed in
    let behind : TakenFrom program (Some (up ∷ path)) (lines_of ones ++ rest) = tree_taken program goal ones (up ∷ path) rest below.2 (All-right (IsClosed program goal) low high both) next in
    let first : TakenFrom program (Some (down ∷ path)) (lines_of zeros ++ (lines_of ones ++ rest)) =
    tree_taken program goal zeros (down ∷ path) (lines_of ones ++ rest) below.1 (All-left (IsClosed program goal) low high both) behind in
    (below.0, subst (TakenFrom program (Some (down ∷ path))) (sym (append_assoc (lines_of zeros) (lines_of ones) rest)) first)

each_taken : (program : Contents) (from : Option (List Turn)) (lines : List Line) → TakenFrom program from lines → (at : ℕ) (line : Line) → slice_get lines at ≡ Some line
    → IsTakenAt program (path_from from (take at lines)) line
each_taken program from [] taken at line here = absurd (cc)
each_taken program from (l ∷ lines) taken zero line here = let same : l ≡ line = cc in subst (IsTakenAt program from) same taken.0
each_taken program from (l ∷ lines) taken (suc at) line here = each_taken program (path_past from l) lines taken.1 at line here

pub proof_taken : (program : Contents) (goal : Goal) (lines : List Line) → IsProof program lines goal → AreTaken program lines
proof_taken program goal lines proof =
    let along : TakenFrom program (Some []) (lines_of proof.tree ++ []) = tree_taken program goal proof.tree [] [] proof.well_formed proof.closed tt in
    each_taken program (Some []) lines (subst (TakenFrom program (Some [])) (append-nil (lines_of proof.tree) ∙ sym proof.whole) along)

-- a line that is taken has numbers within their ranges
pub one_within : (program : Contents) (path : List Turn) (line : Line) → IsWithinLimits program → IsTakenUnder program (fixed_by program path) line → IsWithinRanges line
one_within program path (Branch var) limits free =
    let low : var < length (fixed_by program path) = slice_get_within (fixed_by program path) var None free in
    let size : length (fixed_by program path) ≡ length program.costs = length-fixed_over (length program.costs) path in
    let small : var ≤ 65535 = omega (arith, low, size, limits.variables) in
    small
one_within program path (Close end) limits taken =
    let fits = taken.0 in
    let scale : end.s ≤ 4294967295 = omega (arith, fits.scale) in (
      scale,
      λ k d inside. let row = fits.existing k d inside in let small : (slice_index_or end.pairs k d).row ≤ 65535 = omega (arith, row, limits.row_count) in small,
    )

-- and so can be spelled
small_spelled : (line : Line) → IsWithinRanges line → HasShortMultipliers line → IsSpellable line
small_spelled (Branch var) within short = lt_of_le_of_lt within (lit< tt)
small_spelled (Close end) within short = (lt_of_le_of_lt within.0 (lit< tt), λ k d inside. (lt_of_le_of_lt (within.1 k d inside) (lit< tt), short k d inside))

short_mults : (program : Contents) (path : List Turn) (line : Line) → IsTakenUnder program (fixed_by program path) line → HasShortMultipliers line
short_mults program path (Branch var) taken = tt
short_mults program path (Close end) taken = let fits = taken.0 in λ k d inside. lt_of_le_of_lt (fits.multipliers k d inside).1 (lit< tt)

-- what holds of each line that is taken
each_along : (P : Line → Type 0) (program : Contents) (from : Option (List Turn)) (lines : List Line) → ((path : List Turn) (line : Line) → IsTakenUnder program (fixed_by program path) line → P line)
    → TakenFrom program from lines → All P lines
each_along P program from [] holds taken = All-nil P
each_along P program None (line ∷ lines) holds taken = absurd taken.0
each_along P program (Some path) (line ∷ lines) holds taken =
    All-cons P line lines (holds path line taken.0) (each_along P program (path_past (Some path) line) lines holds taken.1)

pub taken_each : (P : Line → Type 0) (program : Contents) (lines : List Line) → ((path : List Turn) (line : Line) → IsTakenUnder program (fixed_by program path) line → P line)
    → AreTaken program lines → All P lines
taken_each P program lines holds taken = each_along P program (Some []) lines holds (taken_along program lines taken)

pub taken_within : (program : Contents) (lines : List Line) → IsWithinLimits program → AreTaken program lines → All IsWithinRanges lines
taken_within program lines limits taken = taken_each IsWithinRanges program lines (λ path line here. one_within program path line limits here) taken

pub taken_spellable : (program : Contents) (lines : List Line) → IsWithinLimits program → AreTaken program lines → All IsSpellable lines
taken_spellable program lines limits taken =
    taken_each IsSpellable program lines (λ path line here. small_spelled line (one_within program path line limits here) (short_mults program path line here)) taken
