-- Lines that were taken, past which no path is left, are the lines of one tree; and each line of a tree stands at the node that its path comes to.
use Rattle.std.proofs.Common.{◌≡◌, ℕ, zero, suc, ◌≤◌, true, false, Option, Some, None, List, [], ◌∷◌, ◌++◌, length, take, refl, sym, ap, ◌∙◌, arith, append_assoc, append-nil, length-append}
use Rattle.std.specs.Prelude.{slice_get}
use Rattle.zero_one.specs.Contents.{Contents}
use Rattle.bound_cert.specs.declared.leaves.Line.{Line}
use Rattle.bound_cert.specs.declared.leaves.Line.TheVariants.{Branch, Close}
use Rattle.bound_cert.specs.Trees.{Tree, leaf, branch, lines_of, IsTreeBelow, Node, nodes_of}
use Rattle.cert_checker.specs.declared.turns.Turn.{Turn}
use Rattle.cert_checker.specs.Paths.{turned_back, path_past, path_from, path_after, fixed_by}
use Rattle.cert_checker.specs.Lines.{IsTakenAt, AreTaken, IsWhole}

-- ---- the path past lines, one more and one after another

pub path_from-append : (path : Option (List Turn)) (done more : List Line) → path_from path (done ++ more) ≡ path_from (path_from path done) more
path_from-append path [] more = refl
path_from-append path (line ∷ done) more = path_from-append (path_past path line) done more

pub path_after-push : (lines : List Line) (line : Line) → path_after (lines ++ line ∷ []) ≡ path_past (path_after lines) line
path_after-push lines line = path_from-append (Some []) lines (line ∷ [])

-- ---- taken lines, along the path

abbrev pub TakenFrom : Contents → Option (List Turn) → List Line → Type 0
TakenFrom program path [] = Unit {0}
TakenFrom program path (line ∷ lines) = IsTakenAt program path line × TakenFrom program (path_past path line) lines

pub get_here : {X : Type 0} (done : List X) (x : X) (rest : List X) → slice_get (done ++ x ∷ rest) (length done) ≡ Some x
get_here [] x rest = refl
get_here (y ∷ done) x rest = get_here done x rest

pub take_here : {X : Type 0} (done : List X) (x : X) (rest : List X) → take (length done) (done ++ x ∷ rest) ≡ done
take_here [] x rest = refl
take_here (y ∷ done) x rest = ap (λ xs. y ∷ xs) (take_here done x rest)

taken_past : (program : Contents) (done rest : List Line) → AreTaken program (done ++ rest) → TakenFrom program (path_after done) rest
taken_past program done [] all = tt
taken_past program done (line ∷ rest) all =
    let here : IsTakenAt program (path_after (take (length done) (done ++ line ∷ rest))) line = all (length done) line (get_here done line rest) in
    let next : AreTaken program ((done ++ line ∷ []) ++ rest) = rw append_assoc all in
    (rw take_here at here, rw path_after-push at (taken_past program (done ++ line ∷ []) rest next))

pub taken_along : (program : Contents) (lines : List Line) → AreTaken program lines → TakenFrom program (Some []) lines
taken_along program lines all = taken_past program [] lines all

-- ---- from lines to a tree

-- what is left once one tree was read
record Parsed (program : Contents) (path : List Turn) (lines : List Line) : Type 0 where
  tree : Tree
  rest : List Line
  below : IsTreeBelow (fixed_by program path) tree
  split : lines ≡ lines_of tree ++ rest
  ends : path_from (turned_back path) rest ≡ None
  taken : TakenFrom program (turned_back path) rest

parse : (fuel : ℕ) (program : Contents) (path : List Turn) (lines : List Line) → length lines ≤ fuel → TakenFrom program (Some path) lines → path_from (Some path) lines ≡ None → Parsed program path lines
parse fuel program path [] enough taken ends = absurd (cc)
parse zero program path (line ∷ lines) enough taken ends = absurd (omega arith)
parse (suc fuel) program path (Close end ∷ lines) enough taken ends =
    record { tree = leaf end; rest = lines; below = tt; split = refl; ends = ends; taken = taken.1 }
parse (suc fuel) program path (Branch var ∷ lines) enough taken ends =
    let down : Turn = record { var = var; bit = false } in
    let up : Turn = record { var = var; bit = true } in
    let left = parse fuel program (record { var = var; bit = false } ∷ path) lines (omega arith) taken.1 ends in
    let shorter : length left.rest ≤ fuel = omega (arith, ap length left.split, length-append (lines_of left.tree) left.rest) in
    let right = parse fuel program (record { var = var; bit = true } ∷ path) left.rest shorter left.taken left.ends in
    record {
      tree = branch var left.tree right.tree;
      rest = right.rest;
      below = (taken.0, left.below, right.below);
      split = ap (λ ls. Branch var ∷ ls) (left.split ∙ ap (λ ls. lines_of left.tree ++ ls) right.split ∙ sym (append_assoc (lines_of left.tree) (lines_of right.tree) right.rest));
      ends = right.ends;
      taken = right.taken;
    }

none_past_whole : (program : Contents) (lines : List Line) → TakenFrom program None lines → lines ≡ []
none_past_whole program [] taken = refl
none_past_whole program (line ∷ lines) taken = absurd taken.0

pub whole_along : (program : Contents) (lines : List Line) → TakenFrom program (Some []) lines → path_after lines ≡ None → IsWhole program lines
whole_along program lines taken ends =
    let parsed = parse (length lines) program [] lines (omega arith) taken ends in
    let nothing_left = none_past_whole program parsed.rest parsed.taken in
    record {
      tree = parsed.tree;
      well_formed = parsed.below;
      whole = parsed.split ∙ ap (λ ls. lines_of parsed.tree ++ ls) nothing_left ∙ append-nil (lines_of parsed.tree);
    }

pub whole_from_none : (program : Contents) (lines : List Line) → AreTaken program lines → path_after lines ≡ None → IsWhole program lines
whole_from_none program lines taken ends = whole_along program lines (taken_along program lines taken) ends

-- ---- from a tree to the path past its lines

path_past_tree : (tree : Tree) (path : List Turn) (rest : List Line) → path_from (Some path) (lines_of tree ++ rest) ≡ path_from (turned_back path) rest
path_past_tree (leaf end) path rest = refl
path_past_tree (branch var zeros ones) path rest =
    ap (path_from (Some (record { var = var; bit = false } ∷ path))) (append_assoc (lines_of zeros) (lines_of ones) rest)
    ∙ path_past_tree zeros (record { var = var; bit = false } ∷ path) (lines_of ones ++ rest)
    ∙ path_past_tree ones (record { var = var; bit = true } ∷ path) rest

pub none_from_whole : (program : Contents) (lines : List Line) → IsWhole program lines → path_after lines ≡ None
none_from_whole program lines whole =
    ap path_after (whole.whole ∙ sym (append-nil (lines_of whole.tree))) ∙ path_past_tree whole.tree [] []

-- ---- the nodes that lines come to

abbrev pub nodes_from : Contents → Option (List Turn) → List Line → List Node
nodes_from program path [] = []
nodes_from program None (line ∷ lines) = []
nodes_from program (Some path) (line ∷ lines) =
    record { fixed = fixed_by program path; line = line } ∷ nodes_from program (path_past (Some path) line) lines

nodes_past_tree : (program : Contents) (tree : Tree) (path : List Turn) (rest : List Line) → nodes_from program (Some path) (lines_of tree ++ rest) ≡ nodes_of (fixed_by program path) tree ++ nodes_from program (turned_back path) rest
nodes_past_tree program (leaf end) path rest = refl
nodes_past_tree program (branch var zeros ones) path rest =
    let low : List Turn = record { var = var; bit = false } ∷ path in
    let high : List Turn = record { var = var; bit = true } ∷ path in
    ap (λ ls. record { fixed = fixed_by program path; line = Branch var } ∷ nodes_from program (Some low) ls) (append_assoc (lines_of zeros) (lines_of ones) rest)
    ∙ ap (λ ns. record { fixed = fixed_by program path; line = Branch var } ∷ ns) (nodes_past_tree program zeros low (lines_of ones ++ rest) ∙ ap (λ ns. nodes_of (fixed_by program low) zeros ++ ns) (nodes_past_tree program ones high rest) ∙ sym (append_assoc (nodes_of (fixed_by program low) zeros) (nodes_of (fixed_by program high) ones) (nodes_from program (turned_back path) rest)))

pub nodes_of_tree : (program : Contents) (lines : List Line) (tree : Tree) → lines ≡ lines_of tree → nodes_from program (Some []) lines ≡ nodes_of (fixed_by program []) tree
nodes_of_tree program lines tree e =
    ap (nodes_from program (Some [])) (e ∙ sym (append-nil (lines_of tree))) ∙ nodes_past_tree program tree [] [] ∙ append-nil (nodes_of (fixed_by program []) tree)
