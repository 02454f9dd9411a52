-- The lines that a search stands for: with a leaf for each open node they are a whole tree.
use Rattle.std.proofs.Common.{◌≡◌, ℕ, zero, suc, ℤ, pos, ◌<ℤ◌, Option, Some, None, Bool, true, false, List, [], ◌∷◌, ◌++◌, length, take, replicate, refl, sym, ap, ◌∙◌, subst, arith, append_assoc, length-append}
use Rattle.std.specs.Prelude.{if◌then◌else◌}
use Rattle.std.specs.List.{All}
use Rattle.std.proofs.Math.Seq.{take-append_seam}
use Rattle.std.proofs.lemmas.List.{length-replicate}
use Rattle.std.proofs.lemmas.List.Elements.{All-nil, All-cons}
use Rattle.zero_one.specs.Contents.{Contents}
use Rattle.bound_cert.specs.declared.leaves.Goal.{Goal}
use Rattle.bound_cert.specs.declared.leaves.Line.{Line}
use Rattle.bound_cert.specs.declared.leaves.Line.TheVariants.{Branch, Close}
use Rattle.bound_cert.specs.Leaves.{leaf_bound}
use Rattle.bound_cert.specs.Closing.{Closes}
use Rattle.bound_cert.specs.Trees.{Node, IsClosed, IsOpen, IsProof, IsOpenPrefix}
use Rattle.cert_checker.specs.declared.turns.Turn.{Turn}
use Rattle.cert_checker.specs.Paths.{path_past, path_from, path_after, fixed_by}
use Rattle.cert_checker.specs.Lines.{IsTakenUnder, IsTakenAt}
use Rattle.cert_checker.proofs.Parsing.{TakenFrom, get_here, take_here, path_from-append, path_after-push, whole_along, nodes_from, nodes_of_tree}
use Rattle.branch_solver.specs.Best.{goal_of}
use Rattle.branch_solver.specs.Given.{IsGivenUnder, IsGivenAt, AreGiven}
use Rattle.branch_solver.specs.Kept.{Kept, StandsFor}

-- ---- given lines, along the path

GivenFrom : Contents → Goal → Option (List Turn) → List Line → Type 0
GivenFrom program goal path [] = Unit {0}
GivenFrom program goal path (line ∷ lines) = IsGivenAt program goal path line × GivenFrom program goal (path_past path line) lines

given_past : (program : Contents) (goal : Goal) (done rest : List Line) → AreGiven program goal (done ++ rest) → GivenFrom program goal (path_after done) rest
unfolding GivenFrom
given_past program goal done [] all = tt
given_past program goal done (line ∷ rest) all =
    let here : IsGivenAt program goal (path_after (take (length done) (done ++ line ∷ rest))) line = all (length done) line (get_here done line rest) in
    let next : AreGiven program goal ((done ++ line ∷ []) ++ rest) = rw append_assoc all in
    (rw take_here at here, rw path_after-push at (given_past program goal (done ++ line ∷ []) rest next))

positive : (value : ℤ) (s : ℕ) (goal : Goal) → Closes value s goal → s ≡ 0 → pos 0 <ℤ value
positive value zero goal closes none = closes
positive value (suc s) goal closes none = absurd (omega (arith, none))

taken_under : (program : Contents) (goal : Goal) (fixed : List (Option Bool)) (line : Line) → IsGivenUnder program goal fixed line → IsTakenUnder program fixed line
taken_under program goal fixed (Branch var) given = given.0.free
taken_under program goal fixed (Close end) given =
    (given.0, positive (leaf_bound program fixed end) end.s goal given.1)

taken_at : (program : Contents) (goal : Goal) (path : Option (List Turn)) (line : Line) → IsGivenAt program goal path line → IsTakenAt program path line
taken_at program goal None line given = given
taken_at program goal (Some path) line given = taken_under program goal (fixed_by program path) line given

taken_from : (program : Contents) (goal : Goal) (path : Option (List Turn)) (lines : List Line) → GivenFrom program goal path lines → TakenFrom program path lines
unfolding GivenFrom
taken_from program goal path [] given = tt
taken_from program goal path (line ∷ lines) given =
    (taken_at program goal path line given.0, taken_from program goal (path_past path line) lines given.1)

taken_append : (program : Contents) (path : Option (List Turn)) (done more : List Line) → TakenFrom program path done → TakenFrom program (path_from path done) more → TakenFrom program path (done ++ more)
taken_append program path [] more first next = next
taken_append program path (line ∷ done) more first next =
    (first.0, taken_append program (path_past path line) done more first.1 next)

-- ---- the nodes that given lines come to

node_closed : (program : Contents) (goal : Goal) (path : List Turn) (line : Line) → IsGivenUnder program goal (fixed_by program path) line → IsClosed program goal (record { fixed = fixed_by program path; line = line })
node_closed program goal path (Branch var) given = tt
node_closed program goal path (Close end) given = given

node_open : (program : Contents) (goal : Goal) (path : List Turn) (line : Line) → IsGivenUnder program goal (fixed_by program path) line → IsOpen program (record { fixed = fixed_by program path; line = line })
node_open program goal path (Branch var) given = given.1
node_open program goal path (Close end) given = tt

nodes_closed : (program : Contents) (goal : Goal) (path : Option (List Turn)) (lines : List Line) → GivenFrom program goal path lines → All (IsClosed program goal) (nodes_from program path lines)
unfolding GivenFrom
nodes_closed program goal path [] given = All-nil (IsClosed program goal)
nodes_closed program goal None (line ∷ lines) given = absurd given.0
nodes_closed program goal (Some path) (line ∷ lines) given =
    All-cons (IsClosed program goal) (record { fixed = fixed_by program path; line = line }) (nodes_from program (path_past (Some path) line) lines) (node_closed program goal path line given.0) (nodes_closed program goal (path_past (Some path) line) lines given.1)

nodes_open : (program : Contents) (goal : Goal) (path : Option (List Turn)) (lines : List Line) → GivenFrom program goal path lines → All (IsOpen program) (nodes_from program path lines)
unfolding GivenFrom
nodes_open program goal path [] given = All-nil (IsOpen program)
nodes_open program goal None (line ∷ lines) given = absurd given.0
nodes_open program goal (Some path) (line ∷ lines) given =
    All-cons (IsOpen program) (record { fixed = fixed_by program path; line = line }) (nodes_from program (path_past (Some path) line) lines) (node_open program goal path line given.0) (nodes_open program goal (path_past (Some path) line) lines given.1)

nodes_front : (program : Contents) (goal : Goal) (path : Option (List Turn)) (lines more : List Line) → GivenFrom program goal path lines → take (length lines) (nodes_from program path (lines ++ more)) ≡ nodes_from program path lines
unfolding GivenFrom
nodes_front program goal path [] more given = refl
nodes_front program goal None (line ∷ lines) more given = absurd given.0
nodes_front program goal (Some path) (line ∷ lines) more given =
    ap (λ ns. record { fixed = fixed_by program path; line = line } ∷ ns) (nodes_front program goal (path_past (Some path) line) lines more given.1)

-- ---- a whole tree

proves : (program : Contents) (goal : Goal) (lines : List Line) → GivenFrom program goal (Some []) lines → path_after lines ≡ None → IsProof program lines goal
proves program goal lines given ends =
    let whole = whole_along program lines (taken_from program goal (Some []) lines given) ends in
    let P : List Node → Type 0 = λ ns. All (IsClosed program goal) ns in
    record {
      tree = whole.tree;
      well_formed = whole.well_formed;
      whole = whole.whole;
      closed = subst P (nodes_of_tree program lines whole.tree whole.whole) (nodes_closed program goal (Some []) lines given);
    }

-- ---- an open prefix: `l 1` for each node that is still open

pub end_line : Line
end_line = Close (record { s = 1; pairs = [] })

-- the turns of a path whose other child is still to come
pub zeros : List Turn → ℕ
zeros [] = 0
zeros (turn ∷ above) = if turn.bit then zeros above else suc (zeros above)

-- what ends the path and the children to come
pub record Completed (program : Contents) (path : List Turn) : Type 0 where
  pub ends : path_from (Some path) (replicate (suc (zeros path)) end_line) ≡ None
  pub taken : TakenFrom program (Some path) (replicate (suc (zeros path)) end_line)

end_taken : (program : Contents) (fixed : List (Option Bool)) → IsTakenUnder program fixed end_line
unfolding end_line
end_taken program fixed = (
  record {
    scale = omega arith;
    multipliers = λ k d below. absurd (omega arith);
    rising = λ k below. absurd (omega arith);
    existing = λ k d below. absurd (omega arith);
  },
  λ none. absurd (omega (arith, none)),
)

completed : (program : Contents) (path : List Turn) → Completed program path
unfolding zeros end_line
completed program [] = record { ends = refl; taken = (end_taken program (fixed_by program []), tt) }
completed program (turn ∷ above) = by_bit turn.bit refl (completed program above)
  where
    by_bit : (bit : Bool) → turn.bit ≡ bit → Completed program above → Completed program (turn ∷ above)
    by_bit true is rest =
        record {
          ends = rw is rest.ends;
          taken = (end_taken program (fixed_by program (turn ∷ above)), rw is rest.taken.1);
        }
    by_bit false is rest =
        record {
          ends = rw is rest.ends;
          taken = (end_taken program (fixed_by program (turn ∷ above)), rw is (end_taken program (fixed_by program (record { var = turn.var; bit = true } ∷ above)), rest.taken.1));
        }

opens : (program : Contents) (goal : Goal) (lines : List Line) (path : List Turn) → GivenFrom program goal (Some []) lines → path_after lines ≡ Some path → IsOpenPrefix program lines goal
opens program goal lines path given there =
    let more : List Line = replicate (suc (zeros path)) end_line in
    let rest = completed program path in
    let P : Option (List Turn) → Type 0 = λ p. TakenFrom program p more in
    let taken : TakenFrom program (Some []) (lines ++ more) = taken_append program (Some []) lines more (taken_from program goal (Some []) lines given) (subst P (sym there) rest.taken) in
    let ends : path_after (lines ++ more) ≡ None = path_from-append (Some []) lines more ∙ ap (λ p. path_from p more) there ∙ rest.ends in
    let whole = whole_along program (lines ++ more) taken ends in
    let nodes = sym (nodes_front program goal (Some []) lines more given) ∙ ap (take (length lines)) (nodes_of_tree program (lines ++ more) whole.tree whole.whole) in
    let Q : List Node → Type 0 = λ ns. All (IsClosed program goal) ns in
    let R : List Node → Type 0 = λ ns. All (IsOpen program) ns in
    record {
      tree = whole.tree;
      well_formed = whole.well_formed;
      longer = omega (arith, ap length whole.whole, length-append lines more, length-replicate (suc (zeros path)) end_line);
      front = sym (take-append_seam lines more) ∙ ap (take (length lines)) whole.whole;
      closed = subst Q nodes (nodes_closed program goal (Some []) lines given);
      opened = subst R nodes (nodes_open program goal (Some []) lines given);
    }

-- ---- what a search stands for

pub searches_prove : (program : Contents) (lines : List Line) (kept : Kept) → StandsFor program lines kept → kept.whole ≡ true → IsProof program lines (goal_of kept.best)
searches_prove program lines kept stands whole =
    proves program (goal_of kept.best) lines (given_past program (goal_of kept.best) [] lines stands.given) (sym stands.path ∙ rw whole refl)

pub searches_are_open : (program : Contents) (lines : List Line) (kept : Kept) → StandsFor program lines kept → kept.whole ≡ false → IsOpenPrefix program lines (goal_of kept.best)
searches_are_open program lines kept stands unfinished =
    opens program (goal_of kept.best) lines kept.turns (given_past program (goal_of kept.best) [] lines stands.given) (sym stands.path ∙ rw unfinished refl)
