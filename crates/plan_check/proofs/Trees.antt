-- The text of a part as far as it was read, and where the refusals of its tree have their lines.
use Rattle.std.proofs.Common.{◌≡◌, ℕ, ◌+◌, ◌^◌, ◌<◌, List, [], ◌∷◌, ◌++◌, length, sym, ap, ◌∙◌, arith, append_assoc}
use Rattle.std.proofs.lemmas.List.{append-nil}
use Rattle.std.proofs.lemmas.List.Concat.{flat_map-append}
use Rattle.std.proofs.lemmas.Option.{slice_get_within}
use Rattle.std.specs.Prelude.{Err}
use Rattle.zero_one.specs.Contents.{Contents}
use Rattle.bound_cert.specs.declared.leaves.Line.{Line}
use Rattle.bound_cert.specs.declared.leaves.Goal.{Goal}
use Rattle.bound_cert.specs.Text.{line_text}
use Rattle.cert_checker.specs.declared.faults.CertFault.{CertFault}
use Rattle.cert_checker.specs.declared.faults.CertFault.TheVariants.{TooLong, NoSuchVar, VarTwice, RowUnknown, Range, NotClosed, TooShort, Bounded}
use Rattle.cert_checker.specs.Fed.{Finishes}
use Rattle.cert_checker.specs.Lines.{AreTaken}
use Rattle.workload.specs.World.{Lists}
use Rattle.shelf_lines.specs.Lines.{fed}
use Rattle.plan_text.specs.Parts.{Part}
use Rattle.plan_text.specs.PlanText.{tree_line, tree_text, set_line}
use Rattle.plan_text.specs.Plans.{begun_plan}
use Rattle.plan_check.specs.Refusals.{FitsBehind}
use Rattle.plan_check.specs.Places.{set_read, parts_read, program_at}

-- the leaf that a result names is one of the lines
pub fits_result : (program : Contents) (tree : List Line) (claimed : Goal) (before : ℕ) (cert : CertFault) → Finishes program tree claimed (Err cert)
    → before + length tree + 1 < 2 ^ 64 → FitsBehind before cert
fits_result program tree claimed before TooLong told small = tt
fits_result program tree claimed before NoSuchVar told small = tt
fits_result program tree claimed before VarTwice told small = tt
fits_result program tree claimed before RowUnknown told small = tt
fits_result program tree claimed before Range told small = tt
fits_result program tree claimed before TooShort told small = tt
fits_result program tree claimed before (NotClosed leaf) told small =
    let at = told.1.2.1.here in
    omega (arith, slice_get_within tree _ _ at.here, at.counted)
fits_result program tree claimed before (Bounded leaf) told small =
    let at = told.2.here in
    omega (arith, slice_get_within tree _ _ at.here, at.counted)

-- no lines were taken
pub taken_none : (program : Contents) → AreTaken program []
taken_none program at line is = absurd (cc)

-- the text of a part's tree behind the part's line
pub begun-is : (w : Lists) (parts : List Part) (tree : List Line) → set_read w parts ++ tree_text tree ≡ begun_plan w parts tree
begun-is w parts tree = append_assoc (parts_read w parts) (set_line w (length parts) (length (program_at w parts).costs)) (tree_text tree)

-- one more line of a tree
pub tree-more : (front : List ℕ) (tree : List Line) (node : Line) → front ++ tree_text (tree ++ node ∷ []) ≡ (front ++ tree_text tree) ++ fed (line_text node)
tree-more front tree node =
    let last : tree_text (tree ++ node ∷ []) ≡ tree_text tree ++ tree_line node =
    flat_map-append tree_line tree (node ∷ []) ∙ ap (λ (t : List ℕ). tree_text tree ++ t) (append-nil (tree_line node)) in
    ap (λ (t : List ℕ). front ++ t) last ∙ sym (append_assoc front (tree_text tree) (tree_line node))
