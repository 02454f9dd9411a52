-- Whether the lines are a proof: each leaf closes exactly where no ceiling is below the cost.
use Rattle.std.proofs.Common.{◌≡◌, ℕ, zero, suc, ◌+◌, ◌-◌, ◌<◌, inl, inr, ℤ, pos, ◌≤ℤ◌, Bool, true, false, cond, Option, Some, None, Result, Ok, Err, List, [], ◌∷◌, take, refl, sym, ap, ◌∙◌, subst, arith}
use Rattle.std.specs.List.{All}
use Rattle.std.specs.Prelude.{slice_get, IsOk}
use Rattle.std.proofs.lemmas.Int.{ints}
use Rattle.std.proofs.lemmas.Bool.{cases_lt}
use Rattle.std.proofs.lemmas.List.Elements.{All-head, All-tail, All-nil, All-cons}
use Rattle.zero_one.specs.Contents.{Contents}
use Rattle.bound_cert.specs.declared.leaves.Leaf.{Leaf}
use Rattle.bound_cert.specs.declared.leaves.Line.{Line}
use Rattle.bound_cert.specs.declared.leaves.Line.TheVariants.{Branch, Close}
use Rattle.bound_cert.specs.declared.leaves.Goal.{Goal}
use Rattle.bound_cert.specs.declared.leaves.Goal.TheVariants.{Cost, Nothing}
use Rattle.bound_cert.specs.Leaves.{leaf_bound}
use Rattle.bound_cert.specs.Closing.{Closes}
use Rattle.bound_cert.specs.Trees.{Node, ClosesAt, IsClosed, IsProof}
use Rattle.cert_checker.specs.declared.ceilings.Ceilings.{Ceilings}
use Rattle.cert_checker.specs.declared.faults.CertFault.{CertFault}
use Rattle.cert_checker.specs.declared.faults.CertFault.TheVariants.{TooShort, NotClosed, Bounded}
use Rattle.cert_checker.specs.declared.turns.Turn.{Turn}
use Rattle.cert_checker.specs.Paths.{path_after, path_past, path_from, fixed_by}
use Rattle.cert_checker.specs.Lines.{IsTakenAt, AreTaken, IsWhole}
use Rattle.cert_checker.specs.Ceilings.{IsCeiling, IsBoundingAt, IsCeilingAt, IsFirstBounding, IsLeastCeiling, AreCeilingsOf}
use Rattle.cert_checker.specs.Kept.{Kept, path_of, StandsFor}
use Rattle.cert_checker.specs.Fed.{Finishes}
use Rattle.cert_checker.specs.Moves.{IsVerdict}
use Rattle.cert_checker.proofs.Heights.{some_ceiling, closes_below, below_closes, never_nothing, closes_unbounded}
use Rattle.cert_checker.proofs.Parsing.{nodes_from, nodes_of_tree, whole_from_none, none_from_whole}

-- ---- each node closes exactly where each leaf does at its line

-- each line closes at the end of the path that it was fed on
abbrev EachCloses : Contents → Goal → Option (List Turn) → List Line → Type 0
EachCloses program goal from lines =
    (at : ℕ) (path : List Turn) (line : Line) → slice_get lines at ≡ Some line → path_from from (take at lines) ≡ Some path → ClosesAt program goal (fixed_by program path) line

all_closed : (program : Contents) (goal : Goal) (from : Option (List Turn)) (lines : List Line) → EachCloses program goal from lines → All (IsClosed program goal) (nodes_from program from lines)
all_closed program goal from [] each = All-nil (IsClosed program goal)
all_closed program goal None (line ∷ lines) each = All-nil (IsClosed program goal)
all_closed program goal (Some path) (line ∷ lines) each =
    All-cons (IsClosed program goal) (record { fixed = fixed_by program path; line = line }) (nodes_from program (path_past (Some path) line) lines) (each 0 path line refl refl) (all_closed program goal (path_past (Some path) line) lines (λ at p l here below. each (suc at) p l here below))

path_from-none : (lines : List Line) → path_from None lines ≡ None
path_from-none [] = refl
path_from-none (line ∷ lines) = path_from-none lines

each_closes : (program : Contents) (goal : Goal) (from : Option (List Turn)) (lines : List Line) → All (IsClosed program goal) (nodes_from program from lines) → EachCloses program goal from lines
each_closes program goal from [] all at path line here below = absurd (cc)
each_closes program goal None (l ∷ lines) all at path line here below = absurd (let e = path_from-none (take at (l ∷ lines)) in cc)
each_closes program goal (Some q) (l ∷ lines) all zero path line here below =
    let same_path : q ≡ path = cc in
    let same_line : l ≡ line = cc in
    let first = All-head (IsClosed program goal) (record { fixed = fixed_by program q; line = l }) (nodes_from program (path_past (Some q) l) lines) all in
    let P : List Turn → Type 0 = λ p. ClosesAt program goal (fixed_by program p) l in
    let Q : Line → Type 0 = λ x. ClosesAt program goal (fixed_by program path) x in
    subst Q same_line (subst P same_path first)
each_closes program goal (Some q) (l ∷ lines) all (suc at) path line here below =
    each_closes program goal (path_past (Some q) l) lines (All-tail (IsClosed program goal) (record { fixed = fixed_by program q; line = l }) (nodes_from program (path_past (Some q) l) lines) all) at path line here below

-- ---- proofs from what was checked

proof_from : (program : Contents) (goal : Goal) (lines : List Line) → IsWhole program lines → EachCloses program goal (Some []) lines → IsProof program lines goal
proof_from program goal lines whole each =
    let P : List Node → Type 0 = λ ns. All (IsClosed program goal) ns in
    record {
      tree = whole.tree;
      well_formed = whole.well_formed;
      whole = whole.whole;
      closed = subst P (nodes_of_tree program lines whole.tree whole.whole) (all_closed program goal (Some []) lines each);
    }

proof_closes : (program : Contents) (goal : Goal) (lines : List Line) → IsProof program lines goal → EachCloses program goal (Some []) lines
proof_closes program goal lines proof =
    let P : List Node → Type 0 = λ ns. All (IsClosed program goal) ns in
    each_closes program goal (Some []) lines (subst P (sym (nodes_of_tree program lines proof.tree proof.whole)) proof.closed)

pub proof_whole : (program : Contents) (goal : Goal) (lines : List Line) → IsProof program lines goal → IsWhole program lines
proof_whole program goal lines proof =
    record { tree = proof.tree; well_formed = proof.well_formed; whole = proof.whole }

-- a taken line, on the path that it was fed on
taken_on : (program : Contents) (lines : List Line) (at : ℕ) (path : List Turn) (line : Line) → AreTaken program lines → slice_get lines at ≡ Some line → path_after (take at lines) ≡ Some path → IsTakenAt program (Some path) line
taken_on program lines at path line taken here below =
    let P : Option (List Turn) → Type 0 = λ p. IsTakenAt program p line in
    subst P below (taken at line here)

-- where each leaf with `s > 0` closes, each line does
lines_close : (program : Contents) (goal : Goal) (lines : List Line) → AreTaken program lines → ((at : ℕ) (path : List Turn) (end : Leaf) → slice_get lines at ≡ Some (Close end) → path_after (take at lines) ≡ Some path → 0 < end.s → Closes (leaf_bound program (fixed_by program path) end) end.s goal) → EachCloses program goal (Some []) lines
lines_close program goal lines taken bounding at path (Branch var) here below = tt
lines_close program goal lines taken bounding at path (Close end) here below =
    let (fits, above) = taken_on program lines at path (Close end) taken here below in (
      fits,
      elim (cases_lt 0 end.s) [
        | inl positive ↦ bounding at path end here below positive
        | inr none ↦
            let zero_s : end.s ≡ 0 = omega (arith, none) in
            closes_unbounded (leaf_bound program (fixed_by program path) end) end.s goal zero_s (above zero_s)
      ],
    )

-- a line's number, for its place
ceiling_at : (program : Contents) (lines : List Line) (at : ℕ) (path : List Turn) (end : Leaf) (ceiling : ℤ) → slice_get lines at ≡ Some (Close end) → path_after (take at lines) ≡ Some path → 0 < end.s → IsCeiling (leaf_bound program (fixed_by program path) end) end.s ceiling → IsCeilingAt program lines (at + 1) ceiling
ceiling_at program lines at path end ceiling here below positive is =
    let back : at + 1 - 1 ≡ at = omega arith in
    record {
      end = end;
      path = path;
      counted = omega arith;
      here = ap (slice_get lines) back ∙ here;
      bounding = positive;
      below = ap (λ n. path_after (take n lines)) back ∙ below;
      height = is;
    }

bounding_at : (lines : List Line) (at : ℕ) (end : Leaf) → slice_get lines at ≡ Some (Close end) → 0 < end.s → IsBoundingAt lines (at + 1)
bounding_at lines at end here positive =
    let back : at + 1 - 1 ≡ at = omega arith in
    record { end = end; counted = omega arith; here = ap (slice_get lines) back ∙ here; bounding = positive }

-- no leaf with `s > 0`: a proof of any goal
pub unbounded_proof : (program : Contents) (goal : Goal) (lines : List Line) → AreTaken program lines → IsWhole program lines → ((number : ℕ) → IsBoundingAt lines number → ⊥) → IsProof program lines goal
unbounded_proof program goal lines taken whole none =
    proof_from program goal lines whole (lines_close program goal lines taken (λ at path end here below positive. absurd (none (at + 1) (bounding_at lines at end here positive))))

-- no ceiling below the cost: a proof of it
pub bounded_proof : (program : Contents) (cost : ℕ) (lines : List Line) → AreTaken program lines → IsWhole program lines → ((number : ℕ) (ceiling : ℤ) → IsCeilingAt program lines number ceiling → pos cost ≤ℤ ceiling) → IsProof program lines (Cost cost)
bounded_proof program cost lines taken whole high =
    proof_from program (Cost cost) lines whole (lines_close program (Cost cost) lines taken (λ at path end here below positive.
    let (ceiling, is) = some_ceiling (leaf_bound program (fixed_by program path) end) end.s positive in
    closes_below (leaf_bound program (fixed_by program path) end) end.s ceiling cost positive is (high (at + 1) ceiling (ceiling_at program lines at path end ceiling here below positive is))))

-- in a proof of a cost no ceiling is below it
proof_high : (program : Contents) (cost : ℕ) (lines : List Line) → IsProof program lines (Cost cost) → (number : ℕ) (ceiling : ℤ) → IsCeilingAt program lines number ceiling → pos cost ≤ℤ ceiling
proof_high program cost lines proof number ceiling is =
    let closed = proof_closes program (Cost cost) lines proof (number - 1) is.path (Close is.end) is.here is.below in
    below_closes (leaf_bound program (fixed_by program is.path) is.end) is.end.s ceiling cost is.bounding is.height closed.1

-- in a proof of nothing no leaf has a ceiling
proof_unbounded : (program : Contents) (lines : List Line) → IsProof program lines Nothing → (number : ℕ) (ceiling : ℤ) → IsCeilingAt program lines number ceiling → ⊥
proof_unbounded program lines proof number ceiling is =
    let closed = proof_closes program Nothing lines proof (number - 1) is.path (Close is.end) is.here is.below in
    never_nothing (leaf_bound program (fixed_by program is.path) is.end) is.end.s is.bounding closed.1

-- ---- what `finish` answers

pub kept_whole : (program : Contents) (lines : List Line) (kept : Kept) → StandsFor program lines kept → kept.whole ≡ true → IsWhole program lines
kept_whole program lines kept stands whole =
    whole_from_none program lines stands.taken (sym stands.left.path ∙ ap (λ (b : Bool). cond b None (Some kept.turns)) whole)

pub kept_short : (program : Contents) (lines : List Line) (kept : Kept) → StandsFor program lines kept → kept.whole ≡ false → ¬ IsWhole program lines
kept_short program lines kept stands short whole =
    let none : path_of kept ≡ None = stands.left.path ∙ none_from_whole program lines whole in
    let some : path_of kept ≡ Some kept.turns = ap (λ (b : Bool). cond b None (Some kept.turns)) short in
    absurd (cc)

-- the answer fits the table, and is Ok exactly where the lines are a proof
pub record Answers (program : Contents) (lines : List Line) (goal : Goal) (result : Result (Unit {0}) CertFault) : Type 0 where
  pub proof : (IsOk result → IsProof program lines goal) × (IsProof program lines goal → IsOk result)
  pub table : Finishes program lines goal result

ok_answers : (program : Contents) (lines : List Line) (goal : Goal) (done : Unit {0}) → IsProof program lines goal → Answers program lines goal (Ok done)
ok_answers program lines goal done proof = record { proof = (λ _. proof, λ _. refl); table = proof }

pub short_answers : (program : Contents) (lines : List Line) (kept : Kept) (goal : Goal) → StandsFor program lines kept → kept.whole ≡ false → Answers program lines goal (Err TooShort)
short_answers program lines kept goal stands short =
    let not_whole = kept_short program lines kept stands short in
    record {
      proof = (λ h. absurd (cc), λ proof. absurd (not_whole (proof_whole program goal lines proof)));
      table = not_whole;
    }

pub unbounded_answers : (program : Contents) (lines : List Line) (kept : Kept) (goal : Goal) (done : Unit {0}) → StandsFor program lines kept → kept.whole ≡ true → kept.ceilings ≡ None → Answers program lines goal (Ok done)
unbounded_answers program lines kept goal done stands whole none =
    let P : Option Ceilings → Type 0 = λ c. AreCeilingsOf program lines c in
    ok_answers program lines goal done (unbounded_proof program goal lines stands.taken (kept_whole program lines kept stands whole) (subst P none stands.left.ceilings))

pub bounded_answers : (program : Contents) (lines : List Line) (kept : Kept) (goal : Goal) (ceilings : Ceilings) (result : Result (Unit {0}) CertFault) → StandsFor program lines kept → kept.whole ≡ true → kept.ceilings ≡ Some ceilings → IsVerdict ceilings goal result → Answers program lines goal result
bounded_answers program lines kept goal ceilings result stands whole some verdict =
    let P : Option Ceilings → Type 0 = λ c. AreCeilingsOf program lines c in
    answer result goal (subst P some stands.left.ceilings) (kept_whole program lines kept stands whole) verdict
  where
    answer : (r : Result (Unit {0}) CertFault) (g : Goal) → AreCeilingsOf program lines (Some ceilings) → IsWhole program lines → IsVerdict ceilings g r → Answers program lines g r
    answer (Ok done) g are is_whole (cost, is, high) =
        let proof = bounded_proof program cost lines stands.taken is_whole (λ number ceiling here. let low = are.1.least number ceiling here in omega (arith, ints, low, high)) in
        let Q : Goal → Type 0 = λ x. IsProof program lines x in
        ok_answers program lines g done (subst Q (sym is) proof)
    answer (Err (Bounded line)) g are is_whole (is, first) =
        let R : ℕ → Type 0 = λ n. IsFirstBounding lines n in
        record {
          proof = (
            λ h. absurd (cc),
            λ proof. absurd (let Q : Goal → Type 0 = λ x. IsProof program lines x in
                proof_unbounded program lines (subst Q is proof) ceilings.line ceilings.least are.1.here),
          );
          table = (is_whole, is, subst R (sym first) are.0);
        }
    answer (Err (NotClosed line)) g are is_whole (cost, is, low, first) =
        let R : ℕ → Type 0 = λ n. IsLeastCeiling program lines n ceilings.least in
        record {
          proof = (
            λ h. absurd (cc),
            λ proof. absurd (let Q : Goal → Type 0 = λ x. IsProof program lines x in
                let high = proof_high program cost lines (subst Q is proof) ceilings.line ceilings.least are.1.here in
                omega (arith, ints, high, low)),
          );
          table = (is_whole, (cost, is, (ceilings.least, subst R (sym first) are.1, low)));
        }
    answer (Err other) g are is_whole verdict = absurd verdict
