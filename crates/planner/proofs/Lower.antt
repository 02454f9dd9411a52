-- What closes against a cost closes against a lower one.
use Rattle.std.proofs.Common.{ℕ, zero, suc, ◌≤◌, ℤ, pos, ◌-ℤ◌, ◌≤ℤ◌, Option, Bool, List, arith}
use Rattle.std.specs.List.{All}
use Rattle.std.proofs.lemmas.Int.{ints}
use Rattle.std.proofs.lemmas.List.Elements.{All-weaker}
use Rattle.zero_one.specs.Contents.{Contents}
use Rattle.bound_cert.specs.declared.leaves.Line.{Line}
use Rattle.bound_cert.specs.declared.leaves.Line.TheVariants.{Branch, Close}
use Rattle.bound_cert.specs.declared.leaves.Goal.TheVariants.{Cost}
use Rattle.bound_cert.specs.Leaves.{leaf_bound}
use Rattle.bound_cert.specs.Closing.{Closes}
use Rattle.bound_cert.specs.Trees.{Node, ClosesAt, IsClosed, IsProof, IsOpenPrefix}
use Rattle.bound_cert.proofs.Scaled.{scale_mono}

closes_lower : (value : ℤ) (s cost less : ℕ) → less ≤ cost → Closes value s (Cost cost) → Closes value s (Cost less)
closes_lower value zero cost less low closes = closes
closes_lower value (suc s) cost less low closes =
    let under : (pos less -ℤ pos 1) ≤ℤ (pos cost -ℤ pos 1) = omega (arith, ints, low) in
    let scaled = scale_mono (suc s) (pos less -ℤ pos 1) (pos cost -ℤ pos 1) under in
    omega (arith, ints, scaled, closes)

line_lower : (program : Contents) (cost less : ℕ) → less ≤ cost → (fixed : List (Option Bool)) (line : Line) → ClosesAt program (Cost cost) fixed line → ClosesAt program (Cost less) fixed line
line_lower program cost less low fixed (Branch var) closes = tt
line_lower program cost less low fixed (Close end) closes =
    (closes.0, closes_lower (leaf_bound program fixed end) end.s cost less low closes.1)

nodes_lower : (program : Contents) (cost less : ℕ) → less ≤ cost → (nodes : List Node) → All (IsClosed program (Cost cost)) nodes → All (IsClosed program (Cost less)) nodes
nodes_lower program cost less low nodes closed =
    All-weaker (IsClosed program (Cost cost)) (IsClosed program (Cost less)) (λ node closes. line_lower program cost less low node.fixed node.line closes) nodes closed

-- an open prefix
pub prefix_lower : (program : Contents) (lines : List Line) (cost less : ℕ) → less ≤ cost → IsOpenPrefix program lines (Cost cost) → IsOpenPrefix program lines (Cost less)
prefix_lower program lines cost less low front = record {
  tree = front.tree;
  well_formed = front.well_formed;
  longer = front.longer;
  front = front.front;
  closed = nodes_lower program cost less low _ front.closed;
  opened = front.opened;
}

-- a proof
pub proof_lower : (program : Contents) (lines : List Line) (cost less : ℕ) → less ≤ cost → IsProof program lines (Cost cost) → IsProof program lines (Cost less)
proof_lower program lines cost less low proof = record {
  tree = proof.tree;
  well_formed = proof.well_formed;
  whole = proof.whole;
  closed = nodes_lower program cost less low _ proof.closed;
}
