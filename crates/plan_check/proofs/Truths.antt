-- Accepted parts are true of their sets.
use Rattle.std.proofs.Common.{ℕ, ◌≤◌, List, arith}
use Rattle.zero_one.specs.Program.{IsWithinLimits, value_of}
use Rattle.bound_cert.specs.declared.leaves.Line.{Line}
use Rattle.bound_cert.specs.Trees.{IsProof}
use Rattle.bound_cert.proofs.Branching.{proof_bounds, proof_refutes}
use Rattle.workload.specs.World.{Lists}
use Rattle.placement.specs.Placement.{IsSet, program_of, placed}
use Rattle.placement.proofs.Modes.{placing, none}
use Rattle.plan_text.specs.Parts.{Ending, complete, none_allowed, cut_off}
use Rattle.plan_text.specs.Plans.{goal_of, FitsSet, IsTrueOf}
use Rattle.plan_check.specs.Laws.{AcceptedPartsAreTrue}

ending_true : (w : Lists) (set : ℕ) (lines : List Line) (ending : Ending) → IsSet w set → IsWithinLimits (program_of w set) → IsProof (program_of w set) lines (goal_of ending)
    → FitsSet w set ending → IsTrueOf w set ending
ending_true w set lines (complete cost policy) known limits shown fits = record {
  allowed = fits.0;
  least = (λ q allowed.
      let p = placing w set known q allowed in
      let low : cost ≤ value_of (program_of w set).costs (placed w set q) = proof_bounds (program_of w set) limits lines cost shown (placed w set q) p.feasible in
      omega (arith, low, p.value, fits.1));
}
ending_true w set lines none_allowed known limits shown fits = none w set known (proof_refutes (program_of w set) limits lines shown)
ending_true w set lines (cut_off found) known limits shown fits = absurd fits

pub accepted_true : AcceptedPartsAreTrue
accepted_true w set part known limits accepted = ending_true w set part.lines part.ending known limits accepted.shown accepted.ending
