-- Where the best assignment becomes no worse, what closed before still closes.
use Rattle.std.proofs.Common.{ℕ, zero, suc, ℤ, pos, ◌-ℤ◌, ◌≤ℤ◌, Option, Some, None, Bool, List, take, arith}
use Rattle.std.proofs.lemmas.Int.{ints}
use Rattle.zero_one.specs.Contents.{Contents}
use Rattle.bound_cert.specs.declared.leaves.Line.{Line}
use Rattle.bound_cert.specs.declared.leaves.Line.TheVariants.{Branch, Close}
use Rattle.bound_cert.specs.Leaves.{leaf_bound}
use Rattle.bound_cert.specs.Closing.{Closes}
use Rattle.bound_cert.proofs.Scaled.{scale_mono}
use Rattle.cert_checker.specs.declared.turns.Turn.{Turn}
use Rattle.cert_checker.specs.Paths.{path_after, fixed_by}
use Rattle.branch_solver.specs.Best.{Best, IsNoWorse, goal_of}
use Rattle.branch_solver.specs.Given.{IsGivenUnder, IsGivenAt, AreGiven}

pub no_worse_same : (best : Option Best) → IsNoWorse best best
no_worse_same None = tt
no_worse_same (Some best) = omega arith

pub no_worse_on : (a b c : Option Best) → IsNoWorse a b → IsNoWorse b c → IsNoWorse a c
no_worse_on None b c first next = tt
no_worse_on (Some a) None c first next = absurd first
no_worse_on (Some a) (Some b) None first next = absurd next
no_worse_on (Some a) (Some b) (Some c) first next = omega (arith, first, next)

closes_lower : (value : ℤ) (s : ℕ) (before after : Option Best) → IsNoWorse before after → Closes value s (goal_of before) → Closes value s (goal_of after)
closes_lower value zero before after lower closes = closes
closes_lower value (suc s) None after lower closes = absurd closes
closes_lower value (suc s) (Some before) None lower closes = absurd lower
closes_lower value (suc s) (Some before) (Some after) lower closes =
    let less : (pos after.value -ℤ pos 1) ≤ℤ (pos before.value -ℤ pos 1) = omega (arith, ints, lower) in
    let scaled = scale_mono (suc s) (pos after.value -ℤ pos 1) (pos before.value -ℤ pos 1) less in
    omega (arith, ints, scaled, closes)

given_under_lower : (program : Contents) (fixed : List (Option Bool)) (before after : Option Best) (line : Line) → IsNoWorse before after → IsGivenUnder program (goal_of before) fixed line → IsGivenUnder program (goal_of after) fixed line
given_under_lower program fixed before after (Branch var) lower given = given
given_under_lower program fixed before after (Close end) lower given =
    (given.0, closes_lower (leaf_bound program fixed end) end.s before after lower given.1)

given_at_lower : (program : Contents) (path : Option (List Turn)) (before after : Option Best) (line : Line) → IsNoWorse before after → IsGivenAt program (goal_of before) path line → IsGivenAt program (goal_of after) path line
given_at_lower program None before after line lower given = given
given_at_lower program (Some path) before after line lower given =
    given_under_lower program (fixed_by program path) before after line lower given

pub are_given_lower : (program : Contents) (lines : List Line) (before after : Option Best) → IsNoWorse before after → AreGiven program (goal_of before) lines → AreGiven program (goal_of after) lines
are_given_lower program lines before after lower given =
    λ at line here. given_at_lower program (path_after (take at lines)) before after line lower (given at line here)
