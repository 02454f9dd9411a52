-- Loops over the sets and the centres that count variables.
use Rattle.std.proofs.Common.{◌≡◌, ℕ, ◌+◌, ◌≤◌, inl, inr, length, refl, sym, ap, ◌∙◌, arith}
use Rattle.std.proofs.lemmas.Bool.{cases_lt}
use Rattle.workload.specs.World.{Lists, centre_count}
use Rattle.machine_text.specs.Machines.{Fleet, machine_of}
use Rattle.joint_placement.specs.Variables.{variables_of, first_of, first_digit, joint_costs}
use Rattle.joint_placement.proofs.Stacks.{by-next, sum-next}
use Rattle.joint_placement.proofs.Parts.{all-variables, digits-start}

-- the variables of one set more
pub first-next : (w : Lists) (set : ℕ) → first_of w (set + 1) ≡ first_of w set + variables_of w set
unfolding first_of
first-next w set = sum-next (variables_of w) set

pub first-none : (w : Lists) → first_of w 0 ≡ 0
unfolding first_of
first-none w = refl

-- an earlier set begins no later
pub first-up : (w : Lists) (n s : ℕ) → s ≤ n → first_of w s ≤ first_of w n
first-up w =
    by-next (λ n. (s : ℕ) → s ≤ n → first_of w s ≤ first_of w n)
    (λ s low. let same : s ≡ 0 = omega arith in omega (arith, ap (first_of w) same))
    (λ n before s low. elim (cases_lt n s) [
      | inl above ↦ let same : s ≡ n + 1 = omega arith in omega (arith, ap (first_of w) same)
      | inr below ↦ omega (arith, before s below, first-next w n)
    ])

-- the digits of one centre more
pub digit-next : (w : Lists) (fleet : Fleet) (d : ℕ) → first_digit w fleet (d + 1) ≡ first_digit w fleet d + (machine_of fleet d).digits
unfolding first_digit
digit-next w fleet d = omega (arith, sum-next (λ e. (machine_of fleet e).digits) d)

pub digit-none : (w : Lists) (fleet : Fleet) → first_digit w fleet 0 ≡ first_of w (length w.sets)
unfolding first_digit
digit-none w fleet = omega arith

pub digit-up : (w : Lists) (fleet : Fleet) (n d : ℕ) → d ≤ n → first_digit w fleet d ≤ first_digit w fleet n
digit-up w fleet =
    by-next (λ n. (d : ℕ) → d ≤ n → first_digit w fleet d ≤ first_digit w fleet n)
    (λ d low. let same : d ≡ 0 = omega arith in omega (arith, ap (first_digit w fleet) same))
    (λ n before d low. elim (cases_lt n d) [
      | inl above ↦ let same : d ≡ n + 1 = omega arith in omega (arith, ap (first_digit w fleet) same)
      | inr below ↦ omega (arith, before d below, digit-next w fleet n)
    ])

-- all variables: those of the sets, and the digits
pub all-counted : (w : Lists) (fleet : Fleet) → first_digit w fleet (centre_count w) ≡ length (joint_costs w fleet)
all-counted w fleet = digits-start w fleet (centre_count w) ∙ sym (all-variables w fleet)

pub sets-counted : (w : Lists) (fleet : Fleet) → first_of w (length w.sets) ≤ length (joint_costs w fleet)
sets-counted w fleet = omega (arith, all-variables w fleet)

pub ruleset counting = (first-next, first-none)

pub ruleset all_counted = (digit-next, digit-none, all-counted)
