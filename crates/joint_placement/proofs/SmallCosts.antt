-- What the variables of the joint program cost is within the limit.
use Rattle.std.proofs.Common.{◌≡◌, ℕ, ◌*◌, ◌^◌, ◌<◌, inl, inr, ◌++◌, length, refl, sym, subst, ◌∙◌, arith}
use Rattle.std.specs.List.{flat_map, All}
use Rattle.std.proofs.Math.Pow.{pow-lt}
use Rattle.std.proofs.lemmas.Bool.{cases_lt}
use Rattle.std.proofs.lemmas.Nat.{mul-le}
use Rattle.std.proofs.lemmas.List.{get_or_past}
use Rattle.std.proofs.lemmas.List.Elements.{All-from_recursion, recursion_from_All}
use Rattle.workload.specs.World.{Lists, IsComplete, IsNamed, centre_count, rule_of}
use Rattle.workload.specs.declared.rules.Mode.{Mode}
use Rattle.workload.specs.declared.rules.Mode.TheVariants as mode
use Rattle.placement.specs.Placement.{IsSet}
use Rattle.placement.proofs.Modes.{strong_costs_are, eventual_costs_are}
use Rattle.placement_rows.specs.Centres.{centres}
use Rattle.placement_rows.proofs.Each.{each-append, each-map, each-range}
use Rattle.placement_relay.specs.Laws.{IsEventualSet}
use Rattle.placement_relay.proofs.CostLimits as eventual
use Rattle.placement_strong.specs.Laws.{IsStrongSet}
use Rattle.placement_strong.proofs.SmallCosts as quorums
use Rattle.machine_text.specs.declared.machines.Machine.{Machine}
use Rattle.machine_text.specs.Machines.{Fleet, IsFleetWithin, IsMachineWithin, no_machine, machine_of}
use Rattle.joint_placement.specs.JointPlans.{sets}
use Rattle.joint_placement.specs.Variables.{places, joint_costs}
use Rattle.joint_placement.proofs.Stacks.{each-stack}
use Rattle.joint_placement.proofs.Parts.{set_costs, machine_costs}

abbrev IsSmall : ℕ → Type 0
IsSmall cost = cost < 10 ^ 24

by_mode : (m : Mode) (w : Lists) (set : ℕ) → (rule_of w set).mode ≡ m → IsSet w set → All IsSmall (set_costs w set)
by_mode mode.Direct w set is s =
    let e : IsEventualSet w set = record { complete = s.complete; named = s.named; there = s.there; mode = λ strong. let no : mode.Direct ≡ mode.Strong = sym is ∙ strong in cc } in
    subst (All IsSmall) (sym (eventual_costs_are w set e)) (eventual.set_costs_small w set e)
by_mode mode.Relay w set is s =
    let e : IsEventualSet w set = record { complete = s.complete; named = s.named; there = s.there; mode = λ strong. let no : mode.Relay ≡ mode.Strong = sym is ∙ strong in cc } in
    subst (All IsSmall) (sym (eventual_costs_are w set e)) (eventual.set_costs_small w set e)
by_mode mode.Strong w set is s =
    let e : IsStrongSet w set = record { complete = s.complete; there = s.there; mode = is } in
    subst (All IsSmall) (sym (strong_costs_are w set e)) (quorums.set_costs_small w set e)

digit-small : (machine : Machine) → IsMachineWithin machine → (j : ℕ) → j < machine.digits → IsSmall (2 ^ j * machine.price)
digit-small machine within j low =
    let pow : 2 ^ j < 2 ^ 10 = pow-lt (let e : j < 10 = omega (arith, low, within.digits) in e) in
    omega (arith, mul-le (2 ^ j) machine.price 1023 (10 ^ 9) (omega (arith, pow)) within.price)

-- all costs
pub small-costs : (w : Lists) (fleet : Fleet) → IsComplete w → IsNamed w → ((d : ℕ) → d < centre_count w → IsMachineWithin (machine_of fleet d)) → All IsSmall (joint_costs w fleet)
unfolding joint_costs
small-costs w fleet complete named within =
    All-from_recursion IsSmall (flat_map (set_costs w) (sets w) ++ flat_map (machine_costs fleet) (centres w))
    (each-append IsSmall (flat_map (set_costs w) (sets w)) (flat_map (machine_costs fleet) (centres w))
    (each-stack IsSmall (set_costs w) (length w.sets) (λ set there.
    recursion_from_All IsSmall (set_costs w set) (by_mode (rule_of w set).mode w set refl (record { complete = complete; named = named; there = there }))))
    (each-stack IsSmall (machine_costs fleet) (centre_count w) (λ d low.
    each-map IsSmall (λ j. j < (machine_of fleet d).digits) (λ j. 2 ^ j * (machine_of fleet d).price) (digit-small (machine_of fleet d) (within d low)) (places (machine_of fleet d))
    (each-range (λ j. j < (machine_of fleet d).digits) 0 (machine_of fleet d).digits (λ j from to. omega arith)))))

-- a centre's machines are within their limits, also past the last
pub machine-within : (fleet : Fleet) → IsFleetWithin fleet → (d : ℕ) → IsMachineWithin (machine_of fleet d)
machine-within fleet within d = elim (cases_lt d (length fleet.each)) [
  | inl low ↦ within.machines d no_machine low
  | inr past ↦ subst IsMachineWithin (sym (get_or_past fleet.each d no_machine past)) (record { price = omega arith; some_capacity = omega arith; capacity = omega arith; some_digit = omega arith; digits = omega arith })
]
