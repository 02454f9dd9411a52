-- What holds of each mode's own program holds of the program of a set of that mode.
use Rattle.std.proofs.Common.{◌≡◌, ℕ, ◌≤◌, Bool, List, refl, sym, subst, ◌∙◌, ap, arith}
use Rattle.std.specs.Prelude.{◌≢◌}
use Rattle.span_base.specs.declared.policy.Policy.{Policy}
use Rattle.workload.specs.World.{Lists, rule_of}
use Rattle.workload.specs.declared.rules.Mode.{Mode}
use Rattle.workload.specs.declared.rules.Mode.TheVariants.{Direct, Relay, Strong}
use Rattle.zero_one.specs.Contents.{Contents}
use Rattle.zero_one.specs.Program.{IsFeasible, value_of}
use Rattle.slo_rules.specs.Rules.{IsAllowed}
use Rattle.slo_rules.specs.Cost.{policy_cost, IsLeast, HasNoPolicy}
use Rattle.placement_relay.specs.Programs as relay
use Rattle.placement_relay.specs.Laws.{IsEventualSet}
use Rattle.placement_relay.proofs.EventualSets as eventual
use Rattle.placement_strong.specs.Programs as strong
use Rattle.placement_strong.specs.Laws.{IsStrongSet}
use Rattle.placement_strong.proofs.Choices as quorums
use Rattle.placement.specs.Placement.{IsSet, program_by, program_of, placed_by, placed, decoded_by, decoded, IsPlaced, IsDecoded, IsLeastChoice}

-- a program's costs are those of its set
relay_costs : (w : Lists) (set : ℕ) → (relay.set_program w set).costs ≡ relay.set_costs w set
unfolding relay.set_program
relay_costs w set = refl

strong_costs : (w : Lists) (set : ℕ) → (strong.set_program w set).costs ≡ strong.set_costs w set
unfolding strong.set_program
strong_costs w set = refl

-- a set of each mode is one of its own crate
direct_set : (w : Lists) (set : ℕ) → IsSet w set → (rule_of w set).mode ≡ Direct → IsEventualSet w set
direct_set w set s m = record { complete = s.complete; named = s.named; there = s.there; mode = λ strong. let e : Direct ≡ Strong = sym m ∙ strong in cc }

relay_set : (w : Lists) (set : ℕ) → IsSet w set → (rule_of w set).mode ≡ Relay → IsEventualSet w set
relay_set w set s m = record { complete = s.complete; named = s.named; there = s.there; mode = λ strong. let e : Relay ≡ Strong = sym m ∙ strong in cc }

strong_set : (w : Lists) (set : ℕ) → IsSet w set → (rule_of w set).mode ≡ Strong → IsStrongSet w set
strong_set w set s m = record { complete = s.complete; there = s.there; mode = m }

-- what a choice that is a policy is, by a mode
record PlacedBy (m : Mode) (w : Lists) (set : ℕ) (q : Policy) : Type 0 where
  feasible : IsFeasible (program_by m w set) (placed_by m w set q)
  value : value_of (program_by m w set).costs (placed_by m w set q) ≡ policy_cost w set q

by_mode : (m : Mode) (w : Lists) (set : ℕ) → (rule_of w set).mode ≡ m → IsSet w set → (q : Policy) → IsAllowed w set q → PlacedBy m w set q
by_mode Direct w set m s q allowed =
    let p = eventual.placing w set (direct_set w set s m) q allowed in
    record { feasible = p.feasible; value = ap (λ costs. value_of costs (placed_by Direct w set q)) (relay_costs w set) ∙ p.value }
by_mode Relay w set m s q allowed =
    let p = eventual.placing w set (relay_set w set s m) q allowed in
    record { feasible = p.feasible; value = ap (λ costs. value_of costs (placed_by Relay w set q)) (relay_costs w set) ∙ p.value }
by_mode Strong w set m s q allowed =
    let p = quorums.placing w set (strong_set w set s m) q allowed in
    record { feasible = p.feasible; value = ap (λ costs. value_of costs (placed_by Strong w set q)) (strong_costs w set) ∙ p.value }

pub placing : (w : Lists) (set : ℕ) → IsSet w set → (q : Policy) → IsAllowed w set q → IsPlaced w set q
placing w set s q allowed =
    let p = by_mode (rule_of w set).mode w set refl s q allowed in
    record { feasible = p.feasible; value = p.value }

-- what a policy that is a choice is, by a mode
record DecodedBy (m : Mode) (w : Lists) (set : ℕ) (x : List Bool) : Type 0 where
  allowed : IsAllowed w set (decoded_by m w set x)
  cost : policy_cost w set (decoded_by m w set x) ≤ value_of (program_by m w set).costs x

back_by_mode : (m : Mode) (w : Lists) (set : ℕ) → (rule_of w set).mode ≡ m → IsSet w set → (x : List Bool) → IsFeasible (program_by m w set) x → DecodedBy m w set x
back_by_mode Direct w set m s x feasible =
    let d = eventual.decoding w set (direct_set w set s m) x feasible in
    record { allowed = d.allowed; cost = subst (λ costs. policy_cost w set (decoded_by Direct w set x) ≤ value_of costs x) (sym (relay_costs w set)) d.cost }
back_by_mode Relay w set m s x feasible =
    let d = eventual.decoding w set (relay_set w set s m) x feasible in
    record { allowed = d.allowed; cost = subst (λ costs. policy_cost w set (decoded_by Relay w set x) ≤ value_of costs x) (sym (relay_costs w set)) d.cost }
back_by_mode Strong w set m s x feasible =
    let d = quorums.decoding w set (strong_set w set s m) x feasible in
    record { allowed = d.allowed; cost = subst (λ costs. policy_cost w set (decoded_by Strong w set x) ≤ value_of costs x) (sym (strong_costs w set)) d.cost }

pub decoding : (w : Lists) (set : ℕ) → IsSet w set → (x : List Bool) → IsFeasible (program_of w set) x → IsDecoded w set x
decoding w set s x feasible =
    let d = back_by_mode (rule_of w set).mode w set refl s x feasible in
    record { allowed = d.allowed; cost = d.cost }

pub least : (w : Lists) (set : ℕ) → IsSet w set → (x : List Bool) → IsLeastChoice w set x → IsLeast w set (decoded w set x)
least w set s x choice =
    let d = decoding w set s x choice.feasible in
    record {
      allowed = d.allowed;
      least = λ q allowed. let p = placing w set s q allowed in omega (arith, d.cost, p.value, choice.least _ p.feasible);
    }

pub none : (w : Lists) (set : ℕ) → IsSet w set → ((x : List Bool) → ¬ (IsFeasible (program_of w set) x)) → HasNoPolicy w set
none w set s not q allowed = not _ (placing w set s q allowed).feasible

-- the program of a set of each mode, and what policies and choices are to one another there
pub strong_program : (w : Lists) (set : ℕ) → IsStrongSet w set → program_of w set ≡ strong.set_program w set
strong_program w set s = ap (λ m. program_by m w set) s.mode

pub strong_placed : (w : Lists) (set : ℕ) → IsStrongSet w set → (q : Policy) → placed w set q ≡ placed_by Strong w set q
strong_placed w set s q = ap (λ m. placed_by m w set q) s.mode

pub strong_decoded : (w : Lists) (set : ℕ) → IsStrongSet w set → (x : List Bool) → decoded w set x ≡ decoded_by Strong w set x
strong_decoded w set s x = ap (λ m. decoded_by m w set x) s.mode

eventual_by : {A : Type 0} (f : Mode → A) → f Direct ≡ f Relay → (m : Mode) → m ≢ Strong → f m ≡ f Relay
eventual_by f same Direct not = same
eventual_by f same Relay not = refl
eventual_by f same Strong not = absurd (not refl)

pub eventual_program : (w : Lists) (set : ℕ) → IsEventualSet w set → program_of w set ≡ relay.set_program w set
eventual_program w set s = eventual_by (λ m. program_by m w set) refl (rule_of w set).mode s.mode

pub eventual_placed : (w : Lists) (set : ℕ) → IsEventualSet w set → (q : Policy) → placed w set q ≡ placed_by Relay w set q
eventual_placed w set s q = eventual_by (λ m. placed_by m w set q) refl (rule_of w set).mode s.mode

pub eventual_decoded : (w : Lists) (set : ℕ) → IsEventualSet w set → (x : List Bool) → decoded w set x ≡ decoded_by Relay w set x
eventual_decoded w set s x = eventual_by (λ m. decoded_by m w set x) refl (rule_of w set).mode s.mode

-- its costs are those of the set
pub strong_costs_are : (w : Lists) (set : ℕ) → IsStrongSet w set → (program_of w set).costs ≡ strong.set_costs w set
strong_costs_are w set s = ap (λ (p : Contents). p.costs) (strong_program w set s) ∙ strong_costs w set

pub eventual_costs_are : (w : Lists) (set : ℕ) → IsEventualSet w set → (program_of w set).costs ≡ relay.set_costs w set
eventual_costs_are w set s = ap (λ (p : Contents). p.costs) (eventual_program w set s) ∙ relay_costs w set
