-- The laws, from the set's own facts.
use Rattle.std.proofs.Common.{◌≡◌, ℕ, Bool, List, length, refl, ap, ◌∙◌, arith}
use Rattle.span_base.specs.declared.dc_set.DcSet.{DcSet}
use Rattle.span_base.specs.declared.policy.Policy.{Policy}
use Rattle.span_base.specs.declared.policy.Policy.TheVariants.{Direct, Relay, Strong}
use Rattle.span_base.specs.declared.policy.Quorum.{Quorum}
use Rattle.workload.specs.World.{Lists}
use Rattle.slo_rules.specs.Rules.{IsAllowed, code_of}
use Rattle.slo_rules.specs.Cost.{IsLeast, HasNoPolicy}
use Rattle.zero_one.specs.Program.{IsFeasible}
use Rattle.placement_strong.specs.Programs.{set_program, set_costs}
use Rattle.placement_strong.specs.Placed.{decoded}
use Rattle.placement_strong.specs.Laws.{IsStrongSet, IsPlaced, IsDecoded, IsLeastChoice}
use Rattle.placement_strong.proofs.Allowed.{same_mode}
use Rattle.placement_strong.proofs.DecodedLaws.{feasible-decoded}
use Rattle.placement_strong.proofs.PlacedLaws.{allowed-placed}
use Rattle.placement_strong.proofs.StrongSets.{set_within}

pub placing : (w : Lists) (set : ℕ) → IsStrongSet w set → (q : Policy) → IsAllowed w set q → IsPlaced w set q
placing w set s q allowed = allowed-placed w set s.complete.few_centres s.mode q allowed

pub decoding : (w : Lists) (set : ℕ) → IsStrongSet w set → (x : List Bool) → IsFeasible (set_program w set) x → IsDecoded w set x
decoding w set s x feasible = feasible-decoded w set s.complete.few_centres s.mode (set_within w set s).some_member x feasible

pub least : (w : Lists) (set : ℕ) → IsStrongSet w set → (x : List Bool) → IsLeastChoice w set x → IsLeast w set (decoded w set x)
least w set s x choice =
    let d = decoding w set s x choice.feasible in
    record {
      allowed = d.allowed;
      least = λ q allowed. let p = placing w set s q allowed in omega (arith, d.cost, p.value, choice.least _ p.feasible);
    }

pub none : (w : Lists) (set : ℕ) → IsStrongSet w set → ((x : List Bool) → ¬ (IsFeasible (set_program w set) x)) → HasNoPolicy w set
none w set s not q allowed = not _ (placing w set s q allowed).feasible

-- an allowed policy of a strong set is strong
pub only_strong : (w : Lists) (set : ℕ) → IsStrongSet w set → (q : Policy) → IsAllowed w set q → ((f : ℕ) (replicas : DcSet) (quorums : List Quorum) → q ≡ Strong f replicas quorums → ⊥) → ⊥
only_strong w set s (Strong f replicas quorums) allowed not = not f replicas quorums refl
only_strong w set s (Direct f replicas primary) allowed not =
    let e : ◌≡◌ {A = ℕ} 1 3 = same_mode w set (Direct f replicas primary) allowed ∙ ap code_of s.mode in cc
only_strong w set s (Relay f replicas primary parent) allowed not =
    let e : ◌≡◌ {A = ℕ} 2 3 = same_mode w set (Relay f replicas primary parent) allowed ∙ ap code_of s.mode in cc

-- a choice that meets the program has a bit for each variable
pub feasible_bits : (w : Lists) (set : ℕ) (x : List Bool) → IsFeasible (set_program w set) x → length x ≡ length (set_costs w set)
unfolding set_program
feasible_bits w set x feasible = feasible.bits
