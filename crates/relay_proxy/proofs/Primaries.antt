-- A member's primary is a replica.
use Rattle.std.proofs.Common.{◌≡◌, ℕ, ◌<◌, ◌==◌, true, false, cond, IsTrue, List, [], ◌∷◌, Option, Some, option_map, find, IfSome, sym, subst}
use Rattle.std.specs.List.{All}
use Rattle.std.proofs.lemmas.List.Elements.{All-head, All-tail}
use Rattle.span_base.specs.declared.dc_set.DcSet.{DcSet}
use Rattle.span_base.specs.declared.ids.DcId.{DcId}
use Rattle.span_base.specs.declared.policy.Near.{Near}
use Rattle.span_base.specs.declared.policy.Policy.{Policy}
use Rattle.span_base.specs.declared.policy.Policy.TheVariants.{Direct, Relay, Strong}
use Rattle.span_base.specs.DcSet.{has}
use Rattle.span_base.specs.Policy.{IsSoundPolicy}
use Rattle.span_base.proofs.Sets.{has-below}
use Rattle.span_base.specs.PolicyParts.{replicas_of, primary_of}

-- the primary that is found is a replica
found_among : (replicas : DcSet) (member : ℕ) (primary : List Near) → All (λ n. IsTrue (has replicas n.at.0)) primary
    → IfSome (option_map (λ n. n.at.0) (find (λ n. n.member.0 == member) primary)) (λ p. IsTrue (has replicas p))
found_among replicas member [] all = tt
found_among replicas member (n ∷ ns) all =
    elim (n.member.0 == member) as (λ b. IfSome (option_map (λ (x : Near). x.at.0) (cond b (Some n) (find (λ (x : Near). x.member.0 == member) ns))) (λ p. IsTrue (has replicas p))) [
      | true ↦ All-head (λ (x : Near). IsTrue (has replicas x.at.0)) n ns all
      | false ↦ found_among replicas member ns (All-tail (λ (x : Near). IsTrue (has replicas x.at.0)) n ns all)
    ]

-- a member's primary is a replica
pub primary_among : (policy : Policy) (member : ℕ) → IsSoundPolicy policy → IfSome (primary_of policy member) (λ p. IsTrue (has (replicas_of policy) p))
primary_among (Direct f replicas primary) member sound = found_among replicas member primary sound.replica
primary_among (Relay f replicas primary parent) member sound = found_among replicas member primary sound.0.replica
primary_among (Strong f replicas members) member sound = tt

-- so it is a centre
pub primary_is_centre : (policy : Policy) (member : ℕ) (p : DcId) → IsSoundPolicy policy → Some p.0 ≡ primary_of policy member → p.0 < 16
primary_is_centre policy member p sound is =
    has-below (replicas_of policy) p.0 (subst (λ (o : Option ℕ). IfSome o (λ q. IsTrue (has (replicas_of policy) q))) (sym is) (primary_among policy member sound))
