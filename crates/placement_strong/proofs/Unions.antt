-- The centres of all quorums.
use Rattle.std.proofs.Common.{◌≡◌, ℕ, zero, suc, ◌<◌, inl, inr, true, ◌||◌, List, [], ◌∷◌, length, sym, ap, ◌∙◌, arith}
use Rattle.std.proofs.lemmas.Bool.{or_cases, or_left, or_right}
use Rattle.span_base.specs.declared.policy.Quorum.{Quorum}
use Rattle.span_base.specs.DcSet.{has, join}
use Rattle.span_base.proofs.Sets.{has-join, has-no_centre}
use Rattle.slo_rules.specs.Rules.{union_of}
use Rattle.placement_strong.specs.Placed.{quorum_at}

-- a centre is in a quorum of a member
pub record InQuorum (quorums : List Quorum) (d : ℕ) : Type 0 where
  pub at : ℕ
  pub low : at < length quorums
  pub among : (has (quorum_at quorums at).read d || has (quorum_at quorums at).write d) ≡ true

has-both : (q : Quorum) (quorums : List Quorum) (d : ℕ) → has (union_of (q ∷ quorums)) d ≡ ((has q.read d || has q.write d) || has (union_of quorums) d)
has-both q quorums d = has-join (join q.read q.write) (union_of quorums) d ∙ ap (λ b. b || has (union_of quorums) d) (has-join q.read q.write d)

-- the union has just the centres of the quorums
pub in-union : (quorums : List Quorum) (a d : ℕ) → a < length quorums → (has (quorum_at quorums a).read d || has (quorum_at quorums a).write d) ≡ true → has (union_of quorums) d ≡ true
in-union [] a d low is = absurd (omega arith)
in-union (q ∷ quorums) zero d low is = has-both q quorums d ∙ or_left (has q.read d || has q.write d) (has (union_of quorums) d) is
in-union (q ∷ quorums) (suc a) d low is = has-both q quorums d ∙ or_right (has q.read d || has q.write d) (has (union_of quorums) d) (in-union quorums a d (omega arith) is)

pub union-in : (quorums : List Quorum) (d : ℕ) → has (union_of quorums) d ≡ true → InQuorum quorums d
union-in [] d is = let no = has-no_centre d in cc
union-in (q ∷ quorums) d is = elim (or_cases (has q.read d || has q.write d) (has (union_of quorums) d) (sym (has-both q quorums d) ∙ is)) [
  | inl here ↦ record { at = 0; low = omega arith; among = here }
  | inr later ↦ let rest = union-in quorums d later in record { at = suc rest.at; low = omega (arith, rest.low); among = rest.among }
]
