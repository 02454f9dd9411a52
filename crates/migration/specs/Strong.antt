-- What is enough for the move of a strong key.
use Rattle.std.specs.Prelude.{ℕ, ◌+◌, Bool, ◌&&◌, nat_le, List, [], ◌∷◌}
use Rattle.std.specs.List.{list_all}
use Rattle.span_base.specs.declared.dc_set.DcSet.{DcSet}
use Rattle.span_base.specs.declared.policy.Quorum.{Quorum}
use Rattle.span_base.specs.declared.policy.Policy.{Policy}
use Rattle.span_base.specs.DcSet.{no_centre}
use Rattle.span_base.specs.Policy.{common_count}
use Rattle.span_base.specs.PolicyParts.{faults_of, members_of}
use Rattle.call_phase.specs.Counting.{has_quorum, is_lost}
use Rattle.migration.specs.Rule.{Rule}

-- what the first of the members writes to
abbrev pub first_write : List Quorum → DcSet
first_write [] = no_centre
first_write (member ∷ members) = member.write

-- the write set of the policy's first member
abbrev pub first_write_set : Policy → DcSet
first_write_set policy = first_write (members_of policy)

-- more than f of the set's replicas are frozen
abbrev pub is_stopped : ℕ → DcSet → DcSet → Bool
is_stopped f frozen set = nat_le (f + 1) (common_count frozen set)

-- more than f of every member's read set, and of every member's write set, are frozen
abbrev pub quorum_frozen : ℕ → List Quorum → DcSet → Bool
quorum_frozen f members frozen = list_all (λ q. is_stopped f frozen q.read && is_stopped f frozen q.write) members

-- no read or write of the old epoch ends any more; the seed goes to the first write set, and is
-- there once all but f of it have it; the move is lost once more than f refused
abbrev pub strong : Rule
strong = record {
  is_frozen = λ old phase. quorum_frozen (faults_of old) (members_of old) phase.good;
  seed_set = λ new. first_write_set new;
  is_seeded = λ new phase. has_quorum (faults_of new) phase;
  is_lost = λ new phase. is_lost (faults_of new) phase;
}
