-- What is read of a policy. A member and a primary are numbers of centres.
use Rattle.std.specs.Prelude.{ℕ, ◌==◌, List, [], Option, None, find, option_map}
use Rattle.span_base.specs.declared.dc_set.DcSet.{DcSet}
use Rattle.span_base.specs.declared.policy.Quorum.{Quorum}
use Rattle.span_base.specs.declared.policy.Policy.{Policy}
use Rattle.span_base.specs.declared.policy.Policy.TheVariants.{Direct, Relay, Strong}

-- how many replicas may fail
abbrev pub faults_of : Policy → ℕ
faults_of (Direct f replicas primary) = f
faults_of (Relay f replicas primary parent) = f
faults_of (Strong f replicas members) = f

-- all replicas
abbrev pub replicas_of : Policy → DcSet
replicas_of (Direct f replicas primary) = replicas
replicas_of (Relay f replicas primary parent) = replicas
replicas_of (Strong f replicas members) = replicas

-- the members of a strong policy; others have no quorums
abbrev pub members_of : Policy → List Quorum
members_of (Direct f replicas primary) = []
members_of (Relay f replicas primary parent) = []
members_of (Strong f replicas members) = members

-- the quorums of the first member with this centre
abbrev pub member_of : Policy → ℕ → Option Quorum
member_of (Direct f replicas primary) at = None
member_of (Relay f replicas primary parent) at = None
member_of (Strong f replicas members) at = find (λ q. q.dc.0 == at) members

-- the replica at which the member reads; only members of an eventual policy have one
abbrev pub primary_of : Policy → ℕ → Option ℕ
primary_of (Direct f replicas primary) member = option_map (λ n. n.at.0) (find (λ n. n.member.0 == member) primary)
primary_of (Relay f replicas primary parent) member = option_map (λ n. n.at.0) (find (λ n. n.member.0 == member) primary)
primary_of (Strong f replicas members) member = None
