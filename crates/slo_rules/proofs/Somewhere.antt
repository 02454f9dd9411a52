-- The lists of an allowed policy are not empty.
use Rattle.std.proofs.Common.{◌≡◌, ℕ, ◌+◌, ◌*◌, ◌<◌, ◌≤◌, Bool, true, ◌||◌, List, [], ◌∷◌, length, Option, None, nat_lt, get_or, refl, sym, ap, subst, ◌∙◌, arith}
use Rattle.std.specs.Prelude.{IsTrue, count_by}
use Rattle.std.specs.List.{All, Contains}
use Rattle.std.specs.Cmp.Lexicographic.{same_text}
use Rattle.std.proofs.lemmas.Bool.{ltb-true, leb-true}
use Rattle.std.proofs.lemmas.List.Elements.{All-nil, All-cons, All-head}
use Rattle.span_base.specs.declared.dc_set.DcSet.{DcSet}
use Rattle.span_base.specs.DcSet.{has, centres_of, meet, join}
use Rattle.span_base.specs.declared.policy.Policy.TheVariants.{Direct, Relay, Strong}
use Rattle.span_base.specs.declared.policy.Near.{Near}
use Rattle.span_base.specs.declared.policy.Hop.{Hop}
use Rattle.span_base.specs.declared.policy.Quorum.{Quorum}
use Rattle.span_base.proofs.Sets.{has-join, All-centres_of, Contains-centres_of, count-meet_left, count-meet_right}
use Rattle.workload.specs.World.{Lists, rule_of, members_of}
use Rattle.workload.specs.declared.rules.Demand.{Demand}
use Rattle.workload.specs.declared.rules.SetRule.{SetRule}
use Rattle.slo_rules.specs.declared.rules.Rule.{Rule}
use Rattle.slo_rules.specs.declared.rules.Rule.TheVariants as rule
use Rattle.slo_rules.specs.Rules.{or_else, unless, first_breach, count_in, is_read_near, breach_of_primary, breach_of_reading, breach_of_read_set, breach_of_write_set, breach_of_meeting, breach_of_write_meeting, breach_of_writing, breach_of_hop, is_direct_for, breach_of_mode, meets, union_of, same_list}
use Rattle.slo_rules.proofs.AllowedPolicies.{both-none, kept}

-- a rule that no item breaks is kept by each
each_keeps : {X : Type 0} (breach : X → Option Rule) (xs : List X) → first_breach breach xs ≡ None → All (λ x. breach x ≡ None) xs
each_keeps breach [] h = All-nil (λ x. breach x ≡ None)
each_keeps breach (x ∷ xs) h =
    let parts = both-none (breach x) (first_breach breach xs) h in
    All-cons (λ x. breach x ≡ None) x xs parts.0 (each_keeps breach xs parts.1)

-- where some centre counts there is a centre
some_counts : (f : ℕ) (test : ℕ → Bool) (s : DcSet) → nat_lt f (count_in test s) ≡ true → 0 < length (centres_of s)
some_counts f test s h = go (centres_of s) (ltb-true f (count_by test (centres_of s)) h)
  where
    go : (cs : List ℕ) → f < count_by test cs → 0 < length cs
    go [] below = absurd (let h : f < 0 = below in omega arith)
    go (c ∷ cs) below = omega arith

-- replicas that members read are some
some_read : (w : Lists) (r : SetRule) (replicas : DcSet) (members : List Demand) → 1 ≤ length members → first_breach (breach_of_reading w r replicas) members ≡ None → 0 < length (centres_of replicas)
some_read w r replicas [] some h = absurd (omega arith)
some_read w r replicas (m ∷ members) some h =
    let first = (both-none (breach_of_reading w r replicas m) (first_breach (breach_of_reading w r replicas) members) h).0 in
    some_counts r.f (is_read_near w r m.dc.0) replicas (kept (nat_lt r.f (count_in (is_read_near w r m.dc.0) replicas)) (rule.ReadSlo m.dc) first)

pub direct_replicas : (w : Lists) (set : ℕ) (f : ℕ) (replicas : DcSet) (primary : List Near) → 1 ≤ length (members_of w set) → breach_of_mode w set (Direct f replicas primary) ≡ None → 0 < length (centres_of replicas)
direct_replicas w set f replicas primary some h =
    let r = rule_of w set in
    let a = both-none (first_breach (breach_of_primary w r replicas) primary) (or_else (first_breach (breach_of_reading w r replicas) (members_of w set)) (first_breach (breach_of_writing w r replicas (λ member dc. true)) (members_of w set))) h in
    let b = both-none (first_breach (breach_of_reading w r replicas) (members_of w set)) (first_breach (breach_of_writing w r replicas (λ member dc. true)) (members_of w set)) a.1 in
    some_read w r replicas (members_of w set) some b.0

pub relay_replicas : (w : Lists) (set : ℕ) (f : ℕ) (replicas : DcSet) (primary : List Near) (parent : List Hop) → 1 ≤ length (members_of w set) → breach_of_mode w set (Relay f replicas primary parent) ≡ None → 0 < length (centres_of replicas)
relay_replicas w set f replicas primary parent some h =
    let r = rule_of w set in
    let rest = or_else (first_breach (breach_of_hop replicas parent) parent) (first_breach (breach_of_writing w r replicas (is_direct_for parent)) (members_of w set)) in
    let a = both-none (first_breach (breach_of_primary w r replicas) primary) (or_else (first_breach (breach_of_reading w r replicas) (members_of w set)) rest) h in
    let b = both-none (first_breach (breach_of_reading w r replicas) (members_of w set)) rest a.1 in
    some_read w r replicas (members_of w set) some b.0

-- quorums with centres
pub record AreSome (q : Quorum) : Type 0 where
  pub read : 0 < length (centres_of q.read)
  pub write : 0 < length (centres_of q.write)

meeting_some : (f : ℕ) (q : Quorum) → meets f q.read q.write ≡ true → AreSome q
meeting_some f q h =
    let many : 2 * f + 1 ≤ length (centres_of (meet q.read q.write)) = leb-true (2 * f + 1) (length (centres_of (meet q.read q.write))) h in
    record { read = omega (arith, count-meet_left q.read q.write); write = omega (arith, count-meet_right q.read q.write) }

-- what breaks of a strong policy
record StrongKeeps (f : ℕ) (replicas : DcSet) (members : List Quorum) : Type 0 where
  union : centres_of replicas ≡ centres_of (union_of members)
  meetings : All (λ reader. breach_of_meeting f members reader ≡ None) members

strong_keeps : (w : Lists) (set : ℕ) (f : ℕ) (replicas : DcSet) (members : List Quorum) → breach_of_mode w set (Strong f replicas members) ≡ None → StrongKeeps f replicas members
strong_keeps w set f replicas members h =
    let r = rule_of w set in
    let writes = first_breach (breach_of_write_meeting f members) members in
    let met = first_breach (breach_of_meeting f members) members in
    let far = first_breach (breach_of_write_set w r) members in
    let a = both-none (unless (same_list (centres_of replicas) (centres_of (union_of members))) rule.Union) (or_else (first_breach (breach_of_read_set w r) members) (or_else far (or_else met writes))) h in
    let b = both-none (first_breach (breach_of_read_set w r) members) (or_else far (or_else met writes)) a.1 in
    let c = both-none far (or_else met writes) b.1 in
    let d = both-none met writes c.1 in
    record {
      union = same_text (centres_of replicas) (centres_of (union_of members)) (sym (kept (same_list (centres_of replicas) (centres_of (union_of members))) rule.Union a.0));
      meetings = each_keeps (breach_of_meeting f members) members d.0;
    }

pub strong_quorums : (w : Lists) (set : ℕ) (f : ℕ) (replicas : DcSet) (members : List Quorum) → breach_of_mode w set (Strong f replicas members) ≡ None → All AreSome members
strong_quorums w set f replicas members h = λ k d inside.
    let keeps = strong_keeps w set f replicas members h in
    let q : Quorum = get_or members k d in
    let own : breach_of_meeting f members q ≡ None = keeps.meetings k d inside in
    let each : All (λ writer. unless (meets f q.read writer.write) (rule.Meet q.dc writer.dc) ≡ None) members = each_keeps (λ (writer : Quorum). unless (meets f q.read writer.write) (rule.Meet q.dc writer.dc)) members own in
    meeting_some f q (kept (meets f q.read q.write) (rule.Meet q.dc q.dc) (each k d inside))

pub strong_replicas : (w : Lists) (set : ℕ) (f : ℕ) (replicas : DcSet) (members : List Quorum) → 1 ≤ length members → breach_of_mode w set (Strong f replicas members) ≡ None → 0 < length (centres_of replicas)
strong_replicas w set f replicas [] some h = absurd (omega arith)
strong_replicas w set f replicas (q ∷ members) some h =
    let keeps = strong_keeps w set f replicas (q ∷ members) h in
    let first : AreSome q = All-head AreSome q members (strong_quorums w set f replicas (q ∷ members) h) in
    let P : List ℕ → Type 0 = λ cs. 0 < length cs in
    subst P (sym keeps.union) (in_union (centres_of q.read) refl first.read)
  where
    all : DcSet
    all = union_of (q ∷ members)

    or_left : (a b : Bool) → a ≡ true → (a || b) ≡ true
    or_left a b e = ap (λ c. c || b) e

    contained : (cs : List ℕ) (d : ℕ) → Contains cs d → 0 < length cs
    contained cs d h = let inside : h.0 < length cs = h.1 in omega arith

    in_union : (cs : List ℕ) → centres_of q.read ≡ cs → 0 < length (centres_of q.read) → 0 < length (centres_of all)
    in_union [] same some = absurd (let z : length (centres_of q.read) ≡ 0 = ap length same in omega arith)
    in_union (d ∷ ds) same some =
        let Q : List ℕ → Type 0 = λ cs. All (λ d. IsTrue (has q.read d)) cs in
        let has_d : has q.read d ≡ true = All-head (λ d. IsTrue (has q.read d)) d ds (subst Q same (All-centres_of q.read)) in
        let in_pair : has (join q.read q.write) d ≡ true = has-join q.read q.write d ∙ or_left (has q.read d) (has q.write d) has_d in
        let in_all : has all d ≡ true = has-join (join q.read q.write) (union_of members) d ∙ or_left (has (join q.read q.write) d) (has (union_of members) d) in_pair in
        contained (centres_of all) d (Contains-centres_of all d in_all)
