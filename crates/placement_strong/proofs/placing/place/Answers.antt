use Rattle.std.proofs.Common.{◌≡◌, ◌++◌, ◌∙◌, ℕ, List, Bool, length, sym, ap, subst}
use Rattle.std.specs.List.{flat_map}
use Rattle.span_base.specs.declared.policy.Quorum.{Quorum}
use Rattle.span_base.specs.DcSet.{centres_of, meet}
use Rattle.slo_rules.specs.Rules.{IsAllowed}
use Rattle.zero_one.specs.Program.{IsFeasible, value_of}
use Rattle.placement_rows.specs.Providers.{provider_bits}
use Rattle.placement_strong.specs.Variables.{pairs}
use Rattle.placement_strong.specs.Programs.{set_program, set_costs}
use Rattle.placement_strong.specs.Placed.{set_bits, write_meeting_bits, placed}
use Rattle.placement_strong.proofs.Allowed.{from_allowed}
use Rattle.placement_strong.proofs.Choices.{placing, only_strong}
use Rattle.placement_strong.proofs.Pairs.{pairs_below}
use Rattle.placement_strong.proofs.placing.place.Goals as goal

pub unreachable-requires : goal.unreachable-requires
unreachable-requires c = only_strong c.args.world.now c.args.set.0 c.requires.strong c.args.policy.now c.requires.allowed c.in_default.not-Strong

pub push_write_meetings-requires : goal.push_write_meetings-requires
push_write_meetings-requires c =
    let w = c.args.world.now in
    let strong = from_allowed w c.args.set.0 c.in-Strong.f c.in-Strong.replicas c.in-Strong.members (subst (IsAllowed w c.args.set.0) c.in-Strong.is c.requires.allowed) in
    pairs_below c.member_count.result (length c.as_slice-quorums.result.now) c.as_slice.result.now (c.as_slice.ensures.value ∙ c.in_ok-pairs.ensures.pairs)
    (c.member_count.ensures.count ∙ sym strong.many ∙ sym (ap length c.as_slice-quorums.ensures))

pub push_provider_bits-requires-clause-below : goal.push_provider_bits-requires-clause-below
push_provider_bits-requires-clause-below c =
    let w = c.args.world.now in
    (from_allowed w c.args.set.0 c.in-Strong.f c.in-Strong.replicas c.in-Strong.members (subst (IsAllowed w c.args.set.0) c.in-Strong.is c.requires.allowed)).lies

pub returns-clause-bits : goal.returns-clause-bits
unfolding placed
returns-clause-bits c =
    let w = c.args.world.now in
    let set = c.args.set.0 in
    let strong = from_allowed w set c.in-Strong.f c.in-Strong.replicas c.in-Strong.members (subst (IsAllowed w set) c.in-Strong.is c.requires.allowed) in
    let qs = c.as_slice-quorums.result.now in
    let kept = set_bits w c.in-Strong.replicas in
    let reads : List Quorum → List Bool = λ qs. flat_map (λ q. set_bits w q.read) qs in
    let writes : List Quorum → List Bool = λ qs. flat_map (λ q. set_bits w q.write) qs in
    let meetings : List Quorum → List Bool = λ qs. flat_map (λ q. flat_map (λ p. set_bits w (meet q.read p.write)) qs) qs in
    let write_meetings : List Quorum → List (ℕ × ℕ) → List Bool = λ qs ps. flat_map (write_meeting_bits w qs) ps in
    let end = provider_bits w set (centres_of c.in-Strong.replicas) in
    let listed : c.as_slice.result.now ≡ pairs (length qs) =
    c.as_slice.ensures.value
    ∙ c.in_ok-pairs.ensures.pairs
    ∙ ap pairs (c.member_count.ensures.count ∙ sym strong.many ∙ sym (ap length c.as_slice-quorums.ensures)) in
    c.from_vec.ensures
    ∙ c.in_ok-push_provider_bits.ensures
    ∙ ap (λ bits. bits ++ end)
    (c.in_ok-push_write_meetings.ensures
    ∙ ap (λ bits. bits ++ write_meetings qs c.as_slice.result.now)
    (c.in_ok-push_meetings.ensures
    ∙ ap (λ bits. bits ++ meetings qs)
    (c.in_ok-push_writes.ensures
    ∙ ap (λ bits. bits ++ writes qs)
    (c.in_ok-push_reads.ensures
    ∙ ap (λ bits. bits ++ reads qs)
    (c.in_ok-push_set.ensures ∙ ap (λ bits. bits ++ kept) c.in_ok-bits.ensures.items)))))
    ∙ ap (λ ps. ((((kept ++ reads qs) ++ writes qs) ++ meetings qs) ++ write_meetings qs ps) ++ end) listed
    ∙ ap (λ qs. ((((kept ++ reads qs) ++ writes qs) ++ meetings qs) ++ write_meetings qs (pairs (length qs))) ++ end) c.as_slice-quorums.ensures
    ∙ sym (ap (placed w set) c.in-Strong.is)

pub returns-clause-feasible : goal.returns-clause-feasible
returns-clause-feasible c =
    subst (IsFeasible (set_program c.args.world.now c.args.set.0)) (sym (returns-clause-bits c)) (placing c.args.world.now c.args.set.0 c.requires.strong c.args.policy.now c.requires.allowed).feasible

pub returns-clause-value : goal.returns-clause-value
returns-clause-value c =
    ap (value_of (set_costs c.args.world.now c.args.set.0)) (returns-clause-bits c) ∙ (placing c.args.world.now c.args.set.0 c.requires.strong c.args.policy.now c.requires.allowed).value
