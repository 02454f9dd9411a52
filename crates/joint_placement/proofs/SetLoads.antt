-- What the policy of a set loads, by the set's mode.
use Rattle.std.proofs.Common.{◌≡◌, ℕ, ◌<◌, ◌≤◌, Bool, List, length, refl, sym, subst, ◌∙◌}
use Rattle.std.specs.List.{AllByRecursion}
use Rattle.std.proofs.lemmas.List.Elements.{recursion_from_All}
use Rattle.span_base.specs.declared.policy.Policy.{Policy}
use Rattle.span_base.specs.declared.policy.Policy.TheVariants.{Direct, Relay, Strong}
use Rattle.workload.specs.World.{Lists, centre_count, rule_of, members_of}
use Rattle.workload.specs.declared.rules.Mode.{Mode}
use Rattle.workload.specs.declared.rules.Mode.TheVariants as mode
use Rattle.slo_rules.specs.Rules.{IsAllowed}
use Rattle.zero_one.specs.Rows.{Meets}
use Rattle.zero_one.specs.Program.{IsFeasible}
use Rattle.placement_rows.specs.Providers.{provider_rows}
use Rattle.placement_rows.proofs.Each.{each-split}
use Rattle.placement_relay.specs.Programs as relay
use Rattle.placement_relay.specs.Reading.{reading_rows}
use Rattle.placement_relay.specs.Relay.{hop_rows}
use Rattle.placement_relay.specs.Placed as relay_policy
use Rattle.placement_relay.proofs.Allowed.{direct-from, relay-from}
use Rattle.placement_relay.proofs.MetRows.{Reads, reading-back, direct-back}
use Rattle.placement_strong.specs.Placed as strong_policy
use Rattle.placement_strong.proofs.Allowed.{from_allowed}
use Rattle.placement.specs.Placement.{IsSet, program_by, program_of, placed_by, placed, decoded_by, decoded}
use Rattle.joint_placement.specs.Loads.{policy_load}
use Rattle.joint_placement.specs.Capacity.{loads_by, set_loads}
use Rattle.joint_placement.proofs.Borne.{borne}
use Rattle.joint_placement.proofs.EventualLoads as eventual
use Rattle.joint_placement.proofs.StrongLoads as strong
use Rattle.std.proofs.lemmas.List.{length-map}
use Rattle.std.proofs.lemmas.List.FromFn.{length-enumerate_from}
use Rattle.placement_rows.specs.Centres.{numbered_members}
use Rattle.placement_relay.proofs.DecodedLaws.{decoded-by}
use Rattle.placement_relay.proofs.EventualSets.{mode_is}

-- the choice that an allowed policy is loads what the policy does
pub placed-load : (w : Lists) (set : ℕ) → IsSet w set → (q : Policy) → IsAllowed w set q → (unit d : ℕ) → d < centre_count w → borne (set_loads w unit d set) (placed w set q) ≡ policy_load w unit d set q
unfolding set_loads
placed-load w set s (Direct f replicas primary) allowed unit d low =
    let q : Policy = Direct f replicas primary in
    subst (λ m. borne (loads_by m w unit d set) (placed_by m w set q) ≡ policy_load w unit d set q) (mode_is w set q allowed)
    (eventual.direct-load w unit d set f replicas primary low (direct-from w set replicas primary f s.complete.few_centres allowed).serving)
placed-load w set s (Relay f replicas primary hops) allowed unit d low =
    let q : Policy = Relay f replicas primary hops in
    subst (λ m. borne (loads_by m w unit d set) (placed_by m w set q) ≡ policy_load w unit d set q) (mode_is w set q allowed)
    (eventual.relay-load w unit d set f replicas primary hops low (relay-from w set replicas primary hops f s.complete.few_centres allowed).serving)
placed-load w set s (Strong f replicas quorums) allowed unit d low =
    let q : Policy = Strong f replicas quorums in
    subst (λ m. borne (loads_by m w unit d set) (placed_by m w set q) ≡ policy_load w unit d set q) (mode_is w set q allowed)
    (strong.strong-load w unit d set f replicas quorums low (from_allowed w set f replicas quorums allowed).many)

module _ (w : Lists) (set : ℕ) (s : IsSet w set) (x : List Bool) where
  -- members read as the rows of a direct or relay set say
  direct-reads : (rule_of w set).mode ≡ mode.Direct → IsFeasible (relay.set_program w set) x → Reads w set x
  unfolding relay.set_program
  direct-reads is feasible =
      let rows = each-split (Meets x) (relay.mode_rows w set) (provider_rows w set (length (relay.mode_costs w set)) (relay.keeping w)) (recursion_from_All (Meets x) (relay.set_rows w set) feasible.met) in
      (direct-back w set x (subst (λ m. AllByRecursion (Meets x) (relay.rows_by m w set)) is rows.0)).0

  relay-reads : (rule_of w set).mode ≡ mode.Relay → IsFeasible (relay.set_program w set) x → Reads w set x
  unfolding relay.set_program
  relay-reads is feasible =
      let rows = each-split (Meets x) (relay.mode_rows w set) (provider_rows w set (length (relay.mode_costs w set)) (relay.keeping w)) (recursion_from_All (Meets x) (relay.set_rows w set) feasible.met) in
      reading-back w set x (each-split (Meets x) (reading_rows w set) (hop_rows w set) (subst (λ m. AllByRecursion (Meets x) (relay.rows_by m w set)) is rows.0)).0

  same : length (members_of w set) ≡ length (relay_policy.chosen_primaries w set x)
  same = sym (length-map (numbered_members w set) (relay_policy.chosen_primary w set x) ∙ length-enumerate_from 0 (members_of w set))

  by_mode : (m : Mode) → (rule_of w set).mode ≡ m → IsFeasible (program_by m w set) x → (unit d : ℕ) → d < centre_count w → policy_load w unit d set (decoded_by m w set x) ≤ borne (loads_by m w unit d set) x
  unfolding strong_policy.decoded
  by_mode mode.Direct is feasible unit d low =
      subst (λ (q : Policy). policy_load w unit d set q ≤ borne (loads_by mode.Direct w unit d set) x) (sym (decoded-by w set x mode.Direct is))
      (eventual.chosen-load w unit d set x s.complete.few_centres low (direct-reads is feasible) same)
  by_mode mode.Relay is feasible unit d low =
      subst (λ (q : Policy). policy_load w unit d set q ≤ borne (loads_by mode.Relay w unit d set) x) (sym (decoded-by w set x mode.Relay is))
      (eventual.chosen-load w unit d set x s.complete.few_centres low (relay-reads is feasible) same)
  by_mode mode.Strong is feasible unit d low = strong.chosen-load w set x s.complete.few_centres unit d low

  -- the policy of a choice loads at most what the choice does
  pub decoded-load : IsFeasible (program_of w set) x → (unit d : ℕ) → d < centre_count w → policy_load w unit d set (decoded w set x) ≤ borne (set_loads w unit d set) x
  unfolding set_loads
  decoded-load feasible = by_mode (rule_of w set).mode refl feasible
