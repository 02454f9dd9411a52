-- The laws, from the set's own facts.
use Rattle.std.proofs.Common.{◌≡◌, ℕ, Bool, true, List, length, refl, sym, ap, ◌∙◌, arith}
use Rattle.std.specs.Prelude.{◌≢◌}
use Rattle.std.specs.List.{AllPairs}
use Rattle.span_base.specs.declared.dc_set.DcSet.{DcSet}
use Rattle.span_base.specs.declared.policy.Near.{Near}
use Rattle.span_base.specs.declared.policy.Hop.{Hop}
use Rattle.span_base.specs.PolicyParts.{replicas_of}
use Rattle.span_base.specs.declared.policy.Policy.{Policy}
use Rattle.span_base.specs.declared.policy.Policy.TheVariants.{Direct, Relay, Strong}
use Rattle.workload.specs.Load.{no_set}
use Rattle.workload.specs.World.{Lists, centre_count, rule_of, members_of}
use Rattle.workload.specs.declared.rules.Mode.{Mode}
use Rattle.workload.specs.declared.rules.Mode.TheVariants as mode
use Rattle.slo_rules.specs.Rules.{IsAllowed, lies_below, code_of, mode_of}
use Rattle.slo_rules.specs.Cost.{IsLeast, HasNoPolicy}
use Rattle.zero_one.specs.Program.{IsFeasible}
use Rattle.placement_relay.specs.Programs.{set_program, set_costs}
use Rattle.placement_relay.specs.Placed.{decoded, decoded_by, chosen_replicas, chosen_primaries, chosen_hops}
use Rattle.placement_relay.specs.Laws.{IsEventualSet, IsPlaced, IsDecoded, IsLeastChoice}
use Rattle.placement_relay.proofs.Members.{set_within}
use Rattle.placement_relay.proofs.Rules.{kept-from}
use Rattle.placement_relay.proofs.Allowed.{direct-from, relay-from}
use Rattle.placement_relay.proofs.PlacedLaws.{placed-direct, placed-relay}
use Rattle.placement_relay.proofs.DecodedLaws.{decoded-by, feasible-decoded}

-- the members stand in different centres
pub members_apart : (w : Lists) (set : ℕ) → IsEventualSet w set → AllPairs (λ a b. a.dc.0 ≢ b.dc.0) (members_of w set)
members_apart w set s = (s.named.sets.each set no_set s.there).distinct

-- a mode is told by its number
same_mode : (m n : Mode) → code_of m ≡ code_of n → m ≡ n
same_mode mode.Direct mode.Direct e = refl
same_mode mode.Relay mode.Relay e = refl
same_mode mode.Strong mode.Strong e = refl
same_mode mode.Direct mode.Relay e = cc
same_mode mode.Direct mode.Strong e = cc
same_mode mode.Relay mode.Direct e = cc
same_mode mode.Relay mode.Strong e = cc
same_mode mode.Strong mode.Direct e = cc
same_mode mode.Strong mode.Relay e = cc

-- an allowed policy is of the set's mode
pub mode_is : (w : Lists) (set : ℕ) (q : Policy) → IsAllowed w set q → mode_of q ≡ (rule_of w set).mode
mode_is w set q allowed = same_mode (mode_of q) (rule_of w set).mode (kept-from w set q allowed).mode

pub placing : (w : Lists) (set : ℕ) → IsEventualSet w set → (q : Policy) → IsAllowed w set q → IsPlaced w set q
placing w set s (Direct f replicas primary) allowed =
    let is = sym (mode_is w set (Direct f replicas primary) allowed) in
    placed-direct w set f replicas primary is (direct-from w set replicas primary f s.complete.few_centres allowed)
placing w set s (Relay f replicas primary hops) allowed =
    let is = sym (mode_is w set (Relay f replicas primary hops) allowed) in
    placed-relay w set f replicas primary hops is (members_apart w set s) (relay-from w set replicas primary hops f s.complete.few_centres allowed)
placing w set s (Strong f replicas members) allowed =
    absurd (s.mode (sym (mode_is w set (Strong f replicas members) allowed)))

pub decoding : (w : Lists) (set : ℕ) → IsEventualSet w set → (x : List Bool) → IsFeasible (set_program w set) x → IsDecoded w set x
decoding w set s x feasible = feasible-decoded w set s.complete.few_centres (set_within w set s).some_member (members_apart w set s) x feasible (rule_of w set).mode refl s.mode

pub least : (w : Lists) (set : ℕ) → IsEventualSet w set → (x : List Bool) → IsLeastChoice w set x → IsLeast w set (decoded w set x)
least w set s x choice =
    let d = decoding w set s x choice.feasible in
    record {
      allowed = d.allowed;
      least = λ q allowed. let p = placing w set s q allowed in omega (arith, d.cost, p.value, choice.least _ p.feasible);
    }

pub none : (w : Lists) (set : ℕ) → IsEventualSet w set → ((x : List Bool) → ¬ (IsFeasible (set_program w set) x)) → HasNoPolicy w set
none w set s not q allowed = not _ (placing w set s q allowed).feasible

-- a choice that meets the program has a bit for each variable
pub feasible_bits : (w : Lists) (set : ℕ) (x : List Bool) → IsFeasible (set_program w set) x → length x ≡ length (set_costs w set)
unfolding set_program
feasible_bits w set x feasible = feasible.bits

-- the replicas of an allowed policy are centres of the world
pub allowed_lies : (w : Lists) (set : ℕ) → IsEventualSet w set → (q : Policy) → IsAllowed w set q → lies_below (centre_count w) (replicas_of q) ≡ true
allowed_lies w set s (Direct f replicas primary) allowed = (direct-from w set replicas primary f s.complete.few_centres allowed).serving.lies
allowed_lies w set s (Relay f replicas primary hops) allowed = (relay-from w set replicas primary hops f s.complete.few_centres allowed).serving.lies
allowed_lies w set s (Strong f replicas members) allowed =
    absurd (s.mode (sym (mode_is w set (Strong f replicas members) allowed)))

-- the parts of a choice's policy make the policy
pub direct_parts : (w : Lists) (set : ℕ) (x y : List Bool) (f : ℕ) (replicas : DcSet) (primary : List Near) → (rule_of w set).mode ≡ mode.Direct
    → y ≡ x → f ≡ (rule_of w set).f → replicas ≡ chosen_replicas w y → primary ≡ chosen_primaries w set y → Direct f replicas primary ≡ decoded w set x
direct_parts w set x y f replicas primary is same failures kept near =
    ap (λ e. Direct e replicas primary) failures
    ∙ ap (λ e. Direct (rule_of w set).f e primary) kept
    ∙ ap (λ e. Direct (rule_of w set).f (chosen_replicas w y) e) near
    ∙ ap (λ z. decoded_by mode.Direct w set z) same
    ∙ sym (decoded-by w set x mode.Direct is)

pub relay_parts : (w : Lists) (set : ℕ) (x y : List Bool) (f : ℕ) (replicas : DcSet) (primary : List Near) (hops : List Hop) → (rule_of w set).mode ≡ mode.Relay
    → y ≡ x → f ≡ (rule_of w set).f → replicas ≡ chosen_replicas w y → primary ≡ chosen_primaries w set y → hops ≡ chosen_hops w set y → Relay f replicas primary hops ≡ decoded w set x
relay_parts w set x y f replicas primary hops is same failures kept near passed =
    ap (λ e. Relay e replicas primary hops) failures
    ∙ ap (λ e. Relay (rule_of w set).f e primary hops) kept
    ∙ ap (λ e. Relay (rule_of w set).f (chosen_replicas w y) e hops) near
    ∙ ap (λ e. Relay (rule_of w set).f (chosen_replicas w y) (chosen_primaries w set y) e) passed
    ∙ ap (λ z. decoded_by mode.Relay w set z) same
    ∙ sym (decoded-by w set x mode.Relay is)
