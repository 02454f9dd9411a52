-- The sets of a policy that is a choice have no centres but the 16 that there can be.
use Rattle.std.proofs.Common.{◌≡◌, ℕ, zero, suc, ◌+◌, ◌^◌, ◌<◌, ◌≤◌, Bool, true, false, List, [], ◌∷◌, arith, lit<}
use Rattle.std.specs.Prelude.{◌&&◌, All, cond, slice_index_or}
use Rattle.std.specs.List.{fold, filter, range_with_len}
use Rattle.std.proofs.lemmas.List.Elements.{All-nil, All-cons, All-head, All-tail, All-map}
use Rattle.std.proofs.lemmas.Nat.{or_of_16, pow_below}
use Rattle.span_base.specs.declared.dc_set.DcSet.{DcSet}
use Rattle.span_base.specs.DcSet.{bits_of, insert, no_centre}
use Rattle.span_base.specs.declared.policy.Quorum.{Quorum}
use Rattle.workload.specs.World.{Lists, centre_count, rule_of}
use Rattle.workload.specs.declared.rules.Mode.{Mode}
use Rattle.workload.specs.declared.rules.Mode.TheVariants.{Direct, Relay, Strong}
use Rattle.zero_one.specs.Rows.{bit_of}
use Rattle.slo_rules.specs.Rules.{is_read_near, is_write_near, union_of}
use Rattle.slo_rules.specs.PolicyLaws.{IsFitSet, HasFitSets}
use Rattle.placement_relay.specs.Placed as relay
use Rattle.placement_strong.specs.Placed as strong
use Rattle.placement_strong.specs.Variables.{members, member_at, g_var, w_var}
use Rattle.placement.specs.Placement.{IsSet, decoded_by, decoded}

-- the set of some centres
insert_fits : (s : DcSet) (d : ℕ) → IsFitSet s → d < 16 → IsFitSet (insert s d)
insert_fits s d fits low = or_of_16 (bits_of s) (2 ^ d) fits (pow_below d 16 low)

collected_fits : (test : ℕ → Bool) (s : DcSet) (first count : ℕ) → first + count ≤ 16 → IsFitSet s → IsFitSet (fold insert s (filter test (range_with_len first count)))
collected_fits test s first zero low fits = fits
collected_fits test s first (suc count) low fits =
    by (test first) (insert_fits s first fits (omega arith)) (λ next fit. collected_fits test next (first + 1) count (omega arith) fit)
  where
    more : List ℕ
    more = filter test (range_with_len (first + 1) count)

    by : (b : Bool) → IsFitSet (insert s first) → ((next : DcSet) → IsFitSet next → IsFitSet (fold insert next more)) → IsFitSet (fold insert s (cond b (first ∷ more) more))
    by true with_first rest = rest (insert s first) with_first
    by false with_first rest = rest s fits

kept_fits : (test : ℕ → Bool) (count : ℕ) → count ≤ 16 → IsFitSet (fold insert no_centre (filter test (range_with_len 0 count)))
kept_fits test count few = collected_fits test no_centre 0 count (omega (arith, few)) (lit< tt)

-- the centres of quorums
abbrev AreFit : Quorum → Type 0
AreFit q = IsFitSet q.read × IsFitSet q.write

union_fits : (quorums : List Quorum) → All AreFit quorums → IsFitSet (union_of quorums)
union_fits [] fit = lit< tt
union_fits (q ∷ quorums) fit =
    let here : AreFit q = All-head AreFit q quorums fit in
    or_of_16 _ _ (or_of_16 (bits_of q.read) (bits_of q.write) here.0 here.1) (union_fits quorums (All-tail AreFit q quorums fit))

relay_fits : (m : Mode) (w : Lists) (set : ℕ) → centre_count w ≤ 16 → (x : List Bool) → HasFitSets (relay.decoded_by m w set x)
relay_fits Direct w set few x = kept_fits (bit_of x) (centre_count w) few
relay_fits Relay w set few x = kept_fits (bit_of x) (centre_count w) few
relay_fits Strong w set few x = (kept_fits (bit_of x) (centre_count w) few, All-nil AreFit)

quorum_fits : (w : Lists) (set : ℕ) → centre_count w ≤ 16 → (x : List Bool) (a : ℕ) → AreFit (strong.chosen_quorum w set x a)
quorum_fits w set few x a = (
  kept_fits (λ d. is_read_near w (rule_of w set) (member_at w set a).dc.0 d && bit_of x (g_var w a d)) (centre_count w) few,
  kept_fits (λ d. is_write_near w (rule_of w set) (member_at w set a).dc.0 d && bit_of x (w_var w set a d)) (centre_count w) few,
)

strong_fits : (w : Lists) (set : ℕ) → centre_count w ≤ 16 → (x : List Bool) → HasFitSets (strong.decoded w set x)
unfolding strong.decoded
strong_fits w set few x =
    let each : All AreFit (strong.chosen_quorums w set x) =
    All-map AreFit (strong.chosen_quorum w set x) (members w set) (λ k d inside. quorum_fits w set few x (slice_index_or (members w set) k d)) in
    (union_fits (strong.chosen_quorums w set x) each, each)

by_mode : (m : Mode) (w : Lists) (set : ℕ) → centre_count w ≤ 16 → (x : List Bool) → HasFitSets (decoded_by m w set x)
unfolding relay.decoded
by_mode Direct w set few x = relay_fits (rule_of w set).mode w set few x
by_mode Relay w set few x = relay_fits (rule_of w set).mode w set few x
by_mode Strong w set few x = strong_fits w set few x

pub decoded_fits : (w : Lists) (set : ℕ) → IsSet w set → (x : List Bool) → HasFitSets (decoded w set x)
decoded_fits w set known x = by_mode (rule_of w set).mode w set known.complete.few_centres x
