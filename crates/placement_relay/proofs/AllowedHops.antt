-- The hops of an allowed relay policy are its members', from centres to centres.
use Rattle.std.proofs.Common.{◌≡◌, ℕ, ◌<◌, true, ◌==◌, List, [], ◌∷◌, get_or, map, refl, sym, subst}
use Rattle.std.specs.Prelude.{◌≢◌}
use Rattle.std.specs.List.{All, AllPairs, AllByRecursion, list_any}
use Rattle.std.proofs.lemmas.Bool.{eq-eqb}
use Rattle.std.proofs.lemmas.List.Elements.{All-from_recursion, recursion_from_All}
use Rattle.std.proofs.lemmas.List.Folds.{list_any_at}
use Rattle.span_base.specs.declared.dc_set.DcSet.{DcSet}
use Rattle.span_base.specs.DcSet.{centres_of}
use Rattle.span_base.specs.declared.policy.Policy.{Policy}
use Rattle.span_base.specs.declared.policy.Policy.TheVariants.{Relay}
use Rattle.span_base.specs.declared.policy.Near.{Near}
use Rattle.span_base.specs.declared.policy.Hop.{Hop}
use Rattle.workload.specs.World.{Lists, centre_count, members_of}
use Rattle.slo_rules.specs.Rules.{IsAllowed, centres_asking, hops_due}
use Rattle.placement_rows.proofs.Each.{each-map_back, each-flat_map}
use Rattle.placement_relay.specs.Laws.{IsEventualSet}
use Rattle.placement_relay.specs.HopPlaces.{IsHopOf}
use Rattle.placement_relay.proofs.Allowed.{IsRelay, ends_of, each-both, relay-from}
use Rattle.placement_relay.proofs.PlacedHops.{hops-low}
use Rattle.placement_relay.proofs.EventualSets.{members_apart}

-- each hop that is due is one of the members'
all-there : (ms : List ℕ) → AllByRecursion (λ m. list_any (λ a. a == m) ms ≡ true) ms
all-there ms = recursion_from_All (λ m. list_any (λ a. a == m) ms ≡ true) ms (λ i d in'. list_any_at (λ a. a == get_or ms i d) ms i d in' (eq-eqb (get_or ms i d) (get_or ms i d) refl))

pairs-of : (P : ℕ → Type 0) (m : ℕ) (rs : List ℕ) → P m → AllByRecursion (λ (e : ℕ × ℕ). P e.0) (map (λ dc. (m, dc)) rs)
pairs-of P m [] is = tt
pairs-of P m (r ∷ rs) is = (is, pairs-of P m rs is)

due-members : (ms rs : List ℕ) → AllByRecursion (λ (e : ℕ × ℕ). list_any (λ a. a == e.0) ms ≡ true) (hops_due ms rs)
due-members ms rs =
    each-flat_map (λ (e : ℕ × ℕ). list_any (λ a. a == e.0) ms ≡ true) (λ m. list_any (λ a. a == m) ms ≡ true) (λ m. map (λ dc. (m, dc)) rs)
    (λ m there. pairs-of (λ m. list_any (λ a. a == m) ms ≡ true) m rs there) ms (all-there ms)

hops-of : (w : Lists) (set : ℕ) (f : ℕ) (replicas : DcSet) (primary : List Near) (hops : List Hop) → IsRelay w set f replicas primary hops → AllPairs (λ a b. a.dc.0 ≢ b.dc.0) (members_of w set) → All (IsHopOf w set) hops
hops-of w set f replicas primary hops relay apart =
    let ms = centres_asking (members_of w set) in
    let due = subst (AllByRecursion (λ (e : ℕ × ℕ). list_any (λ a. a == e.0) ms ≡ true)) (sym relay.due) (due-members ms (centres_of replicas)) in
    let named = each-map_back (λ (e : ℕ × ℕ). list_any (λ a. a == e.0) ms ≡ true) (λ (hop : Hop). list_any (λ a. a == hop.member.0) ms ≡ true) ends_of (λ hop there. there) hops due in
    All-from_recursion (IsHopOf w set) hops
    (each-both (λ (hop : Hop). list_any (λ a. a == hop.member.0) ms ≡ true) (λ (hop : Hop). (hop.child.0 < centre_count w) × (hop.parent.0 < centre_count w)) (IsHopOf w set)
    (λ hop there low. record { member = there; child = low.0; parent = low.1 }) hops named (hops-low w set f replicas primary hops relay apart))

pub allowed-hops : (w : Lists) (set : ℕ) → IsEventualSet w set → (q : Policy) → IsAllowed w set q → (f : ℕ) (replicas : DcSet) (primary : List Near) (hops : List Hop) → q ≡ Relay f replicas primary hops → All (IsHopOf w set) hops
allowed-hops w set s q allowed f replicas primary hops is =
    hops-of w set f replicas primary hops (relay-from w set replicas primary hops f s.complete.few_centres (subst (IsAllowed w set) is allowed)) (members_apart w set s)
