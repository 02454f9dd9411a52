-- What the line that is due says of a draft.
use Rattle.std.proofs.Common.{◌≡◌, ℕ, zero, suc, ◌<◌, ◌≤◌, List, [], ◌∷◌, length, Option, Some, None, refl, sym, subst, ◌∙◌, arith}
use Rattle.std.specs.Prelude.{slice_get, option_map}
use Rattle.std.proofs.lemmas.Option.{slice_get_within}
use Rattle.span_base.specs.declared.dc_set.DcSet.{DcSet}
use Rattle.span_base.specs.DcSet.{centres_of}
use Rattle.workload.specs.World.{Lists, rule_of, members_of}
use Rattle.workload.specs.declared.rules.Demand.{Demand}
use Rattle.workload.specs.declared.rules.Mode.{Mode}
use Rattle.workload.specs.declared.rules.Mode.TheVariants as mode
use Rattle.slo_rules.specs.Rules.{hops_due, centres_asking}
use Rattle.slo_rules.specs.declared.turn.Due.{Due}
use Rattle.slo_rules.specs.declared.turn.Due.TheVariants as due
use Rattle.slo_rules.specs.PolicyReading.{Draft, or_then, due_primary, due_hop, due_behind, due_in, due_of}
use Rattle.slo_rules.proofs.Drafts.{first}

-- whose turn it is, by what is due
pub record PrimaryTurn (w : Lists) (d : Draft) : Type 0 where
  pub rs : DcSet
  pub begun : d.replicas ≡ Some rs
  pub apart : (rule_of w d.set).mode ≡ mode.Strong → ⊥
  pub inside : length d.primary < length (members_of w d.set)

pub record HopTurn (w : Lists) (d : Draft) : Type 0 where
  pub rs : DcSet
  pub begun : d.replicas ≡ Some rs
  pub relay : (rule_of w d.set).mode ≡ mode.Relay
  pub full : length (members_of w d.set) ≤ length d.primary

pub record QuorumTurn (w : Lists) (d : Draft) : Type 0 where
  pub rs : DcSet
  pub begun : d.replicas ≡ Some rs
  pub strong : (rule_of w d.set).mode ≡ mode.Strong

-- what each due line says of the draft
abbrev pub Turn : Lists → Draft → Due → Type 0
Turn w d due.Replicas = d.replicas ≡ None
Turn w d (due.Primary turn) = PrimaryTurn w d
Turn w d (due.Hop turn replica) = HopTurn w d
Turn w d (due.Quorum turn) = QuorumTurn w d

some_primary : (w : Lists) (d : Draft) (turn : Due) (rs : DcSet) → d.replicas ≡ Some rs → ((rule_of w d.set).mode ≡ mode.Strong → ⊥) → due_primary (members_of w d.set) (length d.primary) ≡ Some turn → Turn w d turn
some_primary w d turn rs begun apart e = go (slice_get (members_of w d.set) (length d.primary)) refl e
  where
    go : (o : Option Demand) → slice_get (members_of w d.set) (length d.primary) ≡ o → option_map (λ m. due.Primary m.dc) o ≡ Some turn → Turn w d turn
    go (Some m) is e =
        let same : due.Primary m.dc ≡ turn = cc in
        subst (Turn w d) same (record { rs = rs; begun = begun; apart = apart; inside = slice_get_within (members_of w d.set) (length d.primary) m is })
    go None is e = cc

all_read : {X Y : Type 0} (f : X → Y) (xs : List X) (n : ℕ) → option_map f (slice_get xs n) ≡ None → length xs ≤ n
all_read f [] n e = omega arith
all_read f (x ∷ xs) zero e = cc
all_read f (x ∷ xs) (suc n) e = let h = all_read f xs n e in omega arith

pub turn_is : (w : Lists) (d : Draft) (turn : Due) → due_of w d ≡ Some turn → Turn w d turn
turn_is w d turn e = go d.replicas refl e
  where
    behind : (rs : DcSet) → d.replicas ≡ Some rs → (m : Mode) → (rule_of w d.set).mode ≡ m → due_behind m (members_of w d.set) rs d ≡ Some turn → Turn w d turn
    behind rs begun mode.Direct is e = some_primary w d turn rs begun (λ strong. let f : mode.Direct ≡ mode.Strong = sym is ∙ strong in cc) e
    behind rs begun mode.Relay is e = by (due_primary (members_of w d.set) (length d.primary)) refl e
      where
        hop : (o : Option (ℕ × ℕ)) → length (members_of w d.set) ≤ length d.primary → option_map (λ (lane : ℕ × ℕ). due.Hop (record { 0 = lane.0 }) (record { 0 = lane.1 })) o ≡ Some turn → Turn w d turn
        hop (Some lane) full e =
            let same : due.Hop (record { 0 = lane.0 }) (record { 0 = lane.1 }) ≡ turn = cc in
            subst (Turn w d) same (record { rs = rs; begun = begun; relay = is; full = full })
        hop None full e = cc

        by : (o : Option Due) → due_primary (members_of w d.set) (length d.primary) ≡ o → or_then o (due_hop (members_of w d.set) rs (length d.hops)) ≡ Some turn → Turn w d turn
        by (Some t) first e = some_primary w d turn rs begun (λ strong. let f : mode.Relay ≡ mode.Strong = sym is ∙ strong in cc) (first ∙ e)
        by None first e = hop (slice_get (hops_due (centres_asking (members_of w d.set)) (centres_of rs)) (length d.hops)) (all_read (λ (m : Demand). due.Primary m.dc) (members_of w d.set) (length d.primary) first) e
    behind rs begun mode.Strong is e = by (slice_get (members_of w d.set) (length d.quorums)) e
      where
        by : (o : Option Demand) → option_map (λ m. due.Quorum m.dc) o ≡ Some turn → Turn w d turn
        by (Some m) e = let same : due.Quorum m.dc ≡ turn = cc in subst (Turn w d) same (record { rs = rs; begun = begun; strong = is })
        by None e = cc

    go : (o : Option DcSet) → d.replicas ≡ o → due_in w d o ≡ Some turn → Turn w d turn
    go None is e = let same : due.Replicas ≡ turn = cc in subst (Turn w d) same is
    go (Some rs) is e = behind rs is (rule_of w d.set).mode refl e
