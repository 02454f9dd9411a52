-- What is claimed of the eventual keys of every run.
use Rattle.std.specs.Prelude.{ℕ, ◌≡◌, ◌+◌, ◌<◌, ◌≤◌, ◌^◌, true, false, List, length, None, Contains}
use Rattle.span_base.specs.declared.ids.KeyId.{KeyId}
use Rattle.span_base.specs.DcSet.{has, bits_of}
use Rattle.span_base.specs.declared.dc_set.DcSet.{DcSet}
use Rattle.span_base.specs.PolicyParts.{faults_of, replicas_of}
use Rattle.ticket_rules.specs.declared.stamp.Stamp.{Stamp}
use Rattle.ticket_rules.specs.Stamp.{IsAtMost}
use Rattle.epoch_directory.specs.State.{latest, current_of}
use Rattle.run_marks.specs.declared.mark.Mark.{Mark}
use Rattle.register_law.specs.Seen.{count_of, both, is_at_most}
use Rattle.world_core.specs.declared.event.Header.{Header}
use Rattle.world_core.specs.declared.event.Event.{Event}
use Rattle.world_core.specs.declared.event.Event.TheVariants.{Deliver}
use Rattle.world_core.specs.State.{Store, opening, replica_at, proxy_at, kept_of, policy_of}
use Rattle.world_core.specs.Run.{run_of, IsHeader, MayRun}
use Rattle.eventual_law.specs.Keys.{IsEventualKey}
use Rattle.eventual_law.specs.Pushes.{pushes, IsGreatest, HaveOneValue}
use Rattle.eventual_law.specs.Puts.{GetsGivePuts, IsStored}
use Rattle.eventual_law.specs.Opened.{opener, IsOpeningVersion}

-- whatever happens, in whatever order, also where the run stops at a refused event
abbrev pub OfEveryRun : (Header → List Event → KeyId → Type 0) → Type 0
OfEveryRun P = (header : Header) (events : List Event) → IsHeader header → MayRun events (opening header) → (key : KeyId) → IsEventualKey header key.0 → P header events key

-- each replica's version and value are its greatest push
abbrev pub KeepsTheGreatest : Header → List Event → KeyId → Type 0
KeepsTheGreatest header events key =
    (d : ℕ) → IsGreatest (pushes key d events (opening header)) (kept_of (run_of header events).store d key).version (kept_of (run_of header events).store d key).value
    × HaveOneValue (pushes key d events (opening header)) (kept_of (run_of header events).store d key).version (kept_of (run_of header events).store d key).value

-- each value that a get gives is that of a put that had begun
abbrev pub GivesPuts : Header → List Event → KeyId → Type 0
GivesPuts header events key = GetsGivePuts key (run_of header events).marks

-- the stamp is at most the version of this many replicas of the key's current policy, at least
abbrev pub IsHeldBy : ℕ → Store → KeyId → Stamp → Type 0
IsHeldBy many s key stamp = many ≤ count_of (both (has (replicas_of (policy_of s key (current_of s.directory key)))) (λ d. is_at_most stamp (kept_of s d key).version))

-- the ticket of each put that was answered is at most the version of f + 1 replicas of the current policy
abbrev pub HoldsTheStored : Header → List Event → KeyId → Type 0
HoldsTheStored header events key =
    (stamp : Stamp) → IsStored key (run_of header events).marks stamp
    → IsHeldBy (faults_of (policy_of (run_of header events).store key (current_of (run_of header events).store.directory key)) + 1) (run_of header events).store key stamp

-- the current epoch has one opening version, and each stamp of an earlier epoch that a replica holds is at most it
pub record OpensAboveEarlier (header : Header) (events : List Event) (key : KeyId) : Type 0 where
  pub some : (version : Stamp) × IsOpeningVersion key (run_of header events).store (opener key events (opening header) None) version
  pub one : (version other : Stamp) → IsOpeningVersion key (run_of header events).store (opener key events (opening header) None) version
      → IsOpeningVersion key (run_of header events).store (opener key events (opening header) None) other → version ≡ other
  pub above : (version : Stamp) → IsOpeningVersion key (run_of header events).store (opener key events (opening header) None) version
      → (d : ℕ) → (kept_of (run_of header events).store d key).version.epoch < current_of (run_of header events).store.directory key
      → IsAtMost (kept_of (run_of header events).store d key).version version

-- no event was refused, no actor is stopped, and every message that was sent was delivered at least once
pub record IsQuiet (header : Header) (events : List Event) : Type 0 where
  pub whole : (run_of header events).refused ≡ None
  pub replicas : (d : ℕ) → d < length (run_of header events).store.replicas → (replica_at (run_of header events).store d).stopped ≡ false
  pub proxies : (p : ℕ) → p < length (run_of header events).store.proxies → (proxy_at (run_of header events).store p).stopped ≡ false
  pub delivered : (n : ℕ) → n < length (run_of header events).store.sent → Contains events (Deliver n)

-- the set is of replicas of the run
pub record IsPlaced (s : Store) (set : DcSet) : Type 0 where
  pub small : bits_of set < 2 ^ 16
  pub there : (d : ℕ) → has set d ≡ true → d < length s.replicas

-- so are the replicas of each policy of the key
abbrev pub ArePlaced : Store → KeyId → Type 0
ArePlaced s key = (epoch : ℕ) → 1 ≤ epoch → epoch ≤ latest s.directory → IsPlaced s (replicas_of (policy_of s key epoch))

-- the centre is a replica of the key's current policy
abbrev pub IsCurrent : Store → KeyId → ℕ → Type 0
IsCurrent s key d = has (replicas_of (policy_of s key (current_of s.directory key))) d ≡ true

-- all replicas of the current policy hold one version with one value, which is at least the ticket of each put that was answered
pub record Agrees (s : Store) (marks : List Mark) (key : KeyId) : Type 0 where
  pub version : (d e : ℕ) → IsCurrent s key d → IsCurrent s key e → (kept_of s d key).version ≡ (kept_of s e key).version
  pub value : (d e : ℕ) → IsCurrent s key d → IsCurrent s key e → (kept_of s d key).value ≡ (kept_of s e key).value
  pub stored : (stamp : Stamp) → IsStored key marks stamp → (d : ℕ) → IsCurrent s key d → IsAtMost stamp (kept_of s d key).version

abbrev pub AgreesWhenQuiet : Header → List Event → KeyId → Type 0
AgreesWhenQuiet header events key = IsQuiet header events → ArePlaced (run_of header events).store key → Agrees (run_of header events).store (run_of header events).marks key

abbrev pub ReplicasKeepTheirGreatest : Type 0
ReplicasKeepTheirGreatest = OfEveryRun KeepsTheGreatest

abbrev pub ValuesAreThoseOfPuts : Type 0
ValuesAreThoseOfPuts = OfEveryRun GivesPuts

abbrev pub StoredPutsStay : Type 0
StoredPutsStay = OfEveryRun HoldsTheStored

abbrev pub EarlierStampsAreBelow : Type 0
EarlierStampsAreBelow = OfEveryRun OpensAboveEarlier

abbrev pub ReplicasAgree : Type 0
ReplicasAgree = OfEveryRun AgreesWhenQuiet
