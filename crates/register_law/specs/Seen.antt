-- The state seen for one key, and what stays true once it is.
use Rattle.std.specs.Prelude.{◌≡◌, ◌⊎◌, ℕ, ◌+◌, ◌≤◌, ◌&&◌, nat_lt, Bool, true, if◌then◌else◌, List, [], length, Some, Contains}
use Rattle.std.specs.List.{filter, range_with_len}
use Rattle.std.specs.Ordering.{is_le}
use Rattle.span_base.specs.declared.ids.Call.{Call}
use Rattle.span_base.specs.declared.ids.KeyId.{KeyId}
use Rattle.span_base.specs.declared.dc_set.DcSet.{DcSet}
use Rattle.span_base.specs.DcSet.{has}
use Rattle.span_base.specs.declared.policy.Quorum.{Quorum}
use Rattle.span_base.specs.declared.policy.Policy.{Policy}
use Rattle.span_base.specs.PolicyParts.{members_of, faults_of}
use Rattle.ticket_rules.specs.declared.stamp.Stamp.{Stamp}
use Rattle.ticket_rules.specs.Stamp.{stamp_cmp, stamp_zero, IsAtMost}
use Rattle.wire_msg.specs.declared.tag.Tag.{Tag}
use Rattle.wire_msg.specs.declared.actor.Actor.{Actor}
use Rattle.wire_msg.specs.declared.message.Message.{Message}
use Rattle.wire_msg.specs.declared.outputs.Post.{Post}
use Rattle.wire_msg.specs.declared.message.Message.TheVariants as m
use Rattle.epoch_directory.specs.State.{latest}
use Rattle.world_core.specs.State.{Store, kept_of, proxy_at, policy_of}
use Rattle.register_law.specs.Ghost.{Ghost, Begun, Leg}

-- how many centres pass
abbrev pub count_of : (ℕ → Bool) → ℕ
count_of test = length (filter test (range_with_len 0 16))

abbrev pub both : (ℕ → Bool) → (ℕ → Bool) → ℕ → Bool
both p q d = p d && q d

-- each that passes p passes q
abbrev pub Within : (ℕ → Bool) → (ℕ → Bool) → Type 0
Within p q = (d : ℕ) → p d ≡ true → q d ≡ true

-- all but f of the set are among these
abbrev pub HasMost : ℕ → DcSet → (ℕ → Bool) → Type 0
HasMost f set test = count_of (has set) ≤ count_of (both (has set) test) + f

-- the message was sent, to whomever
abbrev pub WasSent : Store → Message → Type 0
WasSent s message = (to : Actor) × Contains s.sent (record { to = to; message = message })

-- the replica's version before it was frozen for the epoch: its version as long as it isn't
abbrev pub version_before : KeyId → Store → Ghost → ℕ → ℕ → Stamp
version_before key s g d e = if nat_lt (kept_of s d key).frozen e then (kept_of s d key).version else g.fixed d e

abbrev pub is_at_most : Stamp → Stamp → Bool
is_at_most a b = is_le (stamp_cmp a b)

-- all but f of some member's write set have the stamp, or had it when they were frozen for the epoch
pub record IsSettled (key : KeyId) (s : Store) (g : Ghost) (epoch : ℕ) (stamp : Stamp) : Type 0 where
  pub member : Quorum
  pub is_member : Contains (members_of (policy_of s key epoch)) member
  pub settled : HasMost (faults_of (policy_of s key epoch)) member.write (λ d. is_at_most stamp (version_before key s g d epoch))

-- the stamp is settled in an epoch that has been current
pub record IsKept (key : KeyId) (s : Store) (g : Ghost) (stamp : Stamp) : Type 0 where
  pub epoch : ℕ
  pub opened : Contains g.opened epoch
  pub settled : IsSettled key s g epoch stamp

-- the stamp is a write's that was sent with this value
pub record WasStored (key : KeyId) (s : Store) (stamp : Stamp) (value : List ℕ) : Type 0 where
  pub tag : Tag
  pub sent : WasSent s (m.Store tag key stamp value)

-- the value belongs to the stamp
abbrev pub IsKnown : KeyId → Store → Stamp → List ℕ → Type 0
IsKnown key s stamp value = ((stamp ≡ stamp_zero) × (value ≡ [])) ⊎ WasStored key s stamp value

-- more than f of each member's read set, and of each member's write set, are in the set
abbrev pub MeetsAll : Policy → (ℕ → Bool) → Type 0
MeetsAll policy set =
    (member : Quorum) → Contains (members_of policy) member
    → (faults_of policy + 1 ≤ count_of (both set (has member.read))) × (faults_of policy + 1 ≤ count_of (both set (has member.write)))

-- the replicas of the set are frozen for the epoch, with versions of at most the stamp
pub record IsFrozenSet (key : KeyId) (s : Store) (g : Ghost) (epoch : ℕ) (set : DcSet) (stamp : Stamp) : Type 0 where
  pub meets : MeetsAll (policy_of s key epoch) (has set)
  pub frozen : (d : ℕ) → has set d ≡ true → epoch ≤ (kept_of s d key).frozen
  pub below : (d : ℕ) → has set d ≡ true → IsAtMost (version_before key s g d epoch) stamp

-- nothing that was noted is taken back, and nothing that counts falls
pub record Grows (key : KeyId) (s : Store) (g : Ghost) (s' : Store) (g' : Ghost) : Type 0 where
  pub sent : (post : Post) → Contains s.sent post → Contains s'.sent post
  pub published : latest s.directory ≤ latest s'.directory
  pub policies : (epoch : ℕ) → 1 ≤ epoch → epoch ≤ latest s.directory → policy_of s' key epoch ≡ policy_of s key epoch
  pub versions : (d : ℕ) → IsAtMost (kept_of s d key).version (kept_of s' d key).version
  pub frozen : (d : ℕ) → (kept_of s d key).frozen ≤ (kept_of s' d key).frozen
  pub before : (d e : ℕ) → IsAtMost (version_before key s g d e) (version_before key s' g' d e)
  pub fixed : (d e : ℕ) → e ≤ (kept_of s d key).frozen → version_before key s' g' d e ≡ version_before key s g d e
  pub opened : (e : ℕ) → Contains g.opened e → Contains g'.opened e
  pub legs : (leg : Leg) → Contains g.legs leg → Contains g'.legs leg
  pub begun : (call : Call) (b : Begun) → g.begun call ≡ Some b → g'.begun call ≡ Some b
  pub top : IsAtMost g.top g'.top
  pub calls : (p : ℕ) → (proxy_at s p).begun ≤ (proxy_at s' p).begun
