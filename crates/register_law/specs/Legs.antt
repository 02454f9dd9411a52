-- What each leg of a read or a write of the key found when it began.
use Rattle.std.specs.Prelude.{◌≡◌, ℕ, ◌<◌, ◌≤◌, true, Option, Some, None, IsSome, Contains}
use Rattle.span_base.specs.declared.ids.KeyId.{KeyId}
use Rattle.span_base.specs.declared.dc_set.DcSet.{DcSet}
use Rattle.span_base.specs.DcSet.{has}
use Rattle.span_base.specs.declared.policy.Quorum.{Quorum}
use Rattle.span_base.specs.PolicyParts.{members_of, faults_of}
use Rattle.ticket_rules.specs.declared.stamp.Stamp.{Stamp}
use Rattle.ticket_rules.specs.Stamp.{IsAtMost}
use Rattle.wire_msg.specs.declared.message.Message.{Message}
use Rattle.wire_msg.specs.Posts.{tag_of}
use Rattle.wire_msg.specs.declared.message.Message.TheVariants as m
use Rattle.slot_pool.specs.declared.handles.Handle.{Handle}
use Rattle.world_core.specs.declared.live.LiveCall.{LiveCall}
use Rattle.world_core.specs.State.{Store, kept_of, policy_of, proxy_at}
use Rattle.world_core.specs.Calls.{tag_of_call}
use Rattle.register_law.specs.Ghost.{Ghost, Begun, Leg}
use Rattle.register_law.specs.Seen.{WasSent, HasMost, MeetsAll, is_at_most}
use Rattle.register_law.specs.Tags.{IsLiveAt, request_key}
use Rattle.register_law.specs.Replicas.{IsTagOf}

-- the request of the leg's first phase
abbrev pub IsLegRequest : KeyId → Leg → Option Stamp → Message → Type 0
IsLegRequest key leg None request = request ≡ m.Read (tag_of request) key leg.epoch
IsLegRequest key leg (Some ticket) request = request ≡ m.Ask (tag_of request) key ticket

-- a ticket is of the leg's epoch
abbrev pub IsTicketIn : ℕ → Option Stamp → Type 0
IsTicketIn epoch None = Unit {0}
IsTicketIn epoch (Some ticket) = ticket.epoch ≡ epoch

-- some member's write set had the stamp, all but f of it, when the leg began
pub record FoundSettled (key : KeyId) (s : Store) (leg : Leg) (floor : Stamp) : Type 0 where
  pub member : Quorum
  pub is_member : Contains (members_of (policy_of s key leg.epoch)) member
  pub settled : HasMost (faults_of (policy_of s key leg.epoch)) member.write (λ d. is_at_most floor (leg.snap d).version)

-- replicas that meet each quorum were frozen for the leg's epoch when it began
pub record FoundFrozen (key : KeyId) (s : Store) (leg : Leg) : Type 0 where
  pub frozen : DcSet
  pub meets : MeetsAll (policy_of s key leg.epoch) (has frozen)
  pub over : (d : ℕ) → has frozen d ≡ true → leg.epoch ≤ (leg.snap d).frozen

pub record LegsAreBacked (key : KeyId) (s : Store) (g : Ghost) : Type 0 where
  pub request : (leg : Leg) (request : Message) → Contains g.legs leg → WasSent s request → IsSome (request_key request) → IsTagOf leg (tag_of request) → IsLegRequest key leg leg.ticket request
  pub past : (leg : Leg) (d : ℕ) → Contains g.legs leg → IsAtMost (leg.snap d).version (kept_of s d key).version × ((leg.snap d).frozen ≤ (kept_of s d key).frozen)
  pub numbered : (leg : Leg) → Contains g.legs leg → IsSome (g.begun leg.call) × (leg.call.seq ≤ (proxy_at s leg.call.proxy).begun)
  pub bound : (leg : Leg) (p : ℕ) (handle : Handle) (call : LiveCall) → Contains g.legs leg → IsLiveAt s p handle call → (tag_of_call call).call ≡ leg.call → leg.phase ≤ (tag_of_call call).phase
  pub once : (a b : Leg) → Contains g.legs a → Contains g.legs b → a.call ≡ b.call → a.phase ≡ b.phase → a ≡ b
  pub opened : (leg : Leg) → Contains g.legs leg → Contains g.opened leg.epoch × IsTicketIn leg.epoch leg.ticket
  pub floor : (leg : Leg) (b : Begun) → Contains g.legs leg → g.begun leg.call ≡ Some b → b.epoch ≤ leg.epoch → FoundSettled key s leg b.floor
  pub blocked : (leg : Leg) (b : Begun) → Contains g.legs leg → g.begun leg.call ≡ Some b → leg.epoch < b.epoch → FoundFrozen key s leg
