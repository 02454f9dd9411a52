-- What each message that was sent rests on.
use Rattle.std.specs.Prelude.{◌≡◌, ℕ, ◌<◌, ◌≤◌, Bool, true, List, length, Some, Contains}
use Rattle.span_base.specs.declared.ids.KeyId.{KeyId}
use Rattle.span_base.specs.declared.dc_set.DcSet.{DcSet}
use Rattle.span_base.specs.declared.policy.Policy.{Policy}
use Rattle.ticket_rules.specs.declared.stamp.Stamp.{Stamp}
use Rattle.ticket_rules.specs.Stamp.{IsAbove}
use Rattle.wire_msg.specs.declared.tag.Tag.{Tag}
use Rattle.wire_msg.specs.declared.message.Message.TheVariants as m
use Rattle.epoch_directory.specs.State.{latest}
use Rattle.run_marks.specs.declared.mark.Work.TheVariants as w
use Rattle.run_marks.specs.declared.mark.Mark.TheVariants as k
use Rattle.world_core.specs.State.{Store, policy_of}
use Rattle.register_law.specs.Ghost.{Ghost, Begun}
use Rattle.register_law.specs.Seen.{WasSent, IsKnown, IsKept, IsSettled, IsFrozenSet}

-- a stamp is drawn by the call of this tag
pub record IsTicketOf (tag : Tag) (stamp : Stamp) : Type 0 where
  pub proxy : stamp.proxy ≡ tag.call.proxy
  pub seq : stamp.seq ≡ tag.call.seq
  pub some : 1 ≤ stamp.number

-- a write stores its own value, under a ticket above whatever was answered before it began
pub record StoreBacked (g : Ghost) (tag : Tag) (stamp : Stamp) (value : List ℕ) : Type 0 where
  pub b : Begun
  pub drawn : IsTicketOf tag stamp
  pub opened : Contains g.opened stamp.epoch
  pub begun : g.begun tag.call ≡ Some b
  pub work : b.work ≡ w.Write value
  pub above : IsAbove stamp b.floor
  pub ticket : Contains g.marks (k.Ticket tag.call stamp)

-- what the directory told of the key
pub record HereBacked (key : KeyId) (s : Store) (g : Ghost) (epoch : ℕ) (policy : Policy) (latest_epoch : ℕ) (latest_policy : Policy) : Type 0 where
  pub opened : Contains g.opened epoch
  pub within : (epoch ≤ latest_epoch) × (latest_epoch ≤ latest s.directory)
  pub policy_is : policy ≡ policy_of s key epoch
  pub latest_is : latest_policy ≡ policy_of s key latest_epoch

-- a switch is asked for once what the old epoch settled is settled in the new one
pub record SwitchBacked (key : KeyId) (s : Store) (g : Ghost) (old new : ℕ) : Type 0 where
  pub frozen : DcSet
  pub seeded : Stamp
  pub opened : Contains g.opened old
  pub later : old < new
  pub published : new ≤ latest s.directory
  pub frozen_set : IsFrozenSet key s g old frozen seeded
  pub settled : IsSettled key s g new seeded

-- of the messages of the key
pub record MessagesAreBacked (key : KeyId) (s : Store) (g : Ghost) : Type 0 where
  pub repair_known : (tag : Tag) (epoch : ℕ) (stamp : Stamp) (value : List ℕ) → WasSent s (m.Repair tag key epoch stamp value) → IsKnown key s stamp value
  pub seed_known : (tag : Tag) (epoch : ℕ) (stamp : Stamp) (value : List ℕ) → WasSent s (m.Seed tag key epoch stamp value) → IsKnown key s stamp value
  pub confirm_kept : (tag : Tag) (stamp : Stamp) → WasSent s (m.Confirm tag key stamp) → IsKept key s g stamp
  pub read_known : (tag : Tag) (epoch d : ℕ) (version mark : Stamp) (value : List ℕ) → WasSent s (m.Read tag key epoch) → WasSent s (m.Have tag (record { 0 = d }) version mark value) → IsKnown key s version value × IsKept key s g mark
  pub freeze_known : (tag : Tag) (epoch d : ℕ) (version mark : Stamp) (value : List ℕ) → WasSent s (m.Freeze tag key epoch) → WasSent s (m.Have tag (record { 0 = d }) version mark value) → IsKnown key s version value × IsKept key s g mark
  pub store_sent : (tag : Tag) (stamp : Stamp) (value : List ℕ) → WasSent s (m.Store tag key stamp value) → StoreBacked g tag stamp value
  pub one_store : (a b : Tag) (first second : Stamp) (v w : List ℕ) → WasSent s (m.Store a key first v) → WasSent s (m.Store b key second w) → a.call ≡ b.call → first ≡ second
  pub ask_sent : (tag : Tag) (stamp : Stamp) → WasSent s (m.Ask tag key stamp) → IsTicketOf tag stamp
  pub here_opened : (tag : Tag) (epoch : ℕ) (policy : Policy) (latest_epoch : ℕ) (latest_policy : Policy) → WasSent s (m.Here tag key epoch policy latest_epoch latest_policy) → HereBacked key s g epoch policy latest_epoch latest_policy
  pub switch_sent : (tag : Tag) (old new : ℕ) → WasSent s (m.Switch tag key old new) → SwitchBacked key s g old new
  pub switched_opened : (tag : Tag) (old new epoch : ℕ) → WasSent s (m.Switch tag key old new) → WasSent s (m.Switched tag key true epoch) → Contains g.opened new

-- a Switch with this tag was sent
pub record SwitchAsked (s : Store) (tag : Tag) (key : KeyId) : Type 0 where
  pub old : ℕ
  pub new : ℕ
  pub sent : WasSent s (m.Switch tag key old new)

-- the key exists, and what the directory told of any key answers a request of the same key
pub record KeysAgree (key : KeyId) (s : Store) : Type 0 where
  pub exists : key.0 < length s.directory.current
  pub here_asked : (tag : Tag) (at : KeyId) (epoch : ℕ) (policy : Policy) (newest : ℕ) (newest_policy : Policy) → WasSent s (m.Here tag at epoch policy newest newest_policy) → WasSent s (m.Lookup tag at)
  pub switched_asked : (tag : Tag) (at : KeyId) (done : Bool) (epoch : ℕ) → WasSent s (m.Switched tag at done epoch) → SwitchAsked s tag at
