-- Which numbers frames can spell, and what decoding answers.
use Rattle.std.specs.Prelude.{ℕ, ◌≡◌, ◌<◌, ◌^◌, ⊤, List, Some, Result, Ok, Err}
use Rattle.std.specs.List.{AllByRecursion}
use Rattle.span_base.specs.DcSet.{bits_of}
use Rattle.span_base.specs.declared.dc_set.DcSet.{DcSet}
use Rattle.span_base.specs.declared.policy.Near.{Near}
use Rattle.span_base.specs.declared.policy.Hop.{Hop}
use Rattle.span_base.specs.declared.policy.Quorum.{Quorum}
use Rattle.span_base.specs.declared.policy.Policy.{Policy}
use Rattle.span_base.specs.declared.policy.Policy.TheVariants.{Direct, Relay, Strong}
use Rattle.ticket_rules.specs.declared.stamp.Stamp.{Stamp}
use Rattle.wire_msg.specs.declared.tag.Tag.{Tag}
use Rattle.wire_msg.specs.declared.message.Message.{Message}
use Rattle.wire_msg.specs.declared.fault.FrameFault.{FrameFault}
use Rattle.wire_msg.specs.declared.fault.FrameFault.TheVariants.{BadFrame, NoMemory}
use Rattle.wire_msg.specs.Fields.{Field, a_tag, a_key, an_epoch, a_frozen_epoch, a_stamp, a_value, a_set, a_replica, a_policy, a_flag, fields_of}
use Rattle.wire_msg.specs.Lawful.{IsLawful}
use Rattle.wire_msg.specs.Frames.{frame_of}
use Rattle.wire_msg.specs.Faults.{fault_place}

abbrev pub FitsSet : DcSet → Type 0
FitsSet centres = bits_of centres < 2 ^ 16

pub record FitsTag (tag : Tag) : Type 0 where
  pub generation : tag.generation < 2 ^ 32
  pub seq : tag.call.seq < 2 ^ 32
  pub phase : tag.phase < 2 ^ 8

pub record FitsStamp (stamp : Stamp) : Type 0 where
  pub epoch : stamp.epoch < 2 ^ 32
  pub number : stamp.number < 2 ^ 64
  pub seq : stamp.seq < 2 ^ 32

pub record FitsNear (near : Near) : Type 0 where
  pub member : near.member.0 < 2 ^ 8
  pub at : near.at.0 < 2 ^ 8

-- of a hop only the parent is spelled
abbrev pub FitsHop : Hop → Type 0
FitsHop hop = hop.parent.0 < 2 ^ 8

pub record FitsQuorum (quorum : Quorum) : Type 0 where
  pub dc : quorum.dc.0 < 2 ^ 8
  pub read : FitsSet quorum.read
  pub write : FitsSet quorum.write

abbrev pub FitsPolicy : Policy → Type 0
FitsPolicy (Direct f replicas primary) = FitsSet replicas × AllByRecursion FitsNear primary
FitsPolicy (Relay f replicas primary parent) = FitsSet replicas × AllByRecursion FitsNear primary × AllByRecursion FitsHop parent
FitsPolicy (Strong f replicas members) = FitsSet replicas × AllByRecursion FitsQuorum members

-- the numbers that a lawful field's bytes spell are in the ranges of their types; the bytes of a
-- value stand in the frame as they are
abbrev pub FitsField : Field → Type 0
FitsField (a_tag tag) = FitsTag tag
FitsField (a_key key) = ⊤
FitsField (an_epoch epoch) = epoch < 2 ^ 32
FitsField (a_frozen_epoch epoch) = epoch < 2 ^ 32
FitsField (a_stamp stamp) = FitsStamp stamp
FitsField (a_value value) = ⊤
FitsField (a_set centres) = FitsSet centres
FitsField (a_replica replica) = ⊤
FitsField (a_policy policy) = FitsPolicy policy
FitsField (a_flag flag) = ⊤

-- A law ranges over messages of any numbers. These are the ones whose numbers are in the ranges
-- of their types, as those of every message of the code are.
abbrev pub FitsBytes : Message → Type 0
FitsBytes message = AllByRecursion FitsField (fields_of message)

-- some lawful message has this frame
abbrev pub IsFrame : List ℕ → Type 0
IsFrame frame = (m : Message) × IsLawful m × FitsBytes m × (frame_of m ≡ frame)

-- decoding answers the lawful message that has the frame, or the place of the first fault of a
-- frame that no lawful message has
abbrev pub Decodes : List ℕ → Result Message FrameFault → Type 0
Decodes frame (Ok m) = IsLawful m × FitsBytes m × (frame_of m ≡ frame)
Decodes frame (Err (BadFrame at)) = (fault_place frame ≡ Some at) × ¬ IsFrame frame
Decodes frame (Err (NoMemory e)) = ⊤

-- decoding answers this message, unless memory runs out
abbrev pub ComesBack : Message → Result Message FrameFault → Type 0
ComesBack message (Ok m) = m ≡ message
ComesBack message (Err (BadFrame at)) = ⊥
ComesBack message (Err (NoMemory e)) = ⊤
