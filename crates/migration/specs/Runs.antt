-- The runs of a move: what it is and has sent after the messages that it took, the latest first.
use Rattle.std.specs.Prelude.{◌≡◌, ℕ, true, List, [], ◌∷◌, ◌++◌}
use Rattle.std.specs.List.{Contains}
use Rattle.span_base.specs.declared.ids.KeyId.{KeyId}
use Rattle.span_base.specs.declared.dc_set.DcSet.{DcSet}
use Rattle.span_base.specs.declared.policy.Policy.{Policy}
use Rattle.span_base.specs.DcSet.{has}
use Rattle.ticket_rules.specs.declared.stamp.Stamp.{Stamp}
use Rattle.wire_msg.specs.declared.tag.Tag.{Tag}
use Rattle.wire_msg.specs.declared.message.Message.{Message}
use Rattle.wire_msg.specs.declared.message.Message.TheVariants.{Seed, Yes, Here}
use Rattle.wire_msg.specs.declared.outputs.Post.{Post}
use Rattle.call_phase.specs.Requests.{post_to}
use Rattle.migration.specs.Rule.{Rule}
use Rattle.migration.specs.Move.{Moving, started, step}

-- the move after these messages
abbrev pub after : Rule → Tag → KeyId → List Message → Moving
after rule tag key [] = (started tag key).state
after rule tag key (message ∷ earlier) = (step rule (after rule tag key earlier) message).state

-- what it has sent by then
abbrev pub sent : Rule → Tag → KeyId → List Message → List Post
sent rule tag key [] = (started tag key).out.posts
sent rule tag key (message ∷ earlier) = (step rule (after rule tag key earlier) message).out.posts ++ sent rule tag key earlier

-- the directory told that the latest epoch has this number and this policy
pub record IsTold (taken : List Message) (number : ℕ) (policy : Policy) : Type 0 where
  pub tag : Tag
  pub key : KeyId
  pub current : ℕ
  pub current_policy : Policy
  pub told : Contains taken (Here tag key current current_policy number policy)

-- a replica's yes to what was asked under this tag
abbrev pub yes_of : Tag → ℕ → Message
yes_of tag d = Yes tag (record { 0 = d })

-- The version is stored in the epoch: the directory told the epoch's policy, a seed was sent to
-- each replica of a set of that policy, and so many of them said yes to it as are enough.
pub record IsStored (set : Policy → DcSet) (IsEnough : Policy → DcSet → Type 0) (key : KeyId) (posts : List Post) (taken : List Message) (epoch : ℕ) : Type 0 where
  pub policy : Policy
  pub told : IsTold taken epoch policy
  pub tag : Tag
  pub stamp : Stamp
  pub value : List ℕ
  pub asked : (d : ℕ) → has (set policy) d ≡ true → Contains posts (post_to (Seed tag key epoch stamp value) d)
  pub answered : DcSet
  pub said_yes : (d : ℕ) → has answered d ≡ true → (has (set policy) d ≡ true) × Contains taken (yes_of tag d)
  pub enough : IsEnough policy answered
