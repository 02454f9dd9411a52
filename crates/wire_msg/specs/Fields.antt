-- Which fields the messages have, in the order in which they stand in a frame.
use Rattle.std.specs.Prelude.{ℕ, Bool, List, [], ◌∷◌}
use Rattle.span_base.specs.declared.ids.KeyId.{KeyId}
use Rattle.span_base.specs.declared.ids.DcId.{DcId}
use Rattle.span_base.specs.declared.dc_set.DcSet.{DcSet}
use Rattle.span_base.specs.declared.policy.Policy.{Policy}
use Rattle.ticket_rules.specs.declared.stamp.Stamp.{Stamp}
use Rattle.wire_msg.specs.declared.tag.Tag.{Tag}
use Rattle.wire_msg.specs.declared.message.Message.{Message}
use Rattle.wire_msg.specs.declared.message.Message.TheVariants.{Read, Ask, Store, Repair, Confirm, Freeze, Seed, Push, Lookup, Switch, Have, Yes, Held, Gone, Here, Switched}

-- a field of a message
pub data Field : Type 0 where
  a_tag : Tag → Field
  a_key : KeyId → Field
  an_epoch : ℕ → Field
  a_frozen_epoch : ℕ → Field
  a_stamp : Stamp → Field
  a_value : List ℕ → Field
  a_set : DcSet → Field
  a_replica : DcId → Field
  a_policy : Policy → Field
  a_flag : Bool → Field

-- the number of a message's kind
abbrev pub kind_of : Message → ℕ
kind_of (Read tag key epoch) = 1
kind_of (Ask tag key stamp) = 2
kind_of (Store tag key stamp value) = 3
kind_of (Repair tag key epoch stamp value) = 4
kind_of (Confirm tag key stamp) = 5
kind_of (Freeze tag key epoch) = 6
kind_of (Seed tag key epoch stamp value) = 7
kind_of (Push tag key stamp onward value) = 8
kind_of (Lookup tag key) = 9
kind_of (Switch tag key closing opening) = 10
kind_of (Have tag replica version mark value) = 11
kind_of (Yes tag replica) = 12
kind_of (Held tag replica stamp) = 13
kind_of (Gone tag replica epoch) = 14
kind_of (Here tag key epoch policy latest_epoch latest_policy) = 15
kind_of (Switched tag key done epoch) = 16

-- the fields of a message
abbrev pub fields_of : Message → List Field
fields_of (Read tag key epoch) = a_tag tag ∷ a_key key ∷ an_epoch epoch ∷ []
fields_of (Ask tag key stamp) = a_tag tag ∷ a_key key ∷ a_stamp stamp ∷ []
fields_of (Store tag key stamp value) = a_tag tag ∷ a_key key ∷ a_stamp stamp ∷ a_value value ∷ []
fields_of (Repair tag key epoch stamp value) = a_tag tag ∷ a_key key ∷ an_epoch epoch ∷ a_stamp stamp ∷ a_value value ∷ []
fields_of (Confirm tag key stamp) = a_tag tag ∷ a_key key ∷ a_stamp stamp ∷ []
fields_of (Freeze tag key epoch) = a_tag tag ∷ a_key key ∷ an_epoch epoch ∷ []
fields_of (Seed tag key epoch stamp value) = a_tag tag ∷ a_key key ∷ an_epoch epoch ∷ a_stamp stamp ∷ a_value value ∷ []
fields_of (Push tag key stamp onward value) = a_tag tag ∷ a_key key ∷ a_stamp stamp ∷ a_set onward ∷ a_value value ∷ []
fields_of (Lookup tag key) = a_tag tag ∷ a_key key ∷ []
fields_of (Switch tag key closing opening) = a_tag tag ∷ a_key key ∷ an_epoch closing ∷ an_epoch opening ∷ []
fields_of (Have tag replica version mark value) = a_tag tag ∷ a_replica replica ∷ a_stamp version ∷ a_stamp mark ∷ a_value value ∷ []
fields_of (Yes tag replica) = a_tag tag ∷ a_replica replica ∷ []
fields_of (Held tag replica stamp) = a_tag tag ∷ a_replica replica ∷ a_stamp stamp ∷ []
fields_of (Gone tag replica epoch) = a_tag tag ∷ a_replica replica ∷ a_frozen_epoch epoch ∷ []
fields_of (Here tag key epoch policy latest_epoch latest_policy) =
    a_tag tag ∷ a_key key ∷ an_epoch epoch ∷ a_policy policy ∷ an_epoch latest_epoch ∷ a_policy latest_policy ∷ []
fields_of (Switched tag key done epoch) = a_tag tag ∷ a_key key ∷ a_flag done ∷ an_epoch epoch ∷ []
