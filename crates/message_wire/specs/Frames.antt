-- What frames say.
use Rattle.std.specs.Prelude.{ℕ, ◌≡◌, ◌==◌, List, [], ◌∷◌, None, Result, Ok, Err, if◌then◌else◌}
use Rattle.wire_msg.specs.declared.message.Message.{Message}
use Rattle.wire_msg.specs.declared.message.Message.TheVariants.{Read, Ask, Store, Repair, Confirm, Freeze, Seed, Push, Lookup, Switch, Have, Yes, Held, Gone, Here, Switched}
use Rattle.wire_msg.specs.Fields.{Field, a_tag, a_key, an_epoch, a_frozen_epoch, a_stamp, a_value, a_set, a_replica, a_policy, a_flag}
use Rattle.wire_msg.specs.Faults.{frame_at, fault_place}

-- stands where there is no message
abbrev pub no_message : Message
no_message = Lookup (record { call = record { proxy = 0; seq = 0 }; slot = 0; generation = 0; phase = 0 }) (record { 0 = 0 })

-- the message of this kind that has these fields
unfoldable pub message_with : ℕ → List Field → Message
message_with kind (a_tag t ∷ a_key k ∷ an_epoch e ∷ []) = if kind == 1 then Read t k e else Freeze t k e
message_with kind (a_tag t ∷ a_key k ∷ a_stamp s ∷ []) = if kind == 2 then Ask t k s else Confirm t k s
message_with kind (a_tag t ∷ a_key k ∷ a_stamp s ∷ a_value v ∷ []) = Store t k s v
message_with kind (a_tag t ∷ a_key k ∷ an_epoch e ∷ a_stamp s ∷ a_value v ∷ []) = if kind == 4 then Repair t k e s v else Seed t k e s v
message_with kind (a_tag t ∷ a_key k ∷ a_stamp s ∷ a_set o ∷ a_value v ∷ []) = Push t k s o v
message_with kind (a_tag t ∷ a_key k ∷ []) = Lookup t k
message_with kind (a_tag t ∷ a_key k ∷ an_epoch c ∷ an_epoch o ∷ []) = Switch t k c o
message_with kind (a_tag t ∷ a_replica r ∷ a_stamp s ∷ a_stamp m ∷ a_value v ∷ []) = Have t r s m v
message_with kind (a_tag t ∷ a_replica r ∷ []) = Yes t r
message_with kind (a_tag t ∷ a_replica r ∷ a_stamp s ∷ []) = Held t r s
message_with kind (a_tag t ∷ a_replica r ∷ a_frozen_epoch e ∷ []) = Gone t r e
message_with kind (a_tag t ∷ a_key k ∷ an_epoch e ∷ a_policy p ∷ an_epoch l ∷ a_policy q ∷ []) = Here t k e p l q
message_with kind (a_tag t ∷ a_key k ∷ a_flag d ∷ an_epoch e ∷ []) = Switched t k d e
message_with kind _ = no_message

abbrev pub message_read : Result (ℕ × List Field) ℕ → Message
message_read (Ok read) = message_with read.0 read.1
message_read (Err left) = no_message

-- the message that a frame is
unfoldable pub message_in : List ℕ → Message
message_in frame = message_read (frame_at frame)

-- the frame is some message's
abbrev pub IsWhole : List ℕ → Type 0
IsWhole frame = fault_place frame ≡ None
