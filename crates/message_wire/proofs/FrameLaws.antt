-- A message's frame says the message.
use Rattle.std.proofs.Common.{◌≡◌, ℕ, List, refl, sym, ap, ◌∙◌, length}
use Rattle.wire_msg.specs.declared.message.Message.{Message}
use Rattle.wire_msg.specs.declared.message.Message.TheVariants.{Read, Ask, Store, Repair, Confirm, Freeze, Seed, Push, Lookup, Switch, Have, Yes, Held, Gone, Here, Switched}
use Rattle.wire_msg.specs.Fields.{kind_of, fields_of}
use Rattle.wire_msg.specs.Frames.{frame_of}
use Rattle.wire_msg.specs.Faults.{place_in, fault_place}
use Rattle.wire_msg.specs.Lawful.{IsLawful}
use Rattle.wire_msg.specs.Laws.{FitsBytes}
use Rattle.wire_msg.proofs.MessageLaws.{frame_again}
use Rattle.message_wire.specs.Frames.{message_with, message_read, message_in, IsWhole}

with_fields : (m : Message) → message_with (kind_of m) (fields_of m) ≡ m
unfolding message_with
with_fields (Read t k e) = refl
with_fields (Ask t k s) = refl
with_fields (Store t k s v) = refl
with_fields (Repair t k e s v) = refl
with_fields (Confirm t k s) = refl
with_fields (Freeze t k e) = refl
with_fields (Seed t k e s v) = refl
with_fields (Push t k s o v) = refl
with_fields (Lookup t k) = refl
with_fields (Switch t k c o) = refl
with_fields (Have t r s m v) = refl
with_fields (Yes t r) = refl
with_fields (Held t r s) = refl
with_fields (Gone t r e) = refl
with_fields (Here t k e p l q) = refl
with_fields (Switched t k d e) = refl

pub in_frame : (m : Message) → IsLawful m → FitsBytes m → message_in (frame_of m) ≡ m
unfolding message_in
in_frame m lawful fits = ap message_read (frame_again m lawful fits) ∙ with_fields m

pub frame_whole : (m : Message) → IsLawful m → FitsBytes m → IsWhole (frame_of m)
unfolding fault_place
frame_whole m lawful fits = ap (place_in (length (frame_of m))) (frame_again m lawful fits)

-- a message with this frame is the one that the frame says
pub frame_says : (m : Message) (frame : List ℕ) → IsLawful m → FitsBytes m → frame_of m ≡ frame → m ≡ message_in frame
frame_says m frame lawful fits same = sym (in_frame m lawful fits) ∙ ap message_in same
