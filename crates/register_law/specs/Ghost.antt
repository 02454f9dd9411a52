-- What is noted of one key beside a run: what was true of it at earlier moments.
use Rattle.std.specs.Prelude.{ℕ, ◌==◌, ◌&&◌, nat_lt, nat_le, Bool, true, false, if◌then◌else◌, List, [], ◌∷◌, ◌++◌, Option, Some, None, Ok, Err}
use Rattle.span_base.specs.declared.ids.Call.{Call}
use Rattle.span_base.specs.declared.ids.KeyId.{KeyId}
use Rattle.ticket_rules.specs.declared.stamp.Stamp.{Stamp}
use Rattle.ticket_rules.specs.Stamp.{stamp_zero, greater}
use Rattle.wire_msg.specs.declared.message.Message.{Message}
use Rattle.wire_msg.specs.declared.outputs.Post.{Post}
use Rattle.wire_msg.specs.declared.outputs.Reply.{Reply}
use Rattle.wire_msg.specs.declared.message.Message.TheVariants as m
use Rattle.wire_msg.specs.declared.outputs.Reply.TheVariants as r
use Rattle.replica_core.specs.declared.kept.Kept.{Kept}
use Rattle.epoch_directory.specs.State.{current_of}
use Rattle.run_marks.specs.declared.mark.Work.{Work}
use Rattle.run_marks.specs.declared.mark.Mark.{Mark}
use Rattle.run_marks.specs.History.{is_same_call}
use Rattle.run_marks.specs.declared.mark.Work.TheVariants as w
use Rattle.run_marks.specs.declared.mark.Mark.TheVariants as k
use Rattle.world_core.specs.declared.event.Event.{Event}
use Rattle.world_core.specs.State.{Store, kept_of}
use Rattle.world_core.specs.Step.{Happening, Outcome, step}
use Rattle.world_core.specs.Run.{store_after}

-- a call of the key: its work, the greatest stamp of a call of the key that was answered before it began, and the key's epoch then
pub record Begun : Type 0 where
  pub work : Work
  pub floor : Stamp
  pub epoch : ℕ

-- a leg of a read or a write of the key, and what each replica kept when it began
pub record Leg : Type 0 where
  pub call : Call
  pub phase : ℕ
  pub epoch : ℕ
  pub ticket : Option Stamp
  pub snap : ℕ → Kept

pub record Ghost : Type 0 where
  -- each replica's version when it was frozen for an epoch; looked at only where it is frozen for it
  pub fixed : ℕ → ℕ → Stamp
  -- the epochs of the key that have been current, newest first
  pub opened : List ℕ
  -- the reads, the writes and the moves of the key
  pub begun : Call → Option Begun
  pub legs : List Leg
  -- the greatest stamp with which a read or a write of the key was answered
  pub top : Stamp
  -- the marks of all calls, in their order
  pub marks : List Mark

-- at the opening
abbrev pub first_ghost : Ghost
first_ghost = record { fixed = λ d e. stamp_zero; opened = 1 ∷ []; begun = λ call. None; legs = []; top = stamp_zero; marks = [] }

-- a replica that is frozen for more epochs keeps its version for these
abbrev pub fixed_after : KeyId → Store → Store → (ℕ → ℕ → Stamp) → ℕ → ℕ → Stamp
fixed_after key old new fixed d e =
    if nat_lt (kept_of old d key).frozen e && nat_le e (kept_of new d key).frozen then (kept_of old d key).version else fixed d e

abbrev pub opened_after : KeyId → Store → Store → List ℕ → List ℕ
opened_after key old new opened =
    if current_of new.directory key == current_of old.directory key then opened else current_of new.directory key ∷ opened

-- the work is a read, a write or a move
abbrev pub is_noted : Work → Bool
is_noted w.Read = true
is_noted (w.Write value) = true
is_noted w.Get = false
is_noted w.GetAny = false
is_noted (w.Put value) = false
is_noted w.Move = true

-- a call of the key begins, where the event's first mark says so
abbrev pub begun_after : KeyId → Stamp → ℕ → List Mark → (Call → Option Begun) → Call → Option Begun
begun_after key top epoch (k.Begin call at work ∷ marks) begun other =
    if (at.0 == key.0) && (is_noted work && is_same_call call other) then Some (record { work = work; floor = top; epoch = epoch }) else begun other
begun_after key top epoch (_ ∷ marks) begun other = begun other
begun_after key top epoch [] begun other = begun other

-- the leg that a message begins, if it is the Read or the Ask of the key
abbrev pub leg_of : KeyId → (ℕ → Kept) → Message → List Leg → List Leg
leg_of key snap (m.Read tag at epoch) legs =
    if at.0 == key.0 then record { call = tag.call; phase = tag.phase; epoch = epoch; ticket = None; snap = snap } ∷ legs else legs
leg_of key snap (m.Ask tag at stamp) legs =
    if at.0 == key.0 then record { call = tag.call; phase = tag.phase; epoch = stamp.epoch; ticket = Some stamp; snap = snap } ∷ legs else legs
leg_of key snap _ legs = legs

-- a leg begins where a proxy sends Read or Ask of the key; all posts of one event are of one call
abbrev pub legs_after : KeyId → Store → List Post → List Leg → List Leg
legs_after key old [] legs = legs
legs_after key old (post ∷ posts) legs = leg_of key (λ d. kept_of old d key) post.message legs

-- the stamp with which a call was answered
abbrev pub answered_with : Reply → Option Stamp
answered_with (r.Value stamp value) = Some stamp
answered_with (r.Stored stamp) = Some stamp
answered_with _ = None

abbrev pub raised_by : Option Stamp → Stamp → Stamp
raised_by None top = top
raised_by (Some stamp) top = greater top stamp

abbrev pub is_begun : Option Begun → Bool
is_begun None = false
is_begun (Some begun) = true

-- the greatest answer, after the event's marks; which calls are of the key is told
abbrev pub top_after : (Call → Bool) → List Mark → Stamp → Stamp
top_after is_of [] top = top
top_after is_of (k.End call reply ∷ marks) top = top_after is_of marks (if is_of call then raised_by (answered_with reply) top else top)
top_after is_of (_ ∷ marks) top = top_after is_of marks top

-- what is noted of an event that was taken
abbrev pub noted_of : KeyId → Store → Happening → Ghost → Ghost
noted_of key old h g = record {
  fixed = fixed_after key old h.store g.fixed;
  opened = opened_after key old h.store g.opened;
  begun = begun_after key g.top (current_of old.directory key) h.marks g.begun;
  legs = legs_after key old h.posts g.legs;
  top = top_after (λ call. is_begun (g.begun call)) h.marks g.top;
  marks = g.marks ++ h.marks;
}

abbrev pub noted_by : KeyId → Store → Outcome → Ghost → Ghost
noted_by key old (Ok h) g = noted_of key old h g
noted_by key old (Err fault) g = g

-- what is noted after an event
abbrev pub noted : KeyId → Store → Event → Ghost → Ghost
noted key store event g = noted_by key store (step store event) g

abbrev pub going_on : Outcome → Ghost → Ghost → Ghost
going_on (Ok h) g later = later
going_on (Err fault) g later = g

-- what is noted after these events, up to the first that is refused
unfoldable pub history : KeyId → List Event → Store → Ghost → Ghost
history key [] store g = g
history key (event ∷ events) store g = going_on (step store event) g (history key events (store_after store (step store event)) (noted key store event g))
