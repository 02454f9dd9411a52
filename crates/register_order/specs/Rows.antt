-- Logs that were reckoned by hand.
use Rattle.std.specs.Prelude.{ℕ, true, false, List, [], ◌∷◌}
use Rattle.span_base.specs.declared.ids.Call.{Call}
use Rattle.span_base.specs.declared.ids.KeyId.{KeyId}
use Rattle.ticket_rules.specs.declared.stamp.Stamp.{Stamp}
use Rattle.ticket_rules.specs.Stamp.{stamp_zero}
use Rattle.wire_msg.specs.declared.outputs.Reply.TheVariants as r
use Rattle.run_marks.specs.declared.mark.Work.TheVariants as w
use Rattle.run_marks.specs.declared.mark.Mark.{Mark}
use Rattle.run_marks.specs.declared.mark.Mark.TheVariants as k
use Rattle.run_marks.specs.Register.{Effect}
use Rattle.register_order.specs.Order.{effect}

abbrev pub call : ℕ → ℕ → Call
call proxy seq = record { proxy = proxy; seq = seq }

abbrev pub key : ℕ → KeyId
key number = record { 0 = number }

abbrev pub stamp : ℕ → ℕ → ℕ → ℕ → Stamp
stamp epoch number proxy seq = record { epoch = epoch; number = number; proxy = proxy; seq = seq }

abbrev pub one : Stamp
one = stamp 1 1 0 1

abbrev pub two : Stamp
two = stamp 1 2 1 1

-- a write of 5 that isn't sure to be stored, two reads that give it, of which the one that began later ends first, and a write of 6 that a read gives before it is answered; a read of another key
abbrev pub overlapping : List Mark
overlapping =
    k.Begin (call 0 1) (key 0) (w.Write (5 ∷ [])) ∷ k.Ticket (call 0 1) one ∷ k.Begin (call 1 1) (key 0) (w.Write (6 ∷ [])) ∷ k.Ticket (call 1 1) two
    ∷ k.End (call 0 1) r.Unsure ∷ k.Begin (call 0 2) (key 0) w.Read ∷ k.Begin (call 2 1) (key 0) w.Read ∷ k.End (call 2 1) (r.Value one (5 ∷ []))
    ∷ k.Begin (call 3 1) (key 1) w.Read ∷ k.End (call 3 1) (r.Value stamp_zero []) ∷ k.End (call 0 2) (r.Value one (5 ∷ [])) ∷ k.Begin (call 0 3) (key 0) w.Read
    ∷ k.End (call 0 3) (r.Value two (6 ∷ [])) ∷ k.End (call 1 1) (r.Stored two) ∷ []

abbrev pub overlapping_order : List Effect
overlapping_order =
    effect (call 0 1) true one (5 ∷ []) ∷ effect (call 0 2) false one (5 ∷ []) ∷ effect (call 2 1) false one (5 ∷ [])
    ∷ effect (call 1 1) true two (6 ∷ []) ∷ effect (call 0 3) false two (6 ∷ []) ∷ []

-- the read of the other key
abbrev pub other_order : List Effect
other_order = effect (call 3 1) false stamp_zero [] ∷ []

-- a read that began after a write was answered, and gives what was there before it
abbrev pub stale : List Mark
stale =
    k.Begin (call 0 1) (key 0) (w.Write (5 ∷ [])) ∷ k.Ticket (call 0 1) one ∷ k.End (call 0 1) (r.Stored one) ∷ k.Begin (call 1 1) (key 0) w.Read
    ∷ k.End (call 1 1) (r.Value stamp_zero []) ∷ []

-- a read that gives a ticket of which no line speaks yet
abbrev pub early_front : List Mark
early_front = k.Begin (call 1 1) (key 0) w.Read ∷ []

abbrev pub early_end : Mark
early_end = k.End (call 1 1) (r.Value one (5 ∷ []))
