-- Logs that were worked by hand.
use Rattle.std.specs.Prelude.{ℕ, List, [], ◌∷◌, codes}
use Rattle.wire_msg.specs.declared.outputs.Reply.TheVariants as r
use Rattle.run_marks.specs.declared.mark.Work.TheVariants as w
use Rattle.run_marks.specs.declared.mark.Mark.{Mark}
use Rattle.run_marks.specs.declared.mark.Mark.TheVariants as k
use Rattle.ticket_rules.specs.Stamp.{stamp_zero}
use Rattle.register_order.specs.Rows.{call, key, stamp}

-- a read that began after a write was answered, and gives what was there before it
abbrev pub stale_text : List ℕ
stale_text =
    codes "begin 0.1 write 0 aa\nticket 0.1 1.1.0.1\nend 0.1 ok 1.1.0.1\nbegin 1.1 read 0\nend 1.1 ok 0.0.0.0 -\nmessages 0\n"

abbrev pub stale_marks : List Mark
stale_marks =
    k.Begin (call 0 1) (key 0) (w.Write (170 ∷ [])) ∷ k.Ticket (call 0 1) (stamp 1 1 0 1) ∷ k.End (call 0 1) (r.Stored (stamp 1 1 0 1))
    ∷ k.Begin (call 1 1) (key 0) w.Read ∷ k.End (call 1 1) (r.Value stamp_zero []) ∷ []

-- a read of a ticket that stands in a later line
abbrev pub early_text : List ℕ
early_text = codes "begin 1.1 read 0\nend 1.1 ok 1.1.0.1 aa\nbegin 0.1 write 0 aa\nticket 0.1 1.1.0.1\nmessages 0"

abbrev pub early_marks : List Mark
early_marks =
    k.Begin (call 1 1) (key 0) w.Read ∷ k.End (call 1 1) (r.Value (stamp 1 1 0 1) (170 ∷ [])) ∷ k.Begin (call 0 1) (key 0) (w.Write (170 ∷ []))
    ∷ k.Ticket (call 0 1) (stamp 1 1 0 1) ∷ []

-- a line behind the end, and a text without one
abbrev pub going_on : List ℕ
going_on = codes "messages 0\nepoch 2\n"

abbrev pub unended : List ℕ
unended = codes "epoch 2\n"
