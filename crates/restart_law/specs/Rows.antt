-- Small restart runs, and what they leave.
use Rattle.std.specs.Prelude.{◌≡◌, ℕ, Bool, List, [], ◌∷◌, ◌++◌, map, length, None}
use Rattle.wire_msg.specs.declared.outputs.Reply.TheVariants as r
use Rattle.ticket_rules.specs.Stamp.{stamp_zero}
use Rattle.run_marks.specs.declared.mark.Mark.{Mark}
use Rattle.run_marks.specs.declared.mark.Work.TheVariants as w
use Rattle.run_marks.specs.declared.mark.Mark.TheVariants as k
use Rattle.world_core.specs.declared.event.Header.{Header}
use Rattle.world_core.specs.declared.event.Event.{Event}
use Rattle.world_core.specs.declared.event.Event.TheVariants.{Start, StopProxy}
use Rattle.world_core.specs.Rows.{aa, call, deliveries, key, stamp}
use Rattle.schedule_text.specs.declared.kept_event.KeptEvent.{KeptEvent}
use Rattle.schedule_text.specs.declared.kept_event.KeptEvent.TheVariants.{Event as Happens, Crash}
use Rattle.restart_law.specs.Restart.{restart_run_of}

-- a restart run of these events leaves these marks, sends so many messages, and takes every event
pub record Leaves (header : Header) (events : List KeptEvent) (marks : List Mark) (sent : ℕ) : Type 0 where
  pub marks_are : (restart_run_of header events).marks ≡ marks
  pub sent_are : length (restart_run_of header events).store.sent ≡ sent
  pub none_refused : (restart_run_of header events).refused ≡ None

abbrev pub happen : List Event → List KeptEvent
happen = map Happens

-- A write has its ticket. The first replica that is to store its value crashes in this call of its
-- disk; the write's proxy stops, and the other proxy reads.
abbrev pub crashed_write : ℕ → Bool → List ℕ → List KeptEvent
crashed_write call new last =
    happen (Start 0 0 (w.Write aa) ∷ deliveries (0 ∷ 1 ∷ 3 ∷ 4 ∷ []))
    ++ Crash 5 call new ∷ happen (StopProxy 0 ∷ Start 1 0 w.Read ∷ deliveries last)

-- the journal has kept the value: the read finds it, and repairs it before it ends
abbrev pub after_kept : List ℕ
after_kept = 8 ∷ 9 ∷ 11 ∷ 12 ∷ 13 ∷ 14 ∷ 16 ∷ 17 ∷ []

-- it hasn't
abbrev pub after_lost : List ℕ
after_lost = 8 ∷ 9 ∷ 11 ∷ 12 ∷ []

abbrev pub begun_marks : List Mark
begun_marks = k.Begin (call 0 1) (key 0) (w.Write aa) ∷ k.Ticket (call 0 1) (stamp 1 1 0 1) ∷ k.Begin (call 1 1) (key 0) w.Read ∷ []

abbrev pub kept_marks : List Mark
kept_marks = begun_marks ++ k.End (call 1 1) (r.Value (stamp 1 1 0 1) aa) ∷ []

abbrev pub lost_marks : List Mark
lost_marks = begun_marks ++ k.End (call 1 1) (r.Value stamp_zero []) ∷ []
