-- In what a loop marks, wherever it ends, the history of each strong key is that of one register.
use Rattle.std.proofs.Common.{◌≡◌, ℕ, List, [], ◌∷◌, ◌++◌, sym, subst, ◌∙◌}
use Rattle.std.proofs.lemmas.List.{append-nil}
use Rattle.run_marks.specs.declared.mark.Mark.{Mark}
use Rattle.world_core.specs.declared.event.Event.{Event}
use Rattle.world_core.specs.Laws.{KeepsRegisters}
use Rattle.world_core.specs.Run.{run_of}
use Rattle.register_law.proofs.Induction.{registers}
use Rattle.schedule_text.specs.Laws.{IsSchedule}
use Rattle.schedule_text.specs.Schedules.{Schedule}
use Rattle.schedule_replay.specs.declared.fault.ReplayFault.{ReplayFault}
use Rattle.frame_link.specs.Frames.{Sent}
use Rattle.span_node.specs.Traffic.{Traffic}
use Rattle.span_node.specs.Rounds.{Round, loop_events, script_of}
use Rattle.span_node.specs.Loops.{IsOver, IsRefused, IsFull, IsUnderWay, IsStrange}
use Rattle.span_node.proofs.Ordered.{may_run_looped}

module _ (schedule : Schedule) (is : IsSchedule schedule) (marks : List Mark) (from now : Traffic) where
  -- the marks of the first of the rounds' events
  of_front : (rounds : List Round) (left events more : List Event) → script_of rounds ++ left ≡ schedule.events → events ++ more ≡ loop_events schedule.header rounds
      → (run_of schedule.header events).marks ≡ marks → KeepsRegisters schedule.header marks
  of_front rounds left events more script front same =
      subst (KeepsRegisters schedule.header) same (registers schedule.header events is.header (may_run_looped schedule rounds left events more is script front))

  of_rounds : (rounds : List Round) (left : List Event) → script_of rounds ++ left ≡ schedule.events → (run_of schedule.header (loop_events schedule.header rounds)).marks ≡ marks → KeepsRegisters schedule.header marks
  of_rounds rounds left script same = of_front rounds left (loop_events schedule.header rounds) [] script (append-nil (loop_events schedule.header rounds)) same

  pub over_keeps : (messages : ℕ) → IsOver schedule marks from now messages → KeepsRegisters schedule.header marks
  over_keeps messages o = of_rounds o.rounds [] (append-nil (script_of o.rounds) ∙ o.script) o.marks_are

  pub refused_keeps : (told : ReplayFault) → IsRefused schedule marks from now told → KeepsRegisters schedule.header marks
  refused_keeps told o = of_rounds o.rounds o.among.left o.among.script o.marks_are

  pub full_keeps : (told : ReplayFault) → IsFull schedule marks from now told → KeepsRegisters schedule.header marks
  full_keeps told o = of_front o.rounds o.among.left o.done (o.last ∷ []) o.among.script (sym o.events_are) o.marks_are

  pub under_way_keeps : IsUnderWay schedule marks from now → KeepsRegisters schedule.header marks
  under_way_keeps o = of_rounds o.rounds o.among.left o.among.script o.marks_are

  pub strange_keeps : (sent : Sent) → IsStrange schedule marks from now sent → KeepsRegisters schedule.header marks
  strange_keeps sent o = of_rounds o.rounds o.among.left o.among.script o.marks_are
