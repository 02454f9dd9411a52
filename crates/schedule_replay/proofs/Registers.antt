-- In the run of a schedule the history of each strong key is that of one register.
use Rattle.world_core.specs.Laws.{KeepsRegisters}
use Rattle.register_law.proofs.Induction.{registers}
use Rattle.schedule_text.specs.Laws.{IsSchedule}
use Rattle.schedule_text.specs.Schedules.{Schedule}
use Rattle.schedule_replay.specs.Replays.{replayed}
use Rattle.schedule_replay.proofs.MayRun.{may_run}

pub registers_kept : (schedule : Schedule) → IsSchedule schedule → KeepsRegisters schedule.header (replayed schedule).marks
registers_kept schedule is = registers schedule.header schedule.events is.header (may_run schedule is)
