use Rattle.std.proofs.Common.{◌≡◌, ◌+◌, ◌-◌, ◌≤◌, length}
use Rattle.schedule_text.specs.Left.{lines_left}
use Rattle.schedule_text.specs.Schedules.{first_fault}
use Rattle.schedule_text.proofs.opening.check_events.Given as goal

abbrev pub invariant-loop-line : goal.invariant-loop-line
invariant-loop-line l = record {
  first : first_fault l.setting l.line l.number (lines_left l.lines) ≡ first_fault l.setting l.fn.first 1 (lines_left l.fn.lines);
  early : l.line + 1 ≡ l.fn.first + l.number;
  few : l.number ≤ 1000001;
}

abbrev pub decreases-loop-line : goal.decreases-loop-line
decreases-loop-line l = length l.lines.text.now - l.lines.at
