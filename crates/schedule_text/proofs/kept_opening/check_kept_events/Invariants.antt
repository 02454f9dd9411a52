use Rattle.std.proofs.Common.{◌≡◌, ◌+◌, ◌-◌, ◌≤◌, length}
use Rattle.schedule_text.specs.Left.{lines_left}
use Rattle.schedule_text.specs.Kept.{first_kept_fault}
use Rattle.schedule_text.proofs.kept_opening.check_kept_events.Given as goal

abbrev pub invariant-loop-text : goal.invariant-loop-text
invariant-loop-text l = record {
  first : first_kept_fault l.setting l.line l.number (lines_left l.lines) ≡ first_kept_fault l.setting l.fn.first 1 (lines_left l.fn.lines);
  early : l.line + 1 ≡ l.fn.first + l.number;
  few : l.number ≤ 1000001;
}

abbrev pub decreases-loop-text : goal.decreases-loop-text
decreases-loop-text l = length l.lines.text.now - l.lines.at
