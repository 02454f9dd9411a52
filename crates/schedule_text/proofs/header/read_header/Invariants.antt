use Rattle.std.proofs.Common.{◌≡◌, ◌+◌, ◌-◌, ◌≤◌, length}
use Rattle.schedule_text.specs.Left.{lines_left}
use Rattle.schedule_text.specs.Headers.{header_from, header_says}
use Rattle.schedule_text.proofs.SoundHeaders.{SoFar}
use Rattle.schedule_text.proofs.header.read_header.Given as goal

abbrev pub invariant-loop-text : goal.invariant-loop-text
invariant-loop-text l = record {
  says : header_from l.line l.header (lines_left l.lines) ≡ header_says (lines_left l.fn.lines);
  so_far : SoFar l.header;
  text : l.lines.text ≡ l.fn.lines.text;
  early : l.line ≤ 2 + l.lines.at;
}

abbrev pub decreases-loop-text : goal.decreases-loop-text
decreases-loop-text l = length l.lines.text.now - l.lines.at
