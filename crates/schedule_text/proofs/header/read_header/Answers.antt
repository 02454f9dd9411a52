use Rattle.std.proofs.Common.{sym, ◌∙◌, arith}
use Rattle.schedule_text.specs.Left.{lines_left}
use Rattle.schedule_text.proofs.Reading.{taken}
use Rattle.schedule_text.proofs.SoundHeaders.{header_keeps}
use Rattle.schedule_text.proofs.header.read_header.Goals as goal

pub loop-text-preserved : goal.loop-text-preserved
loop-text-preserved c =
    let grows = rw c.in_default-said.is at c.in_ok-said.ensures in
    record {
      says = taken c.loop-text.line c.loop-text.header c.header_line.new.header c.in-Some.text.now (lines_left c.loop-text.lines) (lines_left c.next.new.self) _ c.in-Some.ensures.line (sym c.if-is_begin.ensures) grows c.loop-text.invariant.says;
      so_far = header_keeps c.loop-text.header c.header_line.new.header c.in-Some.text.now grows c.loop-text.invariant.so_far;
      text = c.next.ensures.text ∙ c.loop-text.invariant.text;
      early = omega (arith, c.in-Some.ensures.further, c.loop-text.invariant.early);
    }
