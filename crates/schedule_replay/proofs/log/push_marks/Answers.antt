use Rattle.std.proofs.Common.{◌++◌, ◌∙◌, string_bytes, ap, arith}
use Rattle.std.specs.Prelude.{codes}
use Rattle.run_marks.specs.Text.{mark_text}
use Rattle.schedule_replay.proofs.Logs.{lines_more, none_past}
use Rattle.schedule_replay.proofs.log.push_marks.Goals as goal
use Rattle.schedule_replay.proofs.log.push_marks.Goals.{in-Some+in_ok-push_line, in_default}

pub loop-number-preserved : goal.loop-number-preserved
loop-number-preserved c =
    elim c.match-get.branch [
      | in-Some+in_ok-push_line w ↦
          lines_more (string_bytes c.args.text.now) (string_bytes c.match-get.text) c.args.marks.now c.loop-number.number w.in-Some.mark.now w.in-Some.ensures
          (ap (λ t. string_bytes t) w.text-is ∙ w.in_ok-push_line.ensures ∙ ap (λ t. t ++ (mark_text w.in-Some.mark.now ++ codes "\n")) c.loop-number.invariant)
      | in_default w ↦ absurd (none_past c.args.marks.now c.loop-number.number w.in_default.ensures (omega (arith, c.loop-number-test.true, c.len-number-end.ensures.number)))
    ]
