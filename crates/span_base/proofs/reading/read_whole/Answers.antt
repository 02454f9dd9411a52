use Rattle.std.proofs.Common.{◌≡◌, length, rules, arith}
use Rattle.std.proofs.lemmas.Grind.{common_steps}
use Rattle.span_base.proofs.SoFar.{IsFront-append}
use Rattle.span_base.proofs.reading.read_whole.Goals as goal

pub loop-buffer-preserved : goal.loop-buffer-preserved
loop-buffer-preserved g c =
    let here : c.len.result ≡ length c.loop-buffer.bytes.items = search rules in
    record {
      piece = grind (arith, common_steps);
      within = grind (arith, common_steps, c.in_ok-extend_from_slice.ensures.len);
      front = rw c.in_ok-extend_from_slice.ensures.items (IsFront-append _ _ _ _ _ _ _ c.loop-buffer.invariant.files_stay here c.in_ok-count.ensures.within c.in_ok-count.ensures.reads c.loop-buffer.invariant.front);
      files_stay = grind (arith, common_steps);
      faults_stay = grind (arith, common_steps);
      absences_stay = grind (arith, common_steps);
    }
