use Rattle.std.proofs.Common.{rules}
use Rattle.span_base.proofs.Appending.{Appends-take}
use Rattle.span_service.proofs.writing.write_whole.Goals as goal

pub loop-written-preserved : goal.loop-written-preserved
loop-written-preserved g c = record {
  within = search rules;
  so_far = Appends-take _ _ _ _ _ _ c.loop-written.invariant.so_far c.in_ok-written.ensures.takes;
  coming_stays = search rules;
  around_stays = search rules;
  faults_stay = search rules;
}
