use Rattle.std.proofs.Common.{Option, ◌∙◌, subst, false, arith}
use Rattle.std.proofs.lemmas.Grind.{common_steps}
use Rattle.replica_journal.specs.declared.record.AtGate.{AtGate}
use Rattle.replica_journal.specs.declared.record.AtGate.TheVariants.{Record, Damaged}
use Rattle.replica_journal.specs.Disk.{History}
use Rattle.replica_journal.specs.Windows.{IsFoundAt, IsWindow}
use Rattle.replica_journal.specs.Replaying.{IsReplayedOf}
use Rattle.replica_journal.proofs.Counted.{counts_on}
use Rattle.replica_journal.proofs.Replays.{replay_more, replay_damaged, replay_overrun}
use Rattle.replica_journal.proofs.replay.replay.Goals as goal

pub returns-in-Damaged-clause-replays : goal.returns-in-Damaged-clause-replays
returns-in-Damaged-clause-replays g c =
    let told = g.D.Disk.told c.args.disk.now in
    let l = c.loop-window in
    let done = subst (λ (o : Option History). IsReplayedOf o c.args.keys c.args.replica.now l.replica l.gate l.records) c.open.ensures.stays l.invariant.done in
    let found = subst (λ (o : Option History). IsFoundAt o c.args.keys l.gate Damaged) (l.invariant.stays ∙ c.open.ensures.stays)
    (subst (λ (f : AtGate). IsFoundAt (g.D.Disk.told l.disk) c.args.keys l.gate f) c.in-Damaged.is c.in_ok-record_at.ensures.found) in
    replay_damaged told c.args.keys c.args.end c.args.replica.now l.replica l.gate l.records c.requires.end done found

pub returns-then-size-end-clause-replays : goal.returns-then-size-end-clause-replays
returns-then-size-end-clause-replays g c =
    let told = g.D.Disk.told c.args.disk.now in
    let l = c.loop-window in
    let done = subst (λ (o : Option History). IsReplayedOf o c.args.keys c.args.replica.now l.replica l.gate l.records) c.open.ensures.stays l.invariant.done in
    let found = subst (λ (o : Option History). IsFoundAt o c.args.keys l.gate (Record c.in-Record.message c.in-Record.size)) (l.invariant.stays ∙ c.open.ensures.stays)
    (subst (λ (f : AtGate). IsFoundAt (g.D.Disk.told l.disk) c.args.keys l.gate f) c.in-Record.is c.in_ok-record_at.ensures.found) in
    replay_overrun told c.args.keys c.args.end c.args.replica.now l.replica l.gate l.records c.in-Record.size c.in-Record.message c.requires.end done found c.if-size-end.true

pub loop-window-preserved : goal.loop-window-preserved
loop-window-preserved g c =
    let l = c.loop-window in
    let told = g.D.Disk.told c.open.new.disk in
    let found = subst (λ (o : Option History). IsFoundAt o c.args.keys l.gate (Record c.in-Record.message c.in-Record.size)) l.invariant.stays
    (subst (λ (f : AtGate). IsFoundAt (g.D.Disk.told l.disk) c.args.keys l.gate f) c.in-Record.is c.in_ok-record_at.ensures.found) in
    record {
      window = subst (λ (o : Option History). IsWindow o c.record_at.new.self) (c.record_at.ensures.stays ∙ l.invariant.stays) c.in_ok-record_at.ensures.window;
      from = grind (arith, common_steps);
      below = grind (arith, common_steps);
      few = grind (arith, common_steps);
      stays = c.record_at.ensures.stays ∙ l.invariant.stays;
      counts = counts_on _ _ _ _ _ _ false l.invariant.counts c.in_ok-record_at.ensures.counts;
      done = replay_more told c.args.keys c.args.replica.now l.replica c.retake.new.replica l.gate l.records c.in-Record.size c.in-Record.message l.invariant.done found c.in_ok-retake-in-Record.ensures.state;
      number = grind (arith, common_steps);
      kept = grind (arith, common_steps);
    }
