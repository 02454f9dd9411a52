use Rattle.std.proofs.Common.{◌+◌, ◌++◌, take, sym, ap, subst, arith}
use Rattle.run_generator.specs.declared.log.Log.{Log}
use Rattle.run_generator.specs.Standing.{IsLogOf}
use Rattle.run_generator.proofs.Logs.{log_more, none_past}
use Rattle.run_generator.proofs.log.Log.add_all.Goals as goal
use Rattle.run_generator.proofs.log.Log.add_all.Goals.{in-Some+in_ok-add, in_default}

pub loop-number-preserved : goal.loop-number-preserved
loop-number-preserved c =
    elim c.match-get.branch [
      | in-Some+in_ok-add w ↦
          let grown = ap (λ (l : Log). l.ok + l.ended) w.self-is in
          let few = w.in_ok-add.ensures.few in (
            λ before is. subst (λ (l : Log). IsLogOf l (before ++ take (c.loop-number.number + 1) c.args.marks.now)) (sym w.self-is)
                (log_more w.add.new.self c.args.marks.now c.loop-number.number w.in-Some.mark.now before w.in-Some.ensures
                (w.in_ok-add.ensures.marks (before ++ take c.loop-number.number c.args.marks.now) (c.loop-number.invariant.0 before is))),
            omega (arith, grown, few, c.loop-number.invariant.1),
          )
      | in_default w ↦ absurd (none_past c.args.marks.now c.loop-number.number w.in_default.ensures (omega (arith, c.loop-number-test.true, c.len-number-end.ensures.number)))
    ]
