use Rattle.std.proofs.Common.{◌≤◌, ◌+◌, ◌++◌, take, List}
use Rattle.run_marks.specs.declared.mark.Mark.{Mark}
use Rattle.run_generator.specs.Standing.{IsLogOf}
use Rattle.run_generator.proofs.log.Log.add_all.Given as goal

abbrev pub invariant-loop-number : goal.invariant-loop-number
invariant-loop-number l =
    ((before : List Mark) → IsLogOf l.initial.self before → IsLogOf l.self (before ++ take l.number l.marks))
    × (l.self.ok + l.self.ended ≤ l.initial.self.ok + l.initial.self.ended + l.number)
