use Rattle.world_core.proofs.Handles.{NoneBelow}
use Rattle.world_core.proofs.giving_up.handle_of_call.Given as goal

abbrev pub invariant-loop-slot : goal.invariant-loop-slot
invariant-loop-slot l = NoneBelow l.calls l.seq l.slot
