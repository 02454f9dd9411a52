use Rattle.std.proofs.Common.{sym, ◌∙◌, arith}
use Rattle.world_core.proofs.Handles.{handle_found, handle_none}
use Rattle.world_core.proofs.giving_up.handle_of_call.Goals as goal

pub returns-then-holds_call : goal.returns-then-holds_call
returns-then-holds_call c =
    c.handle_at.ensures.handle
    ∙ handle_found c.args.calls.now c.args.seq c.loop-slot.slot (omega (arith, c.loop-slot-test.true, c.capacity-slot-end.ensures)) c.loop-slot.invariant (sym c.holds_call.ensures ∙ c.if-holds_call.true)

pub returns : goal.returns
returns c = handle_none c.args.calls.now c.args.seq (λ k below. c.loop-slot.invariant k (omega (arith, below, c.loop-slot-test.false, c.capacity-slot-end.ensures)))
