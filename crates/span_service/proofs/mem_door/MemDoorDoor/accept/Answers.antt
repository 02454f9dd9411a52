use Rattle.std.proofs.Common.{arith, subst, All}
use Rattle.std.proofs.lemmas.List.Elements.{All-head, All-tail}
use Rattle.span_service.specs.MemDoors.{IsUnused}
use Rattle.span_service.proofs.Accepting.{next_is}
use Rattle.span_service.proofs.mem_door.MemDoorDoor.accept.Goals as goal

pub invariant_of-self-in-Some : goal.invariant_of-self-in-Some
invariant_of-self-in-Some c = record {
  unused = All-tail IsUnused c.in-Some.stream c.pop_front.new.self.items (subst (All IsUnused) c.in-Some.ensures.items c.args.self.now.unused);
  room = omega (arith, c.args.self.now.room, c.end_here.ensures.count, c.end_here.ensures.room, c.in-Some.ensures.len);
}

pub returns-in-Some-clause-accepts : goal.returns-in-Some-clause-accepts
returns-in-Some-clause-accepts c =
    next_is c.args.self.now.waiting.items c.pop_front.new.self.items c.args.self.now.ended.items c.end_here.new.ended.items c.args.self.now.here c.args.self.now.faults c.in-Some.stream
    c.in-Some.ensures.items (All-head IsUnused c.in-Some.stream c.pop_front.new.self.items (subst (All IsUnused) c.in-Some.ensures.items c.args.self.now.unused)) c.end_here.ensures.ended
