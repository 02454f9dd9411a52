use Rattle.std.proofs.Common.{sym}
use Rattle.slo_rules.proofs.Turns.{has_place}
use Rattle.slo_rules.proofs.policy_reader.PolicyReader.fill.Goals as goal

pub push_primary-requires : goal.push_primary-requires
push_primary-requires c = has_place c.args.world.now c.args.self.now _ c.due.ensures.few (sym (rw c.in-Some-Primary.field-0-is at c.in-Some-Primary.ensures.due))

pub push_hop-requires : goal.push_hop-requires
push_hop-requires c = has_place c.args.world.now c.args.self.now _ c.due.ensures.few (sym (rw c.in-Some-Hop.field-0-is at c.in-Some-Hop.ensures.due))

pub push_quorum-requires : goal.push_quorum-requires
push_quorum-requires c = has_place c.args.world.now c.args.self.now _ c.due.ensures.few (sym (rw c.in-Some-Quorum.field-0-is at c.in-Some-Quorum.ensures.due))
