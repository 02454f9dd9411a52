use Rattle.std.proofs.Common.{ap, subst, ◌≤◌}
use Rattle.wire_msg.specs.Sizes.{bulk_of}
use Rattle.world_core.specs.Ends.{Seen}
use Rattle.world_core.proofs.InMemory.{journals_same, ends_in_memory}
use Rattle.world_core.proofs.in_memory.Cloud+W+Replica.step_in_memory.Goals as goal

pub returns : goal.returns
returns g c =
    ends_in_memory c.args.self.now c.step.new.self c.args.event.now c.step.result
    (record {
      journals = journals_same c.self.inside.replicas.items _ c.args.self.now.store.replicas c.args.self.now.journals (ap (λ (x : Seen). x.store.replicas) c.self.view_is) (ap (λ (x : Seen). x.journals) c.self.view_is);
      small = subst (λ (x : Seen). (bulk_of x.store.sent).bytes ≤ 536870912) c.self.view_is c.self.invariant.sent.small;
    }) c.step.ensures
