use Rattle.std.proofs.Common.{◌≡◌, Some, IsSome, sym, refl}
use Rattle.history_audit.specs.Calls.{look}
use Rattle.history_audit.proofs.calls.CallTable.draw.Goals as goal

pub returns-in-Some : goal.returns-in-Some
returns-in-Some c = λ other.
    let e : look c.args.self.now c.args.call ≡ Some c.in-Some.state.now = sym c.in-Some.ensures.value in
    let there : IsSome (look c.args.self.now c.args.call) = rw e refl in
    let writes = (c.get_mut.follows.holds (record c.in-Some.state.now { latest = Some c.args.stamp })).3 there in
    rw e (writes.0 (other.proxy, other.seq))
