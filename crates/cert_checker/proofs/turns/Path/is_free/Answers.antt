use Rattle.std.proofs.Common.{◌<◌, length, ap, arith, drop}
use Rattle.cert_checker.proofs.Trails.{length-fixed_over, free_test}
use Rattle.cert_checker.proofs.turns.Path.is_free.Goals as goal

pub bounds-as_slice-var : goal.bounds-as_slice-var
bounds-as_slice-var c =
    let inside = rw (← c.self.view_is) at c.requires in
    omega (arith, inside, ap length c.as_slice.ensures, ap length c.self.invariant.fixes, length-fixed_over (length c.self.inside.turns.items) (drop c.self.inside.free c.self.inside.turns.items))

pub returns : goal.returns
returns c =
    let inside = rw (← c.self.view_is) at c.requires in
    let within : c.args.var < length c.self.inside.fixed = omega (arith, inside, ap length c.self.invariant.fixes, length-fixed_over (length c.self.inside.turns.items) (drop c.self.inside.free c.self.inside.turns.items)) in
    let e = rw c.as_slice.ensures at c.is_none.ensures in
    rw (← c.self.view_is, ← c.self.invariant.fixes) (free_test c.self.inside.fixed c.args.var c.is_none.result within e)
