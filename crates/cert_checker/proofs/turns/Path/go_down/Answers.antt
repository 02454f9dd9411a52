use Rattle.std.proofs.Common.{None, false, length-set, arith}
use Rattle.std.proofs.lemmas.Option.{slice_get_within}
use Rattle.bound_cert.specs.Trees.{IsFree}
use Rattle.cert_checker.proofs.Trails.{some_free, goes_down, HoldsPath-down}
use Rattle.cert_checker.proofs.turns.Path.go_down.Goals as goal

is_free : (c : goal.After-self) → IsFree c.self.inside.fixed c.args.var
is_free c =
    let here = rw (← c.self.view_is) at c.requires in
    rw c.self.invariant.fixes here

pub overflow_sub-self : goal.overflow_sub-self
overflow_sub-self c = some_free c.self.inside.turns.items c.self.inside.free c.self.inside.fixed c.args.var c.self.invariant (is_free c)

pub set-requires : goal.set-requires
set-requires c =
    let here = rw (← c.self.view_is) at c.requires in
    let free : IsFree c.self.inside.fixed c.args.var = rw c.self.invariant.fixes here in
    omega (arith, slice_get_within c.self.inside.fixed c.args.var None free)

pub invariant_of-self : goal.invariant_of-self
invariant_of-self c =
    let here = rw (← c.self.view_is) at c.requires in
    let free : IsFree c.self.inside.fixed c.args.var = rw c.self.invariant.fixes here in
    let down = HoldsPath-down c.self.inside.turns.items c.self.inside.free c.self.inside.fixed (record { var = c.args.var; bit = false }) c.self.invariant free in
    rw (c.set.ensures, c.from.ensures) down

pub returns : goal.returns
returns c =
    let here = rw (← c.self.view_is) at c.requires in
    let free : IsFree c.self.inside.fixed c.args.var = rw c.self.invariant.fixes here in
    let down = goes_down c.self.inside.turns.items c.self.inside.free c.self.inside.fixed (record { var = c.args.var; bit = false }) c.self.invariant free in
    rw (← c.self.view_is, length-set, down)
