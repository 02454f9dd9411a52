use Rattle.std.proofs.Common.{◌≤◌, arith, rules}
use Rattle.primal_dual.proofs.units.first_units.Goals as goal

pub new-requires-clause-balance : goal.new-requires-clause-balance
new-requires-clause-balance c =
    let few : c.bits-balance.result ≤ 98 = c.bits-balance.ensures.least 98 (let scale = c.from.ensures in let cost = c.greatest.ensures in rw scale (omega arith)) in
    omega arith

pub new-requires-clause-fine : goal.new-requires-clause-fine
new-requires-clause-fine c =
    let few : c.bits-fine.result ≤ 46 = c.bits-fine.ensures.least 46 (search rules) in
    omega arith

pub returns-clause-balance : goal.returns-clause-balance
returns-clause-balance c =
    let few : c.bits-balance.result ≤ 98 = c.bits-balance.ensures.least 98 (let scale = c.from.ensures in let cost = c.greatest.ensures in rw scale (omega arith)) in
    omega (arith, c.new.ensures.balance)
