use Rattle.std.proofs.Common.{◌≡◌, ◌<◌, All, length, get_or, sym, ap, subst, ◌∙◌, arith}
use Rattle.zero_one.specs.Contents.{Contents}
use Rattle.zero_one.specs.Rows.{KnowsItsVars}
use Rattle.joint_placement.specs.Variables.{variables_of}
use Rattle.joint_placement.proofs.Parts.{variables-are}
use Rattle.joint_placement.proofs.encoding.push_set.Goals as goal

pub push_moved-requires : goal.push_moved-requires
push_moved-requires c = λ k d in' i e in''.
    let count = length c.in_ok-program.program.costs in
    let known : All (KnowsItsVars count) c.rows-more.result.now = subst (All (KnowsItsVars count)) (sym c.rows-more.ensures.rows) c.rows-more.ensures.within.known in
    let low : (get_or (get_or c.rows-more.result.now k d).entries i e).var < count = known k d in' i e in'' in
    let many : count ≡ variables_of c.args.world.now c.args.set.0 = ap (λ (p : Contents). length p.costs) c.in_ok-program.ensures ∙ sym (variables-are c.args.world.now c.args.set.0) in
    omega (arith, low, many, c.len.ensures, c.args.costs.now.ok.0, c.requires.room)
