use Rattle.std.proofs.lemmas.List.Elements.{All-push}
use Rattle.primal_dual.specs.Parts.{IsCouple}
use Rattle.primal_dual.proofs.lines.add_line.Goals as goal

pub returns-in_ok-push-in-Some-clause-couples : goal.returns-in_ok-push-in-Some-clause-couples
returns-in_ok-push-in-Some-clause-couples c = λ lines others below known all.
    let one = c.in-Some.ensures lines others below known in
    rw c.in_ok-push-in-Some.ensures.items (All-push (IsCouple lines others) c.args.couples.now.items _ all one)
