use Rattle.std.proofs.Common.{◌≡◌, true, false, None, Some, sym, ap, ◌∙◌}
use Rattle.cert_checker.specs.Kept.{Kept}
use Rattle.cert_checker.proofs.Verdicts.{short_answers, unbounded_answers, bounded_answers}
use Rattle.cert_checker.proofs.checker.Checker.finish.Goals as goal

pub returns-then-not-self-clause-proof : goal.returns-then-not-self-clause-proof
returns-then-not-self-clause-proof c = λ program lines stands.
    let short : c.args.self.now.whole ≡ false = sym (ap (λ (k : Kept). k.whole) c.self.view_is) ∙ c.if-not-self.true in
    (short_answers program lines c.args.self.now c.args.goal stands short).proof

pub returns-then-not-self-clause-table : goal.returns-then-not-self-clause-table
returns-then-not-self-clause-table c = λ program lines stands.
    let short : c.args.self.now.whole ≡ false = sym (ap (λ (k : Kept). k.whole) c.self.view_is) ∙ c.if-not-self.true in
    (short_answers program lines c.args.self.now c.args.goal stands short).table

pub returns-in-None-clause-proof : goal.returns-in-None-clause-proof
returns-in-None-clause-proof c = λ program lines stands.
    let whole : c.args.self.now.whole ≡ true = sym (ap (λ (k : Kept). k.whole) c.self.view_is) ∙ c.if-not-self.false in
    let none : c.args.self.now.ceilings ≡ None = sym (ap (λ (k : Kept). k.ceilings) c.self.view_is) ∙ c.in-None.is in
    (unbounded_answers program lines c.args.self.now c.args.goal tt stands whole none).proof

pub returns-in-None-clause-table : goal.returns-in-None-clause-table
returns-in-None-clause-table c = λ program lines stands.
    let whole : c.args.self.now.whole ≡ true = sym (ap (λ (k : Kept). k.whole) c.self.view_is) ∙ c.if-not-self.false in
    let none : c.args.self.now.ceilings ≡ None = sym (ap (λ (k : Kept). k.ceilings) c.self.view_is) ∙ c.in-None.is in
    (unbounded_answers program lines c.args.self.now c.args.goal tt stands whole none).table

pub returns-in-Some-clause-proof : goal.returns-in-Some-clause-proof
returns-in-Some-clause-proof c = λ program lines stands.
    let whole : c.args.self.now.whole ≡ true = sym (ap (λ (k : Kept). k.whole) c.self.view_is) ∙ c.if-not-self.false in
    let some : c.args.self.now.ceilings ≡ Some c.in-Some.ceilings = sym (ap (λ (k : Kept). k.ceilings) c.self.view_is) ∙ c.in-Some.is in
    (bounded_answers program lines c.args.self.now c.args.goal c.in-Some.ceilings c.compare.result stands whole some c.compare.ensures).proof

pub returns-in-Some-clause-table : goal.returns-in-Some-clause-table
returns-in-Some-clause-table c = λ program lines stands.
    let whole : c.args.self.now.whole ≡ true = sym (ap (λ (k : Kept). k.whole) c.self.view_is) ∙ c.if-not-self.false in
    let some : c.args.self.now.ceilings ≡ Some c.in-Some.ceilings = sym (ap (λ (k : Kept). k.ceilings) c.self.view_is) ∙ c.in-Some.is in
    (bounded_answers program lines c.args.self.now c.args.goal c.in-Some.ceilings c.compare.result stands whole some c.compare.ensures).table
