use Rattle.std.proofs.Common.{ℕ, Bool, nat_lt, sym, ◌∙◌, rules, arith}
use Rattle.std.proofs.lemmas.Bool.{le-ltb}
use Rattle.slo_rules.proofs.Centres.{all_pass, all_fail, all_end, all_start}
use Rattle.slo_rules.proofs.shape.lies_below.Goals as goal

pub returns-then-d-n : goal.returns-then-d-n
returns-then-d-n c =
    let p : ℕ → Bool = λ dc. nat_lt dc c.args.n in
    sym (c.loop-d.invariant ∙ all_fail p c.args.set.now c.loop-d.d (search rules) (search rules) (le-ltb _ _ (search rules)))

pub loop-d-init : goal.loop-d-init
loop-d-init c = all_start (λ dc. nat_lt dc c.args.n) c.args.set.now

pub loop-d-preserved : goal.loop-d-preserved
loop-d-preserved c =
    let p : ℕ → Bool = λ dc. nat_lt dc c.args.n in
    c.loop-d.invariant ∙ all_pass p c.args.set.now c.loop-d.d (search rules) (grind arith)

pub returns : goal.returns
returns c =
    let p : ℕ → Bool = λ dc. nat_lt dc c.args.n in
    sym (c.loop-d.invariant ∙ all_end p c.args.set.now c.loop-d.d (omega arith))
