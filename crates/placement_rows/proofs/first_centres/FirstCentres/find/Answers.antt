use Rattle.std.proofs.Common.{◌≡◌, ◌+◌, ◌<◌, ◌∙◌, ℕ, inl, inr, length, get_or, set, sym, subst, arith}
use Rattle.std.proofs.Math.ListN.{length-set}
use Rattle.std.proofs.lemmas.Bool.{cases_lt}
use Rattle.std.proofs.lemmas.List.{get_or-set_other}
use Rattle.std.proofs.lemmas.Grind.{get_or-set_at}
use Rattle.placement_rows.specs.FirstCentres.{IsFirstOf}
use Rattle.placement_rows.proofs.first_centres.FirstCentres.find.Goals as goal

pub loop-d-preserved : goal.loop-d-preserved
loop-d-preserved c =
    let w = c.args.world.now in
    let firsts = c.loop-d.firsts in
    let at = c.from.result in
    let first = c.first_of_provider.result in
    let long : length firsts ≡ 16 = c.loop-d.invariant.0 in
    let here : at ≡ c.loop-d.d = omega arith in
    let low : c.loop-d.d < 16 = omega arith in
    let each : (k : ℕ) → k < c.loop-d.d + 1 → IsFirstOf w k (get_or (set firsts at first) k 0) = λ k inside. elim (cases_lt k c.loop-d.d) [
      | inl before ↦ subst (λ e. IsFirstOf w k e) (sym (get_or-set_other firsts at k first 0 (λ same. omega (arith, same, before, here)))) (c.loop-d.invariant.1 k before)
      | inr last ↦
          let same : c.loop-d.d ≡ k = omega (arith, inside, last) in
          subst (λ j. IsFirstOf w j (get_or (set firsts at first) j 0)) same
          (subst (λ e. IsFirstOf w c.loop-d.d e) (sym (get_or-set_at firsts at c.loop-d.d first 0 (sym here) (omega (arith, long, here, low)))) c.first_of_provider.ensures.first)
    ] in
    (length-set firsts at first ∙ long, each)
