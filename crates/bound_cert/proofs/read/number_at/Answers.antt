use Rattle.std.proofs.Common.{◌≡◌, ℕ, ◌-◌, ◌⊎◌, List, refl, length, take, drop, subst, arith}
use Rattle.std.proofs.lemmas.List.{take_all, length-drop}
use Rattle.span_base.specs.Number.{IsNumber}
use Rattle.bound_cert.specs.Reading.{BeginsAbove}
use Rattle.bound_cert.proofs.Longest.{refused}
use Rattle.bound_cert.proofs.read.number_at.Goals as goal

pub returns-in-Err : goal.returns-in-Err
returns-in-Err c =
    let text = c.args.text.now in
    let rest : List ℕ = take (length text - c.args.at) (drop c.args.at text) in
    let whole : rest ≡ drop c.args.at text = take_all _ _ (omega (arith, length-drop c.args.at text)) in (
      refl,
      subst (λ (t : List ℕ). ¬ IsNumber (take 1 t) ⊎ BeginsAbove c.args.limit t) whole
          (refused rest (take c.number_len-count.result rest) c.number_len-count.result c.args.limit c.in-Err.field-0 refl c.number_len-count.ensures c.in-Err.ensures),
    )
