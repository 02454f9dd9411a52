use Rattle.std.proofs.Common.{◌≡◌, ◌≤◌, ◌+◌, ◌-◌, length, take, drop, ap, sym, ◌∙◌, arith, length-drop}
use lib.Seq.{paste}
use Rattle.std.proofs.lemmas.List.{drop-take}
use Rattle.std.proofs.lemmas.List.Edits.{take-paste}
use Rattle.span_service.proofs.input.move_to_front.Goals as goal

pub returns-clause-front : goal.returns-clause-front
returns-clause-front c =
    let all = c.args.bytes.now in
    let kept = c.args.to - c.args.from in
    let fits : kept ≤ length (drop c.args.from all) = omega (arith, length-drop c.args.from all) in
    let same : kept ≡ 0 + kept = omega arith in
    ap (take kept) c.copy_within.ensures.after
    ∙ ap (λ k. take k (paste all 0 (drop c.args.from all) kept)) same
    ∙ take-paste all 0 (drop c.args.from all) kept (omega (arith, fits)) (omega (arith, fits))
    ∙ sym (drop-take c.args.from kept all)
    ∙ ap (λ k. drop c.args.from (take k all)) (omega arith)
