use Rattle.std.proofs.Common.{All, [], ◌∷◌, sym, subst, ap, ◌∙◌, arith}
use Rattle.std.proofs.lemmas.List.Elements.{All-append, All-cons}
use Rattle.span_service.specs.Memory.{HeldStream}
use Rattle.span_service.specs.MemDoors.{IsUnused}
use Rattle.service_cases.proofs.streams.streams.Goals as goal

pub loop-input-preserved : goal.loop-input-preserved
loop-input-preserved c =
    subst (All IsUnused) (sym c.in_ok-push.ensures.items)
    (All-append IsUnused c.loop-input.streams.items (c.make.result ∷ []) c.loop-input.invariant
    (All-cons IsUnused c.make.result [] (record { unread = ap (λ (s : HeldStream). s.left) c.make.ensures ∙ sym (ap (λ (s : HeldStream). s.all) c.make.ensures); untaken = ap (λ (s : HeldStream). s.taken) c.make.ensures })
    (λ k d inside. absurd (omega (arith, inside)))))
