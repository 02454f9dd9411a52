use Rattle.std.proofs.Common.{ℕ, List, arith, refl, ap, subst}
use Rattle.std.specs.List.{concat}
use Rattle.std.proofs.lemmas.Grind.{common_steps}
use Rattle.span_service.specs.Coming.{GivesFront}
use Rattle.span_service.specs.Memory.{HeldStream}
use Rattle.span_service.specs.Pieces.{HeldPieces}
use Rattle.span_service.proofs.Giving.{gives_front}
use Rattle.span_service.proofs.mem_stream.MemStreamStream.read.Goals as goal

pub returns-clause-gives : goal.returns-clause-gives
returns-clause-gives c = (
  concat c.give.new.self.left,
  refl,
  subst (λ (left : List (List ℕ)). GivesFront (concat left) (concat c.give.new.self.left) c.give.new.buf c.give.result) (ap (λ (held : HeldStream). held.left) c.self.view_is)
      (gives_front c.self.inside.pieces.left c.give.new.self.left c.give.new.buf c.give.result (grind (arith, common_steps)) c.give.ensures.count c.give.ensures.bytes (ap (λ (p : HeldPieces). p.left) c.give.ensures.after)),
)
