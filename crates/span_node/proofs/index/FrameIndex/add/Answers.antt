use Rattle.std.proofs.Common.{◌≡◌, ◌∙◌, sym, ap}
use Rattle.std.specs.Prelude.{Some, None}
use Rattle.std.proofs.lemmas.Result.{on_ok_weaker}
use Rattle.span_node.specs.Index.{digest_of, first_at}
use Rattle.span_node.proofs.Indexed.{kept, put}
use Rattle.span_node.proofs.index.FrameIndex.add.Goals as goal

pub returns-in-Some : goal.returns-in-Some
returns-in-Some c =
    let found : first_at c.args.self.now (digest_of c.args.to c.args.frame.now) ≡ Some c.in-Some.field-0 =
    ap (first_at c.args.self.now) (sym c.digest_of-digest.ensures) ∙ sym c.first_at.ensures ∙ c.in-Some.is in
    λ frames number-is is. kept c.args.self.now c.args.to c.in-Some.field-0 c.args.number c.args.frame.now frames found is

pub returns-in-None : goal.returns-in-None
returns-in-None c =
    let digest = c.digest_of-digest.ensures in
    let none : first_at c.args.self.now (digest_of c.args.to c.args.frame.now) ≡ None =
    ap (first_at c.args.self.now) (sym digest) ∙ sym c.first_at.ensures ∙ c.in-None.is in
    on_ok_weaker c.put.result (λ puts. λ frames number-is is. put c.args.self.now c.put.new.self c.args.to c.args.number c.args.frame.now frames none (rw digest at puts) number-is is) c.put.ensures
