use Rattle.std.proofs.Common.{◌≡◌, ◌∙◌, ap, sym}
use Rattle.std.specs.Prelude.{Some, None}
use Rattle.std.proofs.lemmas.Result.{IfOk-weaker}
use Rattle.frame_link.specs.Frames.{Sent}
use Rattle.span_node.specs.Carried.{carried, FindsFrom, Finds}
use Rattle.span_node.specs.Index.{first_at, digest_of}
use Rattle.span_node.proofs.Carrying.{found_none, found_from}
use Rattle.span_node.proofs.searching.find.Goals as goal

pub returns-in-Some : goal.returns-in-Some
returns-in-Some c =
    let sent : Sent = record { to = c.args.to; frame = c.args.frame.now } in
    let tells : first_at c.args.index.now (digest_of c.args.to c.args.frame.now) ≡ Some c.in-Some.first =
    ap (first_at c.args.index.now) (sym c.digest_of.ensures) ∙ sym c.first_at.ensures ∙ c.in-Some.is in
    IfOk-weaker c.first_from.result (FindsFrom (carried c.args.wire.now.posts) c.in-Some.first sent) (Finds (carried c.args.wire.now.posts) sent)
    (λ found finds. found_from c.args.index.now (carried c.args.wire.now.posts) sent c.in-Some.first found tells c.requires finds) c.first_from.ensures

pub returns-in-None : goal.returns-in-None
returns-in-None c =
    let sent : Sent = record { to = c.args.to; frame = c.args.frame.now } in
    let tells : first_at c.args.index.now (digest_of c.args.to c.args.frame.now) ≡ None =
    ap (first_at c.args.index.now) (sym c.digest_of.ensures) ∙ sym c.first_at.ensures ∙ c.in-None.is in
    found_none c.args.index.now (carried c.args.wire.now.posts) sent tells c.requires
