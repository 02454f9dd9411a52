use Rattle.std.proofs.Common.{◌≡◌, true, false, List, [], ◌∷◌, ◌++◌, sym, ◌∙◌, ap, append_assoc}
use Rattle.std.proofs.lemmas.List.{append-nil}
use Rattle.std.proofs.lemmas.Result.{err_from_is_err_and}
use Rattle.span_base.specs.DcSet.{has, centres_of}
use Rattle.span_base.specs.declared.policy.Hop.{Hop}
use Rattle.wire_msg.specs.Faults.{hops_at}
use Rattle.wire_msg.proofs.HopLoop.{hop_from, hops-none, hops-more, hops-skip, hops-stops, hops-all}
use Rattle.wire_msg.proofs.reader.Reader.hops.Goals as goal
use Rattle.wire_msg.proofs.reader.Reader.hops.Goals.{then-has+in_ok-byte+in_ok-push, else-has}

pub loop-centre-init : goal.loop-centre-init
loop-centre-init c = ([], sym (append-nil c.args.hops.now), hops-none c.args.member.0 c.args.replicas c.args.self.now.rest.now)

pub returns-in_err-byte : goal.returns-in_err-byte
returns-in_err-byte c =
    let p = err_from_is_err_and c.from_residual.result c.from_residual.ensures.1 in
    let there : has c.args.replicas c.loop-centre.centre ≡ true = cc in
    rw (p.1, p.2) (hops-stops c.args.member.0 c.args.replicas c.in_err-byte.field-0.0 c.loop-centre.invariant.0 c.loop-centre.centre c.loop-centre.self.rest.now (hops_at c.args.member.0 (centres_of c.args.replicas) c.args.self.now.rest.now) c.loop-centre-test.true there c.in_err-byte.ensures c.loop-centre.invariant.2)

pub loop-centre-preserved : goal.loop-centre-preserved
loop-centre-preserved c =
    let total = hops_at c.args.member.0 (centres_of c.args.replicas) c.args.self.now.rest.now in
    let front = c.loop-centre.invariant.0 in
    let d = c.loop-centre.centre in
    elim c.if-has.branch [
      | then-has+in_ok-byte+in_ok-push w ↦
          let there : has c.args.replicas d ≡ true = cc in
          let hop : Hop = hop_from c.args.member.0 d w.in_ok-byte.field-0 in
          rw (w.self-is, w.hops-is) (front ++ hop ∷ [], w.in_ok-push.ensures.ok ∙ ap (λ (hs : List Hop). hs ++ hop ∷ []) c.loop-centre.invariant.1 ∙ append_assoc c.args.hops.now front (hop ∷ []), hops-more c.args.member.0 c.args.replicas front d c.loop-centre.self.rest.now w.in_ok-byte.field-0 w.byte.new.self.rest.now total c.loop-centre-test.true there w.in_ok-byte.ensures c.loop-centre.invariant.2)
      | else-has w ↦
          let absent : has c.args.replicas d ≡ false = cc in
          rw (w.self-is, w.hops-is) (front, c.loop-centre.invariant.1, hops-skip c.args.member.0 c.args.replicas front d c.loop-centre.self.rest.now total c.loop-centre-test.true absent c.loop-centre.invariant.2)
    ]

pub returns : goal.returns
returns c =
    (c.loop-centre.invariant.0, hops-all c.args.member.0 c.args.replicas c.loop-centre.invariant.0 c.loop-centre.centre c.loop-centre.self.rest.now (hops_at c.args.member.0 (centres_of c.args.replicas) c.args.self.now.rest.now) c.loop-centre-test.false c.loop-centre.invariant.2, c.loop-centre.invariant.1)
