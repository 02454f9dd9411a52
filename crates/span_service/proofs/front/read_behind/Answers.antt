use Rattle.std.proofs.Common.{ℕ, ◌+◌, ◌≡◌, [], ◌∷◌, inl, inr, ◌∙◌, subst, arith, List, Err}
use Rattle.std.proofs.lemmas.Grind.{common_steps}
use Rattle.std.specs.Int.{w16, from_be_bytes}
use Rattle.wire_msg.specs.declared.fault.FrameFault.{FrameFault}
use Rattle.span_service.specs.Requests.{IsBadFrame}
use Rattle.span_service.specs.Fronts.{ReadsFrame}
use Rattle.span_service.proofs.Fronts.{bad_length, cut, bad_behind, request_at}
use Rattle.span_service.proofs.front.read_behind.Goals as goal

pub returns-then-len-eq0 : goal.returns-then-len-eq0
returns-then-len-eq0 c =
    let len : c.from-len.result ≡ from_be_bytes w16 (c.args.high ∷ c.args.low ∷ []) = grind (arith, common_steps) in
    inl (bad_length c.args.high c.args.low c.args.rest.now c.from-len.result (omega arith) (omega arith) len (omega arith) (inl (omega arith)))

pub returns-then-len-gt-FRAME_LIMIT : goal.returns-then-len-gt-FRAME_LIMIT
returns-then-len-gt-FRAME_LIMIT c =
    let len : c.from-len.result ≡ from_be_bytes w16 (c.args.high ∷ c.args.low ∷ []) = grind (arith, common_steps) in
    inl (bad_length c.args.high c.args.low c.args.rest.now c.from-len.result (omega arith) (omega arith) len (omega arith) (inr (omega arith)))

pub returns-then-rest-len : goal.returns-then-rest-len
returns-then-rest-len c =
    let len : c.from-len.result ≡ from_be_bytes w16 (c.args.high ∷ c.args.low ∷ []) = grind (arith, common_steps) in
    inr (cut c.args.high c.args.low c.args.rest.now c.from-len.result (omega arith) (omega arith) len (omega arith) (omega arith) (omega arith))

pub returns-in-Ok : goal.returns-in-Ok
returns-in-Ok c =
    let len : c.from-len.result ≡ from_be_bytes w16 (c.args.high ∷ c.args.low ∷ []) = grind (arith, common_steps) in
    let reads = c.in-Ok.ensures in
    request_at c.args.high c.args.low c.args.rest.now c.from-len.result (omega arith) (omega arith) len c.args.keys c.in-Ok.message (2 + c.from-len.result) (omega arith) reads.0
    (reads.1 ∙ c.split_at.ensures.front) (omega arith)

pub returns-in-Err-BadFrame : goal.returns-in-Err-BadFrame
returns-in-Err-BadFrame c =
    let len : c.from-len.result ≡ from_be_bytes w16 (c.args.high ∷ c.args.low ∷ []) = grind (arith, common_steps) in
    inr (bad_behind c.args.high c.args.low c.args.rest.now c.from-len.result (omega arith) (omega arith) len c.args.keys c.in-Err-BadFrame.at (omega arith) (omega arith) (omega arith)
    (subst (λ (l : List ℕ). IsBadFrame c.args.keys l c.in-Err-BadFrame.at) c.split_at.ensures.front
    (subst (λ (f : FrameFault). ReadsFrame c.args.keys c.split_at.result.0.now (Err f)) c.in-Err-BadFrame.field-0-is c.in-Err-BadFrame.ensures)))
