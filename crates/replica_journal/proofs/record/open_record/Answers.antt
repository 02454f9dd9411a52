use Rattle.std.proofs.Common.{ℕ, ◌≡◌, ◌+◌, List, [], ◌∷◌, take, Option, ◌∙◌, ap, subst, arith}
use Rattle.wire_msg.specs.declared.message.Message.{Message}
use Rattle.std.proofs.lemmas.Grind.{common_steps}
use Rattle.std.specs.Int.{w16, from_be_bytes}
use Rattle.replica_journal.specs.AtGate.{FrameHolds}
use Rattle.replica_journal.proofs.Reading.{short_behind, unsound_behind, record_behind}
use Rattle.replica_journal.proofs.record.open_record.Goals as goal

pub returns-then-rest-len : goal.returns-then-rest-len
returns-then-rest-len c =
    let len : c.from-len.result ≡ from_be_bytes w16 (c.args.high ∷ c.args.low ∷ []) = grind (arith, common_steps) in
    short_behind c.args.keys c.args.high c.args.low c.args.rest.now (omega arith) (omega arith) (omega (arith, len))

pub returns-in-Some : goal.returns-in-Some
returns-in-Some c =
    let len : c.from-len.result ≡ from_be_bytes w16 (c.args.high ∷ c.args.low ∷ []) = grind (arith, common_steps) in
    let front : c.split_at.result.0.now ≡ take (from_be_bytes w16 (c.args.high ∷ c.args.low ∷ [])) c.args.rest.now = c.split_at.ensures.front ∙ ap (λ (n : ℕ). take n c.args.rest.now) len in
    let holds = subst (λ (o : Option Message). FrameHolds c.args.keys (take (from_be_bytes w16 (c.args.high ∷ c.args.low ∷ [])) c.args.rest.now) o) c.in-Some.is
    (subst (λ (l : List ℕ). FrameHolds c.args.keys l c.in_ok-message.field-0) front c.in_ok-message.ensures) in
    record_behind c.args.keys c.args.high c.args.low c.args.rest.now (omega arith) (omega arith) (omega (arith, len)) c.in-Some.message (3 + c.from-len.result) holds (omega (arith, len))

pub returns-in-None : goal.returns-in-None
returns-in-None c =
    let len : c.from-len.result ≡ from_be_bytes w16 (c.args.high ∷ c.args.low ∷ []) = grind (arith, common_steps) in
    let front : c.split_at.result.0.now ≡ take (from_be_bytes w16 (c.args.high ∷ c.args.low ∷ [])) c.args.rest.now = c.split_at.ensures.front ∙ ap (λ (n : ℕ). take n c.args.rest.now) len in
    let holds = subst (λ (o : Option Message). FrameHolds c.args.keys (take (from_be_bytes w16 (c.args.high ∷ c.args.low ∷ [])) c.args.rest.now) o) c.in-None.is
    (subst (λ (l : List ℕ). FrameHolds c.args.keys l c.in_ok-message.field-0) front c.in_ok-message.ensures) in
    unsound_behind c.args.keys c.args.high c.args.low c.args.rest.now (omega (arith, len)) holds
