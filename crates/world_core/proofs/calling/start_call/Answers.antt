use Rattle.std.proofs.Common.{◌≡◌, List, ◌++◌, length, sym, ap, ◌∙◌, subst}
use Rattle.std.specs.Prelude.{None}
use Rattle.wire_msg.specs.declared.outputs.Post.{Post}
use Rattle.wire_msg.specs.Sizes.{bulk_of}
use Rattle.world_core.specs.Stores.{limit_passed, AreSent}
use Rattle.world_core.proofs.Sends.{sent_more}
use Rattle.world_core.proofs.calling.start_call.Goals as goal

pub returns-clause-sent : goal.returns-clause-sent
returns-clause-sent g c =
    let posts : List Post = c.in_ok-beginning.beginning.effects.posts in
    let before : List Post = g.W.Wire.pushed c.args.wire.now in
    let listed : c.as_slice.result.now ≡ posts = c.as_slice.ensures in
    let bulk : c.bulk_of.result ≡ bulk_of c.as_slice.result.now = c.bulk_of.ensures in
    let fits : limit_passed before c.bulk_of.result ≡ None = c.in_ok-make_room.ensures.ends in
    let kept : g.W.Wire.pushed c.make_room.new.wire ≡ before = c.in_ok-make_room.ensures.kept in
    let sent : g.W.Wire.pushed c.send.new.wire ≡ g.W.Wire.pushed c.make_room.new.wire ++ c.as_slice-2.result.now = c.send.ensures in
    let same : c.enter-effects.result.posts ≡ posts = c.enter-effects.ensures.1 in
    let listed_too : c.as_slice-2.result.now ≡ c.enter-effects.result.posts = c.as_slice-2.ensures in
    let all : g.W.Wire.pushed c.send.new.wire ≡ before ++ posts = sent ∙ ap (λ (xs : List Post). xs ++ c.as_slice-2.result.now) kept ∙ ap (λ (xs : List Post). before ++ xs) (listed_too ∙ same) in
    subst (AreSent (length c.args.proxy.now.views)) (sym all)
    (sent_more (length c.args.proxy.now.views) before posts c.requires.sent c.in_ok-beginning.ensures.lawful c.in_ok-beginning.ensures.keys
    (ap (limit_passed before) (sym (bulk ∙ ap bulk_of listed)) ∙ fits))
