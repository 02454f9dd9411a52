use Rattle.std.proofs.Common.{sym, ap, ◌∙◌, subst}
use Rattle.std.specs.Prelude.{Option, IfSome, OnOk}
use Rattle.std.proofs.lemmas.Result.{on_ok_weaker}
use Rattle.wire_msg.specs.declared.outputs.Outputs.{Outputs}
use Rattle.wire_msg.specs.declared.outputs.View.{View}
use Rattle.wire_msg.specs.Lawful.{IsLawfulView}
use Rattle.migration.specs.Move.{Moving}
use Rattle.migration.specs.Strong.{strong}
use Rattle.migration.specs.Eventual.{eventual}
use Rattle.world_core.specs.declared.live.LiveCall.{LiveCall}
use Rattle.world_core.specs.Calls.{key_of_call}
use Rattle.world_core.specs.Proxies.{AreOfKey}
use Rattle.world_core.proofs.CallSteps.{strong_shows, move_keeps, move_sends}
use Rattle.world_core.proofs.live.LiveCall.take.Goals as goal

pub returns-in-Strong-clause-view : goal.returns-in-Strong-clause-view
returns-in-Strong-clause-view c =
    on_ok_weaker c.take.result
    (λ made. subst (λ (o : Option View). IfSome o IsLawfulView) (sym (ap (λ (o : Outputs). o.view) made.1 ∙ strong_shows c.in-Strong.call c.args.message.now c.view-view.result.now c.args.lesson.now.seen)) tt)
    c.take.ensures.ok

pub returns-in-StrongMove-clause-of_key : goal.returns-in-StrongMove-clause-of_key
returns-in-StrongMove-clause-of_key c =
    subst (λ (call : LiveCall). OnOk c.take-in-StrongMove.result (AreOfKey (key_of_call call) c.take-in-StrongMove.new.out.posts)) (sym c.in-StrongMove.is)
    (move_sends c.take-in-StrongMove.result strong c.in-StrongMove.call c.take-in-StrongMove.new.self c.args.message.now c.take-in-StrongMove.new.out c.take-in-StrongMove.ensures.ok c.take-in-StrongMove.ensures.posts)

pub returns-in-StrongMove-clause-key : goal.returns-in-StrongMove-clause-key
returns-in-StrongMove-clause-key c =
    on_ok_weaker c.take-in-StrongMove.result
    (λ made. ap (λ (m : Moving). m.key) made.0 ∙ move_keeps strong c.in-StrongMove.call c.args.message.now ∙ sym (ap key_of_call c.in-StrongMove.is))
    c.take-in-StrongMove.ensures.ok

pub returns-in-EventualMove-clause-of_key : goal.returns-in-EventualMove-clause-of_key
returns-in-EventualMove-clause-of_key c =
    subst (λ (call : LiveCall). OnOk c.take-in-EventualMove.result (AreOfKey (key_of_call call) c.take-in-EventualMove.new.out.posts)) (sym c.in-EventualMove.is)
    (move_sends c.take-in-EventualMove.result eventual c.in-EventualMove.call c.take-in-EventualMove.new.self c.args.message.now c.take-in-EventualMove.new.out c.take-in-EventualMove.ensures.ok c.take-in-EventualMove.ensures.posts)

pub returns-in-EventualMove-clause-key : goal.returns-in-EventualMove-clause-key
returns-in-EventualMove-clause-key c =
    on_ok_weaker c.take-in-EventualMove.result
    (λ made. ap (λ (m : Moving). m.key) made.0 ∙ move_keeps eventual c.in-EventualMove.call c.args.message.now ∙ sym (ap key_of_call c.in-EventualMove.is))
    c.take-in-EventualMove.ensures.ok
