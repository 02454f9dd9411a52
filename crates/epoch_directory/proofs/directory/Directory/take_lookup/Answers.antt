use Rattle.std.proofs.Common.{List, sym, subst}
use Rattle.std.proofs.lemmas.Result.{IfOk-weaker}
use Rattle.span_base.specs.Policy.{IsSoundPolicy}
use Rattle.wire_msg.specs.declared.message.Message.TheVariants.{Lookup}
use Rattle.wire_msg.specs.declared.outputs.Post.{Post}
use Rattle.wire_msg.specs.Posts.{AreAnswersTo}
use Rattle.epoch_directory.proofs.Addressed.{here_answers}
use Rattle.epoch_directory.proofs.directory.Directory.take_lookup.Goals as goal

pub returns-clause-answers : goal.returns-clause-answers
returns-clause-answers c =
    let policy : IsSoundPolicy c.in_ok-clone.field-0 = rw c.in_ok-clone.ensures.cases c.policy_in.ensures.sound in
    let newest : IsSoundPolicy c.in_ok-clone-2.field-0 = rw c.in_ok-clone-2.ensures.cases c.policy_in-2.ensures.sound in
    IfOk-weaker c.answer_proxy.result _ (λ posts. AreAnswersTo (Lookup c.args.tag c.args.key) posts)
    (λ posts made. subst (λ (ps : List Post). AreAnswersTo (Lookup c.args.tag c.args.key) ps) (sym made)
    (here_answers c.args.tag c.args.key c.current_of-epoch.result c.in_ok-clone.field-0 c.epochs-latest_epoch.result c.in_ok-clone-2.field-0 policy newest))
    c.answer_proxy.ensures
