use Rattle.std.proofs.Common.{◌≡◌, ℕ, List, length, refl, sym, ap, ◌∙◌, subst}
use Rattle.std.specs.Prelude.{slice_get, Option, None, Some, Err}
use Rattle.wire_msg.specs.declared.message.Message.{Message}
use Rattle.wire_msg.specs.declared.outputs.Post.{Post}
use Rattle.world_core.specs.declared.event.Event.TheVariants.{Deliver}
use Rattle.world_core.specs.declared.event.StepFault.TheVariants.{NoMessage}
use Rattle.world_core.specs.State.{Store}
use Rattle.world_core.specs.Step.{Outcome, step}
use Rattle.world_core.specs.Proxies.{IsOfKeyBelow}
use Rattle.world_core.specs.Ends.{Seen, EndsAs, taken_by_replica}
use Rattle.world_core.proofs.Started.{deliver_none, deliver_some, asked_some, sent_right}
use Rattle.world_core.proofs.cloud.Cloud.deliver.Goals as goal

pub returns-in_default : goal.returns-in_default
returns-in_default g c =
    let s : Store = c.args.self.now.store in
    let n : ℕ = c.args.number in
    let sent_is : g.W.Wire.pushed c.self.inside.wire ≡ s.sent = ap (λ (x : Seen). x.store.sent) c.self.view_is in
    let none : slice_get s.sent n ≡ None = ap (λ (xs : List Post). slice_get xs n) (sym sent_is) ∙ sym c.in_ok-post.ensures ∙ c.in_default.is in
    let count : length s.sent ≡ c.sent.result = ap length (sym sent_is) ∙ sym c.sent.ensures in
    (deliver_none s n none ∙ ap (λ m. let o : Outcome = Err (NoMessage m) in o) count, refl)

pub hand_over-requires-clause-lawful : goal.hand_over-requires-clause-lawful
hand_over-requires-clause-lawful g c =
    (sent_right (length c.self.inside.directory.sets) c.args.number (g.W.Wire.pushed c.self.inside.wire) c.in-Some.post c.self.invariant.sent (sym c.in_ok-post.ensures ∙ c.in-Some.is)).0

pub hand_over-requires-clause-key : goal.hand_over-requires-clause-key
hand_over-requires-clause-key g c =
    subst (λ n. IsOfKeyBelow n c.in-Some.post.message) (ap (λ (x : Seen). length x.store.directory.sets) c.self.view_is)
    (sent_right (length c.self.inside.directory.sets) c.args.number (g.W.Wire.pushed c.self.inside.wire) c.in-Some.post c.self.invariant.sent (sym c.in_ok-post.ensures ∙ c.in-Some.is)).1

pub returns : goal.returns
returns g c =
    let s : Store = c.args.self.now.store in
    let n : ℕ = c.args.number in
    let sent_is : g.W.Wire.pushed c.self.inside.wire ≡ s.sent = ap (λ (x : Seen). x.store.sent) c.self.view_is in
    let post : Post = c.in-Some.post in
    let here : slice_get s.sent n ≡ Some post = ap (λ (xs : List Post). slice_get xs n) (sym sent_is) ∙ sym c.in_ok-post.ensures ∙ c.in-Some.is in
    subst (λ (asked : Option (ℕ × Message)). EndsAs c.args.self.now c.hand_over.new.self asked (step s (Deliver n)) c.hand_over.result) (sym (asked_some s n post here))
    (subst (λ (o : Outcome). EndsAs c.args.self.now c.hand_over.new.self (taken_by_replica s post.to post.message) o c.hand_over.result) (sym (deliver_some s n post here)) c.hand_over.ensures)
