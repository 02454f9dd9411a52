use Rattle.std.proofs.Common.{ℕ, List, length, slice_get, sym, ap, ◌∙◌, Err}
use Rattle.wire_msg.specs.declared.outputs.Post.{Post}
use Rattle.world_core.specs.Step.{Outcome}
use Rattle.world_core.specs.declared.event.StepFault.TheVariants.{NoMessage}
use Rattle.restart_replay.proofs.Crashing.{ends_as, crash_found, crash_missing}
use Rattle.restart_replay.proofs.store.KeptStore.crash.Goals as goal

pub returns-in-Some-clause-ends : goal.returns-in-Some-clause-ends
returns-in-Some-clause-ends c =
    ends_as c.args.self.now.cloud.store c.crash_by.new.self.cloud.store _ _ c.crash_by.result
    (crash_found c.args.self.now.cloud.store c.args.number c.args.call c.args.is_new c.in-Some.post (sym c.in-Some.is ∙ c.in_ok-post.ensures.post ∙ ap (λ (xs : List Post). slice_get xs c.args.number) c.wire.ensures))
    c.crash_by.ensures.ends

pub returns-in-None-clause-ends : goal.returns-in-None-clause-ends
returns-in-None-clause-ends c =
    crash_missing c.args.self.now.cloud.store c.args.number c.args.call c.args.is_new (sym c.in-None.is ∙ c.in_ok-post.ensures.post ∙ ap (λ (xs : List Post). slice_get xs c.args.number) c.wire.ensures)
    ∙ ap (λ (k : ℕ). let o : Outcome = Err (NoMessage k) in o) (sym (c.sent.ensures ∙ ap (λ (xs : List Post). length xs) c.wire-in-None.ensures))
