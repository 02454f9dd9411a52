-- The second phase of a leg asks its write set.
use Rattle.std.proofs.Common.{◌≡◌, ℕ, refl}
use Rattle.wire_msg.specs.declared.message.Message.{Message}
use Rattle.wire_msg.specs.declared.message.Message.TheVariants as m
use Rattle.wire_msg.specs.declared.outputs.View.{View}
use Rattle.strong_proxy.specs.declared.progress.Progress.{Progress}
use Rattle.strong_proxy.specs.declared.progress.Stage.{Stage}
use Rattle.strong_proxy.specs.declared.progress.Stage.TheVariants.{First, Second, Looking, Ended}
use Rattle.strong_proxy.specs.declared.state.CallState.{CallState}
use Rattle.strong_proxy.specs.declared.next.Next.{Next}
use Rattle.strong_proxy.specs.declared.next.Next.TheVariants.{Wait, Value, Repair, Store, Stored, Fenced, Unsure, Look, Moved, Outside, NumbersOut, Enter}
use Rattle.strong_proxy.specs.Counting.{progress_after, counted}
use Rattle.strong_proxy.specs.Rule.{done, next_of}
use Rattle.strong_proxy.specs.Lawful.{asked_at}

abbrev pub AsksItsSet : Progress → Type 0
AsksItsSet p = p.phase.asked ≡ asked_at p.stage p

-- an answer changes neither the leg nor whom the phase asks
same_at : (stage : Stage) (p q : Progress) → q.phase.asked ≡ p.phase.asked → q.leg ≡ p.leg → p.phase.asked ≡ asked_at stage p → q.phase.asked ≡ asked_at stage q
same_at First p q a l h = refl
same_at Second p q a l h = rw (a, l) h
same_at Looking p q a l h = refl
same_at Ended p q a l h = refl

pub progress_after-leg : (p : Progress) (message : Message) → (progress_after p message).leg ≡ p.leg
progress_after-leg p (m.Have tag replica version mark value) = refl
progress_after-leg p (m.Yes tag replica) = refl
progress_after-leg p (m.Held tag replica stamp) = refl
progress_after-leg p (m.Gone tag replica epoch) = refl
progress_after-leg p _ = refl

pub progress_after-asked : (p : Progress) (message : Message) → (progress_after p message).phase.asked ≡ p.phase.asked
progress_after-asked p (m.Have tag replica version mark value) = refl
progress_after-asked p (m.Yes tag replica) = refl
progress_after-asked p (m.Held tag replica stamp) = refl
progress_after-asked p (m.Gone tag replica epoch) = refl
progress_after-asked p _ = refl

progress_after-asks : (p : Progress) (message : Message) → AsksItsSet p → AsksItsSet (progress_after p message)
progress_after-asks p (m.Have tag replica version mark value) h = same_at p.stage p (progress_after p (m.Have tag replica version mark value)) refl refl h
progress_after-asks p (m.Yes tag replica) h = same_at p.stage p (progress_after p (m.Yes tag replica)) refl refl h
progress_after-asks p (m.Held tag replica stamp) h = same_at p.stage p (progress_after p (m.Held tag replica stamp)) refl refl h
progress_after-asks p (m.Gone tag replica epoch) h = same_at p.stage p (progress_after p (m.Gone tag replica epoch)) refl refl h
progress_after-asks p _ h = h

done_asks : (next : Next) (call : CallState) → AsksItsSet call.progress → AsksItsSet (done next call).state.progress
done_asks Wait call h = h
done_asks Value call h = refl
done_asks Repair call h = refl
done_asks Store call h = refl
done_asks Stored call h = refl
done_asks Fenced call h = refl
done_asks Unsure call h = refl
done_asks Look call h = refl
done_asks Moved call h = refl
done_asks Outside call h = refl
done_asks NumbersOut call h = refl
done_asks (Enter leg) call h = refl

pub answer_asks : (call : CallState) (message : Message) (view : View) (seen : ℕ) → AsksItsSet call.progress → AsksItsSet (done (next_of (counted call message) view seen) (counted call message)).state.progress
answer_asks call message view seen h = done_asks (next_of (counted call message) view seen) (counted call message) (progress_after-asks call.progress message h)
