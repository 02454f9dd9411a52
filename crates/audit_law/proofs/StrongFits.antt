-- A read or a write of a strong key ends as its work may, with its latest ticket if it is stored.
use Rattle.std.proofs.Common.{◌≡◌, ℕ, true, List, refl, sym, ap, ◌∙◌, subst, Option, Some, None, option_map}
use Rattle.register_law.proofs.Words.{Call, Stamp, Step, Message, Reply, View, Found, counted, progress_after, best_stamp, done, next_of, value_reply, Next, Fenced, Moved, NumbersOut, Outside, Stored, Unsure, Value, Leg, Progress, Stage, CallState, ToRead, ToWrite, Mark, GivesLatest, IsLatestTicket, answers_of, fits, IsWork, StrongWork as Work, Work as Asked}
use Rattle.wire_msg.specs.declared.outputs.Reply.TheVariants as r
use Rattle.run_marks.specs.declared.mark.Work.TheVariants as w
use Rattle.register_law.proofs.Next.{RestsOn, AnswersWhen, at_mark, repaired, rests_on}
use Rattle.register_law.proofs.MovesStep.{counted_tag}
use Rattle.register_law.proofs.CallsOthers.{StrongStep, counts_it, ignores_it}
use Rattle.audit_law.specs.Live.{StrongLatest}
use Rattle.register_law.proofs.EndsReads.{work_is_read}
use Rattle.strong_proxy.proofs.Asked.{progress_after-leg}

-- how a call ends fits its work
abbrev pub EndFits : Asked → Option Reply → Type 0
EndFits asked None = Unit {0}
EndFits asked (Some reply) = fits (answers_of asked) reply ≡ true

-- where it gives a ticket, it gives the latest
abbrev pub EndGives : List Mark → Call → Option Reply → Type 0
EndGives marks call None = Unit {0}
EndGives marks call (Some reply) = GivesLatest marks call reply

pub work_write : (work : Work) (value : List ℕ) (asked : Asked) → work ≡ ToWrite value → IsWork work asked → asked ≡ w.Write value
work_write ToRead value asked e h = absurd (cc)
work_write (ToWrite v) value asked e h = let same : v ≡ value = cc in h ∙ ap w.Write same

-- a reply that reads and writes may both have
either_work : (work : Work) (asked : Asked) (reply : Reply) → IsWork work asked → fits (answers_of w.Read) reply ≡ true → ((value : List ℕ) → fits (answers_of (w.Write value)) reply ≡ true) → fits (answers_of asked) reply ≡ true
either_work ToRead asked reply h f g = subst (λ (x : Asked). fits (answers_of x) reply ≡ true) (sym h) f
either_work (ToWrite value) asked reply h f g = subst (λ (x : Asked). fits (answers_of x) reply ≡ true) (sym h) (g value)

answers_read : (stage : Stage) (work : Work) (best : Option Stamp) (p : Progress) → AnswersWhen stage work best p → work ≡ ToRead
answers_read stage work best p (at_mark version first read quorum is marked) = read
answers_read stage work best p (repaired second read quorum) = read

value_fits : (best : Option Found) → EndFits w.Read (option_map value_reply best)
value_fits None = tt
value_fits (Some found) = refl

value_gives : (marks : List Mark) (call : Call) (best : Option Found) → EndGives marks call (option_map value_reply best)
value_gives marks call None = tt
value_gives marks call (Some found) = tt

done_fits : (next : Next) (now : CallState) (view : View) (seen : ℕ) (asked : Asked) → RestsOn now.progress.stage now.work (best_stamp now.best) now.progress view seen next → IsWork now.work asked → EndFits asked (done next now).out.end
done_fits Value now view seen asked rests h =
    subst (λ (x : Asked). EndFits x (option_map value_reply now.best)) (sym (work_is_read now.work asked (answers_read now.progress.stage now.work (best_stamp now.best) now.progress rests) h)) (value_fits now.best)
done_fits Stored now view seen asked rests h = subst (λ (x : Asked). fits (answers_of x) (r.Stored now.progress.leg.ticket) ≡ true) (sym (work_write now.work rests.value asked rests.work_is h)) refl
done_fits Fenced now view seen asked rests h = subst (λ (x : Asked). fits (answers_of x) (r.Fenced now.progress.top_held) ≡ true) (sym (work_write now.work rests.value asked rests.work_is h)) refl
done_fits Unsure now view seen asked rests h = subst (λ (x : Asked). fits (answers_of x) r.Unsure ≡ true) (sym (work_write now.work rests.value asked rests.work_is h)) refl
done_fits Moved now view seen asked rests h = either_work now.work asked (r.Moved now.progress.top_gone) h refl (λ value. refl)
done_fits Outside now view seen asked rests h = either_work now.work asked r.Outside h refl (λ value. refl)
done_fits NumbersOut now view seen asked rests h = subst (λ (x : Asked). fits (answers_of x) r.NumbersOut ≡ true) (sym (work_write now.work rests.value asked rests.work_is h)) refl
done_fits next now view seen asked rests h = tt

pub write_latest : (work : Work) (value : List ℕ) (marks : List Mark) (call : Call) (leg : Leg) → work ≡ ToWrite value → StrongLatest work marks call leg → IsLatestTicket marks call leg.ticket × (leg.ticket.epoch ≡ leg.epoch)
write_latest ToRead value marks call leg e h = absurd (cc)
write_latest (ToWrite v) value marks call leg e h = h

done_gives : (next : Next) (now : CallState) (view : View) (seen : ℕ) (marks : List Mark) (call : Call) → RestsOn now.progress.stage now.work (best_stamp now.best) now.progress view seen next → StrongLatest now.work marks call now.progress.leg → EndGives marks call (done next now).out.end
done_gives Value now view seen marks call rests h = value_gives marks call now.best
done_gives Stored now view seen marks call rests h = (write_latest now.work rests.value marks call now.progress.leg rests.work_is h).0
done_gives next now view seen marks call rests h = tt

done_works : (next : Next) (now : CallState) → (done next now).state.work ≡ now.work
done_works Value now = refl
done_works next now = refl

-- what is latest stays so where an answer counts
pub counted_latest : (call : CallState) (message : Message) (marks : List Mark) → StrongLatest call.work marks call.progress.phase.tag.call call.progress.leg
    → StrongLatest (counted call message).work marks (counted call message).progress.phase.tag.call (counted call message).progress.leg
counted_latest call message marks h =
    subst (λ (x : Call). StrongLatest call.work marks x (progress_after call.progress message).leg) (ap (λ t. t.call) (sym (counted_tag call.progress message)))
    (subst (StrongLatest call.work marks call.progress.phase.tag.call) (sym (progress_after-leg call.progress message)) h)

pub strong_fits : (call : CallState) (message : Message) (view : View) (seen : ℕ) (step : (Step CallState)) (asked : Asked) → StrongStep call message view seen step → IsWork call.work asked → EndFits asked step.out.end
strong_fits call message view seen step asked (counts_it is own e) h =
    let now : CallState = counted call message in
    subst (λ (x : (Step CallState)). EndFits asked x.out.end) (sym e) (done_fits (next_of (counted call message) view seen) (counted call message) view seen asked (rests_on (counted call message) view seen (next_of (counted call message) view seen) refl) h)
strong_fits call message view seen step asked (ignores_it e) h = subst (λ (x : (Step CallState)). EndFits asked x.out.end) (sym e) tt

pub strong_gives : (call : CallState) (message : Message) (view : View) (seen : ℕ) (step : (Step CallState)) (marks : List Mark) → StrongStep call message view seen step → StrongLatest call.work marks call.progress.phase.tag.call call.progress.leg
    → EndGives marks call.progress.phase.tag.call step.out.end
strong_gives call message view seen step marks (counts_it is own e) h =
    subst (λ (x : (Step CallState)). EndGives marks call.progress.phase.tag.call x.out.end) (sym e)
    (subst (λ (x : Call). EndGives marks x (done (next_of (counted call message) view seen) (counted call message)).out.end) (ap (λ t. t.call) (counted_tag call.progress message))
    (done_gives (next_of (counted call message) view seen) (counted call message) view seen marks (counted call message).progress.phase.tag.call
    (rests_on (counted call message) view seen (next_of (counted call message) view seen) refl) (counted_latest call message marks h)))
strong_gives call message view seen step marks (ignores_it e) h = subst (λ (x : (Step CallState)). EndGives marks call.progress.phase.tag.call x.out.end) (sym e) tt

pub strong_does : (call : CallState) (message : Message) (view : View) (seen : ℕ) (step : (Step CallState)) (asked : Asked) → StrongStep call message view seen step → IsWork call.work asked → IsWork step.state.work asked
strong_does call message view seen step asked (counts_it is own e) h =
    subst (λ (x : (Step CallState)). IsWork x.state.work asked) (sym e) (subst (λ (x : Work). IsWork x asked) (sym (done_works (next_of (counted call message) view seen) (counted call message))) h)
strong_does call message view seen step asked (ignores_it e) h = subst (λ (x : (Step CallState)). IsWork x.state.work asked) (sym e) h
