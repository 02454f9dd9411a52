-- Ends that tell no stamp of a read or a write.
use Rattle.std.proofs.Common.{◌≡◌, ◌≢◌, ◌&&◌, ℕ, Bool, true, false, cond, List, Option, Some, None, refl, sym, ap, ◌∙◌}
use Rattle.std.specs.Prelude.{is_some}
use Rattle.std.proofs.lemmas.Option.{same_Some}
use Rattle.ticket_rules.specs.declared.stamp.Stamp.{Stamp}
use Rattle.wire_msg.specs.declared.outputs.Reply.{Reply}
use Rattle.wire_msg.specs.declared.outputs.Reply.TheVariants as r
use Rattle.run_marks.specs.declared.mark.Work.{Work}
use Rattle.register_order.specs.Form.{answers_of}
use Rattle.register_order.specs.Order.{is_reading}
use Rattle.history_audit.specs.declared.calls.CallState.{CallState}
use Rattle.history_audit.specs.declared.calls.Ending.{Ending}
use Rattle.history_audit.specs.declared.calls.Ending.TheVariants.{Open, Ended, Dead}
use Rattle.history_audit.specs.Judging.{TellsNoStamp}

work_is : (looked : Option CallState) (state other : CallState) → looked ≡ Some state → looked ≡ Some other → state.work ≡ other.work
work_is looked state other at found = ap (λ (s : CallState). s.work) (same_Some state other (sym at ∙ found))

pub tells_none_of_value : (looked : Option CallState) (state : CallState) (reply : Reply) (stamp : Stamp) (value : List ℕ) → looked ≡ Some state → is_reading state.work ≡ false → reply ≡ r.Value stamp value → TellsNoStamp looked reply
tells_none_of_value looked state reply stamp value at other is = λ now found. (
  (λ one given e does. let f = ap is_reading (work_is looked state now at found ∙ does) in cc (f, other)),
  (λ one given e does. absurd (let f = sym is ∙ e in cc f)),
)

pub tells_none_of_stored : (looked : Option CallState) (state : CallState) (reply : Reply) (stamp : Stamp) → looked ≡ Some state → (answers_of state.work).loses ≡ false → reply ≡ r.Stored stamp → TellsNoStamp looked reply
tells_none_of_stored looked state reply stamp at other is = λ now found. (
  (λ one given e does. absurd (let f = sym is ∙ e in cc f)),
  (λ one given e does. let f = ap (λ (x : Work). (answers_of x).loses) (work_is looked state now at found ∙ does) in cc (f, other)),
)

pub tells_none_of_other : (looked : Option CallState) (reply : Reply) → ((stamp : Stamp) (value : List ℕ) → reply ≡ r.Value stamp value → ⊥) → ((stamp : Stamp) → reply ≡ r.Stored stamp → ⊥) → TellsNoStamp looked reply
tells_none_of_other looked reply no_value no_stored = λ now found. ((λ stamp value e does. no_value stamp value e), (λ stamp value e does. no_stored stamp e))

-- what the test of a dead end that was given tells
pub dead_and_counted : (dead : Bool) (counted : Option Stamp) → (dead && is_some counted) ≡ true → (dead ≡ true) × ((stamp : Stamp) × (counted ≡ Some stamp))
dead_and_counted true (Some stamp) h = (refl, (stamp, refl))
dead_and_counted true None h = absurd (cc h)
dead_and_counted false counted h = absurd (cc h)

pub not_dead_or_uncounted : (dead : Bool) (counted : Option Stamp) → (dead && is_some counted) ≡ false → dead ≡ true → counted ≡ None
not_dead_or_uncounted true (Some stamp) h is = absurd (cc h)
not_dead_or_uncounted true None h is = refl
not_dead_or_uncounted false counted h is = absurd (cc is)

-- an end is an end
pub over_by : (ending : Ending) (dead : Bool) → ending ≡ cond dead Dead Ended → ending ≢ Open
over_by ending true e = λ open_. absurd (let f = sym e ∙ open_ in cc f)
over_by ending false e = λ open_. absurd (let f = sym e ∙ open_ in cc f)
