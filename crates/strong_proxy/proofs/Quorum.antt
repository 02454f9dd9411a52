-- A write ends as stored only once all but at most f of its write set said Yes to its Store.
use Rattle.std.proofs.Common.{◌≡◌, ℕ, ◌+◌, ◌≤◌, Bool, true, false, refl, sym, ap, ◌∙◌, subst, arith, length}
use Rattle.std.specs.Prelude.{◌≢◌, Option, Some, None, nat_lt, nat_le, ◌==◌, if◌then◌else◌}
use Rattle.std.specs.Option.{option_map}
use Rattle.std.specs.Ordering.{is_ge}
use Rattle.std.proofs.lemmas.Bool.Decides.{nat_tests}
use Rattle.span_base.specs.declared.policy.Quorum.{Quorum}
use Rattle.span_base.specs.declared.dc_set.DcSet.{DcSet}
use Rattle.span_base.specs.DcSet.{centres_of}
use Rattle.span_base.specs.PolicyParts.{member_of}
use Rattle.ticket_rules.specs.declared.stamp.Stamp.{Stamp}
use Rattle.ticket_rules.specs.Stamp.{stamp_cmp}
use Rattle.wire_msg.specs.declared.message.Message.{Message}
use Rattle.wire_msg.specs.declared.message.Message.TheVariants as m
use Rattle.wire_msg.specs.declared.outputs.Reply.{Reply}
use Rattle.wire_msg.specs.declared.outputs.Reply.TheVariants as r
use Rattle.wire_msg.specs.declared.outputs.View.{View}
use Rattle.call_phase.specs.declared.best.Found.{Found}
use Rattle.call_phase.specs.Counting.{has_quorum, is_lost}
use Rattle.strong_proxy.specs.declared.progress.Leg.{Leg}
use Rattle.strong_proxy.specs.declared.progress.Progress.{Progress}
use Rattle.strong_proxy.specs.declared.progress.Stage.{Stage}
use Rattle.strong_proxy.specs.declared.progress.Stage.TheVariants.{First, Second, Looking, Ended}
use Rattle.strong_proxy.specs.declared.state.Work.{Work}
use Rattle.strong_proxy.specs.declared.state.Work.TheVariants.{ToRead, ToWrite}
use Rattle.strong_proxy.specs.declared.state.CallState.{CallState}
use Rattle.strong_proxy.specs.declared.next.Next.{Next}
use Rattle.strong_proxy.specs.declared.next.Next.TheVariants.{Wait, Value, Repair, Store, Stored, Fenced, Unsure, Look, Moved, Outside, NumbersOut, Enter}
use Rattle.strong_proxy.specs.Counting.{is_counted, counted}
use Rattle.strong_proxy.specs.Rule.{leg_under, decided, go_over, answer_or_repair, next_ticket, enter, verdict_at, best_stamp, done, next_of, nothing_done, value_reply, step}
use Rattle.strong_proxy.specs.Lawful.{asked_at, IsLawfulCall, IsStoredBy, StoredAtQuorum}
use Rattle.strong_proxy.proofs.Endings.{progress_after-stage}
use Rattle.strong_proxy.proofs.Asked.{progress_after-leg, progress_after-asked}

-- the call ends as stored, or does something else
abbrev is_stored : Next → Bool
is_stored Stored = true
is_stored _ = false

-- the reply tells that a write is stored
abbrev tells_stored : Option Reply → Bool
tells_stored (Some (r.Stored stamp)) = true
tells_stored _ = false

value_not : (best : Option Found) → tells_stored (option_map value_reply best) ≡ false
value_not None = refl
value_not (Some found) = refl

-- only one case of what comes next ends a call so
tells : (next : Next) (call : CallState) → tells_stored (done next call).out.end ≡ is_stored next
tells Wait call = refl
tells Value call = value_not call.best
tells Repair call = refl
tells Store call = refl
tells Stored call = refl
tells Fenced call = refl
tells Unsure call = refl
tells Look call = refl
tells Moved call = refl
tells Outside call = refl
tells NumbersOut call = refl
tells (Enter leg) call = refl

neither : (p : Progress) (good lost : Next) → is_stored good ≡ false → is_stored lost ≡ false → is_stored (decided p good lost) ≡ false
neither p good lost g l =
    elim (has_quorum p.leg.f p.phase) as (λ t. is_stored (if t then good else (if is_lost p.leg.f p.phase then lost else Wait)) ≡ false) [
      | true ↦ g
      | false ↦ elim (is_lost p.leg.f p.phase) as (λ t. is_stored (if t then lost else Wait) ≡ false) [ true ↦ l | false ↦ refl ]
    ]

go_over_not : (p : Progress) → is_stored (go_over p) ≡ false
go_over_not p = elim (nat_lt p.lookups 4) as (λ t. is_stored (if t then Look else Moved) ≡ false) [ true ↦ refl | false ↦ refl ]

answer_not : (mark : Stamp) (best : Option Stamp) → is_stored (answer_or_repair mark best) ≡ false
answer_not mark None = refl
answer_not mark (Some version) = elim (is_ge (stamp_cmp mark version)) as (λ t. is_stored (if t then Value else Repair) ≡ false) [ true ↦ refl | false ↦ refl ]

enter_not : (member : Option Quorum) (work : Work) (p : Progress) (view : View) (seen : ℕ) → is_stored (enter member work p view seen) ≡ false
enter_not None work p view seen = refl
enter_not (Some member) ToRead p view seen = refl
enter_not (Some member) (ToWrite value) p view seen =
    elim (seen == 18446744073709551615) as (λ t. is_stored (if t then NumbersOut else Enter (leg_under view member (next_ticket view seen p))) ≡ false)
    [ true ↦ refl | false ↦ refl ]

-- a write's second phase, that all but f of those asked did
record IsDone (stage : Stage) (work : Work) (p : Progress) : Type 0 where
  pub write : work ≢ ToRead
  pub stage_is : stage ≡ Second
  pub quorum : has_quorum p.leg.f p.phase ≡ true

quorum_of : (p : Progress) → is_stored (decided p Stored Unsure) ≡ true → has_quorum p.leg.f p.phase ≡ true
quorum_of p h = go (has_quorum p.leg.f p.phase) refl
  where
    go : (t : Bool) → has_quorum p.leg.f p.phase ≡ t → has_quorum p.leg.f p.phase ≡ true
    go true e = e
    go false e =
        let lost : is_stored (if is_lost p.leg.f p.phase then Unsure else Wait) ≡ false = elim (is_lost p.leg.f p.phase) as (λ t. is_stored (if t then Unsure else Wait) ≡ false) [ true ↦ refl | false ↦ refl ] in
        absurd (cc (h, e, lost))

stored_at : (stage : Stage) (work : Work) (best : Option Stamp) (p : Progress) (view : View) (seen : ℕ) → is_stored (verdict_at stage work best p view seen) ≡ true → IsDone stage work p
stored_at First ToRead best p view seen h = absurd (cc (h, neither p (answer_or_repair p.top_mark best) (go_over p) (answer_not p.top_mark best) (go_over_not p)))
stored_at First (ToWrite value) best p view seen h =
    let lost : is_stored (if p.had_gone then go_over p else Fenced) ≡ false = elim p.had_gone as (λ b. is_stored (if b then go_over p else Fenced) ≡ false) [ true ↦ go_over_not p | false ↦ refl ] in
    absurd (cc (h, neither p Store (if p.had_gone then go_over p else Fenced) refl lost))
stored_at Second ToRead best p view seen h = absurd (cc (h, neither p Value (go_over p) refl (go_over_not p)))
stored_at Second (ToWrite value) best p view seen h = record { write = λ e. cc e; stage_is = refl; quorum = quorum_of p h }
stored_at Looking work best p view seen h =
    let not_so : is_stored (if nat_lt p.leg.epoch view.epoch then enter (member_of view.policy p.at.0) work p view seen else go_over p) ≡ false =
    elim (nat_lt p.leg.epoch view.epoch) as (λ b. is_stored (if b then enter (member_of view.policy p.at.0) work p view seen else go_over p) ≡ false)
    [ true ↦ enter_not (member_of view.policy p.at.0) work p view seen | false ↦ go_over_not p ] in
    absurd (cc (h, not_so))
stored_at Ended work best p view seen h = absurd (cc h)

-- only the leg's ticket is told
ticket_of : (next : Next) (call : CallState) (stamp : Stamp) → is_stored next ≡ true → (done next call).out.end ≡ Some (r.Stored stamp) → stamp ≡ call.progress.leg.ticket
ticket_of Stored call stamp h e = cc e
ticket_of Wait call stamp h e = absurd (cc h)
ticket_of Value call stamp h e = absurd (cc h)
ticket_of Repair call stamp h e = absurd (cc h)
ticket_of Store call stamp h e = absurd (cc h)
ticket_of Fenced call stamp h e = absurd (cc h)
ticket_of Unsure call stamp h e = absurd (cc h)
ticket_of Look call stamp h e = absurd (cc h)
ticket_of Moved call stamp h e = absurd (cc h)
ticket_of Outside call stamp h e = absurd (cc h)
ticket_of NumbersOut call stamp h e = absurd (cc h)
ticket_of (Enter leg) call stamp h e = absurd (cc h)

within : (a b : ℕ) → nat_le a b ≡ true → a ≤ b
within a b h = grind (arith, nat_tests)

at_second : (stage : Stage) (p : Progress) → stage ≡ Second → p.phase.asked ≡ asked_at stage p → p.phase.asked ≡ p.leg.writes
at_second Second p is h = h
at_second First p is h = absurd (cc is)
at_second Looking p is h = absurd (cc is)
at_second Ended p is h = absurd (cc is)

stored_by : (call : CallState) (message : Message) (view : View) (seen : ℕ) (stamp : Stamp) → IsLawfulCall call → (t : Bool) → (if t then done (next_of (counted call message) view seen) (counted call message) else nothing_done call).out.end ≡ Some (r.Stored stamp) → IsStoredBy call message stamp
stored_by call message view seen stamp lawful false e = absurd (cc e)
stored_by call message view seen stamp lawful true e =
    let now : CallState = counted call message in
    let next : Next = next_of now view seen in
    let is : is_stored next ≡ true = sym (tells next now) ∙ ap tells_stored e in
    let stored : IsDone now.progress.stage now.work now.progress = stored_at now.progress.stage now.work (best_stamp now.best) now.progress view seen is in
    let second : call.progress.stage ≡ Second = sym (progress_after-stage call.progress message) ∙ stored.stage_is in
    let leg : now.progress.leg ≡ call.progress.leg = progress_after-leg call.progress message in
    let asked : now.progress.phase.asked ≡ call.progress.phase.asked = progress_after-asked call.progress message in
    let writes : call.progress.phase.asked ≡ call.progress.leg.writes = at_second call.progress.stage call.progress second lawful.asked in
    let enough : length (centres_of now.progress.phase.asked) ≤ length (centres_of now.progress.phase.good) + now.progress.leg.f =
    within (length (centres_of now.progress.phase.asked)) (length (centres_of now.progress.phase.good) + now.progress.leg.f) stored.quorum in
    record {
      write = stored.write;
      stage = second;
      asked = writes;
      quorum = subst (λ (set : DcSet). length (centres_of set) ≤ length (centres_of now.progress.phase.good) + call.progress.leg.f) (asked ∙ writes)
          (subst (λ (leg : Leg). length (centres_of now.progress.phase.asked) ≤ length (centres_of now.progress.phase.good) + leg.f) leg enough);
      ticket = ticket_of next now stamp is e ∙ ap (λ (leg : Leg). leg.ticket) leg;
    }

pub stored_at_quorum : StoredAtQuorum
unfolding step
stored_at_quorum call message view seen stamp lawful ended = stored_by call message view seen stamp lawful (is_counted call message) ended
