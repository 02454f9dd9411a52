-- A call ends once, and tells it.
use Rattle.std.proofs.Common.{◌≡◌, ℕ, Bool, true, false, refl, sym, ap, ◌∙◌}
use Rattle.std.specs.Prelude.{Option, Some, None, is_some, not, ◌&&◌, ◌==◌, nat_lt, if◌then◌else◌}
use Rattle.std.specs.Option.{option_map}
use Rattle.std.specs.Ordering.{is_gt, is_ge}
use Rattle.span_base.specs.declared.policy.Quorum.{Quorum}
use Rattle.ticket_rules.specs.declared.stamp.Stamp.{Stamp}
use Rattle.ticket_rules.specs.Stamp.{stamp_cmp}
use Rattle.wire_msg.specs.declared.message.Message.{Message}
use Rattle.wire_msg.specs.declared.message.Message.TheVariants as m
use Rattle.wire_msg.specs.declared.outputs.View.{View}
use Rattle.call_phase.specs.declared.best.Found.{Found}
use Rattle.call_phase.specs.Counting.{counts, counts_without_replica, has_quorum, is_lost}
use Rattle.strong_proxy.specs.declared.progress.Stage.{Stage}
use Rattle.strong_proxy.specs.declared.progress.Stage.TheVariants.{First, Second, Looking, Ended}
use Rattle.strong_proxy.specs.declared.progress.Progress.{Progress}
use Rattle.strong_proxy.specs.declared.state.Work.{Work}
use Rattle.strong_proxy.specs.declared.state.Work.TheVariants.{ToRead, ToWrite}
use Rattle.strong_proxy.specs.declared.state.CallState.{CallState}
use Rattle.strong_proxy.specs.declared.next.Next.{Next}
use Rattle.strong_proxy.specs.declared.next.Next.TheVariants.{Wait, Value, Repair, Store, Stored, Fenced, Unsure, Look, Moved, Outside, NumbersOut, Enter}
use Rattle.span_base.specs.PolicyParts.{member_of}
use Rattle.strong_proxy.specs.Rule.{leg_under}
use Rattle.strong_proxy.specs.Counting.{takes_have, takes_yes, takes_held, takes_gone, takes_here, is_counted, best_after, progress_after, counted}
use Rattle.strong_proxy.specs.Rule.{decided, go_over, answer_or_repair, next_ticket, enter, verdict_at}
use Rattle.strong_proxy.specs.Rule.{value_reply}
use Rattle.strong_proxy.specs.Lawful.{has_ended, keeps_best, KeepsBest}
use Rattle.strong_proxy.specs.Rule.{done, next_of, best_stamp}

-- what a call does next is backed by what it keeps
abbrev pub Backed : Work → Option Stamp → Next → Type 0
Backed work best Value = is_some best ≡ true
Backed ToRead best Store = ⊥
Backed (ToWrite value) best Store = Unit {0}
Backed work best Repair = is_some best ≡ true
Backed work best Wait = Unit {0}
Backed work best Stored = Unit {0}
Backed work best Fenced = Unit {0}
Backed work best Unsure = Unit {0}
Backed work best Look = Unit {0}
Backed work best Moved = Unit {0}
Backed work best Outside = Unit {0}
Backed work best NumbersOut = Unit {0}
Backed work best (Enter leg) = Unit {0}

decided_backed : (work : Work) (best : Option Stamp) (p : Progress) (good lost : Next) → Backed work best good → Backed work best lost → Backed work best (decided p good lost)
decided_backed work best p good lost g l =
    elim (has_quorum p.leg.f p.phase) as (λ t. Backed work best (if t then good else (if is_lost p.leg.f p.phase then lost else Wait))) [
      | true ↦ g
      | false ↦ elim (is_lost p.leg.f p.phase) as (λ t. Backed work best (if t then lost else Wait)) [ true ↦ l | false ↦ tt ]
    ]

go_over_backed : (work : Work) (best : Option Stamp) (p : Progress) → Backed work best (go_over p)
go_over_backed work best p = elim (nat_lt p.lookups 4) as (λ t. Backed work best (if t then Look else Moved)) [ true ↦ tt | false ↦ tt ]

answer_or_repair-backed : (work : Work) (mark : Stamp) (best : Option Stamp) → Backed work best (answer_or_repair mark best)
answer_or_repair-backed work mark None = tt
answer_or_repair-backed work mark (Some version) =
    elim (is_ge (stamp_cmp mark version)) as (λ t. Backed work (Some version) (if t then Value else Repair)) [ true ↦ refl | false ↦ refl ]

enter_backed : (member : Option Quorum) (work : Work) (best : Option Stamp) (p : Progress) (view : View) (seen : ℕ) → Backed work best (enter member work p view seen)
enter_backed None work best p view seen = tt
enter_backed (Some member) ToRead best p view seen = tt
enter_backed (Some member) (ToWrite value) best p view seen =
    elim (seen == 18446744073709551615) as (λ t. Backed (ToWrite value) best (if t then NumbersOut else Enter (leg_under view member (next_ticket view seen p))))
    [ true ↦ tt | false ↦ tt ]

verdict_backed : (stage : Stage) (work : Work) (best : Option Stamp) (p : Progress) (view : View) (seen : ℕ) → keeps_best stage work (is_some best) ≡ true → Backed work best (verdict_at stage work best p view seen)
verdict_backed First ToRead best p view seen h =
    decided_backed ToRead best p (answer_or_repair p.top_mark best) (go_over p) (answer_or_repair-backed ToRead p.top_mark best) (go_over_backed ToRead best p)
verdict_backed First (ToWrite value) best p view seen h =
    decided_backed (ToWrite value) best p Store (if p.had_gone then go_over p else Fenced) tt
    (elim p.had_gone as (λ b. Backed (ToWrite value) best (if b then go_over p else Fenced)) [ true ↦ go_over_backed (ToWrite value) best p | false ↦ tt ])
verdict_backed Second ToRead best p view seen h = decided_backed ToRead best p Value (go_over p) h (go_over_backed ToRead best p)
verdict_backed Second (ToWrite value) best p view seen h = decided_backed (ToWrite value) best p Stored Unsure tt tt
verdict_backed Looking work best p view seen h =
    elim (nat_lt p.leg.epoch view.epoch) as (λ b. Backed work best (if b then enter (member_of view.policy p.at.0) work p view seen else go_over p))
    [ true ↦ enter_backed (member_of view.policy p.at.0) work best p view seen | false ↦ go_over_backed work best p ]
verdict_backed Ended work best p view seen h = tt

-- a version is kept where one was
best_after-kept : (best : Option Found) (message : Message) → is_some best ≡ true → is_some (best_after best message) ≡ true
best_after-kept None message h = absurd (cc)
best_after-kept (Some found) (m.Have tag replica version mark value) h =
    elim (is_gt (stamp_cmp version found.stamp)) as (λ t. is_some (if t then Some (record { stamp = version; value = value }) else Some found) ≡ true)
    [ true ↦ refl | false ↦ refl ]
best_after-kept (Some found) _ h = refl

keeps_best-more : (stage : Stage) (work : Work) (a b : Bool) → (a ≡ true → b ≡ true) → keeps_best stage work a ≡ true → keeps_best stage work b ≡ true
keeps_best-more First work a b more h = refl
keeps_best-more Second ToRead a b more h = more h
keeps_best-more Second (ToWrite value) a b more h = refl
keeps_best-more Looking work a b more h = refl
keeps_best-more Ended work a b more h = refl

pub progress_after-stage : (p : Progress) (message : Message) → (progress_after p message).stage ≡ p.stage
progress_after-stage p (m.Have tag replica version mark value) = refl
progress_after-stage p (m.Yes tag replica) = refl
progress_after-stage p (m.Held tag replica stamp) = refl
progress_after-stage p (m.Gone tag replica epoch) = refl
progress_after-stage p _ = refl

pub progress_after-key : (p : Progress) (message : Message) → (progress_after p message).key ≡ p.key
progress_after-key p (m.Have tag replica version mark value) = refl
progress_after-key p (m.Yes tag replica) = refl
progress_after-key p (m.Held tag replica stamp) = refl
progress_after-key p (m.Gone tag replica epoch) = refl
progress_after-key p _ = refl

best_stamp-is_some : (best : Option Found) → is_some (best_stamp best) ≡ is_some best
best_stamp-is_some None = refl
best_stamp-is_some (Some found) = refl

counted_keeps : (call : CallState) (message : Message) → KeepsBest call → KeepsBest (counted call message)
counted_keeps call message h =
    let stage = progress_after-stage call.progress message in
    rw stage (keeps_best-more call.progress.stage call.work (is_some call.best) (is_some (best_after call.best message)) (best_after-kept call.best message) h)

keeps_second : (work : Work) (kept : Bool) → kept ≡ true → keeps_best Second work kept ≡ true
keeps_second ToRead kept h = h
keeps_second (ToWrite value) kept h = refl

keeps_store : (work : Work) (best : Option Stamp) (kept : Bool) → Backed work best Store → keeps_best Second work kept ≡ true
keeps_store ToRead best kept h = absurd h
keeps_store (ToWrite value) best kept h = refl

done_keeps : (next : Next) (call : CallState) → KeepsBest call → Backed call.work (best_stamp call.best) next → KeepsBest (done next call).state
done_keeps Wait call h b = h
done_keeps Repair call h b = keeps_second call.work (is_some call.best) (sym (best_stamp-is_some call.best) ∙ b)
done_keeps Store call h b = keeps_store call.work (best_stamp call.best) (is_some call.best) b
done_keeps Value call h b = refl
done_keeps Stored call h b = refl
done_keeps Fenced call h b = refl
done_keeps Unsure call h b = refl
done_keeps Look call h b = refl
done_keeps Moved call h b = refl
done_keeps Outside call h b = refl
done_keeps NumbersOut call h b = refl
done_keeps (Enter leg) call h b = refl

value_reply-is_some : (best : Option Found) → is_some (best_stamp best) ≡ true → is_some (option_map value_reply best) ≡ true
value_reply-is_some None h = h
value_reply-is_some (Some found) h = refl

done_ends : (next : Next) (call : CallState) → has_ended call.progress.stage ≡ false → Backed call.work (best_stamp call.best) next → is_some (done next call).out.end ≡ has_ended (done next call).state.progress.stage
done_ends Wait call live b = sym live
done_ends Value call live b = value_reply-is_some call.best b
done_ends Repair call live b = refl
done_ends Store call live b = refl
done_ends Stored call live b = refl
done_ends Fenced call live b = refl
done_ends Unsure call live b = refl
done_ends Look call live b = refl
done_ends Moved call live b = refl
done_ends Outside call live b = refl
done_ends NumbersOut call live b = refl
done_ends (Enter leg) call live b = refl

live_gone : (stage : Stage) (counts : Bool) → (takes_gone stage && counts) ≡ true → has_ended stage ≡ false
live_gone First counts h = refl
live_gone Second counts h = refl
live_gone Looking counts h = refl
live_gone Ended counts h = absurd (cc)

live_here : (stage : Stage) (counts : Bool) → (takes_here stage && counts) ≡ true → has_ended stage ≡ false
live_here First counts h = refl
live_here Second counts h = refl
live_here Looking counts h = refl
live_here Ended counts h = absurd (cc)

live_yes : (work : Work) (stage : Stage) (counts : Bool) → (takes_yes work stage && counts) ≡ true → has_ended stage ≡ false
live_yes ToRead First counts h = refl
live_yes ToRead Second counts h = refl
live_yes ToRead Looking counts h = refl
live_yes ToRead Ended counts h = absurd (cc)
live_yes (ToWrite value) First counts h = refl
live_yes (ToWrite value) Second counts h = refl
live_yes (ToWrite value) Looking counts h = refl
live_yes (ToWrite value) Ended counts h = absurd (cc)

live_have : (work : Work) (stage : Stage) (counts : Bool) → (takes_have work stage && counts) ≡ true → has_ended stage ≡ false
live_have ToRead First counts h = refl
live_have ToRead Second counts h = refl
live_have ToRead Looking counts h = refl
live_have ToRead Ended counts h = absurd (cc)
live_have (ToWrite value) First counts h = refl
live_have (ToWrite value) Second counts h = refl
live_have (ToWrite value) Looking counts h = refl
live_have (ToWrite value) Ended counts h = absurd (cc)

live_held : (work : Work) (stage : Stage) (counts : Bool) → (takes_held work stage && counts) ≡ true → has_ended stage ≡ false
live_held ToRead First counts h = refl
live_held ToRead Second counts h = refl
live_held ToRead Looking counts h = refl
live_held ToRead Ended counts h = absurd (cc)
live_held (ToWrite value) First counts h = refl
live_held (ToWrite value) Second counts h = refl
live_held (ToWrite value) Looking counts h = refl
live_held (ToWrite value) Ended counts h = absurd (cc)

-- a call that counts an answer hasn't ended
counted_live : (call : CallState) (message : Message) → is_counted call message ≡ true → has_ended call.progress.stage ≡ false
counted_live call (m.Have tag replica version mark value) h = live_have call.work call.progress.stage (counts call.progress.phase tag replica) h
counted_live call (m.Yes tag replica) h = live_yes call.work call.progress.stage (counts call.progress.phase tag replica) h
counted_live call (m.Held tag replica stamp) h = live_held call.work call.progress.stage (counts call.progress.phase tag replica) h
counted_live call (m.Gone tag replica epoch) h = live_gone call.progress.stage (counts call.progress.phase tag replica) h
counted_live call (m.Here tag key epoch policy latest_epoch latest_policy) h = live_here call.progress.stage (counts_without_replica call.progress.phase tag) h
counted_live call _ h = absurd (cc)

and_true : (b c : Bool) → c ≡ false → b ≡ (b && not c)
and_true true c h = rw h
and_true false c h = refl

next_backed : (call : CallState) (view : View) (seen : ℕ) → KeepsBest call → Backed call.work (best_stamp call.best) (next_of call view seen)
next_backed call view seen h =
    verdict_backed call.progress.stage call.work (best_stamp call.best) call.progress view seen (rw (best_stamp-is_some call.best) h)

-- the call keeps the version that it repairs
pub answer_keeps : (call : CallState) (message : Message) (view : View) (seen : ℕ) → KeepsBest call → KeepsBest (done (next_of (counted call message) view seen) (counted call message)).state
answer_keeps call message view seen h =
    let kept : KeepsBest (counted call message) = counted_keeps call message h in
    done_keeps (next_of (counted call message) view seen) (counted call message) kept (next_backed (counted call message) view seen kept)

-- the call ends once, and tells it
pub answer_ends : (call : CallState) (message : Message) (view : View) (seen : ℕ) → KeepsBest call → is_counted call message ≡ true → is_some (done (next_of (counted call message) view seen) (counted call message)).out.end ≡ (has_ended (done (next_of (counted call message) view seen) (counted call message)).state.progress.stage && not (has_ended call.progress.stage))
answer_ends call message view seen h is =
    let now : CallState = counted call message in
    let next : Next = next_of now view seen in
    let live : has_ended call.progress.stage ≡ false = counted_live call message is in
    let live_now : has_ended now.progress.stage ≡ false = ap has_ended (progress_after-stage call.progress message) ∙ live in
    done_ends next now live_now (next_backed now view seen (counted_keeps call message h))
    ∙ and_true (has_ended (done next now).state.progress.stage) (has_ended call.progress.stage) live
