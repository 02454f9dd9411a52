-- A strong call stays within the ranges of a log, with all that it puts out.
use Rattle.std.proofs.Common.{◌≡◌, ℕ, ◌+◌, ◌≤◌, Bool, true, false, refl, sym, subst, arith}
use Rattle.std.specs.Prelude.{nat_lt, ◌==◌, if◌then◌else◌, Option, Some, None}
use Rattle.std.specs.Option.{option_map}
use Rattle.std.specs.Ordering.{is_ge}
use Rattle.std.proofs.lemmas.Grind.{common_steps}
use Rattle.span_base.specs.declared.policy.Quorum.{Quorum}
use Rattle.span_base.specs.PolicyParts.{member_of}
use Rattle.ticket_rules.specs.declared.stamp.Stamp.{Stamp}
use Rattle.ticket_rules.specs.Stamp.{stamp_cmp}
use Rattle.wire_msg.specs.declared.tag.Tag.{Tag}
use Rattle.wire_msg.specs.declared.actor.Actor.TheVariants as to
use Rattle.wire_msg.specs.declared.message.Message.{Message}
use Rattle.wire_msg.specs.declared.message.Message.TheVariants as m
use Rattle.wire_msg.specs.declared.outputs.Reply.TheVariants as r
use Rattle.wire_msg.specs.declared.outputs.View.{View}
use Rattle.wire_msg.specs.Outputs.{Step}
use Rattle.call_phase.specs.declared.best.Found.{Found}
use Rattle.call_phase.specs.Counting.{has_quorum, is_lost}
use Rattle.strong_proxy.specs.declared.progress.Leg.{Leg}
use Rattle.strong_proxy.specs.declared.progress.Stage.{Stage}
use Rattle.strong_proxy.specs.declared.progress.Stage.TheVariants.{First, Second, Looking, Ended}
use Rattle.strong_proxy.specs.declared.progress.Progress.{Progress}
use Rattle.strong_proxy.specs.declared.state.Work.{Work}
use Rattle.strong_proxy.specs.declared.state.Work.TheVariants.{ToRead, ToWrite}
use Rattle.strong_proxy.specs.declared.state.CallState.{CallState}
use Rattle.strong_proxy.specs.declared.next.Next.{Next}
use Rattle.strong_proxy.specs.declared.next.Next.TheVariants.{Wait, Value, Repair, Store, Stored, Fenced, Unsure, Look, Moved, Outside, NumbersOut, Enter}
use Rattle.strong_proxy.specs.Counting.{counted, held_after}
use Rattle.strong_proxy.specs.Rule.{leg_under, decided, go_over, answer_or_repair, first_verdict, second_verdict, next_ticket, enter_as, enter, verdict_at, tag_after, first_posts, repair_posts, store_posts, lookup_posts, value_reply, leg_ticket, done, next_of, best_stamp}
use Rattle.register_law.proofs.Basics.{Each, each_none, each_one, each_to}
use Rattle.register_law.proofs.CallsOthers.{StrongStep, counts_it, ignores_it}
use Rattle.register_law.proofs.MovesStep.{counted_tag}
use Rattle.history_audit.specs.Ranges.{FitsCall, FitsStamp}
use Rattle.log_law.specs.Fits.{FitsEpoch, FitsMessage, FitsFound, FitsStrongWork, FitsStrong}
use Rattle.log_law.proofs.Basics.{zero_fits, chosen, greater_fits, better_fits, max_fits, FitsOut, FitsEnd, FitsTicket, nothing_fits, posts_fit, end_fits}

-- what a step makes of the call
pub record StepFits (step : (Step CallState)) : Type 0 where
  pub state : FitsStrong step.state
  pub out : FitsOut step.out

held_fits : (stage : Stage) (top stamp : Stamp) → FitsStamp top → FitsStamp stamp → FitsStamp (held_after stage top stamp)
held_fits First top stamp h k = greater_fits top stamp h k
held_fits Second top stamp h k = h
held_fits Looking top stamp h k = h
held_fits Ended top stamp h k = h

counted_fits : (call : CallState) (message : Message) → FitsMessage message → FitsStrong call → FitsStrong (counted call message)
counted_fits call (m.Have tag replica version mark value) f c = record { work = c.work; best = better_fits call.best version value c.best f.0 f.2; ticket = c.ticket; held = c.held; gone = c.gone }
counted_fits call (m.Yes tag replica) f c = record { work = c.work; best = c.best; ticket = c.ticket; held = c.held; gone = c.gone }
counted_fits call (m.Held tag replica stamp) f c =
    record { work = c.work; best = c.best; ticket = c.ticket; held = held_fits call.progress.stage call.progress.top_held stamp c.held f; gone = c.gone }
counted_fits call (m.Gone tag replica epoch) f c = record { work = c.work; best = c.best; ticket = c.ticket; held = c.held; gone = max_fits call.progress.top_gone epoch c.gone f }
counted_fits call _ f c = record { work = c.work; best = c.best; ticket = c.ticket; held = c.held; gone = c.gone }

-- a new leg has a ticket that fits
abbrev NextFits : Next → Type 0
NextFits Wait = Unit {0}
NextFits Value = Unit {0}
NextFits Repair = Unit {0}
NextFits Store = Unit {0}
NextFits Stored = Unit {0}
NextFits Fenced = Unit {0}
NextFits Unsure = Unit {0}
NextFits Look = Unit {0}
NextFits Moved = Unit {0}
NextFits Outside = Unit {0}
NextFits NumbersOut = Unit {0}
NextFits (Enter leg) = FitsStamp leg.ticket

go_fits : (p : Progress) → NextFits (go_over p)
go_fits p = chosen NextFits (nat_lt p.lookups 4) Look Moved tt tt

decided_fits : (p : Progress) (good lost : Next) → NextFits good → NextFits lost → NextFits (decided p good lost)
decided_fits p good lost g l =
    chosen NextFits (has_quorum p.leg.f p.phase) good (if is_lost p.leg.f p.phase then lost else Wait) g (chosen NextFits (is_lost p.leg.f p.phase) lost Wait l tt)

answer_fits : (mark : Stamp) (best : Option Stamp) → NextFits (answer_or_repair mark best)
answer_fits mark None = tt
answer_fits mark (Some version) = chosen NextFits (is_ge (stamp_cmp mark version)) Value Repair tt tt

first_fits : (work : Work) (best : Option Stamp) (p : Progress) → NextFits (first_verdict work best p)
first_fits ToRead best p = decided_fits p (answer_or_repair p.top_mark best) (go_over p) (answer_fits p.top_mark best) (go_fits p)
first_fits (ToWrite value) best p = decided_fits p Store (if p.had_gone then go_over p else Fenced) tt (chosen NextFits p.had_gone (go_over p) Fenced (go_fits p) tt)

second_fits : (work : Work) (p : Progress) → NextFits (second_verdict work p)
second_fits ToRead p = decided_fits p Value (go_over p) tt (go_fits p)
second_fits (ToWrite value) p = decided_fits p Stored Unsure tt tt

-- what the proxy knows, and whose the call is
pub record FitsTurn (call : CallState) (view : View) (seen : ℕ) : Type 0 where
  pub own : FitsCall call.progress.phase.tag.call
  pub known : FitsEpoch view.epoch
  pub number : seen ≤ 18446744073709551615

pub not_last : (seen : ℕ) → (seen == 18446744073709551615) ≡ false → seen ≤ 18446744073709551615 → seen + 1 ≤ 18446744073709551615
not_last seen h le = grind (arith, common_steps)

ticket_fits : (p : Progress) (view : View) (seen : ℕ) → FitsCall p.phase.tag.call → FitsEpoch view.epoch → seen + 1 ≤ 18446744073709551615 → FitsStamp (next_ticket view seen p)
ticket_fits p view seen c v n = record { epoch = v; number = n; proxy = c.proxy; seq = c.seq }

enter_as_fits : (work : Work) (member : Quorum) (p : Progress) (view : View) (seen : ℕ) → FitsCall p.phase.tag.call → FitsEpoch view.epoch → seen ≤ 18446744073709551615 → NextFits (enter_as work member p view seen)
enter_as_fits ToRead member p view seen c v s = zero_fits
enter_as_fits (ToWrite value) member p view seen c v s = by (seen == 18446744073709551615) refl
  where
    by : (b : Bool) → (seen == 18446744073709551615) ≡ b → NextFits (if b then NumbersOut else Enter (leg_under view member (next_ticket view seen p)))
    by true is = tt
    by false is = ticket_fits p view seen c v (not_last seen is s)

enter_fits : (o : Option Quorum) (work : Work) (p : Progress) (view : View) (seen : ℕ) → FitsCall p.phase.tag.call → FitsEpoch view.epoch → seen ≤ 18446744073709551615 → NextFits (enter o work p view seen)
enter_fits None work p view seen c v s = tt
enter_fits (Some member) work p view seen c v s = enter_as_fits work member p view seen c v s

verdict_fits : (stage : Stage) (work : Work) (best : Option Stamp) (p : Progress) (view : View) (seen : ℕ) → FitsCall p.phase.tag.call → FitsEpoch view.epoch → seen ≤ 18446744073709551615 → NextFits (verdict_at stage work best p view seen)
verdict_fits First work best p view seen c v s = first_fits work best p
verdict_fits Second work best p view seen c v s = second_fits work p
verdict_fits Looking work best p view seen c v s =
    chosen NextFits (nat_lt p.leg.epoch view.epoch) (enter (member_of view.policy p.at.0) work p view seen) (go_over p) (enter_fits (member_of view.policy p.at.0) work p view seen c v s) (go_fits p)
verdict_fits Ended work best p view seen c v s = tt

-- what is sent
repair_fits : (best : Option Found) (p : Progress) → FitsFound best → Each FitsMessage (repair_posts best p)
repair_fits None p h = each_none FitsMessage
repair_fits (Some found) p h = each_to FitsMessage p.leg.writes (m.Repair (tag_after p) p.key p.leg.epoch found.stamp found.value) h

store_fits : (work : Work) (p : Progress) → FitsStrongWork work → FitsStamp p.leg.ticket → Each FitsMessage (store_posts work p)
store_fits ToRead p h t = each_none FitsMessage
store_fits (ToWrite value) p h t = each_to FitsMessage p.leg.writes (m.Store (tag_after p) p.key p.leg.ticket value) (t, h)

pub first_posts_fit : (work : Work) (key : _) (tag : Tag) (leg : Leg) → FitsStamp leg.ticket → Each FitsMessage (first_posts work key tag leg)
first_posts_fit ToRead key tag leg t = each_to FitsMessage leg.reads (m.Read tag key leg.epoch) tt
first_posts_fit (ToWrite value) key tag leg t = each_to FitsMessage leg.writes (m.Ask tag key leg.ticket) t

lookup_fits : (p : Progress) → Each FitsMessage (lookup_posts p)
lookup_fits p = each_one FitsMessage (record { to = to.Directory; message = m.Lookup (tag_after p) p.key }) tt

value_fits : (best : Option Found) → FitsFound best → FitsEnd (option_map value_reply best)
value_fits None h = tt
value_fits (Some found) h = h

drawn_fits : (work : Work) (leg : Leg) → FitsStamp leg.ticket → FitsTicket (leg_ticket work leg)
drawn_fits ToRead leg h = tt
drawn_fits (ToWrite value) leg h = h

-- the same call, further on
further : (call : CallState) (p : Progress) → FitsStamp p.leg.ticket → FitsStamp p.top_held → FitsEpoch p.top_gone → FitsStrong call → FitsStrong (record call { progress = p })
further call p t h g c = record { work = c.work; best = c.best; ticket = t; held = h; gone = g }

done_fits : (next : Next) (call : CallState) → NextFits next → FitsStrong call → StepFits (done next call)
done_fits Wait call n c = record { state = c; out = nothing_fits }
done_fits Value call n c = record { state = record { work = c.work; best = tt; ticket = c.ticket; held = c.held; gone = c.gone }; out = end_fits (option_map value_reply call.best) (value_fits call.best c.best) }
done_fits Repair call n c = record { state = further call _ c.ticket c.held c.gone c; out = posts_fit (repair_posts call.best call.progress) (repair_fits call.best call.progress c.best) }
done_fits Store call n c = record { state = further call _ c.ticket c.held c.gone c; out = posts_fit (store_posts call.work call.progress) (store_fits call.work call.progress c.work c.ticket) }
done_fits Stored call n c = record {
  state = further call _ c.ticket c.held c.gone c;
  out = record {
    posts = each_to FitsMessage call.progress.leg.writes (m.Confirm (tag_after call.progress) call.progress.key call.progress.leg.ticket) c.ticket;
    ticket = tt;
    shown = tt;
    end = c.ticket;
  };
}
done_fits Fenced call n c = record { state = further call _ c.ticket c.held c.gone c; out = end_fits (Some (r.Fenced call.progress.top_held)) c.held }
done_fits Unsure call n c = record { state = further call _ c.ticket c.held c.gone c; out = end_fits (Some r.Unsure) tt }
done_fits Look call n c = record { state = further call _ c.ticket c.held c.gone c; out = posts_fit (lookup_posts call.progress) (lookup_fits call.progress) }
done_fits Moved call n c = record {
  state = further call _ c.ticket c.held c.gone c;
  out = record { posts = lookup_fits call.progress; ticket = tt; shown = tt; end = c.gone };
}
done_fits Outside call n c = record { state = further call _ c.ticket c.held c.gone c; out = end_fits (Some r.Outside) tt }
done_fits NumbersOut call n c = record { state = further call _ c.ticket c.held c.gone c; out = end_fits (Some r.NumbersOut) tt }
done_fits (Enter leg) call n c = record {
  state = record { work = c.work; best = tt; ticket = n; held = zero_fits; gone = c.gone };
  out = record { posts = first_posts_fit call.work call.progress.key (tag_after call.progress) leg n; ticket = drawn_fits call.work leg n; shown = tt; end = tt };
}

pub strong_fits : (call : CallState) (message : Message) (view : View) (seen : ℕ) (step : (Step CallState)) → StrongStep call message view seen step → FitsMessage message → FitsTurn call view seen → FitsStrong call → StepFits step
strong_fits call message view seen step (counts_it is own e) f t c =
    let now : CallState = counted call message in
    let turn : FitsCall (counted call message).progress.phase.tag.call = subst (λ (x : Tag). FitsCall x.call) (sym (counted_tag call.progress message)) t.own in
    subst StepFits (sym e)
    (done_fits (next_of now view seen) now (verdict_fits now.progress.stage now.work (best_stamp now.best) now.progress view seen turn t.known t.number) (counted_fits call message f c))
strong_fits call message view seen step (ignores_it e) f t c = subst StepFits (sym e) (record { state = c; out = nothing_fits })
