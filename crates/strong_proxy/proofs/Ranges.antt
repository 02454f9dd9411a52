-- A call's fields stay in their ranges.
use Rattle.std.proofs.Common.{◌≡◌, ℕ, ◌+◌, ◌*◌, ◌≤◌, ◌<◌, Bool, true, false, List, length, refl, arith, lit<, lit≤}
use Rattle.std.specs.Prelude.{Option, Some, None, IfSome, nat_lt, ◌==◌, if◌then◌else◌}
use Rattle.std.specs.Ordering.{is_gt, is_ge}
use Rattle.std.proofs.lemmas.Bool.Decides.{nat_tests}
use Rattle.span_base.specs.declared.policy.Quorum.{Quorum}
use Rattle.ticket_rules.specs.declared.stamp.Stamp.{Stamp}
use Rattle.ticket_rules.specs.Stamp.{stamp_cmp, greater}
use Rattle.wire_msg.specs.declared.tag.Tag.{Tag}
use Rattle.wire_msg.specs.declared.message.Message.{Message}
use Rattle.wire_msg.specs.declared.message.Message.TheVariants as m
use Rattle.wire_msg.specs.declared.outputs.View.{View}
use Rattle.wire_msg.specs.Lawful.{IsLawful, IsLawfulTag, IsLawfulStamp, IsLawfulReply}
use Rattle.call_phase.specs.declared.best.Found.{Found}
use Rattle.call_phase.specs.Best.{better}
use Rattle.call_phase.specs.Counting.{next_tag, has_quorum, is_lost}
use Rattle.strong_proxy.specs.declared.progress.Stage.{Stage}
use Rattle.strong_proxy.specs.declared.progress.Stage.TheVariants.{First, Second, Looking, Ended}
use Rattle.strong_proxy.specs.declared.progress.Progress.{Progress}
use Rattle.strong_proxy.specs.declared.state.Work.{Work}
use Rattle.strong_proxy.specs.declared.state.Work.TheVariants.{ToRead, ToWrite}
use Rattle.strong_proxy.specs.declared.state.CallState.{CallState}
use Rattle.strong_proxy.specs.declared.next.Next.{Next}
use Rattle.strong_proxy.specs.declared.next.Next.TheVariants.{Wait, Value, Repair, Store, Stored, Fenced, Unsure, Look, Moved, Outside, NumbersOut, Enter}
use Rattle.span_base.specs.PolicyParts.{member_of}
use Rattle.strong_proxy.specs.Rule.{leg_under}
use Rattle.strong_proxy.specs.Counting.{held_after, progress_after, best_after, counted}
use Rattle.strong_proxy.specs.Rule.{decided, go_over, answer_or_repair, next_ticket, enter_as, enter, verdict_at}
use Rattle.strong_proxy.specs.Rule.{seconded, ended}
use Rattle.strong_proxy.specs.Parts.{end_for, progress_for, best_for}
use Rattle.strong_proxy.specs.Lawful.{work_bytes, found_bytes, found_proxy, phases_before, IsLawfulProgress}

greater_lawful : (a b : Stamp) → IsLawfulStamp a → IsLawfulStamp b → IsLawfulStamp (greater a b)
greater_lawful a b x y = elim (is_gt (stamp_cmp b a)) as (λ t. IsLawfulStamp (if t then b else a)) [ true ↦ y | false ↦ x ]

held_lawful : (stage : Stage) (a b : Stamp) → IsLawfulStamp a → IsLawfulStamp b → IsLawfulStamp (held_after stage a b)
held_lawful First a b x y = greater_lawful a b x y
held_lawful Second a b x y = x
held_lawful Looking a b x y = x
held_lawful Ended a b x y = x

-- an answer leaves the progress in its ranges
progress_after-lawful : (p : Progress) (message : Message) → IsLawfulProgress p → IsLawful message → IsLawfulProgress (progress_after p message)
progress_after-lawful p (m.Have tag replica version mark value) h l = record { tag = h.tag; key = h.key; epoch = h.epoch; ticket = h.ticket; held = h.held; lookups = h.lookups; phases = h.phases }
progress_after-lawful p (m.Yes tag replica) h l = record { tag = h.tag; key = h.key; epoch = h.epoch; ticket = h.ticket; held = h.held; lookups = h.lookups; phases = h.phases }
progress_after-lawful p (m.Held tag replica stamp) h l =
    record { tag = h.tag; key = h.key; epoch = h.epoch; ticket = h.ticket; held = held_lawful p.stage p.top_held stamp h.held l.1.1.0; lookups = h.lookups; phases = h.phases }
progress_after-lawful p (m.Gone tag replica epoch) h l = record { tag = h.tag; key = h.key; epoch = h.epoch; ticket = h.ticket; held = h.held; lookups = h.lookups; phases = h.phases }
progress_after-lawful p _ h l = h

pub record IsLawfulBest (best : Option Found) : Type 0 where
  pub bytes : found_bytes best ≤ 4096
  pub proxy : found_proxy best < 64

better_lawful : (best : Option Found) (stamp : Stamp) (value : List ℕ) → IsLawfulBest best → IsLawfulStamp stamp → length value ≤ 4096 → IsLawfulBest (better best stamp value)
better_lawful None stamp value h s v = record { bytes = v; proxy = s }
better_lawful (Some found) stamp value h s v =
    elim (is_gt (stamp_cmp stamp found.stamp)) as (λ t. IsLawfulBest (if t then Some (record { stamp = stamp; value = value }) else Some found))
    [ true ↦ record { bytes = v; proxy = s } | false ↦ h ]

best_after-lawful : (best : Option Found) (message : Message) → IsLawfulBest best → IsLawful message → IsLawfulBest (best_after best message)
best_after-lawful best (m.Have tag replica version mark value) h l = better_lawful best version value h l.1.1.0 l.1.1.1.1.0
best_after-lawful best _ h l = h

-- the parts of a call are in their ranges
pub record AreLawfulParts (call : CallState) : Type 0 where
  pub progress : IsLawfulProgress call.progress
  pub work : work_bytes call.work ≤ 4096
  pub best : IsLawfulBest call.best

pub counted_lawful : (call : CallState) (message : Message) → AreLawfulParts call → IsLawful message → AreLawfulParts (counted call message)
counted_lawful call message h l =
    record { progress = progress_after-lawful call.progress message h.progress l; work = h.work; best = best_after-lawful call.best message h.best l }

-- what a call does next fits how far it is
abbrev pub Fits : Progress → Next → Type 0
Fits p Wait = Unit {0}
Fits p Value = Unit {0}
Fits p Repair = p.phase.tag.phase ≤ 3 * p.lookups + 1
Fits p Store = p.phase.tag.phase ≤ 3 * p.lookups + 1
Fits p Stored = Unit {0}
Fits p Fenced = Unit {0}
Fits p Unsure = Unit {0}
Fits p Look = p.lookups < 4
Fits p Moved = Unit {0}
Fits p Outside = Unit {0}
Fits p NumbersOut = Unit {0}
Fits p (Enter leg) = (p.phase.tag.phase ≤ 3 * p.lookups) × (1 ≤ leg.epoch) × IsLawfulStamp leg.ticket

decided_fits : (p : Progress) (good lost : Next) → Fits p good → Fits p lost → Fits p (decided p good lost)
decided_fits p good lost g l =
    elim (has_quorum p.leg.f p.phase) as (λ t. Fits p (if t then good else (if is_lost p.leg.f p.phase then lost else Wait))) [
      | true ↦ g
      | false ↦ elim (is_lost p.leg.f p.phase) as (λ t. Fits p (if t then lost else Wait)) [ true ↦ l | false ↦ tt ]
    ]

go_over_fits : (p : Progress) → Fits p (go_over p)
go_over_fits p = go (nat_lt p.lookups 4) refl
  where
    go : (t : Bool) → nat_lt p.lookups 4 ≡ t → Fits p (if t then Look else Moved)
    go true e = grind (arith, nat_tests)
    go false e = tt

answer_or_repair-fits : (p : Progress) (mark : Stamp) (best : Option Stamp) → p.phase.tag.phase ≤ 3 * p.lookups + 1 → Fits p (answer_or_repair mark best)
answer_or_repair-fits p mark None h = tt
answer_or_repair-fits p mark (Some version) h = elim (is_ge (stamp_cmp mark version)) as (λ t. Fits p (if t then Value else Repair)) [ true ↦ tt | false ↦ h ]

enter_as-fits : (work : Work) (member : Quorum) (p : Progress) (view : View) (seen : ℕ) → p.phase.tag.phase ≤ 3 * p.lookups → IsLawfulTag p.phase.tag → 1 ≤ view.epoch → Fits p (enter_as work member p view seen)
enter_as-fits ToRead member p view seen h t e = (h, e, lit< tt)
enter_as-fits (ToWrite value) member p view seen h t e =
    elim (seen == 18446744073709551615) as (λ t. Fits p (if t then NumbersOut else Enter (leg_under view member (next_ticket view seen p))))
    [ true ↦ tt | false ↦ (h, e, t.proxy) ]

enter_fits : (member : Option Quorum) (work : Work) (p : Progress) (view : View) (seen : ℕ) → p.phase.tag.phase ≤ 3 * p.lookups → IsLawfulTag p.phase.tag → 1 ≤ view.epoch → Fits p (enter member work p view seen)
enter_fits None work p view seen h t e = tt
enter_fits (Some member) work p view seen h t e = enter_as-fits work member p view seen h t e

pub verdict_at-fits : (stage : Stage) (work : Work) (best : Option Stamp) (p : Progress) (view : View) (seen : ℕ) → p.phase.tag.phase ≤ 3 * p.lookups + phases_before stage → IsLawfulTag p.phase.tag → 1 ≤ view.epoch → Fits p (verdict_at stage work best p view seen)
verdict_at-fits First ToRead best p view seen h t e = decided_fits p (answer_or_repair p.top_mark best) (go_over p) (answer_or_repair-fits p p.top_mark best h) (go_over_fits p)
verdict_at-fits First (ToWrite value) best p view seen h t e =
    decided_fits p Store (if p.had_gone then go_over p else Fenced) h
    (elim p.had_gone as (λ b. Fits p (if b then go_over p else Fenced)) [ true ↦ go_over_fits p | false ↦ tt ])
verdict_at-fits Second ToRead best p view seen h t e = decided_fits p Value (go_over p) tt (go_over_fits p)
verdict_at-fits Second (ToWrite value) best p view seen h t e = decided_fits p Stored Unsure tt tt
verdict_at-fits Looking work best p view seen h t e =
    elim (nat_lt p.leg.epoch view.epoch) as (λ b. Fits p (if b then enter (member_of view.policy p.at.0) work p view seen else go_over p))
    [ true ↦ enter_fits (member_of view.policy p.at.0) work p view seen (omega arith) t e | false ↦ go_over_fits p ]
verdict_at-fits Ended work best p view seen h t e = tt

-- the tag of the next phase
pub next_tag-lawful : (tag : Tag) → IsLawfulTag tag → IsLawfulTag (next_tag tag)
next_tag-lawful tag h = record { proxy = h.proxy; seq = h.seq; slot = h.slot; generation = h.generation; phase = omega arith }

phases_few : (stage : Stage) → phases_before stage ≤ 2
phases_few First = lit≤ tt
phases_few Second = lit≤ tt
phases_few Looking = lit≤ tt
phases_few Ended = lit≤ tt

seconded_lawful : (p : Progress) → IsLawfulProgress p → p.phase.tag.phase ≤ 3 * p.lookups + 1 → IsLawfulProgress (seconded p)
seconded_lawful p h f =
    record { tag = next_tag-lawful p.phase.tag h.tag; key = h.key; epoch = h.epoch; ticket = h.ticket; held = h.held; lookups = h.lookups; phases = omega arith }

ended_lawful : (p : Progress) → IsLawfulProgress p → IsLawfulProgress (ended p)
ended_lawful p h =
    record { tag = h.tag; key = h.key; epoch = h.epoch; ticket = h.ticket; held = h.held; lookups = h.lookups; phases = omega (arith, h.phases, phases_few p.stage) }

pub progress_for-lawful : (next : Next) (work : Work) (p : Progress) → IsLawfulProgress p → Fits p next → IsLawfulProgress (progress_for next work p)
progress_for-lawful Wait work p h f = h
progress_for-lawful Repair work p h f = seconded_lawful p h f
progress_for-lawful Store work p h f = seconded_lawful p h f
progress_for-lawful Look work p h f =
    record { tag = next_tag-lawful p.phase.tag h.tag; key = h.key; epoch = h.epoch; ticket = h.ticket; held = h.held; lookups = omega arith; phases = omega (arith, h.phases, phases_few p.stage) }
progress_for-lawful (Enter leg) work p h f =
    record { tag = next_tag-lawful p.phase.tag h.tag; key = h.key; epoch = f.1; ticket = f.2; held = lit< tt; lookups = h.lookups; phases = omega (arith, f.0) }
progress_for-lawful Value work p h f = ended_lawful p h
progress_for-lawful Stored work p h f = ended_lawful p h
progress_for-lawful Fenced work p h f = ended_lawful p h
progress_for-lawful Unsure work p h f = ended_lawful p h
progress_for-lawful Moved work p h f = ended_lawful p h
progress_for-lawful Outside work p h f = ended_lawful p h
progress_for-lawful NumbersOut work p h f = ended_lawful p h

pub best_for-lawful : (next : Next) (best : Option Found) → IsLawfulBest best → IsLawfulBest (best_for next best)
best_for-lawful Value best h = record { bytes = lit≤ tt; proxy = lit< tt }
best_for-lawful (Enter leg) best h = record { bytes = lit≤ tt; proxy = lit< tt }
best_for-lawful Wait best h = h
best_for-lawful Repair best h = h
best_for-lawful Store best h = h
best_for-lawful Stored best h = h
best_for-lawful Fenced best h = h
best_for-lawful Unsure best h = h
best_for-lawful Look best h = h
best_for-lawful Moved best h = h
best_for-lawful Outside best h = h
best_for-lawful NumbersOut best h = h

pub end_for-lawful : (next : Next) (best : Option Found) (p : Progress) → IsLawfulProgress p → IsLawfulBest best → IfSome (end_for next best p) IsLawfulReply
end_for-lawful Value None p h b = tt
end_for-lawful Value (Some found) p h b = (b.proxy, b.bytes)
end_for-lawful Stored best p h b = h.ticket
end_for-lawful Fenced best p h b = h.held
end_for-lawful Unsure best p h b = tt
end_for-lawful Moved best p h b = tt
end_for-lawful Outside best p h b = tt
end_for-lawful NumbersOut best p h b = tt
end_for-lawful _ best p h b = tt
