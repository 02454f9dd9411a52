-- The rule of a strong call: what it does next by the answers that it counted, what it sends, and how far it is afterwards.
use Rattle.std.specs.Prelude.{ℕ, ◌+◌, ◌==◌, nat_lt, false, if◌then◌else◌, List, [], Option, Some, None}
use Rattle.std.specs.Option.{option_map}
use Rattle.std.specs.Ordering.{is_ge}
use Rattle.span_base.specs.declared.ids.DcId.{DcId}
use Rattle.span_base.specs.declared.ids.KeyId.{KeyId}
use Rattle.span_base.specs.declared.dc_set.DcSet.{DcSet}
use Rattle.span_base.specs.DcSet.{no_centre, join}
use Rattle.span_base.specs.declared.policy.Quorum.{Quorum}
use Rattle.span_base.specs.PolicyParts.{faults_of, member_of}
use Rattle.ticket_rules.specs.declared.stamp.Stamp.{Stamp}
use Rattle.ticket_rules.specs.Stamp.{stamp_cmp, stamp_zero}
use Rattle.wire_msg.specs.declared.tag.Tag.{Tag}
use Rattle.wire_msg.specs.declared.message.Message.{Message}
use Rattle.wire_msg.specs.declared.message.Message.TheVariants as m
use Rattle.wire_msg.specs.declared.outputs.Post.{Post}
use Rattle.wire_msg.specs.declared.outputs.Reply.{Reply}
use Rattle.wire_msg.specs.declared.outputs.Reply.TheVariants as r
use Rattle.wire_msg.specs.declared.outputs.View.{View}
use Rattle.wire_msg.specs.Outputs.{Step, nothing_out, only_posts}
use Rattle.wire_msg.specs.Posts.{to_directory}
use Rattle.call_phase.specs.declared.best.Found.{Found}
use Rattle.call_phase.specs.Counting.{opened, next_tag, has_quorum, is_lost}
use Rattle.call_phase.specs.Requests.{posts_to}
use Rattle.strong_proxy.specs.declared.progress.Leg.{Leg}
use Rattle.strong_proxy.specs.declared.progress.Stage.{Stage}
use Rattle.strong_proxy.specs.declared.progress.Stage.TheVariants.{First, Second, Looking, Ended}
use Rattle.strong_proxy.specs.declared.progress.Progress.{Progress}
use Rattle.strong_proxy.specs.declared.state.Work.{Work}
use Rattle.strong_proxy.specs.declared.state.Work.TheVariants.{ToRead, ToWrite}
use Rattle.strong_proxy.specs.declared.state.CallState.{CallState}
use Rattle.strong_proxy.specs.declared.next.Next.{Next}
use Rattle.strong_proxy.specs.declared.next.Next.TheVariants.{Wait, Value, Repair, Store, Stored, Fenced, Unsure, Look, Moved, Outside, NumbersOut, Enter}
use Rattle.strong_proxy.specs.Counting.{is_counted, counted}

-- the replicas of a leg: those that it reads from and those that it writes to
abbrev pub leg_replicas : Leg → DcSet
leg_replicas leg = join leg.reads leg.writes

-- ---- what comes next

-- the leg that a member begins under a view
abbrev pub leg_under : View → Quorum → Stamp → Leg
leg_under view member ticket =
    record { epoch = view.epoch; f = faults_of view.policy; reads = member.read; writes = member.write; ticket = ticket }

-- one of two, where all but f of the phase's replicas are good or more than f refused
abbrev pub decided : Progress → Next → Next → Next
decided p good lost = if has_quorum p.leg.f p.phase then good else (if is_lost p.leg.f p.phase then lost else Wait)

-- a call whose leg ended looks its key up, four times at most
abbrev pub go_over : Progress → Next
go_over p = if nat_lt p.lookups 4 then Look else Moved

-- a read answers its greatest version, where a mark says that it is stored at a whole write quorum, and else repairs it first
abbrev pub answer_or_repair : Stamp → Option Stamp → Next
answer_or_repair mark None = Wait
answer_or_repair mark (Some version) = if is_ge (stamp_cmp mark version) then Value else Repair

-- after the first phase of a leg
abbrev pub first_verdict : Work → Option Stamp → Progress → Next
first_verdict ToRead best p = decided p (answer_or_repair p.top_mark best) (go_over p)
first_verdict (ToWrite value) best p = decided p Store (if p.had_gone then go_over p else Fenced)

-- after the second phase of a leg
abbrev pub second_verdict : Work → Progress → Next
second_verdict ToRead p = decided p Value (go_over p)
second_verdict (ToWrite value) p = decided p Stored Unsure

-- the ticket of a later leg
abbrev pub next_ticket : View → ℕ → Progress → Stamp
next_ticket view seen p = record { epoch = view.epoch; number = seen + 1; proxy = p.phase.tag.call.proxy; seq = p.phase.tag.call.seq }

-- a new leg of a member; a write draws a ticket for it
abbrev pub enter_as : Work → Quorum → Progress → View → ℕ → Next
enter_as ToRead member p view seen = Enter (leg_under view member stamp_zero)
enter_as (ToWrite value) member p view seen =
    if seen == 18446744073709551615 then NumbersOut else Enter (leg_under view member (next_ticket view seen p))

-- a new leg, where the proxy's centre is a member
abbrev pub enter : Option Quorum → Work → Progress → View → ℕ → Next
enter None work p view seen = Outside
enter (Some member) work p view seen = enter_as work member p view seen

-- what a call does next at a stage
abbrev pub verdict_at : Stage → Work → Option Stamp → Progress → View → ℕ → Next
verdict_at First work best p view seen = first_verdict work best p
verdict_at Second work best p view seen = second_verdict work p
verdict_at Looking work best p view seen = if nat_lt p.leg.epoch view.epoch then enter (member_of view.policy p.at.0) work p view seen else go_over p
verdict_at Ended work best p view seen = Wait

-- what a call does next: its work, its greatest version, its progress; the view and the greatest number seen
abbrev pub verdict : Work → Option Stamp → Progress → View → ℕ → Next
verdict work best p view seen = verdict_at p.stage work best p view seen

-- ---- what is sent

-- whom the first phase of a leg asks
abbrev pub first_set : Work → Leg → DcSet
first_set ToRead leg = leg.reads
first_set (ToWrite value) leg = leg.writes

-- the first phase of a leg
abbrev pub first_posts : Work → KeyId → Tag → Leg → List Post
first_posts ToRead key tag leg = posts_to leg.reads (m.Read tag key leg.epoch)
first_posts (ToWrite value) key tag leg = posts_to leg.writes (m.Ask tag key leg.ticket)

-- the tag of the next phase
abbrev pub tag_after : Progress → Tag
tag_after p = next_tag p.phase.tag

-- the second phase of a read
abbrev pub repair_posts : Option Found → Progress → List Post
repair_posts None p = []
repair_posts (Some found) p = posts_to p.leg.writes (m.Repair (tag_after p) p.key p.leg.epoch found.stamp found.value)

-- the second phase of a write
abbrev pub store_posts : Work → Progress → List Post
store_posts ToRead p = []
store_posts (ToWrite value) p = posts_to p.leg.writes (m.Store (tag_after p) p.key p.leg.ticket value)

-- what a write that is stored tells the write set
abbrev pub confirm_posts : Progress → List Post
confirm_posts p = posts_to p.leg.writes (m.Confirm (tag_after p) p.key p.leg.ticket)

-- a question to the directory
abbrev pub lookup_posts : Progress → List Post
lookup_posts p = to_directory (m.Lookup (tag_after p) p.key)

-- the reply of a read
abbrev pub value_reply : Found → Reply
value_reply found = r.Value found.stamp found.value

-- the ticket of a new leg of a write
abbrev pub leg_ticket : Work → Leg → Option Stamp
leg_ticket ToRead leg = None
leg_ticket (ToWrite value) leg = Some leg.ticket

-- the second phase of the leg has begun
abbrev pub seconded : Progress → Progress
seconded p = record p { stage = Second; phase = opened (tag_after p) p.leg.writes; had_gone = false }

-- the call looks its key up
abbrev pub looking : Progress → Progress
looking p = record p { stage = Looking; phase = opened (tag_after p) no_centre; lookups = p.lookups + 1; had_gone = false }

-- the call has ended
abbrev pub ended : Progress → Progress
ended p = record p { stage = Ended }

-- a leg has begun
abbrev pub entered : Work → Leg → Progress → Progress
entered work leg p =
    record p { leg = leg; stage = First; phase = opened (tag_after p) (first_set work leg); top_mark = stamp_zero; had_gone = false; top_held = stamp_zero }

-- ---- a step

-- nothing happens
abbrev pub nothing_done : CallState → Step CallState
nothing_done call = record { state = call; out = nothing_out }

-- the call goes on, and sends these
abbrev pub goes_on : CallState → Progress → List Post → Step CallState
goes_on call p posts = record { state = record call { progress = p }; out = only_posts posts }

-- the call ends so, and sends these
abbrev pub ends : CallState → Option Reply → List Post → Step CallState
ends call reply posts = record { state = record call { progress = ended call.progress }; out = record { posts = posts; ticket = None; view = None; end = reply } }

-- the call begins this leg, and sends its first requests
abbrev pub begins : CallState → Leg → Step CallState
begins call leg = record {
  state = record { work = call.work; best = None; progress = entered call.work leg call.progress };
  out = record { posts = first_posts call.work call.progress.key (tag_after call.progress) leg; ticket = leg_ticket call.work leg; view = None; end = None };
}

-- the call does this next
abbrev pub done : Next → CallState → Step CallState
done Wait call = nothing_done call
done Value call = ends (record call { best = None }) (option_map value_reply call.best) []
done Repair call = goes_on call (seconded call.progress) (repair_posts call.best call.progress)
done Store call = goes_on call (seconded call.progress) (store_posts call.work call.progress)
done Stored call = ends call (Some (r.Stored call.progress.leg.ticket)) (confirm_posts call.progress)
done Fenced call = ends call (Some (r.Fenced call.progress.top_held)) []
done Unsure call = ends call (Some r.Unsure) []
done Look call = goes_on call (looking call.progress) (lookup_posts call.progress)
done Moved call = ends call (Some (r.Moved call.progress.top_gone)) (lookup_posts call.progress)
done Outside call = ends call (Some r.Outside) []
done NumbersOut call = ends call (Some r.NumbersOut) []
done (Enter leg) call = begins call leg

-- the stamp of the greatest version
abbrev pub best_stamp : Option Found → Option Stamp
best_stamp best = option_map (λ found. found.stamp) best

-- what a call does next
abbrev pub next_of : CallState → View → ℕ → Next
next_of call view seen = verdict call.work (best_stamp call.best) call.progress view seen

-- a message taken: an answer that counts is counted, and then the call does what comes next; nothing happens at any other message
unfoldable pub step : CallState → Message → View → ℕ → Step CallState
step call message view seen =
    if is_counted call message then done (next_of (counted call message) view seen) (counted call message) else nothing_done call

-- how far a call is that has begun with this leg
abbrev pub begun : Work → Tag → DcId → KeyId → Leg → Progress
begun work tag at key leg = record {
  key = key;
  at = at;
  leg = leg;
  stage = First;
  phase = opened tag (first_set work leg);
  lookups = 0;
  top_mark = stamp_zero;
  had_gone = false;
  top_gone = 0;
  top_held = stamp_zero;
}

-- a call that has begun with this leg, and its first requests
abbrev pub opened_with : Work → Tag → DcId → KeyId → Leg → Step CallState
opened_with work tag at key leg = record {
  state = record { work = work; best = None; progress = begun work tag at key leg };
  out = record { posts = first_posts work key tag leg; ticket = None; view = None; end = None };
}

-- a call of a centre under a view, where the centre is a member
unfoldable pub opened_as : Work → Stamp → Tag → DcId → View → Option (Step CallState)
opened_as work ticket tag at view = option_map (λ member. opened_with work tag at view.key (leg_under view member ticket)) (member_of view.policy at.0)

-- the opening of a read
abbrev pub opened_read : Tag → DcId → View → Option (Step CallState)
opened_read tag at view = opened_as ToRead stamp_zero tag at view

-- the opening of a write
abbrev pub opened_write : Tag → DcId → View → Stamp → List ℕ → Option (Step CallState)
opened_write tag at view ticket value = opened_as (ToWrite value) ticket tag at view
