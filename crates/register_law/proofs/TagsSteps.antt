-- A call begins with the first tag and one request of it; whatever call takes a message stays in its phase, goes on to the next one or ends.
use Rattle.std.proofs.Common.{◌≡◌, ℕ, ◌<◌, List, refl, sym, subst, arith, ap, ◌∙◌, Option, Some, None, Bool, true, Contains, false}
use Rattle.register_law.proofs.Words.{centres_of, KeyId, Stamp, Step, Message, View, Tag, Found, counted, is_counted, progress_after, first_posts, next_ticket, repair_posts, store_posts, tag_after, Next, Leg, Progress, CallState, ToRead, ToWrite, Strong, IsTicketOf, replicas_of, next_tag, Moving, Rule, key_of_call, tag_of_call, LiveCall, eventual_rule, strong_rule, take, Eventual, EventualMove, StrongMove, StrongWork, DcId, stamp_zero, tag_of, Post, leg_under, directs_below, Work, Taken, opened_call, request_key}
use Rattle.wire_msg.specs.declared.actor.Actor.TheVariants as to
use Rattle.wire_msg.specs.declared.message.Message.TheVariants as m
use Rattle.strong_proxy.specs.declared.next.Next.TheVariants as n
use Rattle.strong_proxy.specs.Rule as strong
use Rattle.strong_proxy.proofs.Asked.{progress_after-leg}
use Rattle.strong_proxy.proofs.Endings.{progress_after-key}
use Rattle.migration.specs.Move.{step}
use Rattle.relay_proxy.specs.Rule as eventual
use Rattle.register_law.proofs.MovesStep.{counted_tag, MoveTook, move_took, froze_first, froze_all, seeded_all, was_stale}
use Rattle.register_law.proofs.Basics.{either, each_map}
use Rattle.register_law.proofs.Next.{EntersWith, rests_on}
use Rattle.register_law.proofs.TagsSends.{SendsOne, GoesOn, stays, turns, ends, copies_to, sends_none, sends_each, sends_only, never, sends_look}
use Rattle.register_law.proofs.CallsOthers.{eventual_out}
use Rattle.register_law.proofs.CallsRows.{OpensAs, opens_read, opens_write, opens_move, opens_get, opens_put, opens_eventual_move, opens, opens_get_any}

-- the first request of a leg: a write asks for its ticket
pub first_sends : (May : Stamp → Type 0) (work : StrongWork) (key : KeyId) (tag : Tag) (leg : Leg) → ((value : List ℕ) → work ≡ ToWrite value → May leg.ticket) → SendsOne May tag key (first_posts work key tag leg)
first_sends May ToRead key tag leg may = sends_each May tag key (m.Read tag key leg.epoch) leg.reads refl refl tt refl
first_sends May (ToWrite value) key tag leg may = record {
  message = m.Ask tag key leg.ticket;
  copies = copies_to (m.Ask tag key leg.ticket) (centres_of leg.writes);
  tagged = refl;
  at_key = refl;
  push_free = tt;
  asks = λ stamp e. (let same : leg.ticket ≡ stamp = cc in subst May same (may value refl));
}

repair_sends : (May : Stamp → Type 0) (best : Option Found) (p : Progress) → SendsOne May (tag_after p) p.key (repair_posts best p)
repair_sends May None p = sends_none May (tag_after p) p.key
repair_sends May (Some found) p = sends_each May (tag_after p) p.key (m.Repair (tag_after p) p.key p.leg.epoch found.stamp found.value) p.leg.writes refl refl tt refl

store_sends : (May : Stamp → Type 0) (work : StrongWork) (p : Progress) → SendsOne May (tag_after p) p.key (store_posts work p)
store_sends May ToRead p = sends_none May (tag_after p) p.key
store_sends May (ToWrite value) p = sends_each May (tag_after p) p.key (m.Store (tag_after p) p.key p.leg.ticket value) p.leg.writes refl refl tt refl

done_goes_on : (May : Stamp → Type 0) (next : Next) (call : CallState) → ((leg : Leg) (value : List ℕ) → next ≡ n.Enter leg → call.work ≡ ToWrite value → May leg.ticket) → GoesOn May call.progress.phase.tag call.progress.key (Strong (strong.done next call).state) (strong.done next call).out
done_goes_on May n.Repair call may = turns refl refl (repair_sends May call.best call.progress)
done_goes_on May n.Store call may = turns refl refl (store_sends May call.work call.progress)
done_goes_on May n.Stored call may = ends refl refl refl (sends_each May (tag_after call.progress) call.progress.key (m.Confirm (tag_after call.progress) call.progress.key call.progress.leg.ticket) call.progress.leg.writes refl refl tt refl)
done_goes_on May n.Look call may = turns refl refl (sends_look May (tag_after call.progress) call.progress.key)
done_goes_on May n.Moved call may = ends refl refl refl (sends_look May (tag_after call.progress) call.progress.key)
done_goes_on May (n.Enter leg) call may = turns refl refl (first_sends May call.work call.progress.key (tag_after call.progress) leg (λ value is. may leg value refl is))
done_goes_on May next call may = stays refl refl refl

-- the ticket of a later leg: the call's, of a later epoch
pub record AsksAfter (call : CallState) (stamp : Stamp) : Type 0 where
  pub later : call.progress.leg.epoch < stamp.epoch
  pub drawn : IsTicketOf call.progress.phase.tag stamp

asks_after : (call : CallState) (message : Message) (view : View) (seen : ℕ) (leg : Leg) (value : List ℕ) → strong.next_of (counted call message) view seen ≡ n.Enter leg → call.work ≡ ToWrite value → AsksAfter call leg.ticket
asks_after call message view seen leg value next work =
    let p : Progress = progress_after call.progress message in
    let when = rests_on (counted call message) view seen (n.Enter leg) next in
    let ticket : leg.ticket ≡ next_ticket view seen p = ap (λ (x : Leg). x.ticket) when.leg_is ∙ subst (λ (w : StrongWork). EntersWith w when.ticket view seen p) work when.ticket_is in
    let drawn : IsTicketOf p.phase.tag (next_ticket view seen p) = record { proxy = refl; seq = refl; some = omega arith } in
    let later : p.leg.epoch < (next_ticket view seen p).epoch = when.later in
    subst (AsksAfter call) (sym ticket)
    (record { later = subst (λ (l : Leg). l.epoch < (next_ticket view seen p).epoch) (progress_after-leg call.progress message) later; drawn = subst (λ (t : Tag). IsTicketOf t (next_ticket view seen p)) (counted_tag call.progress message) drawn })

pub strong_goes_on : (call : CallState) (message : Message) (view : View) (seen : ℕ) → GoesOn (AsksAfter call) call.progress.phase.tag call.progress.key (Strong (strong.step call message view seen).state) (strong.step call message view seen).out
unfolding strong.step
strong_goes_on call message view seen =
    let did : (Step CallState) = strong.done (strong.next_of (counted call message) view seen) (counted call message) in
    either (λ (x : (Step CallState)). GoesOn (AsksAfter call) call.progress.phase.tag call.progress.key (Strong x.state) x.out) (is_counted call message) did (strong.nothing_done call)
    (subst (λ (t : Tag). GoesOn (AsksAfter call) t call.progress.key (Strong did.state) did.out) (counted_tag call.progress message)
    (subst (λ (k : KeyId). GoesOn (AsksAfter call) (counted call message).progress.phase.tag k (Strong did.state) did.out) (progress_after-key call.progress message)
    (done_goes_on (AsksAfter call) (strong.next_of (counted call message) view seen) (counted call message) (asks_after call message view seen))))
    (stays refl refl refl)

-- ---- so does the move of a key

-- a move among the live calls has its own tag and key
pub record IsMoveAmong (live : Moving → LiveCall) : Type 0 where
  pub key : (call : Moving) → key_of_call (live call) ≡ call.key
  pub tag : (call : Moving) → tag_of_call (live call) ≡ call.phase.tag

-- of a step of a move
abbrev MoveGoes : (Moving → LiveCall) → Moving → Step Moving → Type 0
MoveGoes live call x = GoesOn never call.phase.tag call.key (live x.state) x.out

took_goes : (live : Moving → LiveCall) → IsMoveAmong live → (rule : Rule) (call : Moving) (message : Message) (new : Step Moving) → MoveTook rule call message new → MoveGoes live call new
took_goes live among rule call message new (froze_first tag key epoch newest policy newest_policy at got c d) = turns (among.key _) (among.tag _) (sends_each never (next_tag call.phase.tag) call.key (m.Freeze (next_tag call.phase.tag) call.key epoch) (replicas_of policy) refl refl tt refl)
took_goes live among rule call message new (froze_all tag replica version mark value old target best found at got c q b) = turns (among.key _) (among.tag _) (sends_each never (next_tag call.phase.tag) call.key (m.Seed (next_tag call.phase.tag) call.key target.number found.stamp found.value) (rule.seed_set target.policy) refl refl tt refl)
took_goes live among rule call message new (seeded_all tag replica old target frozen seeded top_gone at got c q) = turns (among.key _) (among.tag _) (sends_only never (next_tag call.phase.tag) call.key (record { to = to.Directory; message = m.Switch (next_tag call.phase.tag) call.key old target.number }) refl refl tt refl)
took_goes live among rule call message new (was_stale epoch own) = ends (among.key _) (among.tag _) refl (sends_look never (next_tag call.phase.tag) call.key)
took_goes live among rule call message new _ = stays (among.key _) (among.tag _) refl

pub move_goes_on : (live : Moving → LiveCall) → IsMoveAmong live → (rule : Rule) (call : Moving) (message : Message) → GoesOn never call.phase.tag call.key (live (step rule call message).state) (step rule call message).out
move_goes_on live among rule call message = took_goes live among rule call message (step rule call message) (move_took rule call message)

-- ---- whatever call takes a message stays in its phase, goes on to the next one or ends; what it sends is one request, of the next phase

-- the tickets that a call's next request may ask for
abbrev pub may_ask : LiveCall → Stamp → Type 0
may_ask (Strong call) stamp = AsksAfter call stamp
may_ask _ stamp = ⊥

-- whatever call takes whatever message
pub take_goes_on : (call : LiveCall) (message : Message) (view : View) (seen : ℕ) → GoesOn (may_ask call) (tag_of_call call) (key_of_call call) (take call message view seen).state (take call message view seen).out
take_goes_on (Strong call) message view seen = strong_goes_on call message view seen
take_goes_on (Eventual call) message view seen = (eventual_out call message).goes
take_goes_on (StrongMove call) message view seen = move_goes_on StrongMove (record { key = λ x. refl; tag = λ x. refl }) strong_rule call message
take_goes_on (EventualMove call) message view seen = move_goes_on EventualMove (record { key = λ x. refl; tag = λ x. refl }) eventual_rule call message

-- ---- a call that begins has the first tag and its view's key, and so has what it sends; a read, a write or a move of a strong key sends one request

-- each post is a request of the key under the tag
abbrev pub AreRequests : Tag → KeyId → List Post → Type 0
AreRequests tag key posts = (post : Post) → Contains posts post → (tag_of post.message ≡ tag) × (request_key post.message ≡ Some key)

-- the ticket is the one drawn
abbrev pub is_drawn : Stamp → Stamp → Type 0
is_drawn ticket stamp = stamp ≡ ticket

-- a call that begins; a write of a strong key asks for the ticket that was drawn
pub record Opens (strongly : Bool) (ticket : Stamp) (tag : Tag) (key : KeyId) (taken : Taken) : Type 0 where
  pub tag_is : tag_of_call taken.state ≡ tag
  pub key_is : key_of_call taken.state ≡ key
  pub requests : AreRequests tag key taken.out.posts
  pub one : strongly ≡ true → SendsOne (is_drawn ticket) tag key taken.out.posts

pub sends_requests : (May : Stamp → Type 0) (tag : Tag) (key : KeyId) (posts : List Post) → SendsOne May tag key posts → AreRequests tag key posts
sends_requests May tag key posts sends post h =
    let is : post.message ≡ sends.message = sends.copies post h in
    subst (λ (x : Message). (tag_of x ≡ tag) × (request_key x ≡ Some key)) (sym is) (sends.tagged, sends.at_key)

sends_opens : (strongly : Bool) (ticket : Stamp) (tag : Tag) (key : KeyId) (taken : Taken) → tag_of_call taken.state ≡ tag → key_of_call taken.state ≡ key → SendsOne (is_drawn ticket) tag key taken.out.posts → Opens strongly ticket tag key taken
sends_opens strongly ticket tag key taken t k sends = record { tag_is = t; key_is = k; requests = sends_requests (is_drawn ticket) tag key taken.out.posts sends; one = λ _. sends }

-- whatever call begins
opens_so : (tag : Tag) (at : DcId) (view : View) (ticket : Stamp) (strongly : Bool) (work : Work) (taken : Taken) → OpensAs tag at view ticket strongly work taken → Opens strongly ticket tag view.key taken
opens_so tag at view ticket strongly work taken (opens_read member of) = sends_opens true ticket tag view.key _ refl refl (first_sends (is_drawn ticket) ToRead view.key tag (leg_under view member stamp_zero) (λ value e. absurd (cc)))
opens_so tag at view ticket strongly work taken (opens_write member value of) = sends_opens true ticket tag view.key _ refl refl (first_sends (is_drawn ticket) (ToWrite value) view.key tag (leg_under view member ticket) (λ _ _. refl))
opens_so tag at view ticket strongly work taken opens_move = sends_opens true ticket tag view.key _ refl refl (sends_look (is_drawn ticket) tag view.key)
opens_so tag at view ticket strongly work taken opens_get = sends_opens false ticket tag view.key _ refl refl (sends_each (is_drawn ticket) tag view.key (m.Read tag view.key view.epoch) (eventual.asked_of view at.0 false) refl refl tt refl)
opens_so tag at view ticket strongly work taken opens_get_any = sends_opens false ticket tag view.key _ refl refl (sends_each (is_drawn ticket) tag view.key (m.Read tag view.key view.epoch) (eventual.asked_of view at.0 true) refl refl tt refl)
opens_so tag at view ticket strongly work taken (opens_put value) = record {
  tag_is = refl;
  key_is = refl;
  requests = each_map (λ (x : Message). (tag_of x ≡ tag) × (request_key x ≡ Some view.key)) (eventual.push_to tag at.0 view ticket value) (λ d. (refl, refl)) (directs_below view.policy at.0 16);
  one = λ h. absurd (cc);
}
opens_so tag at view ticket strongly work taken opens_eventual_move = sends_opens false ticket tag view.key _ refl refl (sends_look (is_drawn ticket) tag view.key)

pub call_opens : (strongly : Bool) (tag : Tag) (at : DcId) (view : View) (ticket : Stamp) (work : Work) (taken : Taken) → opened_call strongly tag at view ticket work ≡ Some taken → Opens strongly ticket tag view.key taken
call_opens strongly tag at view ticket work taken e = opens_so tag at view ticket strongly work taken (opens strongly tag at view ticket work taken e)
