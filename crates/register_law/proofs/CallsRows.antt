-- How a call begins, by what was asked of it, and what each call sends: a row for each request.
use Rattle.std.proofs.Common.{◌≡◌, ℕ, Bool, true, false, List, refl, Option, Some, None, option_map, subst, if◌then◌else◌}
use Rattle.register_law.proofs.Words.{member_of, DcId, Quorum, stamp_zero, Stamp, View, Tag, leg_under, ToRead, ToWrite, Work, Taken, of_eventual, of_eventual_move, of_strong, of_strong_move, opened_call, replicas_of, DcSet, Step, Message, better, counts, next_tag, with_good, Found, counted, is_counted, first_posts, next_of, repair_posts, store_posts, tag_after, Next, Enter, Look, Moved, Repair, Stored, Leg, CallState, directs_below, Epoch, Freezing, Moving, Rule, Seeding, StoreNext as Store, StrongWork}
use Rattle.strong_proxy.specs.Rule as strong
use Rattle.relay_proxy.specs.Rule as eventual
use Rattle.migration.specs.Move as strong_move
use Rattle.run_marks.specs.declared.mark.Work.TheVariants as w
use Rattle.wire_msg.specs.declared.actor.Actor.TheVariants as to
use Rattle.wire_msg.specs.declared.message.Message.TheVariants as m
use Rattle.migration.specs.Move.{step}
use Rattle.register_law.proofs.Basics.{Each, each_none, each_one, each_map, each_to, each_weaker, each_look}
use Rattle.register_law.proofs.MovesStep.{MoveTook, froze_first, froze_all, seeded_all, was_stale, move_took}
use Rattle.std.proofs.lemmas.Option.{same_Some}

-- how a call begins, by what was asked of it: a row for each
pub data OpensAs (tag : Tag) (at : DcId) (view : View) (ticket : Stamp) : Bool → Work → Taken → Type 0 where
  opens_read : (member : Quorum) → member_of view.policy at.0 ≡ Some member → OpensAs tag at view ticket true w.Read (of_strong (strong.opened_with ToRead tag at view.key (leg_under view member stamp_zero)))
  opens_write : (member : Quorum) (value : List ℕ) → member_of view.policy at.0 ≡ Some member → OpensAs tag at view ticket true (w.Write value) (of_strong (strong.opened_with (ToWrite value) tag at view.key (leg_under view member ticket)))
  opens_move : OpensAs tag at view ticket true w.Move (of_strong_move (strong_move.started tag view.key))
  opens_get : OpensAs tag at view ticket false w.Get (of_eventual (eventual.opened_get tag at.0 view false))
  opens_get_any : OpensAs tag at view ticket false w.GetAny (of_eventual (eventual.opened_get tag at.0 view true))
  opens_put : (value : List ℕ) → OpensAs tag at view ticket false (w.Put value) (of_eventual (eventual.opened_put tag at.0 view ticket value))
  opens_eventual_move : OpensAs tag at view ticket false w.Move (of_eventual_move (strong_move.started tag view.key))

opens_with : (X : Type 0) (make : Quorum → Step CallState) (taken : Taken) (o : Option Quorum) → ((member : Quorum) → o ≡ Some member → of_strong (make member) ≡ taken → X) → option_map of_strong (option_map make o) ≡ Some taken → X
opens_with X make taken None f e = absurd (cc)
opens_with X make taken (Some member) f e = f member refl (same_Some (of_strong (make member)) taken e)

pub opens : (strongly : Bool) (tag : Tag) (at : DcId) (view : View) (ticket : Stamp) (work : Work) (taken : Taken) → opened_call strongly tag at view ticket work ≡ Some taken → OpensAs tag at view ticket strongly work taken
unfolding strong.opened_as
opens true tag at view ticket w.Read taken e =
    opens_with (OpensAs tag at view ticket true w.Read taken) (λ member. strong.opened_with ToRead tag at view.key (leg_under view member stamp_zero)) taken (member_of view.policy at.0)
    (λ member of is. subst (OpensAs tag at view ticket true w.Read) is (opens_read member of)) e
opens true tag at view ticket (w.Write value) taken e =
    opens_with (OpensAs tag at view ticket true (w.Write value) taken) (λ member. strong.opened_with (ToWrite value) tag at view.key (leg_under view member ticket)) taken (member_of view.policy at.0)
    (λ member of is. subst (OpensAs tag at view ticket true (w.Write value)) is (opens_write member value of)) e
opens true tag at view ticket w.Move taken e = subst (OpensAs tag at view ticket true w.Move) (same_Some (of_strong_move (strong_move.started tag view.key)) taken e) opens_move
opens false tag at view ticket w.Get taken e = subst (OpensAs tag at view ticket false w.Get) (same_Some (of_eventual (eventual.opened_get tag at.0 view false)) taken e) opens_get
opens false tag at view ticket w.GetAny taken e = subst (OpensAs tag at view ticket false w.GetAny) (same_Some (of_eventual (eventual.opened_get tag at.0 view true)) taken e) opens_get_any
opens false tag at view ticket (w.Put value) taken e = subst (OpensAs tag at view ticket false (w.Put value)) (same_Some (of_eventual (eventual.opened_put tag at.0 view ticket value)) taken e) (opens_put value)
opens false tag at view ticket w.Move taken e = subst (OpensAs tag at view ticket false w.Move) (same_Some (of_eventual_move (strong_move.started tag view.key)) taken e) opens_eventual_move
opens strongly tag at view ticket work taken e = absurd (cc)

-- ---- what a call sends: a row for each request

-- of a call that begins
pub data StartSends (tag : Tag) (at : DcId) (view : View) (ticket : Stamp) : Bool → Work → Message → Type 0 where
  start_read : (strongly : Bool) (work : Work) → StartSends tag at view ticket strongly work (m.Read tag view.key view.epoch)
  start_ask : (value : List ℕ) → StartSends tag at view ticket true (w.Write value) (m.Ask tag view.key ticket)
  start_look : (strongly : Bool) (work : Work) → StartSends tag at view ticket strongly work (m.Lookup tag view.key)
  start_push : (value : List ℕ) (d : ℕ) → StartSends tag at view ticket false (w.Put value) (eventual.push_to tag at.0 view ticket value d).message

pub start_sends : (tag : Tag) (at : DcId) (view : View) (ticket : Stamp) (strongly : Bool) (work : Work) (taken : Taken) → OpensAs tag at view ticket strongly work taken → Each (StartSends tag at view ticket strongly work) taken.out.posts
start_sends tag at view ticket strongly work taken (opens_read member of) = each_to (StartSends tag at view ticket true w.Read) member.read (m.Read tag view.key view.epoch) (start_read true w.Read)
start_sends tag at view ticket strongly work taken (opens_write member value of) = each_to (StartSends tag at view ticket true (w.Write value)) member.write (m.Ask tag view.key ticket) (start_ask value)
start_sends tag at view ticket strongly work taken opens_move = each_look (StartSends tag at view ticket true w.Move) tag view.key (start_look true w.Move)
start_sends tag at view ticket strongly work taken opens_get = each_to (StartSends tag at view ticket false w.Get) (eventual.asked_of view at.0 false) (m.Read tag view.key view.epoch) (start_read false w.Get)
start_sends tag at view ticket strongly work taken opens_get_any = each_to (StartSends tag at view ticket false w.GetAny) (eventual.asked_of view at.0 true) (m.Read tag view.key view.epoch) (start_read false w.GetAny)
start_sends tag at view ticket strongly work taken (opens_put value) = each_map (StartSends tag at view ticket false (w.Put value)) (eventual.push_to tag at.0 view ticket value) (start_push value) (directs_below view.policy at.0 16)
start_sends tag at view ticket strongly work taken opens_eventual_move = each_look (StartSends tag at view ticket false w.Move) tag view.key (start_look false w.Move)

-- of a read or a write, by what it does next
pub data DoneSends (now : CallState) : Next → Message → Type 0 where
  reads : (leg : Leg) → now.work ≡ ToRead → DoneSends now (Enter leg) (m.Read (tag_after now.progress) now.progress.key leg.epoch)
  asks : (leg : Leg) (value : List ℕ) → now.work ≡ ToWrite value → DoneSends now (Enter leg) (m.Ask (tag_after now.progress) now.progress.key leg.ticket)
  repairs : (found : Found) → now.best ≡ Some found → DoneSends now Repair (m.Repair (tag_after now.progress) now.progress.key now.progress.leg.epoch found.stamp found.value)
  stores : (value : List ℕ) → now.work ≡ ToWrite value → DoneSends now Store (m.Store (tag_after now.progress) now.progress.key now.progress.leg.ticket value)
  confirms : DoneSends now Stored (m.Confirm (tag_after now.progress) now.progress.key now.progress.leg.ticket)
  looks : DoneSends now Look (m.Lookup (tag_after now.progress) now.progress.key)
  moves : DoneSends now Moved (m.Lookup (tag_after now.progress) now.progress.key)

pub done_sends : (next : Next) (now : CallState) → Each (DoneSends now next) (strong.done next now).out.posts
done_sends Repair now = by now.best refl
  where
    by : (best : Option Found) → now.best ≡ best → Each (DoneSends now Repair) (repair_posts best now.progress)
    by None is = each_none (DoneSends now Repair)
    by (Some found) is = each_to (DoneSends now Repair) now.progress.leg.writes _ (repairs found is)
done_sends Store now = by now.work refl
  where
    by : (work : StrongWork) → now.work ≡ work → Each (DoneSends now Store) (store_posts work now.progress)
    by ToRead is = each_none (DoneSends now Store)
    by (ToWrite value) is = each_to (DoneSends now Store) now.progress.leg.writes _ (stores value is)
done_sends (Enter leg) now = by now.work refl
  where
    by : (work : StrongWork) → now.work ≡ work → Each (DoneSends now (Enter leg)) (first_posts work now.progress.key (tag_after now.progress) leg)
    by ToRead is = each_to (DoneSends now (Enter leg)) leg.reads _ (reads leg is)
    by (ToWrite value) is = each_to (DoneSends now (Enter leg)) leg.writes _ (asks leg value is)
done_sends Stored now = each_to (DoneSends now Stored) now.progress.leg.writes _ confirms
done_sends Look now = each_look (DoneSends now Look) (tag_after now.progress) now.progress.key looks
done_sends Moved now = each_look (DoneSends now Moved) (tag_after now.progress) now.progress.key moves
done_sends next now = each_none (DoneSends now next)

pub each_strong : (P : Message → Type 0) (call : CallState) (message : Message) (view : View) (seen : ℕ) → ((sent : Message) → DoneSends (counted call message) (next_of (counted call message) view seen) sent → P sent) → Each P (strong.step call message view seen).out.posts
unfolding strong.step
each_strong P call message view seen rows = by (is_counted call message)
  where
    by : (b : Bool) → Each P (if b then strong.done (next_of (counted call message) view seen) (counted call message) else strong.nothing_done call).out.posts
    by true = each_weaker (DoneSends (counted call message) (next_of (counted call message) view seen)) P rows _ (done_sends (next_of (counted call message) view seen) (counted call message))
    by false = each_none P

-- of a move that took a message
pub data MoveSends (rule : Rule) (call : Moving) (message : Message) : Message → Type 0 where
  looks_up : MoveSends rule call message (m.Lookup (next_tag call.phase.tag) call.key)
  freezes : (epoch : ℕ) → MoveSends rule call message (m.Freeze (next_tag call.phase.tag) call.key epoch)
  seeds : (tag : Tag) (replica : DcId) (version mark : Stamp) (value : List ℕ) (old target : Epoch) (best : Option Found) (found : Found) → call.stage ≡ Freezing old target best → message ≡ m.Have tag replica version mark value → counts call.phase tag replica ≡ true
      → better best version value ≡ Some found → MoveSends rule call message (m.Seed (next_tag call.phase.tag) call.key target.number found.stamp found.value)
  switches : (tag : Tag) (replica : DcId) (old : ℕ) (target : Epoch) (frozen : DcSet) (seeded : Stamp) (top_gone : ℕ) → call.stage ≡ Seeding old target frozen seeded top_gone → message ≡ m.Yes tag replica → counts call.phase tag replica ≡ true
      → rule.is_seeded target.policy (with_good call.phase replica) ≡ true → MoveSends rule call message (m.Switch (next_tag call.phase.tag) call.key old target.number)

pub move_sends : (rule : Rule) (call : Moving) (message : Message) (new : Step Moving) → MoveTook rule call message new → Each (MoveSends rule call message) new.out.posts
move_sends rule call message new (froze_first tag key epoch newest policy newest_policy stage got c apart) = each_to (MoveSends rule call message) (replicas_of policy) (m.Freeze (next_tag call.phase.tag) call.key epoch) (freezes epoch)
move_sends rule call message new (froze_all tag replica version mark value old target best found stage got c quorum e) =
    each_to (MoveSends rule call message) (rule.seed_set target.policy) (m.Seed (next_tag call.phase.tag) call.key target.number found.stamp found.value) (seeds tag replica version mark value old target best found stage got c e)
move_sends rule call message new (seeded_all tag replica old target frozen seeded top_gone stage got c quorum) =
    each_one (MoveSends rule call message) (record { to = to.Directory; message = m.Switch (next_tag call.phase.tag) call.key old target.number }) (switches tag replica old target frozen seeded top_gone stage got c quorum)
move_sends rule call message new (was_stale epoch own) = each_look (MoveSends rule call message) (next_tag call.phase.tag) call.key looks_up
move_sends rule call message new _ = each_none (MoveSends rule call message)

pub each_move : (P : Message → Type 0) (rule : Rule) (call : Moving) (message : Message) → ((sent : Message) → MoveSends rule call message sent → P sent) → Each P (step rule call message).out.posts
each_move P rule call message rows = each_weaker (MoveSends rule call message) P rows (step rule call message).out.posts (move_sends rule call message (step rule call message) (move_took rule call message))

-- ---- what only reads and writes of a strong key send, and that moves send none of it

-- the message isn't one that reads and writes of a strong key alone send
abbrev pub IsPlain : Message → Type 0
IsPlain (m.Ask tag key stamp) = ⊥
IsPlain (m.Store tag key stamp value) = ⊥
IsPlain (m.Repair tag key epoch stamp value) = ⊥
IsPlain (m.Confirm tag key stamp) = ⊥
IsPlain _ = Unit {0}

pub move_is_plain : (rule : Rule) (call : Moving) (message : Message) → Each IsPlain (step rule call message).out.posts
move_is_plain rule call message = each_move IsPlain rule call message by
  where
    by : (sent : Message) → MoveSends rule call message sent → IsPlain sent
    by sent looks_up = tt
    by sent _ = tt
