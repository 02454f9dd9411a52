-- What a call on an eventual key sends where it takes a message: nothing that carries a version, but for
-- the Seed of a move, whose version is the greatest of those that it found; a Freeze of the epoch that it is told, and a Switch once enough have what it seeded.
use Rattle.std.proofs.Common.{◌≡◌, ℕ, Bool, true, false, List, refl, sym}
use Rattle.std.specs.Prelude.{◌==◌, max, if◌then◌else◌, Option, Some}
use Rattle.span_base.specs.declared.ids.DcId.{DcId}
use Rattle.span_base.specs.declared.ids.KeyId.{KeyId}
use Rattle.span_base.specs.declared.policy.Policy.{Policy}
use Rattle.span_base.specs.declared.dc_set.DcSet.{DcSet}
use Rattle.span_base.specs.PolicyParts.{replicas_of}
use Rattle.ticket_rules.specs.declared.stamp.Stamp.{Stamp}
use Rattle.wire_msg.specs.declared.tag.Tag.{Tag}
use Rattle.wire_msg.specs.declared.message.Message.{Message}
use Rattle.wire_msg.specs.Posts.{to_directory}
use Rattle.wire_msg.specs.Outputs.{Step}
use Rattle.wire_msg.specs.declared.actor.Actor.TheVariants as to
use Rattle.wire_msg.specs.declared.message.Message.TheVariants as m
use Rattle.wire_msg.specs.declared.outputs.Reply.TheVariants as r
use Rattle.call_phase.specs.declared.best.Found.{Found}
use Rattle.call_phase.specs.Best.{better}
use Rattle.call_phase.specs.Counting.{counts, with_good, with_bad, next_tag}
use Rattle.call_phase.proofs.Tags.{same_tag}
use Rattle.relay_proxy.specs.declared.stage.Stage.{Stage}
use Rattle.relay_proxy.specs.declared.stage.Stage.TheVariants as d
use Rattle.relay_proxy.specs.State.{State as Eventually}
use Rattle.relay_proxy.specs.Rule as eventual
use Rattle.migration.specs.declared.stage.Epoch.{Epoch}
use Rattle.migration.specs.declared.stage.Stage.TheVariants.{Looking, Freezing, Seeding}
use Rattle.migration.specs.Eventual.{eventual as eventual_rule}
use Rattle.migration.specs.Move.{Moving}
use Rattle.migration.specs.Move as move
use Rattle.register_law.proofs.Basics.{Each, each_none, each_one, each_to}
use Rattle.register_law.proofs.MovesStep.{MoveTook, move_took, froze_first, froze_all, seeded_all, was_stale}
use Rattle.eventual_law.specs.Kinds.{CarriesNone}

-- a version counts for a move that freezes, and is among those of which the greatest is kept
pub record Finds (call : Moving) (taken : Message) (found : Found) : Type 0 where
  pub old : Epoch
  pub target : Epoch
  pub best : Option Found
  pub stage_is : call.stage ≡ Freezing old target best
  pub tag : Tag
  pub replica : DcId
  pub version : Stamp
  pub mark : Stamp
  pub value : List ℕ
  pub taken_is : taken ≡ m.Have tag replica version mark value
  pub counted : counts call.phase tag replica ≡ true
  pub is : better best version value ≡ Some found

-- a replica has what a move seeded, and is the last of those that are enough
pub record Seeds (call : Moving) (taken : Message) (old : ℕ) (target : Epoch) : Type 0 where
  pub frozen : DcSet
  pub seeded : Stamp
  pub top_gone : ℕ
  pub stage_is : call.stage ≡ Seeding old target frozen seeded top_gone
  pub tag : Tag
  pub replica : DcId
  pub taken_is : taken ≡ m.Yes tag replica
  pub counted : counts call.phase tag replica ≡ true
  pub enough : eventual_rule.is_seeded target.policy (with_good call.phase replica) ≡ true

-- a move freezes the epoch that it is told
pub record Freezes (call : Moving) (taken : Message) (epoch : ℕ) : Type 0 where
  pub tag : Tag
  pub at : KeyId
  pub policy : Policy
  pub latest_epoch : ℕ
  pub latest_policy : Policy
  pub stage_is : call.stage ≡ Looking
  pub taken_is : taken ≡ m.Here tag at epoch policy latest_epoch latest_policy
  pub own : call.phase.tag ≡ tag
  pub different : (epoch == latest_epoch) ≡ false
  pub made : move.step eventual_rule call taken ≡ move.freezes call (move.epoch_at epoch policy) (move.epoch_at latest_epoch latest_policy)

pub data MoveSends (call : Moving) (taken message : Message) : Type 0 where
  carries_none : CarriesNone message → MoveSends call taken message
  seeds : (found : Found) (epoch : ℕ) → Finds call taken found → message ≡ m.Seed (next_tag call.phase.tag) call.key epoch found.stamp found.value → MoveSends call taken message
  freezes : (epoch : ℕ) → Freezes call taken epoch → message ≡ m.Freeze (next_tag call.phase.tag) call.key epoch → MoveSends call taken message
  switches : (old : ℕ) (target : Epoch) → Seeds call taken old target → message ≡ m.Switch (next_tag call.phase.tag) call.key old target.number → MoveSends call taken message

abbrev Sends : Moving → Message → Step Moving → Type 0
Sends call taken x = Each (MoveSends call taken) x.out.posts

asks : (call : Moving) (taken message : Message) → CarriesNone message → Each (MoveSends call taken) (to_directory message)
asks call taken message none = each_one (MoveSends call taken) (record { to = to.Directory; message = message }) (carries_none none)

took_sends : (call : Moving) (taken : Message) (new : Step Moving) → MoveTook eventual_rule call taken new → new ≡ move.step eventual_rule call taken → Sends call taken new
took_sends call taken new (froze_first tag at epoch newest policy newest_policy stage got c apart) made =
    each_to (MoveSends call taken) (replicas_of policy) (m.Freeze (next_tag call.phase.tag) call.key epoch)
    (freezes epoch (record { tag = tag; at = at; policy = policy; latest_epoch = newest; latest_policy = newest_policy; stage_is = stage; taken_is = got; own = same_tag call.phase.tag tag c; different = apart; made = sym made }) refl)
took_sends call taken new (froze_all tag replica version mark value old target best found stage got c all e) made =
    each_to (MoveSends call taken) (replicas_of target.policy) (m.Seed (next_tag call.phase.tag) call.key target.number found.stamp found.value)
    (seeds found target.number (record { old = old; target = target; best = best; stage_is = stage; tag = tag; replica = replica; version = version; mark = mark; value = value; taken_is = got; counted = c; is = e }) refl)
took_sends call taken new (seeded_all tag replica old target frozen seeded top_gone stage got c stored) made = each_one (MoveSends call taken) (record { to = to.Directory; message = m.Switch (next_tag call.phase.tag) call.key old target.number })
    (switches old target (record { frozen = frozen; seeded = seeded; top_gone = top_gone; stage_is = stage; tag = tag; replica = replica; taken_is = got; counted = c; enough = stored }) refl)
took_sends call taken new (was_stale epoch own) made = asks call taken (m.Lookup (next_tag call.phase.tag) call.key) tt
took_sends call taken new _ made = each_none (MoveSends call taken)

pub move_sends : (call : Moving) (taken : Message) → Each (MoveSends call taken) (move.step eventual_rule call taken).out.posts
move_sends call taken = took_sends call taken (move.step eventual_rule call taken) (move_took eventual_rule call taken) refl

-- of a get or a put
one_call : (b : Bool) (one other : Step Eventually) → Each CarriesNone one.out.posts → Each CarriesNone other.out.posts → Each CarriesNone (if b then one else other).out.posts
one_call true one other h k = h
one_call false one other h k = k

moves_sends : (call : Eventually) (epoch : ℕ) → Each CarriesNone (eventual.moves call epoch).out.posts
moves_sends call epoch = each_one CarriesNone (record { to = to.Directory; message = eventual.look_up call }) tt

get_have : (stage : Stage) (call : Eventually) (tag : Tag) (replica : DcId) (version : Stamp) (value : List ℕ) → Each CarriesNone (eventual.on_have stage call tag replica version value).out.posts
get_have d.Getting call tag replica version value = one_call (counts call.phase tag replica) (eventual.ends call (r.Value version value)) (eventual.stays call) (each_none CarriesNone) (each_none CarriesNone)
get_have (d.Putting stamp) call tag replica version value = each_none CarriesNone
get_have d.Ended call tag replica version value = each_none CarriesNone

put_yes : (stage : Stage) (call : Eventually) (tag : Tag) (replica : DcId) → Each CarriesNone (eventual.on_yes stage call tag replica).out.posts
put_yes d.Getting call tag replica = each_none CarriesNone
put_yes (d.Putting stamp) call tag replica =
    one_call (counts call.phase tag replica) (eventual.stored_at call replica stamp) (eventual.stays call)
    (one_call (eventual.is_stored call.f (with_good call.phase replica)) (eventual.ends call (r.Stored stamp)) (eventual.goes_on call (with_good call.phase replica) call.gone) (each_none CarriesNone) (each_none CarriesNone))
    (each_none CarriesNone)
put_yes d.Ended call tag replica = each_none CarriesNone

either_gone : (stage : Stage) (call : Eventually) (tag : Tag) (replica : DcId) (epoch : ℕ) → Each CarriesNone (eventual.on_gone stage call tag replica epoch).out.posts
either_gone d.Getting call tag replica epoch =
    one_call (counts call.phase tag replica) (eventual.refused_at call replica epoch) (eventual.stays call)
    (one_call (eventual.all_refused (with_bad call.phase replica)) (eventual.moves call (max call.gone epoch)) (eventual.goes_on call (with_bad call.phase replica) (max call.gone epoch)) (moves_sends call (max call.gone epoch)) (each_none CarriesNone))
    (each_none CarriesNone)
either_gone (d.Putting stamp) call tag replica epoch = one_call (counts call.phase tag replica) (eventual.moves call epoch) (eventual.stays call) (moves_sends call epoch) (each_none CarriesNone)
either_gone d.Ended call tag replica epoch = each_none CarriesNone

pub call_sends_none : (call : Eventually) (message : Message) → Each CarriesNone (eventual.step call message).out.posts
call_sends_none call (m.Have tag replica version mark value) = get_have call.stage call tag replica version value
call_sends_none call (m.Yes tag replica) = put_yes call.stage call tag replica
call_sends_none call (m.Gone tag replica epoch) = either_gone call.stage call tag replica epoch
call_sends_none call message = each_none CarriesNone
