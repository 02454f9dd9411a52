-- The move of a key from one epoch to a later one.
use Rattle.std.specs.Prelude.{ℕ, ◌==◌, Bool, if◌then◌else◌, List, [], Option, Some, None, max}
use Rattle.span_base.specs.declared.ids.KeyId.{KeyId}
use Rattle.span_base.specs.declared.ids.DcId.{DcId}
use Rattle.span_base.specs.declared.dc_set.DcSet.{DcSet}
use Rattle.span_base.specs.declared.policy.Policy.{Policy}
use Rattle.span_base.specs.DcSet.{no_centre}
use Rattle.span_base.specs.PolicyParts.{replicas_of}
use Rattle.ticket_rules.specs.declared.stamp.Stamp.{Stamp}
use Rattle.wire_msg.specs.declared.tag.Tag.{Tag}
use Rattle.wire_msg.specs.declared.message.Message.{Message}
use Rattle.wire_msg.specs.declared.message.Message.TheVariants.{Freeze, Seed, Lookup, Switch, Have, Yes, Gone, Here, Switched}
use Rattle.wire_msg.specs.declared.outputs.Post.{Post}
use Rattle.wire_msg.specs.declared.outputs.Reply.TheVariants.{At, Current, Stale}
use Rattle.wire_msg.specs.declared.outputs.Outputs.{Outputs}
use Rattle.wire_msg.specs.Outputs.{nothing_out, only_posts, Step}
use Rattle.wire_msg.specs.Posts.{to_directory}
use Rattle.call_phase.specs.declared.phase.Phase.{Phase}
use Rattle.call_phase.specs.declared.best.Found.{Found}
use Rattle.call_phase.specs.Best.{better}
use Rattle.call_phase.specs.Counting.{opened, counts, counts_without_replica, with_good, with_bad, next_tag}
use Rattle.call_phase.specs.Requests.{posts_to}
use Rattle.migration.specs.declared.stage.Epoch.{Epoch}
use Rattle.migration.specs.declared.stage.Stage.{Stage}
use Rattle.migration.specs.declared.stage.Stage.TheVariants.{Looking, Freezing, Seeding, Switching, Ended}
use Rattle.migration.specs.Rule.{Rule}

-- a move: its key, its present phase, and what it does
pub record Moving : Type 0 where
  pub key : KeyId
  pub phase : Phase
  pub stage : Stage

-- an epoch and its policy
abbrev pub epoch_at : ℕ → Policy → Epoch
epoch_at number policy = record { number = number; policy = policy }

-- the message changes nothing, and nothing is put out
abbrev pub unchanged : Moving → Step Moving
unchanged call = record { state = call; out = nothing_out }

-- the move waits for more answers of its phase
abbrev pub waits : Moving → Phase → Stage → Step Moving
waits call phase stage = record { state = record { key = call.key; phase = phase; stage = stage }; out = nothing_out }

-- the move goes on with the next phase, which asks these replicas
abbrev pub goes_on : Moving → DcSet → Stage → List Post → Step Moving
goes_on call asked stage posts =
    record { state = record { key = call.key; phase = opened (next_tag call.phase.tag) asked; stage = stage }; out = only_posts posts }

-- the move is over
abbrev pub ends : Moving → Outputs → Step Moving
ends call out = record { state = record { key = call.key; phase = call.phase; stage = Ended }; out = out }

-- the latest epoch is current already
abbrev pub ends_current : Moving → ℕ → Step Moving
ends_current call epoch = ends call (record { posts = []; ticket = None; view = None; end = Some (Current epoch) })

-- the new epoch is current, and the mover knows its policy
abbrev pub ends_at : Moving → Epoch → Step Moving
ends_at call new =
    ends call (record {
      posts = [];
      ticket = None;
      view = Some (record { key = call.key; epoch = new.number; policy = new.policy });
      end = Some (At new.number);
    })

-- another move came first; the directory is asked what is current
abbrev pub ends_stale : Moving → ℕ → Step Moving
ends_stale call epoch =
    ends call (record {
      posts = to_directory (Lookup (next_tag call.phase.tag) call.key);
      ticket = None;
      view = None;
      end = Some (Stale epoch);
    })

-- the first phase asks the directory for the key's epochs
abbrev pub started : Tag → KeyId → Step Moving
started tag key = record { state = record { key = key; phase = opened tag no_centre; stage = Looking }; out = only_posts (to_directory (Lookup tag key)) }

-- the second phase ends the old epoch at its replicas
abbrev pub freezes : Moving → Epoch → Epoch → Step Moving
freezes call old new =
    goes_on call (replicas_of old.policy) (Freezing old new None) (posts_to (replicas_of old.policy) (Freeze (next_tag call.phase.tag) call.key old.number))

-- the third phase stores the greatest version that was found under the new epoch; there is one,
-- since a replica answered
abbrev pub seeds : Rule → Moving → Epoch → Epoch → DcSet → Option Found → Step Moving
seeds rule call old new frozen (Some found) =
    goes_on call (rule.seed_set new.policy) (Seeding old.number new frozen found.stamp 0)
    (posts_to (rule.seed_set new.policy) (Seed (next_tag call.phase.tag) call.key new.number found.stamp found.value))
seeds rule call old new frozen None = unchanged call

-- the fourth phase asks the directory to make the new epoch current
abbrev pub switches : Moving → ℕ → Epoch → DcSet → Stamp → Step Moving
switches call old new frozen seeded =
    goes_on call no_centre (Switching old new frozen seeded) (to_directory (Switch (next_tag call.phase.tag) call.key old new.number))

-- the directory told the key's current and latest epoch
abbrev pub looked : Moving → Epoch → Epoch → Step Moving
looked call current latest = if current.number == latest.number then ends_current call current.number else freezes call current latest

-- one more replica is frozen for the old epoch
abbrev pub froze : Rule → Moving → Epoch → Epoch → Phase → Option Found → Step Moving
froze rule call old new phase best =
    if rule.is_frozen old.policy phase then seeds rule call old new phase.good best else waits call phase (Freezing old new best)

-- one more replica has the version under the new epoch
abbrev pub seeded_one : Rule → Moving → Phase → ℕ → Epoch → DcSet → Stamp → ℕ → Step Moving
seeded_one rule call phase old new frozen seeded top_gone =
    if rule.is_seeded new.policy phase then switches call old new frozen seeded else waits call phase (Seeding old new frozen seeded top_gone)

-- one more replica is past the new epoch
abbrev pub refused_one : Rule → Moving → Phase → ℕ → Epoch → DcSet → Stamp → ℕ → Step Moving
refused_one rule call phase old new frozen seeded top_gone =
    if rule.is_lost new.policy phase then ends_stale call top_gone else waits call phase (Seeding old new frozen seeded top_gone)

-- the move takes the current and the latest epoch
abbrev pub on_here : Moving → Stage → Tag → Epoch → Epoch → Step Moving
on_here call Looking tag current latest = if counts_without_replica call.phase tag then looked call current latest else unchanged call
on_here call stage tag current latest = unchanged call

-- the move takes the version of a replica
abbrev pub on_have : Rule → Moving → Stage → Tag → DcId → Stamp → List ℕ → Step Moving
on_have rule call (Freezing old new best) tag replica version value =
    if counts call.phase tag replica then froze rule call old new (with_good call.phase replica) (better best version value) else unchanged call
on_have rule call stage tag replica version value = unchanged call

-- the move takes that a replica did as it was asked
abbrev pub on_yes : Rule → Moving → Stage → Tag → DcId → Step Moving
on_yes rule call (Seeding old new frozen seeded top_gone) tag replica =
    if counts call.phase tag replica then seeded_one rule call (with_good call.phase replica) old new frozen seeded top_gone else unchanged call
on_yes rule call stage tag replica = unchanged call

-- the move takes that an epoch is over at a replica
abbrev pub on_gone : Rule → Moving → Stage → Tag → DcId → ℕ → Step Moving
on_gone rule call (Seeding old new frozen seeded top_gone) tag replica epoch =
    if counts call.phase tag replica then refused_one rule call (with_bad call.phase replica) old new frozen seeded (max top_gone epoch) else unchanged call
on_gone rule call stage tag replica epoch = unchanged call

-- the move takes whether the directory switched
abbrev pub on_switched : Moving → Stage → Tag → Bool → ℕ → Step Moving
on_switched call (Switching old new frozen seeded) tag done epoch =
    if counts_without_replica call.phase tag then (if done then ends_at call new else ends_stale call epoch) else unchanged call
on_switched call stage tag done epoch = unchanged call

-- the move takes a message
unfoldable pub step : Rule → Moving → Message → Step Moving
step rule call (Here tag key epoch policy latest_epoch latest_policy) =
    on_here call call.stage tag (epoch_at epoch policy) (epoch_at latest_epoch latest_policy)
step rule call (Have tag replica version mark value) = on_have rule call call.stage tag replica version value
step rule call (Yes tag replica) = on_yes rule call call.stage tag replica
step rule call (Gone tag replica epoch) = on_gone rule call call.stage tag replica epoch
step rule call (Switched tag key done epoch) = on_switched call call.stage tag done epoch
step rule call message = unchanged call
