-- A move stays within the ranges of a log, with all that it puts out.
use Rattle.std.proofs.Common.{ℕ, Bool, List, arith}
use Rattle.std.specs.Prelude.{◌==◌, max, if◌then◌else◌, Option, Some, None}
use Rattle.span_base.specs.declared.ids.DcId.{DcId}
use Rattle.span_base.specs.declared.dc_set.DcSet.{DcSet}
use Rattle.span_base.specs.PolicyParts.{replicas_of}
use Rattle.ticket_rules.specs.declared.stamp.Stamp.{Stamp}
use Rattle.wire_msg.specs.declared.tag.Tag.{Tag}
use Rattle.wire_msg.specs.declared.actor.Actor.TheVariants as to
use Rattle.wire_msg.specs.declared.message.Message.{Message}
use Rattle.wire_msg.specs.declared.message.Message.TheVariants as m
use Rattle.wire_msg.specs.declared.outputs.Reply.TheVariants as r
use Rattle.wire_msg.specs.Outputs.{Step}
use Rattle.wire_msg.specs.Posts.{to_directory}
use Rattle.call_phase.specs.declared.phase.Phase.{Phase}
use Rattle.call_phase.specs.declared.best.Found.{Found}
use Rattle.call_phase.specs.Best.{better}
use Rattle.call_phase.specs.Counting.{next_tag, counts, counts_without_replica, with_good, with_bad}
use Rattle.call_phase.specs.Requests.{posts_to}
use Rattle.migration.specs.declared.stage.Epoch.{Epoch}
use Rattle.migration.specs.declared.stage.Stage.{Stage}
use Rattle.migration.specs.declared.stage.Stage.TheVariants.{Looking, Freezing, Seeding, Switching, Ended}
use Rattle.migration.specs.Rule.{Rule}
use Rattle.migration.specs.Move.{Moving, epoch_at, unchanged, waits, seeds, switches, freezes, looked, froze, seeded_one, refused_one, ends_at, ends_stale, ends_current, on_here, on_have, on_yes, on_gone, on_switched, step}
use Rattle.register_law.proofs.Basics.{each_none, each_one, each_to}
use Rattle.history_audit.specs.Ranges.{FitsStamp, FitsValue}
use Rattle.log_law.specs.Fits.{FitsEpoch, FitsMessage, FitsFound, FitsStage}
use Rattle.log_law.proofs.Basics.{chosen, better_fits, max_fits, FitsOut, nothing_fits, posts_fit, end_fits}

-- what a step makes of the move
pub record StepFits (step : (Step Moving)) : Type 0 where
  pub state : FitsStage step.state.stage
  pub out : FitsOut step.out

still : (call : Moving) → FitsStage call.stage → StepFits (unchanged call)
still call c = record { state = c; out = nothing_fits }

waiting : (call : Moving) (phase : Phase) (stage : Stage) → FitsStage stage → StepFits (waits call phase stage)
waiting call phase stage s = record { state = s; out = nothing_fits }

current_fits : (call : Moving) (epoch : ℕ) → FitsEpoch epoch → StepFits (ends_current call epoch)
current_fits call epoch f = record { state = tt; out = end_fits (Some (r.Current epoch)) f }

stale_fits : (call : Moving) (epoch : ℕ) → FitsEpoch epoch → StepFits (ends_stale call epoch)
stale_fits call epoch f = record {
  state = tt;
  out = record { posts = each_one FitsMessage (record { to = to.Directory; message = m.Lookup (next_tag call.phase.tag) call.key }) tt; ticket = tt; shown = tt; end = f };
}

arrived_fits : (call : Moving) (new : Epoch) → FitsEpoch new.number → StepFits (ends_at call new)
arrived_fits call new f = record { state = tt; out = record { posts = each_none FitsMessage; ticket = tt; shown = f; end = f } }

freezes_fit : (call : Moving) (old new : Epoch) → FitsEpoch old.number → FitsEpoch new.number → StepFits (freezes call old new)
freezes_fit call old new f g = record {
  state = (g, tt);
  out = posts_fit (posts_to (replicas_of old.policy) (m.Freeze (next_tag call.phase.tag) call.key old.number)) (each_to FitsMessage (replicas_of old.policy) (m.Freeze (next_tag call.phase.tag) call.key old.number) f);
}

seeds_fit : (rule : Rule) (call : Moving) (old new : Epoch) (frozen : DcSet) (o : Option Found) → FitsEpoch new.number → FitsFound o → FitsStage call.stage → StepFits (seeds rule call old new frozen o)
seeds_fit rule call old new frozen None g h c = still call c
seeds_fit rule call old new frozen (Some found) g h c = record {
  state = (g, omega arith);
  out = posts_fit (posts_to (rule.seed_set new.policy) (m.Seed (next_tag call.phase.tag) call.key new.number found.stamp found.value))
      (each_to FitsMessage (rule.seed_set new.policy) (m.Seed (next_tag call.phase.tag) call.key new.number found.stamp found.value) h);
}

switches_fit : (call : Moving) (old : ℕ) (new : Epoch) (frozen : DcSet) (seeded : Stamp) → FitsEpoch new.number → StepFits (switches call old new frozen seeded)
switches_fit call old new frozen seeded g = record {
  state = g;
  out = posts_fit (to_directory (m.Switch (next_tag call.phase.tag) call.key old new.number))
      (each_one FitsMessage (record { to = to.Directory; message = m.Switch (next_tag call.phase.tag) call.key old new.number }) g);
}

here_fits : (call : Moving) (stage : Stage) (tag : Tag) (current latest : Epoch) → FitsEpoch current.number → FitsEpoch latest.number → FitsStage call.stage → StepFits (on_here call stage tag current latest)
here_fits call Looking tag current latest f g c =
    chosen StepFits (counts_without_replica call.phase tag) (looked call current latest) (unchanged call)
    (chosen StepFits (current.number == latest.number) (ends_current call current.number) (freezes call current latest) (current_fits call current.number f) (freezes_fit call current latest f g)) (still call c)
here_fits call (Freezing old new best) tag current latest f g c = still call c
here_fits call (Seeding old new frozen seeded top_gone) tag current latest f g c = still call c
here_fits call (Switching old new frozen seeded) tag current latest f g c = still call c
here_fits call Ended tag current latest f g c = still call c

have_fits : (rule : Rule) (call : Moving) (stage : Stage) (tag : Tag) (replica : DcId) (version : Stamp) (value : List ℕ) → FitsStamp version → FitsValue value → FitsStage stage → FitsStage call.stage
    → StepFits (on_have rule call stage tag replica version value)
have_fits rule call (Freezing old new best) tag replica version value s v h c =
    let found = better_fits best version value h.1 s v in
    chosen StepFits (counts call.phase tag replica) (froze rule call old new (with_good call.phase replica) (better best version value)) (unchanged call)
    (chosen StepFits (rule.is_frozen old.policy (with_good call.phase replica)) (seeds rule call old new (with_good call.phase replica).good (better best version value)) (waits call (with_good call.phase replica) (Freezing old new (better best version value)))
    (seeds_fit rule call old new (with_good call.phase replica).good (better best version value) h.0 found c) (waiting call (with_good call.phase replica) (Freezing old new (better best version value)) (h.0, found)))
    (still call c)
have_fits rule call Looking tag replica version value s v h c = still call c
have_fits rule call (Seeding old new frozen seeded top_gone) tag replica version value s v h c = still call c
have_fits rule call (Switching old new frozen seeded) tag replica version value s v h c = still call c
have_fits rule call Ended tag replica version value s v h c = still call c

yes_fits : (rule : Rule) (call : Moving) (stage : Stage) (tag : Tag) (replica : DcId) → FitsStage stage → FitsStage call.stage → StepFits (on_yes rule call stage tag replica)
yes_fits rule call (Seeding old new frozen seeded top_gone) tag replica h c =
    chosen StepFits (counts call.phase tag replica) (seeded_one rule call (with_good call.phase replica) old new frozen seeded top_gone) (unchanged call)
    (chosen StepFits (rule.is_seeded new.policy (with_good call.phase replica)) (switches call old new frozen seeded) (waits call (with_good call.phase replica) (Seeding old new frozen seeded top_gone))
    (switches_fit call old new frozen seeded h.0) (waiting call (with_good call.phase replica) (Seeding old new frozen seeded top_gone) h))
    (still call c)
yes_fits rule call Looking tag replica h c = still call c
yes_fits rule call (Freezing old new best) tag replica h c = still call c
yes_fits rule call (Switching old new frozen seeded) tag replica h c = still call c
yes_fits rule call Ended tag replica h c = still call c

gone_fits : (rule : Rule) (call : Moving) (stage : Stage) (tag : Tag) (replica : DcId) (epoch : ℕ) → FitsEpoch epoch → FitsStage stage → FitsStage call.stage → StepFits (on_gone rule call stage tag replica epoch)
gone_fits rule call (Seeding old new frozen seeded top_gone) tag replica epoch f h c =
    let most = max_fits top_gone epoch h.1 f in
    chosen StepFits (counts call.phase tag replica) (refused_one rule call (with_bad call.phase replica) old new frozen seeded (max top_gone epoch)) (unchanged call)
    (chosen StepFits (rule.is_lost new.policy (with_bad call.phase replica)) (ends_stale call (max top_gone epoch)) (waits call (with_bad call.phase replica) (Seeding old new frozen seeded (max top_gone epoch)))
    (stale_fits call (max top_gone epoch) most) (waiting call (with_bad call.phase replica) (Seeding old new frozen seeded (max top_gone epoch)) (h.0, most)))
    (still call c)
gone_fits rule call Looking tag replica epoch f h c = still call c
gone_fits rule call (Freezing old new best) tag replica epoch f h c = still call c
gone_fits rule call (Switching old new frozen seeded) tag replica epoch f h c = still call c
gone_fits rule call Ended tag replica epoch f h c = still call c

switched_fits : (call : Moving) (stage : Stage) (tag : Tag) (done : Bool) (epoch : ℕ) → FitsEpoch epoch → FitsStage stage → FitsStage call.stage → StepFits (on_switched call stage tag done epoch)
switched_fits call (Switching old new frozen seeded) tag done epoch f h c =
    chosen StepFits (counts_without_replica call.phase tag) (if done then ends_at call new else ends_stale call epoch) (unchanged call)
    (chosen StepFits done (ends_at call new) (ends_stale call epoch) (arrived_fits call new h) (stale_fits call epoch f)) (still call c)
switched_fits call Looking tag done epoch f h c = still call c
switched_fits call (Freezing old new best) tag done epoch f h c = still call c
switched_fits call (Seeding old new frozen seeded top_gone) tag done epoch f h c = still call c
switched_fits call Ended tag done epoch f h c = still call c

pub move_fits : (rule : Rule) (call : Moving) (message : Message) → FitsMessage message → FitsStage call.stage → StepFits (step rule call message)
unfolding step
move_fits rule call (m.Here tag key epoch policy latest_epoch latest_policy) f c = here_fits call call.stage tag (epoch_at epoch policy) (epoch_at latest_epoch latest_policy) f.0 f.1 c
move_fits rule call (m.Have tag replica version mark value) f c = have_fits rule call call.stage tag replica version value f.0 f.2 c c
move_fits rule call (m.Yes tag replica) f c = yes_fits rule call call.stage tag replica c c
move_fits rule call (m.Gone tag replica epoch) f c = gone_fits rule call call.stage tag replica epoch f c c
move_fits rule call (m.Switched tag key done epoch) f c = switched_fits call call.stage tag done epoch f c c
move_fits rule call message f c = still call c
