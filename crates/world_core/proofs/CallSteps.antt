-- What a call's step keeps: a move its key; and only a move shows a view.
use Rattle.std.proofs.Common.{◌≡◌, ℕ, Bool, true, false, cond, List, refl, ap, ◌∙◌, subst}
use Rattle.std.specs.Prelude.{Option, Some, None, Result, Ok, Err, OnOk, max, ◌==◌}
use Rattle.span_base.specs.declared.ids.DcId.{DcId}
use Rattle.ticket_rules.specs.declared.stamp.Stamp.{Stamp}
use Rattle.wire_msg.specs.declared.tag.Tag.{Tag}
use Rattle.wire_msg.specs.declared.message.Message.{Message}
use Rattle.wire_msg.specs.declared.message.Message.TheVariants as m
use Rattle.wire_msg.specs.declared.outputs.View.{View}
use Rattle.wire_msg.specs.declared.outputs.Outputs.{Outputs}
use Rattle.wire_msg.specs.Outputs.{Step, IsMade}
use Rattle.wire_msg.specs.Posts.{ArePostsOf}
use Rattle.call_phase.specs.declared.phase.Phase.{Phase}
use Rattle.call_phase.specs.declared.best.Found.{Found}
use Rattle.call_phase.specs.Best.{better}
use Rattle.call_phase.specs.Counting.{counts, counts_without_replica, with_good, with_bad}
use Rattle.strong_proxy.specs.declared.state.CallState.{CallState}
use Rattle.strong_proxy.specs.declared.next.Next.{Next}
use Rattle.strong_proxy.specs.declared.next.Next.TheVariants.{Wait, Value, Repair, Store, Stored, Fenced, Unsure, Look, Moved, Outside, NumbersOut, Enter}
use Rattle.strong_proxy.specs.Counting.{is_counted, counted}
use Rattle.strong_proxy.specs.Rule as strong
use Rattle.migration.specs.declared.stage.Epoch.{Epoch}
use Rattle.migration.specs.declared.stage.Stage.{Stage}
use Rattle.migration.specs.declared.stage.Stage.TheVariants.{Looking, Freezing, Seeding, Switching, Ended}
use Rattle.migration.specs.Rule.{Rule}
use Rattle.migration.specs.Move.{Moving, step, unchanged, waits, ends_at, ends_stale, looked, freezes, ends_current, froze, seeds, seeded_one, switches, refused_one, on_here, on_have, on_yes, on_gone, on_switched, epoch_at}
use Rattle.world_core.specs.Proxies.{AreOfKey}

-- ---- a read or a write

done_shows : (next : Next) (call : CallState) → (strong.done next call).out.view ≡ None
done_shows Wait call = refl
done_shows Value call = refl
done_shows Repair call = refl
done_shows Store call = refl
done_shows Stored call = refl
done_shows Fenced call = refl
done_shows Unsure call = refl
done_shows Look call = refl
done_shows Moved call = refl
done_shows Outside call = refl
done_shows NumbersOut call = refl
done_shows (Enter leg) call = refl

pub strong_shows : (call : CallState) (message : Message) (view : View) (seen : ℕ) → (strong.step call message view seen).out.view ≡ None
unfolding strong.step
strong_shows call message view seen = by (is_counted call message)
  where
    by : (b : Bool) → (cond b (strong.done (strong.next_of (counted call message) view seen) (counted call message)) (strong.nothing_done call)).out.view ≡ None
    by true = done_shows (strong.next_of (counted call message) view seen) (counted call message)
    by false = refl

-- ---- a move

abbrev Keeps : Moving → Step Moving → Type 0
Keeps call made = made.state.key ≡ call.key

keeps_if : (call : Moving) (b : Bool) (one other : Step Moving) → Keeps call one → Keeps call other → Keeps call (cond b one other)
keeps_if call true one other h k = h
keeps_if call false one other h k = k

here_keeps : (stage : Stage) (call : Moving) (tag : Tag) (current latest : Epoch) → Keeps call (on_here call stage tag current latest)
here_keeps Looking call tag current latest =
    keeps_if call (counts_without_replica call.phase tag) (looked call current latest) (unchanged call)
    (keeps_if call (current.number == latest.number) (ends_current call current.number) (freezes call current latest) refl refl) refl
here_keeps (Freezing old new best) call tag current latest = refl
here_keeps (Seeding old new frozen seeded top_gone) call tag current latest = refl
here_keeps (Switching old new frozen seeded) call tag current latest = refl
here_keeps Ended call tag current latest = refl

seeds_keeps : (rule : Rule) (call : Moving) (old new : Epoch) (phase : Phase) (best : Option Found) → Keeps call (seeds rule call old new phase.good best)
seeds_keeps rule call old new phase None = refl
seeds_keeps rule call old new phase (Some found) = refl

have_keeps : (rule : Rule) (stage : Stage) (call : Moving) (tag : Tag) (replica : DcId) (version : Stamp) (value : List ℕ) → Keeps call (on_have rule call stage tag replica version value)
have_keeps rule (Freezing old new best) call tag replica version value =
    let phase : Phase = with_good call.phase replica in
    keeps_if call (counts call.phase tag replica) (froze rule call old new phase (better best version value)) (unchanged call)
    (keeps_if call (rule.is_frozen old.policy phase) (seeds rule call old new phase.good (better best version value)) (waits call phase (Freezing old new (better best version value)))
    (seeds_keeps rule call old new phase (better best version value)) refl) refl
have_keeps rule Looking call tag replica version value = refl
have_keeps rule (Seeding old new frozen seeded top_gone) call tag replica version value = refl
have_keeps rule (Switching old new frozen seeded) call tag replica version value = refl
have_keeps rule Ended call tag replica version value = refl

yes_keeps : (rule : Rule) (stage : Stage) (call : Moving) (tag : Tag) (replica : DcId) → Keeps call (on_yes rule call stage tag replica)
yes_keeps rule (Seeding old new frozen seeded top_gone) call tag replica =
    let phase : Phase = with_good call.phase replica in
    keeps_if call (counts call.phase tag replica) (seeded_one rule call phase old new frozen seeded top_gone) (unchanged call)
    (keeps_if call (rule.is_seeded new.policy phase) (switches call old new frozen seeded) (waits call phase (Seeding old new frozen seeded top_gone)) refl refl) refl
yes_keeps rule Looking call tag replica = refl
yes_keeps rule (Freezing old new best) call tag replica = refl
yes_keeps rule (Switching old new frozen seeded) call tag replica = refl
yes_keeps rule Ended call tag replica = refl

gone_keeps : (rule : Rule) (stage : Stage) (call : Moving) (tag : Tag) (replica : DcId) (epoch : ℕ) → Keeps call (on_gone rule call stage tag replica epoch)
gone_keeps rule (Seeding old new frozen seeded top_gone) call tag replica epoch =
    let phase : Phase = with_bad call.phase replica in
    keeps_if call (counts call.phase tag replica) (refused_one rule call phase old new frozen seeded (max top_gone epoch)) (unchanged call)
    (keeps_if call (rule.is_lost new.policy phase) (ends_stale call (max top_gone epoch)) (waits call phase (Seeding old new frozen seeded (max top_gone epoch))) refl refl) refl
gone_keeps rule Looking call tag replica epoch = refl
gone_keeps rule (Freezing old new best) call tag replica epoch = refl
gone_keeps rule (Switching old new frozen seeded) call tag replica epoch = refl
gone_keeps rule Ended call tag replica epoch = refl

switched_keeps : (stage : Stage) (call : Moving) (tag : Tag) (done : Bool) (epoch : ℕ) → Keeps call (on_switched call stage tag done epoch)
switched_keeps (Switching old new frozen seeded) call tag done epoch =
    keeps_if call (counts_without_replica call.phase tag) (cond done (ends_at call new) (ends_stale call epoch)) (unchanged call)
    (keeps_if call done (ends_at call new) (ends_stale call epoch) refl refl) refl
switched_keeps Looking call tag done epoch = refl
switched_keeps (Freezing old new best) call tag done epoch = refl
switched_keeps (Seeding old new frozen seeded top_gone) call tag done epoch = refl
switched_keeps Ended call tag done epoch = refl

pub move_keeps : (rule : Rule) (call : Moving) (message : Message) → Keeps call (step rule call message)
unfolding step
move_keeps rule call (m.Here tag key epoch policy latest_epoch latest_policy) = here_keeps call.stage call tag (epoch_at epoch policy) (epoch_at latest_epoch latest_policy)
move_keeps rule call (m.Have tag replica version mark value) = have_keeps rule call.stage call tag replica version value
move_keeps rule call (m.Yes tag replica) = yes_keeps rule call.stage call tag replica
move_keeps rule call (m.Gone tag replica epoch) = gone_keeps rule call.stage call tag replica epoch
move_keeps rule call (m.Switched tag key done epoch) = switched_keeps call.stage call tag done epoch
move_keeps rule call message = refl

-- what a move sends is of its key
pub move_sends : {E : Type 0} (result : Result (Unit {0}) E) (rule : Rule) (call new : Moving) (message : Message) (out : Outputs) → OnOk result (IsMade (step rule call message) new out) → OnOk result (ArePostsOf new.key new.phase.asked out.posts) → OnOk result (AreOfKey call.key out.posts)
move_sends (Ok done) rule call new message out made sent = subst (λ key. AreOfKey key out.posts) (ap (λ (m : Moving). m.key) made.0 ∙ move_keeps rule call message) sent.of_key
move_sends (Err error) rule call new message out made sent = tt
