-- An answer that a live move of an eventual key has been delivered in its phase has counted.
use Rattle.std.proofs.Common.{◌≡◌, ℕ, ◌+◌, ◌<◌, Bool, true, false, List, refl, sym, ap, subst, arith}
use Rattle.register_law.proofs.Words.{has-insert_stays}
use Rattle.std.specs.Prelude.{max, if◌then◌else◌, Option, Some, None}
use Rattle.span_base.specs.DcSet.{has}
use Rattle.span_base.proofs.Sets.{has-below, has-insert_same}
use Rattle.span_base.specs.declared.ids.DcId.{DcId}
use Rattle.span_base.specs.declared.ids.KeyId.{KeyId}
use Rattle.span_base.specs.declared.dc_set.DcSet.{DcSet}
use Rattle.ticket_rules.specs.declared.stamp.Stamp.{Stamp}
use Rattle.wire_msg.specs.declared.tag.Tag.{Tag}
use Rattle.wire_msg.specs.declared.message.Message.{Message}
use Rattle.wire_msg.specs.Posts.{tag_of}
use Rattle.wire_msg.specs.Outputs.{Step}
use Rattle.wire_msg.specs.declared.message.Message.TheVariants as m
use Rattle.call_phase.specs.declared.best.Found.{Found}
use Rattle.call_phase.specs.declared.phase.Phase.{Phase}
use Rattle.call_phase.specs.Best.{better}
use Rattle.call_phase.specs.Counting.{is_same_tag, counts, counts_without_replica, with_good, with_bad, next_tag}
use Rattle.migration.specs.declared.stage.Epoch.{Epoch}
use Rattle.migration.specs.declared.stage.Stage.{Stage}
use Rattle.migration.specs.declared.stage.Stage.TheVariants as at
use Rattle.migration.specs.Eventual.{eventual as eventual_rule}
use Rattle.migration.specs.Move.{Moving, unchanged, waits, seeds, switches, froze, seeded_one, ends_at, ends_stale}
use Rattle.migration.specs.Move as move
use Rattle.register_law.proofs.MovesStep.{MoveTook, unheard, was_current, froze_first, froze_one, froze_all, seeded_next, seeded_all, was_refused, was_stale, arrived, counts_asked}
use Rattle.register_law.proofs.MovesTook.{better_some}
use Rattle.eventual_law.specs.Quiet.{HasCounted, IsOpenStill}
use Rattle.call_phase.proofs.Tags.{is_same_tag-refl}

same_is : (a b : Tag) → a ≡ b → is_same_tag a b ≡ true
same_is a b e = subst (λ (x : Tag). is_same_tag a x ≡ true) e (is_same_tag-refl a)

-- an answer of the phase's own that doesn't count has counted, where none refused
counted_before : (phase : Phase) (tag : Tag) (replica : DcId) → phase.tag ≡ tag → counts phase tag replica ≡ false → has phase.bad replica.0 ≡ false → has phase.asked replica.0 ≡ true → has phase.good replica.0 ≡ true
counted_before phase tag replica own c bad asked = by (has phase.good replica.0) refl
  where
    by : (b : Bool) → has phase.good replica.0 ≡ b → b ≡ true
    by true is = refl
    by false is = absurd (let z : counts phase tag replica ≡ true = rw (same_is phase.tag tag own, asked, is, bad) refl in cc)

now_good : (phase : Phase) (tag : Tag) (replica : DcId) → counts phase tag replica ≡ true → has (with_good phase replica).good replica.0 ≡ true
now_good phase tag replica c = has-insert_same phase.good replica.0 (has-below phase.asked replica.0 (counts_asked phase tag replica c))

-- what a step says of the message that it took
abbrev Says : Message → Step Moving → Type 0
Says message x = x.out.end ≡ None → HasCounted x.state.stage x.state.phase message

choose : (message : Message) (b : Bool) (one other : Step Moving) → (b ≡ true → Says message one) → (b ≡ false → Says message other) → Says message (if b then one else other)
choose message true one other f g = f refl
choose message false one other f g = g refl

as_is : (call : Moving) (stage : Stage) (message : Message) → call.stage ≡ stage → HasCounted stage call.phase message → Says message (unchanged call)
as_is call stage message is h = λ _. subst (λ (x : Stage). HasCounted x call.phase message) (sym is) h

seeds_says : (call : Moving) (old new : Epoch) (good : DcSet) (tag : Tag) (replica : DcId) (version mark : Stamp) (value : List ℕ) (o : Option Found) (b : Found) → o ≡ Some b → Says (m.Have tag replica version mark value) (seeds eventual_rule call old new good o)
seeds_says call old new good tag replica version mark value None b e = absurd (cc)
seeds_says call old new good tag replica version mark value (Some found) b e = λ _. tt

have_says : (stage : Stage) (call : Moving) (tag : Tag) (replica : DcId) (version mark : Stamp) (value : List ℕ) → call.stage ≡ stage → IsOpenStill stage call.phase → call.phase.tag ≡ tag → Says (m.Have tag replica version mark value) (move.on_have eventual_rule call stage tag replica version value)
have_says (at.Freezing old new best) call tag replica version mark value is h own =
    let message : Message = m.Have tag replica version mark value in
    choose message (counts call.phase tag replica) (froze eventual_rule call old new (with_good call.phase replica) (better best version value)) (unchanged call)
    (λ c. choose message (eventual_rule.is_frozen old.policy (with_good call.phase replica)) (seeds eventual_rule call old new (with_good call.phase replica).good (better best version value)) (waits call (with_good call.phase replica) (at.Freezing old new (better best version value)))
    (λ _. let b = better_some best version value in seeds_says call old new (with_good call.phase replica).good tag replica version mark value (better best version value) b.0 b.1)
    (λ _ _ asked. now_good call.phase tag replica c))
    (λ c. as_is call (at.Freezing old new best) message is (λ asked. counted_before call.phase tag replica own c (h.3 replica.0) asked))
have_says at.Looking call tag replica version mark value is h own = as_is call at.Looking (m.Have tag replica version mark value) is tt
have_says (at.Seeding old new frozen seeded top_gone) call tag replica version mark value is h own = as_is call (at.Seeding old new frozen seeded top_gone) (m.Have tag replica version mark value) is tt
have_says (at.Switching old new frozen seeded) call tag replica version mark value is h own = as_is call (at.Switching old new frozen seeded) (m.Have tag replica version mark value) is tt
have_says at.Ended call tag replica version mark value is h own = as_is call at.Ended (m.Have tag replica version mark value) is tt

yes_says : (stage : Stage) (call : Moving) (tag : Tag) (replica : DcId) → call.stage ≡ stage → IsOpenStill stage call.phase → call.phase.tag ≡ tag → Says (m.Yes tag replica) (move.on_yes eventual_rule call stage tag replica)
yes_says (at.Seeding old new frozen seeded top_gone) call tag replica is h own =
    let message : Message = m.Yes tag replica in
    choose message (counts call.phase tag replica) (seeded_one eventual_rule call (with_good call.phase replica) old new frozen seeded top_gone) (unchanged call)
    (λ c. choose message (eventual_rule.is_seeded new.policy (with_good call.phase replica)) (switches call old new frozen seeded) (waits call (with_good call.phase replica) (at.Seeding old new frozen seeded top_gone)) (λ _ _. tt)
    (λ _ _ asked. now_good call.phase tag replica c))
    (λ c. as_is call (at.Seeding old new frozen seeded top_gone) message is (λ asked. counted_before call.phase tag replica own c (h.1 replica.0) asked))
yes_says at.Looking call tag replica is h own = as_is call at.Looking (m.Yes tag replica) is tt
yes_says (at.Freezing old new best) call tag replica is h own = as_is call (at.Freezing old new best) (m.Yes tag replica) is tt
yes_says (at.Switching old new frozen seeded) call tag replica is h own = as_is call (at.Switching old new frozen seeded) (m.Yes tag replica) is tt
yes_says at.Ended call tag replica is h own = as_is call at.Ended (m.Yes tag replica) is tt

switched_says : (stage : Stage) (call : Moving) (tag : Tag) (key : KeyId) (done : Bool) (epoch : ℕ) → call.stage ≡ stage → call.phase.tag ≡ tag → Says (m.Switched tag key done epoch) (move.on_switched call stage tag done epoch)
switched_says (at.Switching old new frozen seeded) call tag key done epoch is own =
    choose (m.Switched tag key done epoch) (counts_without_replica call.phase tag) (if done then ends_at call new else ends_stale call epoch) (unchanged call)
    (λ _. choose (m.Switched tag key done epoch) done (ends_at call new) (ends_stale call epoch) (λ _ e. absurd (cc)) (λ _ e. absurd (cc)))
    (λ c. absurd (let z = same_is call.phase.tag tag own in cc))
switched_says at.Looking call tag key done epoch is own = as_is call at.Looking (m.Switched tag key done epoch) is tt
switched_says (at.Freezing old new best) call tag key done epoch is own = as_is call (at.Freezing old new best) (m.Switched tag key done epoch) is tt
switched_says (at.Seeding old new frozen seeded top_gone) call tag key done epoch is own = as_is call (at.Seeding old new frozen seeded top_gone) (m.Switched tag key done epoch) is tt
switched_says at.Ended call tag key done epoch is own = as_is call at.Ended (m.Switched tag key done epoch) is tt

-- only three kinds of messages are answers that a move waits for
abbrev IsWaitedFor : Message → Type 0
IsWaitedFor (m.Have tag replica version mark value) = ⊥
IsWaitedFor (m.Yes tag replica) = ⊥
IsWaitedFor (m.Switched tag key done epoch) = ⊥
IsWaitedFor _ = Unit {0}

others_count : (stage : Stage) (phase : Phase) (message : Message) → IsWaitedFor message → HasCounted stage phase message
others_count at.Looking phase message o = tt
others_count (at.Freezing old new best) phase (m.Have tag replica version mark value) o = absurd o
others_count (at.Freezing old new best) phase message o = tt
others_count (at.Seeding old new frozen seeded top_gone) phase (m.Yes tag replica) o = absurd o
others_count (at.Seeding old new frozen seeded top_gone) phase message o = tt
others_count (at.Switching old new frozen seeded) phase (m.Switched tag key done epoch) o = absurd o
others_count (at.Switching old new frozen seeded) phase message o = tt
others_count at.Ended phase message o = tt

others_ended : (phase : Phase) (message : Message) → HasCounted at.Ended phase message
others_ended phase message = tt

-- a message of its own that a move took, and after which it lives, has counted
pub counts_now : (call : Moving) (message : Message) → IsOpenStill call.stage call.phase → call.phase.tag ≡ tag_of message → (move.step eventual_rule call message).out.end ≡ None → HasCounted (move.step eventual_rule call message).state.stage (move.step eventual_rule call message).state.phase message
unfolding move.step
counts_now call (m.Have tag replica version mark value) h own e = have_says call.stage call tag replica version mark value refl h own e
counts_now call (m.Yes tag replica) h own e = yes_says call.stage call tag replica refl h own e
counts_now call (m.Switched tag key done epoch) h own e = switched_says call.stage call tag key done epoch refl own e
counts_now call (m.Read tag key epoch) h own e = others_count _ _ (m.Read tag key epoch) tt
counts_now call (m.Ask tag key stamp) h own e = others_count _ _ (m.Ask tag key stamp) tt
counts_now call (m.Store tag key stamp value) h own e = others_count _ _ (m.Store tag key stamp value) tt
counts_now call (m.Repair tag key epoch stamp value) h own e = others_count _ _ (m.Repair tag key epoch stamp value) tt
counts_now call (m.Confirm tag key stamp) h own e = others_count _ _ (m.Confirm tag key stamp) tt
counts_now call (m.Freeze tag key epoch) h own e = others_count _ _ (m.Freeze tag key epoch) tt
counts_now call (m.Seed tag key epoch stamp value) h own e = others_count _ _ (m.Seed tag key epoch stamp value) tt
counts_now call (m.Push tag key stamp onward value) h own e = others_count _ _ (m.Push tag key stamp onward value) tt
counts_now call (m.Lookup tag key) h own e = others_count _ _ (m.Lookup tag key) tt
counts_now call (m.Switch tag key old new) h own e = others_count _ _ (m.Switch tag key old new) tt
counts_now call (m.Held tag replica stamp) h own e = others_count _ _ (m.Held tag replica stamp) tt
counts_now call (m.Gone tag replica epoch) h own e = others_count _ _ (m.Gone tag replica epoch) tt
counts_now call (m.Here tag key epoch policy latest_epoch latest_policy) h own e = others_count _ _ (m.Here tag key epoch policy latest_epoch latest_policy) tt

-- what counted stays counted in the phase
freezing_more : (old new : Epoch) (best more : Option Found) (phase : Phase) (replica : DcId) (message : Message) → replica.0 < 16 → HasCounted (at.Freezing old new best) phase message → HasCounted (at.Freezing old new more) (with_good phase replica) message
freezing_more old new best more phase replica (m.Have tag d version mark value) lt h = λ asked. has-insert_stays phase.good replica.0 d.0 lt (h asked)
freezing_more old new best more phase replica message lt h = tt

seeding_more : (old : ℕ) (new : Epoch) (frozen : DcSet) (seeded : Stamp) (top_gone more : ℕ) (phase : Phase) (replica : DcId) (message : Message) → replica.0 < 16 → HasCounted (at.Seeding old new frozen seeded top_gone) phase message → HasCounted (at.Seeding old new frozen seeded more) (with_good phase replica) message
seeding_more old new frozen seeded top_gone more phase replica (m.Yes tag d) lt h = λ asked. has-insert_stays phase.good replica.0 d.0 lt (h asked)
seeding_more old new frozen seeded top_gone more phase replica message lt h = tt

seeding_bad : (old : ℕ) (new : Epoch) (frozen : DcSet) (seeded : Stamp) (top_gone more : ℕ) (phase : Phase) (replica : DcId) (message : Message) → HasCounted (at.Seeding old new frozen seeded top_gone) phase message → HasCounted (at.Seeding old new frozen seeded more) (with_bad phase replica) message
seeding_bad old new frozen seeded top_gone more phase replica (m.Yes tag d) h = h
seeding_bad old new frozen seeded top_gone more phase replica message h = tt

-- of a step after which the phase is the same
abbrev Keeps : Moving → Message → Step Moving → Type 0
Keeps call message x = x.state.phase.tag ≡ call.phase.tag → HasCounted x.state.stage x.state.phase message

next_apart : (X : Type 0) (tag : Tag) → next_tag tag ≡ tag → X
next_apart X tag e = absurd (let z : tag.phase + 1 ≡ tag.phase = ap (λ (t : Tag). t.phase) e in omega arith)

replica_below : (phase : Phase) (tag : Tag) (replica : DcId) → counts phase tag replica ≡ true → replica.0 < 16
replica_below phase tag replica c = has-below phase.asked replica.0 (counts_asked phase tag replica c)

pub counted_stays : (call : Moving) (taken message : Message) (new : Step Moving) → HasCounted call.stage call.phase message → MoveTook eventual_rule call taken new → Keeps call message new
counted_stays call taken message new h unheard = λ _. h
counted_stays call taken message new h (was_current epoch own) = λ _. others_ended call.phase message
counted_stays call taken message new h (was_stale epoch own) = λ _. others_ended call.phase message
counted_stays call taken message new h (arrived tag key epoch old target frozen seeded stage got c) = λ _. others_ended call.phase message
counted_stays call taken message new h (froze_first tag key epoch latest_epoch policy latest_policy stage got c different) = λ same. next_apart _ call.phase.tag same
counted_stays call taken message new h (froze_one tag replica version mark value old target best stage got c) =
    λ _. freezing_more old target best (better best version value) call.phase replica message (replica_below call.phase tag replica c) (subst (λ (x : Stage). HasCounted x call.phase message) stage h)
counted_stays call taken message new h (froze_all tag replica version mark value old target best found stage got c all e) = λ same. next_apart _ call.phase.tag same
counted_stays call taken message new h (seeded_next tag replica old target frozen seeded top_gone stage got c) =
    λ _. seeding_more old target frozen seeded top_gone top_gone call.phase replica message (replica_below call.phase tag replica c) (subst (λ (x : Stage). HasCounted x call.phase message) stage h)
counted_stays call taken message new h (seeded_all tag replica old target frozen seeded top_gone stage got c stored) = λ same. next_apart _ call.phase.tag same
counted_stays call taken message new h (was_refused tag replica epoch old target frozen seeded top_gone stage got c) =
    λ _. seeding_bad old target frozen seeded top_gone (max top_gone epoch) call.phase replica message (subst (λ (x : Stage). HasCounted x call.phase message) stage h)
