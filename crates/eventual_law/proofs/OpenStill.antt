-- A move that goes on in its phase has too few answers; one that ends had a Gone, or the directory's answer.
use Rattle.std.proofs.Common.{◌≡◌, ℕ, ◌+◌, ◌<◌, Bool, true, false, List, [], ◌∷◌, refl, sym, ◌∙◌, subst, arith}
use Rattle.register_law.proofs.MovesStep.{counts_asked}
use Rattle.register_law.proofs.Words.{none_in}
use Rattle.std.specs.Prelude.{◌==◌, ◌^◌, nat_le, nat_lt, Contains, max, length, if◌then◌else◌, Option, Some, None}
use Rattle.std.proofs.lemmas.Nat.{or_lt, pow_below}
use Rattle.std.proofs.lemmas.Grind.{common_steps}
use Rattle.span_base.specs.DcSet.{bits_of, insert, no_centre, centres_of, has}
use Rattle.span_base.specs.PolicyParts.{faults_of, replicas_of}
use Rattle.span_base.proofs.Sets.{has-below, has-no_centre, has-insert_same, count-no_centre, Contains-centres_of}
use Rattle.register_order.proofs.Members.{none_among}
use Rattle.epoch_directory.specs.State.{no_policy}
use Rattle.call_phase.specs.declared.phase.Phase.{Phase}
use Rattle.span_base.specs.declared.ids.DcId.{DcId}
use Rattle.span_base.specs.declared.ids.KeyId.{KeyId}
use Rattle.span_base.specs.declared.dc_set.DcSet.{DcSet}
use Rattle.ticket_rules.specs.declared.stamp.Stamp.{Stamp}
use Rattle.wire_msg.specs.declared.tag.Tag.{Tag}
use Rattle.wire_msg.specs.declared.message.Message.{Message}
use Rattle.wire_msg.specs.declared.outputs.Reply.{Reply}
use Rattle.wire_msg.specs.Outputs.{Step}
use Rattle.wire_msg.specs.declared.message.Message.TheVariants as m
use Rattle.call_phase.specs.declared.best.Found.{Found}
use Rattle.call_phase.specs.Best.{better}
use Rattle.call_phase.specs.Counting.{counts, counts_without_replica, with_good, with_bad}
use Rattle.call_phase.proofs.Tags.{same_tag}
use Rattle.migration.specs.declared.stage.Epoch.{Epoch}
use Rattle.migration.specs.declared.stage.Stage.{Stage}
use Rattle.migration.specs.declared.stage.Stage.TheVariants as at
use Rattle.migration.specs.Eventual.{eventual as eventual_rule}
use Rattle.migration.specs.Move.{Moving, epoch_at, unchanged, waits, seeds, switches, freezes, looked, froze, seeded_one, refused_one, ends_at, ends_stale, ends_current}
use Rattle.migration.specs.Move as move
use Rattle.register_law.proofs.MovesTook.{within_good, better_some}
use Rattle.eventual_law.specs.Quiet.{IsOpenStill}
use Rattle.std.proofs.lemmas.Bool.{lt-ltb}

-- how a move comes to its end
pub data MoveEnds (call : Moving) (message : Message) : Type 0 where
  in_looking : call.stage ≡ at.Looking → MoveEnds call message
  by_gone : (tag : Tag) (replica : DcId) (epoch old : ℕ) (target : Epoch) (frozen : DcSet) (seeded : Stamp) (top_gone : ℕ) → call.stage ≡ at.Seeding old target frozen seeded top_gone → message ≡ m.Gone tag replica epoch → counts call.phase tag replica ≡ true → MoveEnds call message
  by_switched : (tag : Tag) (key : KeyId) (done : Bool) (epoch old : ℕ) (target : Epoch) (frozen : DcSet) (seeded : Stamp) → call.stage ≡ at.Switching old target frozen seeded → message ≡ m.Switched tag key done epoch → call.phase.tag ≡ tag → MoveEnds call message

abbrev Ends : Moving → Message → Step Moving → Type 0
Ends call message x = (reply : Reply) → x.out.end ≡ Some reply → MoveEnds call message

either : (call : Moving) (message : Message) (b : Bool) (one other : Step Moving) → (b ≡ true → Ends call message one) → Ends call message other → Ends call message (if b then one else other)
either call message true one other f h = f refl
either call message false one other f h = h

no_end : (call : Moving) (message : Message) (x : Step Moving) → x.out.end ≡ None → Ends call message x
no_end call message x none reply e = absurd (let z : None ≡ Some reply = sym none ∙ e in cc)

here_ends : (stage : Stage) (call : Moving) (message : Message) (tag : Tag) (current latest : Epoch) → call.stage ≡ stage → Ends call message (move.on_here call stage tag current latest)
here_ends at.Looking call message tag current latest is = λ reply e. in_looking is
here_ends (at.Freezing old new best) call message tag current latest is = no_end call message (unchanged call) refl
here_ends (at.Seeding old new frozen seeded top_gone) call message tag current latest is = no_end call message (unchanged call) refl
here_ends (at.Switching old new frozen seeded) call message tag current latest is = no_end call message (unchanged call) refl
here_ends at.Ended call message tag current latest is = no_end call message (unchanged call) refl

seeds_ends : (call : Moving) (message : Message) (old new : Epoch) (good : DcSet) (o : Option Found) → Ends call message (seeds eventual_rule call old new good o)
seeds_ends call message old new good None = no_end call message (unchanged call) refl
seeds_ends call message old new good (Some found) = no_end call message (seeds eventual_rule call old new good (Some found)) refl

have_ends : (stage : Stage) (call : Moving) (message : Message) (tag : Tag) (replica : DcId) (version : Stamp) (value : List ℕ) → Ends call message (move.on_have eventual_rule call stage tag replica version value)
have_ends (at.Freezing old new best) call message tag replica version value =
    either call message (counts call.phase tag replica) (froze eventual_rule call old new (with_good call.phase replica) (better best version value)) (unchanged call)
    (λ _. either call message (eventual_rule.is_frozen old.policy (with_good call.phase replica)) (seeds eventual_rule call old new (with_good call.phase replica).good (better best version value)) (waits call (with_good call.phase replica) (at.Freezing old new (better best version value)))
    (λ _. seeds_ends call message old new (with_good call.phase replica).good (better best version value)) (no_end call message (waits call (with_good call.phase replica) (at.Freezing old new (better best version value))) refl))
    (no_end call message (unchanged call) refl)
have_ends at.Looking call message tag replica version value = no_end call message (unchanged call) refl
have_ends (at.Seeding old new frozen seeded top_gone) call message tag replica version value = no_end call message (unchanged call) refl
have_ends (at.Switching old new frozen seeded) call message tag replica version value = no_end call message (unchanged call) refl
have_ends at.Ended call message tag replica version value = no_end call message (unchanged call) refl

yes_ends : (stage : Stage) (call : Moving) (message : Message) (tag : Tag) (replica : DcId) → Ends call message (move.on_yes eventual_rule call stage tag replica)
yes_ends (at.Seeding old new frozen seeded top_gone) call message tag replica =
    either call message (counts call.phase tag replica) (seeded_one eventual_rule call (with_good call.phase replica) old new frozen seeded top_gone) (unchanged call)
    (λ _. either call message (eventual_rule.is_seeded new.policy (with_good call.phase replica)) (switches call old new frozen seeded) (waits call (with_good call.phase replica) (at.Seeding old new frozen seeded top_gone))
    (λ _. no_end call message (switches call old new frozen seeded) refl) (no_end call message (waits call (with_good call.phase replica) (at.Seeding old new frozen seeded top_gone)) refl))
    (no_end call message (unchanged call) refl)
yes_ends at.Looking call message tag replica = no_end call message (unchanged call) refl
yes_ends (at.Freezing old new best) call message tag replica = no_end call message (unchanged call) refl
yes_ends (at.Switching old new frozen seeded) call message tag replica = no_end call message (unchanged call) refl
yes_ends at.Ended call message tag replica = no_end call message (unchanged call) refl

gone_ends : (stage : Stage) (call : Moving) (tag : Tag) (replica : DcId) (epoch : ℕ) → call.stage ≡ stage → Ends call (m.Gone tag replica epoch) (move.on_gone eventual_rule call stage tag replica epoch)
gone_ends (at.Seeding old new frozen seeded top_gone) call tag replica epoch is =
    either call (m.Gone tag replica epoch) (counts call.phase tag replica) (refused_one eventual_rule call (with_bad call.phase replica) old new frozen seeded (max top_gone epoch)) (unchanged call)
    (λ c reply e. by_gone tag replica epoch old new frozen seeded top_gone is refl c) (no_end call (m.Gone tag replica epoch) (unchanged call) refl)
gone_ends at.Looking call tag replica epoch is = no_end call (m.Gone tag replica epoch) (unchanged call) refl
gone_ends (at.Freezing old new best) call tag replica epoch is = no_end call (m.Gone tag replica epoch) (unchanged call) refl
gone_ends (at.Switching old new frozen seeded) call tag replica epoch is = no_end call (m.Gone tag replica epoch) (unchanged call) refl
gone_ends at.Ended call tag replica epoch is = no_end call (m.Gone tag replica epoch) (unchanged call) refl

switched_ends : (stage : Stage) (call : Moving) (tag : Tag) (key : KeyId) (done : Bool) (epoch : ℕ) → call.stage ≡ stage → Ends call (m.Switched tag key done epoch) (move.on_switched call stage tag done epoch)
switched_ends (at.Switching old new frozen seeded) call tag key done epoch is =
    either call (m.Switched tag key done epoch) (counts_without_replica call.phase tag) (if done then ends_at call new else ends_stale call epoch) (unchanged call)
    (λ c reply e. by_switched tag key done epoch old new frozen seeded is refl (same_tag call.phase.tag tag c)) (no_end call (m.Switched tag key done epoch) (unchanged call) refl)
switched_ends at.Looking call tag key done epoch is = no_end call (m.Switched tag key done epoch) (unchanged call) refl
switched_ends (at.Freezing old new best) call tag key done epoch is = no_end call (m.Switched tag key done epoch) (unchanged call) refl
switched_ends (at.Seeding old new frozen seeded top_gone) call tag key done epoch is = no_end call (m.Switched tag key done epoch) (unchanged call) refl
switched_ends at.Ended call tag key done epoch is = no_end call (m.Switched tag key done epoch) (unchanged call) refl

pub move_ends : (call : Moving) (message : Message) (reply : Reply) → (move.step eventual_rule call message).out.end ≡ Some reply → MoveEnds call message
unfolding move.step
move_ends call (m.Here tag key epoch policy latest_epoch latest_policy) reply e = here_ends call.stage call (m.Here tag key epoch policy latest_epoch latest_policy) tag (epoch_at epoch policy) (epoch_at latest_epoch latest_policy) refl reply e
move_ends call (m.Have tag replica version mark value) reply e = have_ends call.stage call (m.Have tag replica version mark value) tag replica version value reply e
move_ends call (m.Yes tag replica) reply e = yes_ends call.stage call (m.Yes tag replica) tag replica reply e
move_ends call (m.Gone tag replica epoch) reply e = gone_ends call.stage call tag replica epoch refl reply e
move_ends call (m.Switched tag key done epoch) reply e = switched_ends call.stage call tag key done epoch refl reply e
move_ends call message reply e = no_end call message (unchanged call) refl reply e

-- what the phase of a step says
abbrev Stays : Step Moving → Type 0
Stays x = IsOpenStill x.state.stage x.state.phase

choose : (b : Bool) (one other : Step Moving) → (b ≡ true → Stays one) → (b ≡ false → Stays other) → Stays (if b then one else other)
choose true one other f g = f refl
choose false one other f g = g refl

insert_lt : (set : DcSet) (d : ℕ) → bits_of set < 2 ^ 16 → d < 16 → bits_of (insert set d) < 2 ^ 16
insert_lt set d low lt = or_lt 16 (bits_of set) (2 ^ d) low (pow_below d 16 lt)

same_stays : (call : Moving) (stage : Stage) → call.stage ≡ stage → IsOpenStill stage call.phase → Stays (unchanged call)
same_stays call stage is h = subst (λ (x : Stage). IsOpenStill x call.phase) (sym is) h

none_enough : (f : ℕ) → nat_le (f + 1) (length (centres_of no_centre)) ≡ false
none_enough f = let none = count-no_centre in below f (length (centres_of no_centre)) none
  where
    below : (a b : ℕ) → b ≡ 0 → nat_le (a + 1) b ≡ false
    below a b e = grind (arith, common_steps)

seeds_stays : (call : Moving) (old new : Epoch) (good : DcSet) (o : Option Found) (b : Found) → o ≡ Some b → Stays (seeds eventual_rule call old new good o)
seeds_stays call old new good None b e = absurd (cc)
seeds_stays call old new good (Some found) b e = (none_enough (faults_of new.policy), λ d. has-no_centre d)

-- the epoch that a move is told has replicas
abbrev pub HasReplicas : Moving → Message → Type 0
HasReplicas call (m.Here tag key epoch policy latest_epoch latest_policy) = call.stage ≡ at.Looking → call.phase.tag ≡ tag → (0 == bits_of (replicas_of policy)) ≡ false
HasReplicas call message = Unit {0}

here_stays : (stage : Stage) (call : Moving) (tag : Tag) (current latest : Epoch) → call.stage ≡ stage → IsOpenStill stage call.phase → (stage ≡ at.Looking → call.phase.tag ≡ tag → (0 == bits_of (replicas_of current.policy)) ≡ false) → Stays (move.on_here call stage tag current latest)
here_stays at.Looking call tag current latest is h some =
    choose (counts_without_replica call.phase tag) (looked call current latest) (unchanged call)
    (λ c. choose (current.number == latest.number) (ends_current call current.number) (freezes call current latest) (λ _. tt)
    (λ _. (some refl (same_tag call.phase.tag tag c), omega arith, (λ d there. absurd (none_in d there)), λ d. has-no_centre d)))
    (λ _. same_stays call at.Looking is h)
here_stays (at.Freezing old new best) call tag current latest is h some = same_stays call (at.Freezing old new best) is h
here_stays (at.Seeding old new frozen seeded top_gone) call tag current latest is h some = same_stays call (at.Seeding old new frozen seeded top_gone) is h
here_stays (at.Switching old new frozen seeded) call tag current latest is h some = same_stays call (at.Switching old new frozen seeded) is h
here_stays at.Ended call tag current latest is h some = same_stays call at.Ended is h

have_stays : (stage : Stage) (call : Moving) (tag : Tag) (replica : DcId) (version : Stamp) (value : List ℕ) → call.stage ≡ stage → IsOpenStill stage call.phase → Stays (move.on_have eventual_rule call stage tag replica version value)
have_stays (at.Freezing old new best) call tag replica version value is h =
    choose (counts call.phase tag replica) (froze eventual_rule call old new (with_good call.phase replica) (better best version value)) (unchanged call)
    (λ c. choose (eventual_rule.is_frozen old.policy (with_good call.phase replica)) (seeds eventual_rule call old new (with_good call.phase replica).good (better best version value)) (waits call (with_good call.phase replica) (at.Freezing old new (better best version value)))
    (λ _. let b = better_some best version value in seeds_stays call old new (with_good call.phase replica).good (better best version value) b.0 b.1)
    (λ few. (few, insert_lt call.phase.good replica.0 h.1 (has-below call.phase.asked replica.0 (counts_asked call.phase tag replica c)), within_good call.phase tag replica c h.2, h.3)))
    (λ _. same_stays call (at.Freezing old new best) is h)
have_stays at.Looking call tag replica version value is h = same_stays call at.Looking is h
have_stays (at.Seeding old new frozen seeded top_gone) call tag replica version value is h = same_stays call (at.Seeding old new frozen seeded top_gone) is h
have_stays (at.Switching old new frozen seeded) call tag replica version value is h = same_stays call (at.Switching old new frozen seeded) is h
have_stays at.Ended call tag replica version value is h = same_stays call at.Ended is h

yes_stays : (stage : Stage) (call : Moving) (tag : Tag) (replica : DcId) → call.stage ≡ stage → IsOpenStill stage call.phase → Stays (move.on_yes eventual_rule call stage tag replica)
yes_stays (at.Seeding old new frozen seeded top_gone) call tag replica is h =
    choose (counts call.phase tag replica) (seeded_one eventual_rule call (with_good call.phase replica) old new frozen seeded top_gone) (unchanged call)
    (λ c. choose (eventual_rule.is_seeded new.policy (with_good call.phase replica)) (switches call old new frozen seeded) (waits call (with_good call.phase replica) (at.Seeding old new frozen seeded top_gone)) (λ _. tt) (λ few. (few, h.1)))
    (λ _. same_stays call (at.Seeding old new frozen seeded top_gone) is h)
yes_stays at.Looking call tag replica is h = same_stays call at.Looking is h
yes_stays (at.Freezing old new best) call tag replica is h = same_stays call (at.Freezing old new best) is h
yes_stays (at.Switching old new frozen seeded) call tag replica is h = same_stays call (at.Switching old new frozen seeded) is h
yes_stays at.Ended call tag replica is h = same_stays call at.Ended is h

-- one refusal is too many
not_lost : (phase : Phase) (tag : Tag) (replica : DcId) → counts phase tag replica ≡ true → eventual_rule.is_lost no_policy (with_bad phase replica) ≡ false → ⊥
not_lost phase tag replica c few =
    let there : has (with_bad phase replica).bad replica.0 ≡ true = has-insert_same phase.bad replica.0 (has-below phase.asked replica.0 (counts_asked phase tag replica c)) in
    some (centres_of (with_bad phase replica).bad) replica.0 (Contains-centres_of (with_bad phase replica).bad replica.0 there) few
  where
    some : (ds : List ℕ) (d : ℕ) → Contains ds d → nat_lt 0 (length ds) ≡ false → ⊥
    some [] d there few = none_among d there
    some (e ∷ es) d there few = absurd (let z : nat_lt 0 (length (e ∷ es)) ≡ true = lt-ltb 0 (length (e ∷ es)) (omega arith) in cc)

gone_stays : (stage : Stage) (call : Moving) (tag : Tag) (replica : DcId) (epoch : ℕ) → call.stage ≡ stage → IsOpenStill stage call.phase → Stays (move.on_gone eventual_rule call stage tag replica epoch)
gone_stays (at.Seeding old new frozen seeded top_gone) call tag replica epoch is h =
    choose (counts call.phase tag replica) (refused_one eventual_rule call (with_bad call.phase replica) old new frozen seeded (max top_gone epoch)) (unchanged call)
    (λ c. choose (eventual_rule.is_lost new.policy (with_bad call.phase replica)) (ends_stale call (max top_gone epoch)) (waits call (with_bad call.phase replica) (at.Seeding old new frozen seeded (max top_gone epoch))) (λ _. tt) (λ kept. absurd (not_lost call.phase tag replica c kept)))
    (λ _. same_stays call (at.Seeding old new frozen seeded top_gone) is h)
gone_stays at.Looking call tag replica epoch is h = same_stays call at.Looking is h
gone_stays (at.Freezing old new best) call tag replica epoch is h = same_stays call (at.Freezing old new best) is h
gone_stays (at.Switching old new frozen seeded) call tag replica epoch is h = same_stays call (at.Switching old new frozen seeded) is h
gone_stays at.Ended call tag replica epoch is h = same_stays call at.Ended is h

switched_stays : (stage : Stage) (call : Moving) (tag : Tag) (done : Bool) (epoch : ℕ) → call.stage ≡ stage → IsOpenStill stage call.phase → Stays (move.on_switched call stage tag done epoch)
switched_stays (at.Switching old new frozen seeded) call tag done epoch is h =
    choose (counts_without_replica call.phase tag) (if done then ends_at call new else ends_stale call epoch) (unchanged call)
    (λ _. choose done (ends_at call new) (ends_stale call epoch) (λ _. tt) (λ _. tt)) (λ _. same_stays call (at.Switching old new frozen seeded) is h)
switched_stays at.Looking call tag done epoch is h = same_stays call at.Looking is h
switched_stays (at.Freezing old new best) call tag done epoch is h = same_stays call (at.Freezing old new best) is h
switched_stays (at.Seeding old new frozen seeded top_gone) call tag done epoch is h = same_stays call (at.Seeding old new frozen seeded top_gone) is h
switched_stays at.Ended call tag done epoch is h = same_stays call at.Ended is h

pub open_stays : (call : Moving) (message : Message) → HasReplicas call message → IsOpenStill call.stage call.phase → IsOpenStill (move.step eventual_rule call message).state.stage (move.step eventual_rule call message).state.phase
unfolding move.step
open_stays call (m.Here tag key epoch policy latest_epoch latest_policy) some h = here_stays call.stage call tag (epoch_at epoch policy) (epoch_at latest_epoch latest_policy) refl h some
open_stays call (m.Have tag replica version mark value) some h = have_stays call.stage call tag replica version value refl h
open_stays call (m.Yes tag replica) some h = yes_stays call.stage call tag replica refl h
open_stays call (m.Gone tag replica epoch) some h = gone_stays call.stage call tag replica epoch refl h
open_stays call (m.Switched tag key done epoch) some h = switched_stays call.stage call tag done epoch refl h
open_stays call message some h = h
