-- What a step is in each case, and what it keeps.
use Rattle.std.proofs.Common.{◌≡◌, ℕ, ◌+◌, ◌≤◌, ◌==◌, Bool, true, false, List, length, Option, Some, None, refl, arith, cond, subst}
use Rattle.std.specs.Ordering.{is_gt}
use Rattle.span_base.specs.declared.ids.KeyId.{KeyId}
use Rattle.span_base.specs.declared.ids.DcId.{DcId}
use Rattle.span_base.specs.declared.policy.Policy.{Policy}
use Rattle.span_base.specs.PolicyParts.{replicas_of}
use Rattle.ticket_rules.specs.declared.stamp.Stamp.{Stamp}
use Rattle.ticket_rules.specs.Stamp.{stamp_cmp}
use Rattle.wire_msg.specs.declared.tag.Tag.{Tag}
use Rattle.wire_msg.specs.declared.message.Message.{Message}
use Rattle.wire_msg.specs.declared.message.Message.TheVariants.{Read, Ask, Store, Repair, Confirm, Freeze, Seed, Push, Lookup, Switch, Have, Yes, Held, Gone, Here, Switched}
use Rattle.wire_msg.specs.Lawful.{IsLawfulStamp}
use Rattle.wire_msg.specs.Sizes.{bulk_of}
use Rattle.wire_msg.specs.Bulks.{bulk_to}
use Rattle.call_phase.specs.declared.best.Found.{Found}
use Rattle.call_phase.specs.Best.{better}
use Rattle.call_phase.specs.Counting.{counts, counts_without_replica, with_good, next_tag}
use Rattle.migration.specs.declared.stage.Epoch.{Epoch}
use Rattle.migration.specs.declared.stage.Stage.TheVariants.{Looking, Freezing}
use Rattle.migration.specs.Rule.{Rule}
use Rattle.migration.specs.Move.{Moving, step, unchanged, waits, on_here, on_have}
use Rattle.migration.specs.Sound.{IsLawfulFound, IsSoundStage, IsSoundMove}
use Rattle.call_phase.proofs.Sent.{bulk_of-posts_to}

-- the kinds that are no answer to a move change nothing
pub step_other : (rule : Rule) (call : Moving) (message : Message)
    → ((tag : Tag) (replica : DcId) (version : Stamp) (mark : Stamp) (value : List ℕ) → message ≡ Have tag replica version mark value → ⊥)
    → ((tag : Tag) (replica : DcId) → message ≡ Yes tag replica → ⊥)
    → ((tag : Tag) (replica : DcId) (epoch : ℕ) → message ≡ Gone tag replica epoch → ⊥)
    → ((tag : Tag) (key : KeyId) (epoch : ℕ) (policy : Policy) (latest_epoch : ℕ) (latest_policy : Policy) → message ≡ Here tag key epoch policy latest_epoch latest_policy → ⊥)
    → ((tag : Tag) (key : KeyId) (done : Bool) (epoch : ℕ) → message ≡ Switched tag key done epoch → ⊥)
    → step rule call message ≡ unchanged call
unfolding step
step_other rule call (Read tag key epoch) a b c d e = refl
step_other rule call (Ask tag key stamp) a b c d e = refl
step_other rule call (Store tag key stamp value) a b c d e = refl
step_other rule call (Repair tag key epoch stamp value) a b c d e = refl
step_other rule call (Confirm tag key stamp) a b c d e = refl
step_other rule call (Freeze tag key epoch) a b c d e = refl
step_other rule call (Seed tag key epoch stamp value) a b c d e = refl
step_other rule call (Push tag key stamp onward value) a b c d e = refl
step_other rule call (Lookup tag key) a b c d e = refl
step_other rule call (Switch tag key closing opening) a b c d e = refl
step_other rule call (Have tag replica version mark value) a b c d e = absurd (a tag replica version mark value refl)
step_other rule call (Yes tag replica) a b c d e = absurd (b tag replica refl)
step_other rule call (Held tag replica stamp) a b c d e = refl
step_other rule call (Gone tag replica epoch) a b c d e = absurd (c tag replica epoch refl)
step_other rule call (Here tag key epoch policy latest_epoch latest_policy) a b c d e = absurd (d tag key epoch policy latest_epoch latest_policy refl)
step_other rule call (Switched tag key done epoch) a b c d e = absurd (e tag key done epoch refl)

-- the bulk of the requests to freeze
pub here_bulk : (call : Moving) (tag : Tag) (current latest : Epoch)
    → call.stage ≡ Looking → counts_without_replica call.phase tag ≡ true → (current.number == latest.number) ≡ false
    → bulk_of (on_here call call.stage tag current latest).out.posts ≡ bulk_to (replicas_of current.policy) 18
here_bulk call tag current latest stage same other =
    rw (stage, same, other) (bulk_of-posts_to (replicas_of current.policy) (Freeze (next_tag call.phase.tag) call.key current.number) 18 (omega arith))

-- the bulk of the requests to seed
pub have_bulk : (rule : Rule) (call : Moving) (old new : Epoch) (best : Option Found) (found : Found) (tag : Tag) (replica : DcId) (stamp : Stamp) (value : List ℕ)
    → call.stage ≡ Freezing old new best → counts call.phase tag replica ≡ true
    → rule.is_frozen old.policy (with_good call.phase replica) ≡ true → better best stamp value ≡ Some found
    → bulk_of (on_have rule call call.stage tag replica stamp value).out.posts ≡ bulk_to (rule.seed_set new.policy) (37 + length found.value)
have_bulk rule call old new best found tag replica stamp value stage counted frozen greater =
    let message : Message = Seed (next_tag call.phase.tag) call.key new.number found.stamp found.value in
    rw (stage, counted, frozen, greater) (bulk_of-posts_to (rule.seed_set new.policy) message (37 + length found.value) (omega arith))

-- a version that isn't enough is kept where it is greater
pub have_waits : (rule : Rule) (call : Moving) (old new : Epoch) (best : Option Found) (tag : Tag) (replica : DcId) (stamp : Stamp) (value : List ℕ)
    → call.stage ≡ Freezing old new best → counts call.phase tag replica ≡ true
    → rule.is_frozen old.policy (with_good call.phase replica) ≡ false
    → on_have rule call call.stage tag replica stamp value ≡ waits call (with_good call.phase replica) (Freezing old new (better best stamp value))
have_waits rule call old new best tag replica stamp value stage counted few = rw (stage, counted, few) refl

-- the greater of two lawful versions is lawful
pub lawful_better : (best : Option Found) (stamp : Stamp) (value : List ℕ) → IsLawfulFound best → IsLawfulStamp stamp → length value ≤ 4096 → IsLawfulFound (better best stamp value)
lawful_better None stamp value lawful low short = (low, short)
lawful_better (Some found) stamp value lawful low short =
    elim (is_gt (stamp_cmp stamp found.stamp)) as (λ b. IsLawfulFound (cond b (Some (record { stamp = stamp; value = value })) (Some found))) [ true ↦ (low, short) | false ↦ lawful ]

-- a move that keeps a lawful version stays sound
pub kept_sound : (call : Moving) (old new : Epoch) (best : Option Found) (replica : DcId) (stamp : Stamp) (value : List ℕ)
    → call.stage ≡ Freezing old new best → IsSoundMove call → IsLawfulStamp stamp → length value ≤ 4096
    → IsSoundMove (record { key = call.key; phase = with_good call.phase replica; stage = Freezing old new (better best stamp value) })
kept_sound call old new best replica stamp value stage sound low short =
    let was : IsSoundStage (Freezing old new best) = subst IsSoundStage stage sound.stage in
    record {
      tag = sound.tag;
      key = sound.key;
      phase = rw stage at sound.phase;
      stage = (was.0, was.1, lawful_better best stamp value was.2 low short);
    }
