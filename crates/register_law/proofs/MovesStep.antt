-- What a move does with a message; only an answer under its own tag counts.
use Rattle.std.proofs.Common.{◌≡◌, Bool, true, false, refl, ◌&&◌, not, ℕ, List, sym, ap, ◌∙◌, ◌==◌, if◌then◌else◌, max, Option, Some, None}
use Rattle.register_law.proofs.Words.{has, DcId, tag_of, Message, Tag, counts, counts_without_replica, is_same_tag, Phase, is_counted, progress_after, takes_have, takes_yes, Progress, CallState, DcSet, KeyId, Policy, Stamp, Step, Reply, View, better, with_bad, with_good, Found, Moving, epoch_at, unchanged, Rule, Epoch, Freezing, Seeding, Switching, MoveStage as Stage, and_right, and_left}
use Rattle.wire_msg.specs.declared.message.Message.TheVariants as m
use Rattle.strong_proxy.specs.Counting.{takes_held, takes_gone, takes_here}
use Rattle.call_phase.proofs.Tags.{same_tag}
use Rattle.wire_msg.specs.declared.outputs.Reply.TheVariants as r
use Rattle.migration.specs.declared.stage.Stage.TheVariants.{Looking}
use Rattle.migration.specs.Move.{waits, seeds, switches, freezes, looked, froze, seeded_one, refused_one, ends_at, ends_stale, ends_current, on_here, on_have, on_yes, on_gone, on_switched, step}

-- counting changes no tag
pub counted_tag : (p : Progress) (message : Message) → (progress_after p message).phase.tag ≡ p.phase.tag
counted_tag p (m.Have tag replica version mark value) = refl
counted_tag p message = refl

first_two : (a b c d : Bool) → (a && b && c && d) ≡ true → (a && b) ≡ true
first_two a b c d h = and_left (a && b) c (and_left (a && b && c) d h)

-- an answer that counts has the call's own tag
pub counts_own : (phase : Phase) (tag : Tag) (replica : DcId) → counts phase tag replica ≡ true → phase.tag ≡ tag
counts_own phase tag replica h =
    same_tag phase.tag tag (and_left (is_same_tag phase.tag tag) (has phase.asked replica.0) (first_two (is_same_tag phase.tag tag) (has phase.asked replica.0) (not (has phase.good replica.0)) (not (has phase.bad replica.0)) h))

-- and is of a replica that was asked
pub counts_asked : (phase : Phase) (tag : Tag) (replica : DcId) → counts phase tag replica ≡ true → has phase.asked replica.0 ≡ true
counts_asked phase tag replica h =
    and_right (is_same_tag phase.tag tag) (has phase.asked replica.0) (first_two (is_same_tag phase.tag tag) (has phase.asked replica.0) (not (has phase.good replica.0)) (not (has phase.bad replica.0)) h)

counts_tag : (takes : Bool) (phase : Phase) (tag : Tag) (replica : DcId) → (takes && counts phase tag replica) ≡ true → phase.tag ≡ tag
counts_tag takes phase tag replica h = counts_own phase tag replica (and_right takes (counts phase tag replica) h)

-- only a message with the call's own tag counts
pub counted_is_own : (call : CallState) (message : Message) → is_counted call message ≡ true → call.progress.phase.tag ≡ tag_of message
counted_is_own call (m.Have tag replica version mark value) h = counts_tag (takes_have call.work call.progress.stage) call.progress.phase tag replica h
counted_is_own call (m.Yes tag replica) h = counts_tag (takes_yes call.work call.progress.stage) call.progress.phase tag replica h
counted_is_own call (m.Held tag replica stamp) h = counts_tag (takes_held call.work call.progress.stage) call.progress.phase tag replica h
counted_is_own call (m.Gone tag replica epoch) h = counts_tag (takes_gone call.progress.stage) call.progress.phase tag replica h
counted_is_own call (m.Here tag key epoch policy latest_epoch latest_policy) h = same_tag call.progress.phase.tag tag (and_right (takes_here call.progress.stage) (counts_without_replica call.progress.phase tag) h)
counted_is_own call _ h = absurd (cc)

-- ---- what a move does with a message, whatever is enough for it

-- what came of a message
pub data MoveTook (rule : Rule) (call : Moving) (message : Message) : Step Moving → Type 0 where
  unheard : MoveTook rule call message (unchanged call)
  was_current : (epoch : ℕ) → call.phase.tag ≡ tag_of message → MoveTook rule call message (ends_current call epoch)
  froze_first : (tag : Tag) (key : KeyId) (epoch newest : ℕ) (policy newest_policy : Policy) → call.stage ≡ Looking → message ≡ m.Here tag key epoch policy newest newest_policy → counts_without_replica call.phase tag ≡ true → (epoch == newest) ≡ false
      → MoveTook rule call message (freezes call (epoch_at epoch policy) (epoch_at newest newest_policy))
  froze_one : (tag : Tag) (replica : DcId) (version mark : Stamp) (value : List ℕ) (old target : Epoch) (best : Option Found) → call.stage ≡ Freezing old target best → message ≡ m.Have tag replica version mark value → counts call.phase tag replica ≡ true
      → MoveTook rule call message (waits call (with_good call.phase replica) (Freezing old target (better best version value)))
  froze_all : (tag : Tag) (replica : DcId) (version mark : Stamp) (value : List ℕ) (old target : Epoch) (best : Option Found) (found : Found) → call.stage ≡ Freezing old target best → message ≡ m.Have tag replica version mark value → counts call.phase tag replica ≡ true
      → rule.is_frozen old.policy (with_good call.phase replica) ≡ true → better best version value ≡ Some found
      → MoveTook rule call message (seeds rule call old target (with_good call.phase replica).good (Some found))
  seeded_next : (tag : Tag) (replica : DcId) (old : ℕ) (target : Epoch) (frozen : DcSet) (seeded : Stamp) (top_gone : ℕ) → call.stage ≡ Seeding old target frozen seeded top_gone → message ≡ m.Yes tag replica → counts call.phase tag replica ≡ true
      → MoveTook rule call message (waits call (with_good call.phase replica) (Seeding old target frozen seeded top_gone))
  seeded_all : (tag : Tag) (replica : DcId) (old : ℕ) (target : Epoch) (frozen : DcSet) (seeded : Stamp) (top_gone : ℕ) → call.stage ≡ Seeding old target frozen seeded top_gone → message ≡ m.Yes tag replica → counts call.phase tag replica ≡ true
      → rule.is_seeded target.policy (with_good call.phase replica) ≡ true → MoveTook rule call message (switches call old target frozen seeded)
  was_refused : (tag : Tag) (replica : DcId) (epoch old : ℕ) (target : Epoch) (frozen : DcSet) (seeded : Stamp) (top_gone : ℕ) → call.stage ≡ Seeding old target frozen seeded top_gone → message ≡ m.Gone tag replica epoch → counts call.phase tag replica ≡ true
      → MoveTook rule call message (waits call (with_bad call.phase replica) (Seeding old target frozen seeded (max top_gone epoch)))
  was_stale : (epoch : ℕ) → call.phase.tag ≡ tag_of message → MoveTook rule call message (ends_stale call epoch)
  arrived : (tag : Tag) (key : KeyId) (epoch old : ℕ) (target : Epoch) (frozen : DcSet) (seeded : Stamp) → call.stage ≡ Switching old target frozen seeded → message ≡ m.Switched tag key true epoch → counts_without_replica call.phase tag ≡ true
      → MoveTook rule call message (ends_at call target)

-- of two steps one
either : (rule : Rule) (call : Moving) (message : Message) (b : Bool) (one other : (Step Moving)) → (b ≡ true → MoveTook rule call message one) → (b ≡ false → MoveTook rule call message other) → MoveTook rule call message (if b then one else other)
either rule call message true one other f g = f refl
either rule call message false one other f g = g refl

here_took : (rule : Rule) (call : Moving) (stage : Stage) (tag : Tag) (key : KeyId) (epoch newest : ℕ) (policy newest_policy : Policy) → call.stage ≡ stage
    → MoveTook rule call (m.Here tag key epoch policy newest newest_policy) (on_here call stage tag (epoch_at epoch policy) (epoch_at newest newest_policy))
here_took rule call Looking tag key epoch newest policy newest_policy is =
    let message : Message = m.Here tag key epoch policy newest newest_policy in
    either rule call message (counts_without_replica call.phase tag) (looked call (epoch_at epoch policy) (epoch_at newest newest_policy)) (unchanged call)
    (λ c. either rule call message (epoch == newest) (ends_current call epoch) (freezes call (epoch_at epoch policy) (epoch_at newest newest_policy))
    (λ _. was_current epoch (same_tag call.phase.tag tag c)) (λ d. froze_first tag key epoch newest policy newest_policy is refl c d))
    (λ _. unheard)
here_took rule call stage tag key epoch newest policy newest_policy is = unheard

-- once enough are frozen something was found
seeds_took : (rule : Rule) (call : Moving) (tag : Tag) (replica : DcId) (version mark : Stamp) (value : List ℕ) (old target : Epoch) (best : Option Found) (o : Option Found) → call.stage ≡ Freezing old target best → counts call.phase tag replica ≡ true
    → rule.is_frozen old.policy (with_good call.phase replica) ≡ true → better best version value ≡ o
    → MoveTook rule call (m.Have tag replica version mark value) (seeds rule call old target (with_good call.phase replica).good o)
seeds_took rule call tag replica version mark value old target best None is c q e = unheard
seeds_took rule call tag replica version mark value old target best (Some found) is c q e = froze_all tag replica version mark value old target best found is refl c q e

have_took : (rule : Rule) (call : Moving) (stage : Stage) (tag : Tag) (replica : DcId) (version mark : Stamp) (value : List ℕ) → call.stage ≡ stage → MoveTook rule call (m.Have tag replica version mark value) (on_have rule call stage tag replica version value)
have_took rule call (Freezing old new best) tag replica version mark value is =
    let message : Message = m.Have tag replica version mark value in
    either rule call message (counts call.phase tag replica) (froze rule call old new (with_good call.phase replica) (better best version value)) (unchanged call)
    (λ c. either rule call message (rule.is_frozen old.policy (with_good call.phase replica))
    (seeds rule call old new (with_good call.phase replica).good (better best version value)) (waits call (with_good call.phase replica) (Freezing old new (better best version value)))
    (λ q. seeds_took rule call tag replica version mark value old new best (better best version value) is c q refl) (λ _. froze_one tag replica version mark value old new best is refl c))
    (λ _. unheard)
have_took rule call stage tag replica version mark value is = unheard

yes_took : (rule : Rule) (call : Moving) (stage : Stage) (tag : Tag) (replica : DcId) → call.stage ≡ stage → MoveTook rule call (m.Yes tag replica) (on_yes rule call stage tag replica)
yes_took rule call (Seeding old new frozen seeded top_gone) tag replica is =
    let message : Message = m.Yes tag replica in
    either rule call message (counts call.phase tag replica) (seeded_one rule call (with_good call.phase replica) old new frozen seeded top_gone) (unchanged call)
    (λ c. either rule call message (rule.is_seeded new.policy (with_good call.phase replica)) (switches call old new frozen seeded) (waits call (with_good call.phase replica) (Seeding old new frozen seeded top_gone))
    (λ q. seeded_all tag replica old new frozen seeded top_gone is refl c q) (λ _. seeded_next tag replica old new frozen seeded top_gone is refl c))
    (λ _. unheard)
yes_took rule call stage tag replica is = unheard

gone_took : (rule : Rule) (call : Moving) (stage : Stage) (tag : Tag) (replica : DcId) (epoch : ℕ) → call.stage ≡ stage → MoveTook rule call (m.Gone tag replica epoch) (on_gone rule call stage tag replica epoch)
gone_took rule call (Seeding old new frozen seeded top_gone) tag replica epoch is =
    let message : Message = m.Gone tag replica epoch in
    either rule call message (counts call.phase tag replica) (refused_one rule call (with_bad call.phase replica) old new frozen seeded (max top_gone epoch)) (unchanged call)
    (λ c. either rule call message (rule.is_lost new.policy (with_bad call.phase replica)) (ends_stale call (max top_gone epoch)) (waits call (with_bad call.phase replica) (Seeding old new frozen seeded (max top_gone epoch)))
    (λ _. was_stale (max top_gone epoch) (counts_own call.phase tag replica c)) (λ _. was_refused tag replica epoch old new frozen seeded top_gone is refl c))
    (λ _. unheard)
gone_took rule call stage tag replica epoch is = unheard

-- whether the directory switched
told : (rule : Rule) (call : Moving) (done : Bool) (tag : Tag) (key : KeyId) (epoch old : ℕ) (target : Epoch) (frozen : DcSet) (seeded : Stamp) → call.stage ≡ Switching old target frozen seeded → counts_without_replica call.phase tag ≡ true
    → MoveTook rule call (m.Switched tag key done epoch) (if done then ends_at call target else ends_stale call epoch)
told rule call true tag key epoch old target frozen seeded is c = arrived tag key epoch old target frozen seeded is refl c
told rule call false tag key epoch old target frozen seeded is c = was_stale epoch (same_tag call.phase.tag tag c)

switched_took : (rule : Rule) (call : Moving) (stage : Stage) (tag : Tag) (key : KeyId) (done : Bool) (epoch : ℕ) → call.stage ≡ stage → MoveTook rule call (m.Switched tag key done epoch) (on_switched call stage tag done epoch)
switched_took rule call (Switching old new frozen seeded) tag key done epoch is =
    either rule call (m.Switched tag key done epoch) (counts_without_replica call.phase tag) (if done then ends_at call new else ends_stale call epoch) (unchanged call)
    (λ c. told rule call done tag key epoch old new frozen seeded is c) (λ _. unheard)
switched_took rule call stage tag key done epoch is = unheard

pub move_took : (rule : Rule) (call : Moving) (message : Message) → MoveTook rule call message (step rule call message)
unfolding step
move_took rule call (m.Here tag key epoch policy newest newest_policy) = here_took rule call call.stage tag key epoch newest policy newest_policy refl
move_took rule call (m.Have tag replica version mark value) = have_took rule call call.stage tag replica version mark value refl
move_took rule call (m.Yes tag replica) = yes_took rule call call.stage tag replica refl
move_took rule call (m.Gone tag replica epoch) = gone_took rule call call.stage tag replica epoch refl
move_took rule call (m.Switched tag key done epoch) = switched_took rule call call.stage tag key done epoch refl
move_took rule call message = unheard

-- how a move ends
abbrev pub IsMoveEnd : Option Reply → Type 0
IsMoveEnd None = Unit {0}
IsMoveEnd (Some (r.At epoch)) = Unit {0}
IsMoveEnd (Some (r.Current epoch)) = Unit {0}
IsMoveEnd (Some (r.Stale epoch)) = Unit {0}
IsMoveEnd (Some _) = ⊥

-- what a move doesn't end with
pub move_never : (o : Option Reply) (reply : Reply) (P : Type 0) → IsMoveEnd o → o ≡ Some reply → ((epoch : ℕ) → reply ≡ r.At epoch → P) → ((epoch : ℕ) → reply ≡ r.Current epoch → P) → ((epoch : ℕ) → reply ≡ r.Stale epoch → P) → P
move_never None reply P m e f g z = absurd (cc)
move_never (Some (r.At epoch)) reply P m e f g z = f epoch (cc)
move_never (Some (r.Current epoch)) reply P m e f g z = g epoch (cc)
move_never (Some (r.Stale epoch)) reply P m e f g z = z epoch (cc)
move_never o reply P m e f g z = absurd m

-- a move shows a view only where it arrives: its target's
pub data MoveShows (call : Moving) (message : Message) (o : Option View) : Type 0 where
  shows_none : o ≡ None → MoveShows call message o
  shows_target : (tag : Tag) (key : KeyId) (epoch old : ℕ) (target : Epoch) (frozen : DcSet) (seeded : Stamp) → call.stage ≡ Switching old target frozen seeded → message ≡ m.Switched tag key true epoch → counts_without_replica call.phase tag ≡ true
      → o ≡ Some (record { key = call.key; epoch = target.number; policy = target.policy }) → MoveShows call message o

-- whatever a move does with a message
pub record MoveMade (call : Moving) (message : Message) (new : Step Moving) : Type 0 where
  pub key : new.state.key ≡ call.key
  pub ticket : new.out.ticket ≡ None
  pub end : IsMoveEnd new.out.end
  pub own : (reply : Reply) → new.out.end ≡ Some reply → call.phase.tag ≡ tag_of message
  pub shown : MoveShows call message new.out.view

pub move_made : (rule : Rule) (call : Moving) (message : Message) (new : Step Moving) → MoveTook rule call message new → MoveMade call message new
move_made rule call message new (was_current epoch own) = record { key = refl; ticket = refl; end = tt; own = λ reply e. own; shown = shows_none refl }
move_made rule call message new (was_stale epoch own) = record { key = refl; ticket = refl; end = tt; own = λ reply e. own; shown = shows_none refl }
move_made rule call message new (arrived tag key epoch old target frozen seeded at got c) =
    record { key = refl; ticket = refl; end = tt; own = λ reply e. same_tag call.phase.tag tag c ∙ sym (ap tag_of got); shown = shows_target tag key epoch old target frozen seeded at got c refl }
move_made rule call message new _ = record { key = refl; ticket = refl; end = tt; own = λ reply e. absurd (cc); shown = shows_none refl }

pub made_by : (rule : Rule) (call : Moving) (message : Message) → MoveMade call message (step rule call message)
made_by rule call message = move_made rule call message (step rule call message) (move_took rule call message)
