-- Where a move puts out a Switch, its seed is stored.
use Rattle.std.proofs.Common.{◌≡◌, ℕ, ◌==◌, Bool, true, if◌then◌else◌, List, [], ◌∷◌, Option, Some, None, max, sym, ap, ◌∙◌}
use Rattle.std.specs.List.{All, Contains}
use Rattle.std.proofs.lemmas.List.Elements.{All-nil, All-cons, All-map, All-contains}
use Rattle.span_base.specs.declared.ids.KeyId.{KeyId}
use Rattle.span_base.specs.declared.ids.DcId.{DcId}
use Rattle.span_base.specs.declared.dc_set.DcSet.{DcSet}
use Rattle.span_base.specs.declared.policy.Policy.{Policy}
use Rattle.span_base.specs.DcSet.{has, centres_of}
use Rattle.span_base.specs.PolicyParts.{replicas_of}
use Rattle.ticket_rules.specs.declared.stamp.Stamp.{Stamp}
use Rattle.wire_msg.specs.declared.tag.Tag.{Tag}
use Rattle.wire_msg.specs.declared.actor.Actor.{Actor}
use Rattle.wire_msg.specs.declared.actor.Actor.TheVariants.{Directory}
use Rattle.wire_msg.specs.declared.message.Message.{Message}
use Rattle.wire_msg.specs.declared.message.Message.TheVariants as m
use Rattle.wire_msg.specs.declared.outputs.Post.{Post}
use Rattle.wire_msg.specs.Outputs.{Step}
use Rattle.call_phase.specs.declared.phase.Phase.{Phase}
use Rattle.call_phase.specs.declared.best.Found.{Found}
use Rattle.call_phase.specs.Best.{better}
use Rattle.call_phase.specs.Counting.{counts, counts_without_replica, with_good, with_bad, next_tag}
use Rattle.call_phase.specs.Requests.{post_to, posts_to}
use Rattle.migration.specs.declared.stage.Epoch.{Epoch}
use Rattle.migration.specs.declared.stage.Stage.{Stage}
use Rattle.migration.specs.declared.stage.Stage.TheVariants.{Looking, Freezing, Seeding, Switching, Ended}
use Rattle.migration.specs.Rule.{Rule}
use Rattle.migration.specs.Move.{Moving, epoch_at, unchanged, waits, freezes, seeds, switches, ends_current, ends_at, ends_stale, looked, froze, seeded_one, refused_one, on_here, on_have, on_yes, on_gone, on_switched, step}
use Rattle.migration.specs.Runs.{after, sent, IsStored}
use Rattle.migration.proofs.Runs.{IsSeed, IsBacked, IsRun, seed_answered, either, runs}

-- the seed of the epoch with this number is stored
pub record IsSeeded (rule : Rule) (key : KeyId) (posts : List Post) (taken : List Message) (number : ℕ) : Type 0 where
  pub policy : Policy
  pub phase : Phase
  pub seed : IsSeed rule key posts taken number policy phase
  pub enough : rule.is_seeded policy phase ≡ true

-- where the message is a Switch the seed of its new epoch is stored
abbrev IsBackedPost : Rule → KeyId → List Post → List Message → Message → Type 0
IsBackedPost rule key posts taken (m.Switch tag at closing opening) = IsSeeded rule key posts taken opening
IsBackedPost rule key posts taken message = Unit {0}

abbrev AreBacked : Rule → KeyId → List Post → List Message → Step Moving → Type 0
AreBacked rule key posts taken x = All (λ (post : Post). IsBackedPost rule key posts taken post.message) x.out.posts

none : (rule : Rule) (key : KeyId) (posts : List Post) (taken : List Message) → All (λ (post : Post). IsBackedPost rule key posts taken post.message) []
none rule key posts taken = All-nil (λ (post : Post). IsBackedPost rule key posts taken post.message)

only : (rule : Rule) (key : KeyId) (posts : List Post) (taken : List Message) (message : Message) → IsBackedPost rule key posts taken message
    → All (λ (post : Post). IsBackedPost rule key posts taken post.message) (record { to = Directory; message = message } ∷ [])
only rule key posts taken message backed =
    All-cons (λ (post : Post). IsBackedPost rule key posts taken post.message) (record { to = Directory; message = message }) [] backed (none rule key posts taken)

each : (rule : Rule) (key : KeyId) (posts : List Post) (taken : List Message) (set : DcSet) (message : Message) → IsBackedPost rule key posts taken message
    → All (λ (post : Post). IsBackedPost rule key posts taken post.message) (posts_to set message)
each rule key posts taken set message backed = All-map (λ (post : Post). IsBackedPost rule key posts taken post.message) (post_to message) (centres_of set) (λ k d within. backed)

here_backed : (rule : Rule) (key : KeyId) (posts : List Post) (taken : List Message) (call : Moving) (stage : Stage) (tag : Tag) (current latest : Epoch) → AreBacked rule key posts taken (on_here call stage tag current latest)
here_backed rule key posts taken call Looking tag current latest =
    let P : Step Moving → Type 0 = λ x. AreBacked rule key posts taken x in
    either P (counts_without_replica call.phase tag) (looked call current latest) (unchanged call)
    (λ _. either P (current.number == latest.number) (ends_current call current.number) (freezes call current latest) (λ _. none rule key posts taken)
    (each rule key posts taken (replicas_of current.policy) (m.Freeze (next_tag call.phase.tag) call.key current.number) tt))
    (none rule key posts taken)
here_backed rule key posts taken call (Freezing old new best) tag current latest = none rule key posts taken
here_backed rule key posts taken call (Seeding old new frozen seeded top_gone) tag current latest = none rule key posts taken
here_backed rule key posts taken call (Switching old new frozen seeded) tag current latest = none rule key posts taken
here_backed rule key posts taken call Ended tag current latest = none rule key posts taken

seeds_backed : (rule : Rule) (key : KeyId) (posts : List Post) (taken : List Message) (call : Moving) (old new : Epoch) (frozen : DcSet) (best : Option Found) → AreBacked rule key posts taken (seeds rule call old new frozen best)
seeds_backed rule key posts taken call old new frozen None = none rule key posts taken
seeds_backed rule key posts taken call old new frozen (Some found) =
    each rule key posts taken (rule.seed_set new.policy) (m.Seed (next_tag call.phase.tag) call.key new.number found.stamp found.value) tt

have_backed : (rule : Rule) (key : KeyId) (posts : List Post) (taken : List Message) (call : Moving) (stage : Stage) (tag : Tag) (replica : DcId) (version : Stamp) (value : List ℕ)
    → AreBacked rule key posts taken (on_have rule call stage tag replica version value)
have_backed rule key posts taken call (Freezing old new best) tag replica version value =
    let P : Step Moving → Type 0 = λ x. AreBacked rule key posts taken x in
    let phase : Phase = with_good call.phase replica in
    let found : Option Found = better best version value in
    either P (counts call.phase tag replica) (froze rule call old new phase found) (unchanged call)
    (λ _. either P (rule.is_frozen old.policy phase) (seeds rule call old new phase.good found) (waits call phase (Freezing old new found))
    (λ _. seeds_backed rule key posts taken call old new phase.good found) (none rule key posts taken))
    (none rule key posts taken)
have_backed rule key posts taken call Looking tag replica version value = none rule key posts taken
have_backed rule key posts taken call (Seeding old new frozen seeded top_gone) tag replica version value = none rule key posts taken
have_backed rule key posts taken call (Switching old new frozen seeded) tag replica version value = none rule key posts taken
have_backed rule key posts taken call Ended tag replica version value = none rule key posts taken

yes_backed : (rule : Rule) (key : KeyId) (posts : List Post) (taken : List Message) (call : Moving) (stage : Stage) (tag : Tag) (replica : DcId)
    → IsBacked rule key posts taken call.phase stage → AreBacked rule key posts (m.Yes tag replica ∷ taken) (on_yes rule call stage tag replica)
yes_backed rule key posts taken call (Seeding old new frozen seeded top_gone) tag replica seed =
    let all : List Message = m.Yes tag replica ∷ taken in
    let P : Step Moving → Type 0 = λ x. AreBacked rule key posts all x in
    let phase : Phase = with_good call.phase replica in
    either P (counts call.phase tag replica) (seeded_one rule call phase old new frozen seeded top_gone) (unchanged call)
    (λ c. either P (rule.is_seeded new.policy phase) (switches call old new frozen seeded) (waits call phase (Seeding old new frozen seeded top_gone))
    (λ enough. only rule key posts all (m.Switch (next_tag call.phase.tag) call.key old new.number)
    (record { policy = new.policy; phase = phase; seed = seed_answered rule key posts taken new.number new.policy call.phase tag replica seed c; enough = enough }))
    (none rule key posts all))
    (none rule key posts all)
yes_backed rule key posts taken call Looking tag replica backed = none rule key posts (m.Yes tag replica ∷ taken)
yes_backed rule key posts taken call (Freezing old new best) tag replica backed = none rule key posts (m.Yes tag replica ∷ taken)
yes_backed rule key posts taken call (Switching old new frozen seeded) tag replica backed = none rule key posts (m.Yes tag replica ∷ taken)
yes_backed rule key posts taken call Ended tag replica backed = none rule key posts (m.Yes tag replica ∷ taken)

stale_backed : (rule : Rule) (key : KeyId) (posts : List Post) (taken : List Message) (call : Moving) (epoch : ℕ) → AreBacked rule key posts taken (ends_stale call epoch)
stale_backed rule key posts taken call epoch = only rule key posts taken (m.Lookup (next_tag call.phase.tag) call.key) tt

gone_backed : (rule : Rule) (key : KeyId) (posts : List Post) (taken : List Message) (call : Moving) (stage : Stage) (tag : Tag) (replica : DcId) (epoch : ℕ) → AreBacked rule key posts taken (on_gone rule call stage tag replica epoch)
gone_backed rule key posts taken call (Seeding old new frozen seeded top_gone) tag replica epoch =
    let P : Step Moving → Type 0 = λ x. AreBacked rule key posts taken x in
    let phase : Phase = with_bad call.phase replica in
    let top : ℕ = max top_gone epoch in
    either P (counts call.phase tag replica) (refused_one rule call phase old new frozen seeded top) (unchanged call)
    (λ _. either P (rule.is_lost new.policy phase) (ends_stale call top) (waits call phase (Seeding old new frozen seeded top))
    (λ _. stale_backed rule key posts taken call top) (none rule key posts taken))
    (none rule key posts taken)
gone_backed rule key posts taken call Looking tag replica epoch = none rule key posts taken
gone_backed rule key posts taken call (Freezing old new best) tag replica epoch = none rule key posts taken
gone_backed rule key posts taken call (Switching old new frozen seeded) tag replica epoch = none rule key posts taken
gone_backed rule key posts taken call Ended tag replica epoch = none rule key posts taken

switched_backed : (rule : Rule) (key : KeyId) (posts : List Post) (taken : List Message) (call : Moving) (stage : Stage) (tag : Tag) (done : Bool) (epoch : ℕ) → AreBacked rule key posts taken (on_switched call stage tag done epoch)
switched_backed rule key posts taken call (Switching old new frozen seeded) tag done epoch =
    let P : Step Moving → Type 0 = λ x. AreBacked rule key posts taken x in
    either P (counts_without_replica call.phase tag) (if done then ends_at call new else ends_stale call epoch) (unchanged call)
    (λ _. either P done (ends_at call new) (ends_stale call epoch) (λ _. none rule key posts taken) (stale_backed rule key posts taken call epoch))
    (none rule key posts taken)
switched_backed rule key posts taken call Looking tag done epoch = none rule key posts taken
switched_backed rule key posts taken call (Freezing old new best) tag done epoch = none rule key posts taken
switched_backed rule key posts taken call (Seeding old new frozen seeded top_gone) tag done epoch = none rule key posts taken
switched_backed rule key posts taken call Ended tag done epoch = none rule key posts taken

step_backed : (rule : Rule) (key : KeyId) (posts : List Post) (taken : List Message) (call : Moving) (message : Message) → IsRun rule key posts taken call → AreBacked rule key posts (message ∷ taken) (step rule call message)
unfolding step
step_backed rule key posts taken call (m.Here tag at epoch policy latest latest_policy) run =
    here_backed rule key posts (m.Here tag at epoch policy latest latest_policy ∷ taken) call call.stage tag (epoch_at epoch policy) (epoch_at latest latest_policy)
step_backed rule key posts taken call (m.Have tag replica version mark value) run = have_backed rule key posts (m.Have tag replica version mark value ∷ taken) call call.stage tag replica version value
step_backed rule key posts taken call (m.Yes tag replica) run = yes_backed rule key posts taken call call.stage tag replica run.backed
step_backed rule key posts taken call (m.Gone tag replica epoch) run = gone_backed rule key posts (m.Gone tag replica epoch ∷ taken) call call.stage tag replica epoch
step_backed rule key posts taken call (m.Switched tag at done epoch) run = switched_backed rule key posts (m.Switched tag at done epoch ∷ taken) call call.stage tag done epoch
step_backed rule key posts taken call message run = none rule key posts (message ∷ taken)

-- where a move puts out a Switch, its seed is stored, by the Yes that it takes
pub stored_before_switch : (rule : Rule) (IsEnough : Policy → DcSet → Type 0)
    → ((policy : Policy) (phase : Phase) → phase.asked ≡ rule.seed_set policy → rule.is_seeded policy phase ≡ true → IsEnough policy phase.good)
    → (first : Tag) (key : KeyId) (earlier : List Message) (message : Message) (to : Actor) (tag : Tag) (at : KeyId) (closing opening : ℕ)
    → Contains (step rule (after rule first key earlier) message).out.posts (record { to = to; message = m.Switch tag at closing opening })
    → IsStored rule.seed_set IsEnough key (sent rule first key earlier) (message ∷ earlier) opening
stored_before_switch rule IsEnough enough first key earlier message to tag at closing opening there =
    let posts : List Post = sent rule first key earlier in
    let call : Moving = after rule first key earlier in
    let P : Post → Type 0 = λ post. IsBackedPost rule key posts (message ∷ earlier) post.message in
    let is : IsSeeded rule key posts (message ∷ earlier) opening =
    All-contains P (step rule call message).out.posts (record { to = to; message = m.Switch tag at closing opening }) (step_backed rule key posts earlier call message (runs rule first key earlier)) there in
    record {
      policy = is.policy;
      told = is.seed.told;
      tag = is.phase.tag;
      stamp = is.seed.stamp;
      value = is.seed.value;
      asked = λ d h. is.seed.asked d (ap (λ set. has set d) is.seed.set_is ∙ h);
      answered = is.phase.good;
      said_yes = λ d h. let said = is.seed.said_yes d h in (sym (ap (λ set. has set d) is.seed.set_is) ∙ said.0, said.1);
      enough = enough is.policy is.phase is.seed.set_is is.enough;
    }
