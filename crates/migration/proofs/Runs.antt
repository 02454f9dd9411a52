-- What each step keeps of a run: what the move was told, what it sent, and who said yes to its seed.
use Rattle.std.proofs.Common.{◌≡◌, ℕ, ◌==◌, ◌&&◌, Bool, true, false, not, if◌then◌else◌, List, [], ◌∷◌, ◌++◌, Option, Some, None, max, refl, sym, ap, ◌∙◌, subst, ◌⊎◌, inl, inr}
use Rattle.std.proofs.lemmas.Bool.{cases_eq}
use Rattle.std.specs.List.{Contains}
use Rattle.std.proofs.lemmas.List.Elements.{Contains-append_left}
use Rattle.span_base.specs.declared.ids.KeyId.{KeyId}
use Rattle.span_base.specs.declared.ids.DcId.{DcId}
use Rattle.span_base.specs.declared.dc_set.DcSet.{DcSet}
use Rattle.span_base.specs.declared.policy.Policy.{Policy}
use Rattle.span_base.specs.DcSet.{has, insert}
use Rattle.span_base.proofs.Sets.{has-insert_other}
use Rattle.ticket_rules.specs.declared.stamp.Stamp.{Stamp}
use Rattle.wire_msg.specs.declared.tag.Tag.{Tag}
use Rattle.wire_msg.specs.declared.message.Message.{Message}
use Rattle.wire_msg.specs.declared.message.Message.TheVariants as m
use Rattle.wire_msg.specs.declared.outputs.Post.{Post}
use Rattle.wire_msg.specs.Outputs.{Step}
use Rattle.call_phase.specs.declared.phase.Phase.{Phase}
use Rattle.call_phase.specs.declared.best.Found.{Found}
use Rattle.call_phase.specs.Best.{better}
use Rattle.call_phase.specs.Counting.{counts, counts_without_replica, is_same_tag, with_good, with_bad, next_tag}
use Rattle.call_phase.specs.Requests.{post_to, posts_to}
use Rattle.call_phase.proofs.Tags.{same_tag}
use Rattle.migration.specs.declared.stage.Epoch.{Epoch}
use Rattle.migration.specs.declared.stage.Stage.{Stage}
use Rattle.migration.specs.declared.stage.Stage.TheVariants.{Looking, Freezing, Seeding, Switching, Ended}
use Rattle.migration.specs.Rule.{Rule}
use Rattle.migration.specs.Move.{Moving, epoch_at, unchanged, waits, freezes, seeds, switches, ends_current, ends_at, ends_stale, looked, froze, seeded_one, refused_one, on_here, on_have, on_yes, on_gone, on_switched, step}
use Rattle.migration.specs.Runs.{after, sent, IsTold, yes_of}
use Rattle.migration.proofs.Growth.{newest, later, told_later, Contains-posts_to, no_member}

-- ---- what is kept

-- the seed of a new epoch in its phase
pub record IsSeed (rule : Rule) (key : KeyId) (posts : List Post) (taken : List Message) (number : ℕ) (policy : Policy) (phase : Phase) : Type 0 where
  pub told : IsTold taken number policy
  pub set_is : phase.asked ≡ rule.seed_set policy
  pub stamp : Stamp
  pub value : List ℕ
  pub asked : (d : ℕ) → has phase.asked d ≡ true → Contains posts (post_to (m.Seed phase.tag key number stamp value) d)
  pub said_yes : (d : ℕ) → has phase.good d ≡ true → (has phase.asked d ≡ true) × Contains taken (yes_of phase.tag d)

-- what a stage stands on
abbrev pub IsBacked : Rule → KeyId → List Post → List Message → Phase → Stage → Type 0
IsBacked rule key posts taken phase Looking = Unit {0}
IsBacked rule key posts taken phase (Freezing old new best) = IsTold taken new.number new.policy
IsBacked rule key posts taken phase (Seeding old new frozen seeded top_gone) = IsSeed rule key posts taken new.number new.policy phase
IsBacked rule key posts taken phase (Switching old new frozen seeded) = Unit {0}
IsBacked rule key posts taken phase Ended = Unit {0}

-- a move in its run
pub record IsRun (rule : Rule) (key : KeyId) (posts : List Post) (taken : List Message) (call : Moving) : Type 0 where
  pub key_is : call.key ≡ key
  pub backed : IsBacked rule key posts taken call.phase call.stage

-- the run after one more message
abbrev IsNext : Rule → KeyId → List Post → List Message → Message → Step Moving → Type 0
IsNext rule key posts taken message x = IsRun rule key (x.out.posts ++ posts) (message ∷ taken) x.state

seed_later : (rule : Rule) (key : KeyId) (posts : List Post) (taken : List Message) (message : Message) (number : ℕ) (policy : Policy) (phase : Phase) (bad : DcSet)
    → IsSeed rule key posts taken number policy phase → IsSeed rule key posts (message ∷ taken) number policy (record { tag = phase.tag; asked = phase.asked; good = phase.good; bad = bad })
seed_later rule key posts taken message number policy phase bad seed = record {
  told = told_later message taken number policy seed.told;
  set_is = seed.set_is;
  stamp = seed.stamp;
  value = seed.value;
  asked = seed.asked;
  said_yes = λ d counted. let was = seed.said_yes d counted in (was.0, later message taken (yes_of phase.tag d) was.1);
}

backed_later : (rule : Rule) (key : KeyId) (posts : List Post) (taken : List Message) (message : Message) (phase : Phase) (stage : Stage)
    → IsBacked rule key posts taken phase stage → IsBacked rule key posts (message ∷ taken) phase stage
backed_later rule key posts taken message phase Looking backed = tt
backed_later rule key posts taken message phase (Freezing old new best) backed = told_later message taken new.number new.policy backed
backed_later rule key posts taken message phase (Seeding old new frozen seeded top_gone) backed = seed_later rule key posts taken message new.number new.policy phase phase.bad backed
backed_later rule key posts taken message phase (Switching old new frozen seeded) backed = tt
backed_later rule key posts taken message phase Ended backed = tt

stays : (rule : Rule) (key : KeyId) (posts : List Post) (taken : List Message) (message : Message) (call : Moving) → IsRun rule key posts taken call → IsNext rule key posts taken message (unchanged call)
stays rule key posts taken message call run = record { key_is = run.key_is; backed = backed_later rule key posts taken message call.phase call.stage run.backed }

-- of two steps one
pub either : (P : Step Moving → Type 0) (b : Bool) (one other : Step Moving) → (b ≡ true → P one) → P other → P (if b then one else other)
either P true one other f g = f refl
either P false one other f g = g

-- ---- step by step

-- the directory's epochs
here_next : (rule : Rule) (key : KeyId) (posts : List Post) (taken : List Message) (call : Moving) (stage : Stage) (tag : Tag) (at : KeyId) (epoch latest : ℕ) (policy latest_policy : Policy)
    → IsRun rule key posts taken call
    → IsNext rule key posts taken (m.Here tag at epoch policy latest latest_policy) (on_here call stage tag (epoch_at epoch policy) (epoch_at latest latest_policy))
here_next rule key posts taken call Looking tag at epoch latest policy latest_policy run =
    let message : Message = m.Here tag at epoch policy latest latest_policy in
    let current : Epoch = epoch_at epoch policy in
    let last : Epoch = epoch_at latest latest_policy in
    let P : Step Moving → Type 0 = λ x. IsNext rule key posts taken message x in
    either P (counts_without_replica call.phase tag) (looked call current last) (unchanged call)
    (λ _. either P (epoch == latest) (ends_current call epoch) (freezes call current last)
    (λ _. record { key_is = run.key_is; backed = tt })
    (record { key_is = run.key_is; backed = record { tag = tag; key = at; current = epoch; current_policy = policy; told = newest message taken } }))
    (stays rule key posts taken message call run)
here_next rule key posts taken call (Freezing old new best) tag at epoch latest policy latest_policy run = stays rule key posts taken (m.Here tag at epoch policy latest latest_policy) call run
here_next rule key posts taken call (Seeding old new frozen seeded top_gone) tag at epoch latest policy latest_policy run = stays rule key posts taken (m.Here tag at epoch policy latest latest_policy) call run
here_next rule key posts taken call (Switching old new frozen seeded) tag at epoch latest policy latest_policy run = stays rule key posts taken (m.Here tag at epoch policy latest latest_policy) call run
here_next rule key posts taken call Ended tag at epoch latest policy latest_policy run = stays rule key posts taken (m.Here tag at epoch policy latest latest_policy) call run

seeds_next : (rule : Rule) (key : KeyId) (posts : List Post) (taken : List Message) (message : Message) (call : Moving) (old new : Epoch) (frozen : DcSet) (best : Option Found)
    → IsRun rule key posts taken call → IsTold taken new.number new.policy → IsNext rule key posts taken message (seeds rule call old new frozen best)
seeds_next rule key posts taken message call old new frozen None run told = stays rule key posts taken message call run
seeds_next rule key posts taken message call old new frozen (Some found) run told =
    let set : DcSet = rule.seed_set new.policy in
    let own : Message = m.Seed (next_tag call.phase.tag) call.key new.number found.stamp found.value in
    let seed : Message = m.Seed (next_tag call.phase.tag) key new.number found.stamp found.value in
    let same : own ≡ seed = ap (λ k. m.Seed (next_tag call.phase.tag) k new.number found.stamp found.value) run.key_is in
    record {
      key_is = run.key_is;
      backed = record {
        told = told_later message taken new.number new.policy told;
        set_is = refl;
        stamp = found.stamp;
        value = found.value;
        asked = λ d there. Contains-append_left (posts_to set own) posts (post_to seed d)
            (subst (λ one. Contains (posts_to set own) (post_to one d)) same (Contains-posts_to set own d there));
        said_yes = λ d there. absurd (no_member d there);
      };
    }

have_next : (rule : Rule) (key : KeyId) (posts : List Post) (taken : List Message) (message : Message) (call : Moving) (stage : Stage) (tag : Tag) (replica : DcId) (version : Stamp) (value : List ℕ)
    → IsRun rule key posts taken call → IsBacked rule key posts taken call.phase stage → IsNext rule key posts taken message (on_have rule call stage tag replica version value)
have_next rule key posts taken message call (Freezing old new best) tag replica version value run told =
    let P : Step Moving → Type 0 = λ x. IsNext rule key posts taken message x in
    let phase : Phase = with_good call.phase replica in
    let found : Option Found = better best version value in
    either P (counts call.phase tag replica) (froze rule call old new phase found) (unchanged call)
    (λ _. either P (rule.is_frozen old.policy phase) (seeds rule call old new phase.good found) (waits call phase (Freezing old new found))
    (λ _. seeds_next rule key posts taken message call old new phase.good found run told)
    (record { key_is = run.key_is; backed = told_later message taken new.number new.policy told }))
    (stays rule key posts taken message call run)
have_next rule key posts taken message call Looking tag replica version value run backed = stays rule key posts taken message call run
have_next rule key posts taken message call (Seeding old new frozen seeded top_gone) tag replica version value run backed = stays rule key posts taken message call run
have_next rule key posts taken message call (Switching old new frozen seeded) tag replica version value run backed = stays rule key posts taken message call run
have_next rule key posts taken message call Ended tag replica version value run backed = stays rule key posts taken message call run

-- of an answer that counts the tag is the phase's, and its replica was asked
counted : (phase : Phase) (tag : Tag) (replica : DcId) → counts phase tag replica ≡ true → (phase.tag ≡ tag) × (has phase.asked replica.0 ≡ true)
counted phase tag replica is =
    let asked : Bool = is_same_tag phase.tag tag && has phase.asked replica.0 in
    let outer : (asked && not (has phase.good replica.0)) ≡ true = left (asked && not (has phase.good replica.0)) (not (has phase.bad replica.0)) is in
    let both : asked ≡ true = left asked (not (has phase.good replica.0)) outer in
    (same_tag phase.tag tag (left (is_same_tag phase.tag tag) (has phase.asked replica.0) both), right (is_same_tag phase.tag tag) (has phase.asked replica.0) both)
  where
    left : (a b : Bool) → (a && b) ≡ true → a ≡ true
    left true b is = refl
    left false b is = is

    right : (a b : Bool) → (a && b) ≡ true → b ≡ true
    right true b is = is
    right false b is = absurd cc

-- a set with one centre more
inserted : (set : DcSet) (one d : ℕ) → has (insert set one) d ≡ true → (d ≡ one) ⊎ (has set d ≡ true)
inserted set one d there =
    elim (cases_eq d one) as (λ _. (d ≡ one) ⊎ (has set d ≡ true)) [ inl same ↦ inl same | inr other ↦ inr (sym (has-insert_other set one d other) ∙ there) ]

-- one replica more said yes
pub seed_answered : (rule : Rule) (key : KeyId) (posts : List Post) (taken : List Message) (number : ℕ) (policy : Policy) (phase : Phase) (tag : Tag) (replica : DcId)
    → IsSeed rule key posts taken number policy phase → counts phase tag replica ≡ true → IsSeed rule key posts (m.Yes tag replica ∷ taken) number policy (with_good phase replica)
seed_answered rule key posts taken number policy phase tag replica seed counts_is =
    let message : Message = m.Yes tag replica in
    let own = counted phase tag replica counts_is in
    let was : IsSeed rule key posts (message ∷ taken) number policy phase = seed_later rule key posts taken message number policy phase phase.bad seed in
    let said : Contains (message ∷ taken) (yes_of phase.tag replica.0) = subst (λ (t : Tag). Contains (message ∷ taken) (yes_of t replica.0)) (sym own.0) (newest message taken) in
    let Said : ℕ → Type 0 = λ d. (has phase.asked d ≡ true) × Contains (message ∷ taken) (yes_of phase.tag d) in
    let one : Said replica.0 = (own.1, said) in
    record {
      told = was.told;
      set_is = was.set_is;
      stamp = was.stamp;
      value = was.value;
      asked = was.asked;
      said_yes = λ d there. elim (inserted phase.good replica.0 d there) as (λ _. Said d) [ inl e ↦ subst Said (sym e) one | inr h ↦ was.said_yes d h ];
    }

yes_next : (rule : Rule) (key : KeyId) (posts : List Post) (taken : List Message) (call : Moving) (stage : Stage) (tag : Tag) (replica : DcId)
    → IsRun rule key posts taken call → IsBacked rule key posts taken call.phase stage → IsNext rule key posts taken (m.Yes tag replica) (on_yes rule call stage tag replica)
yes_next rule key posts taken call (Seeding old new frozen seeded top_gone) tag replica run seed =
    let message : Message = m.Yes tag replica in
    let P : Step Moving → Type 0 = λ x. IsNext rule key posts taken message x in
    let phase : Phase = with_good call.phase replica in
    either P (counts call.phase tag replica) (seeded_one rule call phase old new frozen seeded top_gone) (unchanged call)
    (λ c. either P (rule.is_seeded new.policy phase) (switches call old new frozen seeded) (waits call phase (Seeding old new frozen seeded top_gone))
    (λ _. record { key_is = run.key_is; backed = tt })
    (record { key_is = run.key_is; backed = seed_answered rule key posts taken new.number new.policy call.phase tag replica seed c }))
    (stays rule key posts taken message call run)
yes_next rule key posts taken call Looking tag replica run backed = stays rule key posts taken (m.Yes tag replica) call run
yes_next rule key posts taken call (Freezing old new best) tag replica run backed = stays rule key posts taken (m.Yes tag replica) call run
yes_next rule key posts taken call (Switching old new frozen seeded) tag replica run backed = stays rule key posts taken (m.Yes tag replica) call run
yes_next rule key posts taken call Ended tag replica run backed = stays rule key posts taken (m.Yes tag replica) call run

gone_next : (rule : Rule) (key : KeyId) (posts : List Post) (taken : List Message) (message : Message) (call : Moving) (stage : Stage) (tag : Tag) (replica : DcId) (epoch : ℕ)
    → IsRun rule key posts taken call → IsBacked rule key posts taken call.phase stage → IsNext rule key posts taken message (on_gone rule call stage tag replica epoch)
gone_next rule key posts taken message call (Seeding old new frozen seeded top_gone) tag replica epoch run seed =
    let P : Step Moving → Type 0 = λ x. IsNext rule key posts taken message x in
    let phase : Phase = with_bad call.phase replica in
    either P (counts call.phase tag replica) (refused_one rule call phase old new frozen seeded (max top_gone epoch)) (unchanged call)
    (λ _. either P (rule.is_lost new.policy phase) (ends_stale call (max top_gone epoch)) (waits call phase (Seeding old new frozen seeded (max top_gone epoch)))
    (λ _. record { key_is = run.key_is; backed = tt })
    (record { key_is = run.key_is; backed = seed_later rule key posts taken message new.number new.policy call.phase phase.bad seed }))
    (stays rule key posts taken message call run)
gone_next rule key posts taken message call Looking tag replica epoch run backed = stays rule key posts taken message call run
gone_next rule key posts taken message call (Freezing old new best) tag replica epoch run backed = stays rule key posts taken message call run
gone_next rule key posts taken message call (Switching old new frozen seeded) tag replica epoch run backed = stays rule key posts taken message call run
gone_next rule key posts taken message call Ended tag replica epoch run backed = stays rule key posts taken message call run

switched_next : (rule : Rule) (key : KeyId) (posts : List Post) (taken : List Message) (message : Message) (call : Moving) (stage : Stage) (tag : Tag) (done : Bool) (epoch : ℕ)
    → IsRun rule key posts taken call → IsNext rule key posts taken message (on_switched call stage tag done epoch)
switched_next rule key posts taken message call (Switching old new frozen seeded) tag done epoch run =
    let P : Step Moving → Type 0 = λ x. IsNext rule key posts taken message x in
    either P (counts_without_replica call.phase tag) (if done then ends_at call new else ends_stale call epoch) (unchanged call)
    (λ _. either P done (ends_at call new) (ends_stale call epoch) (λ _. record { key_is = run.key_is; backed = tt }) (record { key_is = run.key_is; backed = tt }))
    (stays rule key posts taken message call run)
switched_next rule key posts taken message call Looking tag done epoch run = stays rule key posts taken message call run
switched_next rule key posts taken message call (Freezing old new best) tag done epoch run = stays rule key posts taken message call run
switched_next rule key posts taken message call (Seeding old new frozen seeded top_gone) tag done epoch run = stays rule key posts taken message call run
switched_next rule key posts taken message call Ended tag done epoch run = stays rule key posts taken message call run

step_next : (rule : Rule) (key : KeyId) (posts : List Post) (taken : List Message) (message : Message) (call : Moving) → IsRun rule key posts taken call → IsNext rule key posts taken message (step rule call message)
unfolding step
step_next rule key posts taken (m.Here tag at epoch policy latest latest_policy) call run = here_next rule key posts taken call call.stage tag at epoch latest policy latest_policy run
step_next rule key posts taken (m.Have tag replica version mark value) call run = have_next rule key posts taken (m.Have tag replica version mark value) call call.stage tag replica version value run run.backed
step_next rule key posts taken (m.Yes tag replica) call run = yes_next rule key posts taken call call.stage tag replica run run.backed
step_next rule key posts taken (m.Gone tag replica epoch) call run = gone_next rule key posts taken (m.Gone tag replica epoch) call call.stage tag replica epoch run run.backed
step_next rule key posts taken (m.Switched tag at done epoch) call run = switched_next rule key posts taken (m.Switched tag at done epoch) call call.stage tag done epoch run
step_next rule key posts taken message call run = stays rule key posts taken message call run

-- every move is in its run
pub runs : (rule : Rule) (tag : Tag) (key : KeyId) (taken : List Message) → IsRun rule key (sent rule tag key taken) taken (after rule tag key taken)
runs rule tag key [] = record { key_is = refl; backed = tt }
runs rule tag key (message ∷ earlier) = step_next rule key (sent rule tag key earlier) earlier message (after rule tag key earlier) (runs rule tag key earlier)
