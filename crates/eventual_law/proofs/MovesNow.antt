-- What a move of an eventual key goes on to rests on what it should.
use Rattle.std.proofs.Common.{◌≡◌, ℕ, ◌+◌, true, false, [], refl, sym, ap, ◌∙◌, subst, arith}
use Rattle.register_law.proofs.Words.{none_in}
use Rattle.std.specs.Prelude.{◌==◌, Option, None, Contains}
use Rattle.span_base.specs.DcSet.{has}
use Rattle.span_base.specs.PolicyParts.{faults_of, replicas_of}
use Rattle.span_base.specs.declared.ids.DcId.{DcId}
use Rattle.span_base.specs.declared.ids.KeyId.{KeyId}
use Rattle.span_base.specs.declared.dc_set.DcSet.{DcSet}
use Rattle.span_base.specs.declared.policy.Policy.{Policy}
use Rattle.ticket_rules.specs.declared.stamp.Stamp.{Stamp}
use Rattle.ticket_rules.specs.Stamp.{IsAtMost}
use Rattle.wire_msg.specs.declared.tag.Tag.{Tag}
use Rattle.wire_msg.specs.declared.message.Message.{Message}
use Rattle.wire_msg.specs.declared.outputs.Post.{Post}
use Rattle.wire_msg.specs.Outputs.{Step}
use Rattle.wire_msg.specs.declared.actor.Actor.TheVariants as to
use Rattle.wire_msg.specs.declared.message.Message.TheVariants as m
use Rattle.call_phase.specs.declared.phase.Phase.{Phase}
use Rattle.call_phase.specs.declared.best.Found.{Found}
use Rattle.call_phase.specs.Best.{better}
use Rattle.call_phase.specs.Counting.{counts, with_good, with_bad, next_tag, opened}
use Rattle.call_phase.specs.Requests.{post_to, posts_to}
use Rattle.call_phase.proofs.Tags.{same_tag}
use Rattle.migration.specs.declared.stage.Epoch.{Epoch}
use Rattle.migration.specs.declared.stage.Stage.TheVariants.{Looking, Freezing, Seeding}
use Rattle.migration.specs.Eventual.{eventual as eventual_rule}
use Rattle.migration.specs.Move.{Moving, epoch_at}
use Rattle.migration.proofs.Growth.{Contains-posts_to}
use Rattle.slot_pool.specs.declared.handles.Handle.{Handle}
use Rattle.world_core.specs.declared.live.LiveCall.TheVariants.{EventualMove}
use Rattle.world_core.specs.State.{Store}
use Rattle.register_order.proofs.Members.{Contains-here}
use Rattle.register_law.specs.Ghost.{Ghost}
use Rattle.register_law.specs.Seen.{Grows, WasSent, version_before}
use Rattle.register_law.specs.Tags.{IsLiveAt}
use Rattle.register_law.specs.Live.{IsTargetOf}
use Rattle.register_law.proofs.MovesTook.{within_good, better_some}
use Rattle.register_law.proofs.MovesStable.{target_stays}
use Rattle.register_law.proofs.MovesStep.{MoveTook, unheard, was_current, froze_first, froze_one, froze_all, seeded_next, seeded_all, was_refused, was_stale, arrived, counts_own, counts_asked}
use Rattle.eventual_law.specs.Known.{by_request, by_life}
use Rattle.eventual_law.specs.Epochs.{HereIs}
use Rattle.eventual_law.specs.Held.{SwitchHeld, IsFrozenWith, FreezingHeld, SeedingHeld, IsHeldMove, InvOfEventual}
use Rattle.eventual_law.proofs.Counted.{held_by, one_more, froze_counted, all_frozen}
use Rattle.eventual_law.proofs.HeldStays.{frozen_stay, switch_stays, move_stays, seeding_stays, freezing_stays}
use Rattle.register_law.proofs.MovesBacked.{not_equal}

-- what was posted was sent
abbrev pub ArePosted : Store → Step Moving → Type 0
ArePosted z new = (post : Post) → Contains new.out.posts post → Contains z.sent post

-- the Here that a move of the key takes is of its key
pub here_is : (key : KeyId) (s : Store) (g : Ghost) → InvOfEventual key s g → (p : ℕ) (handle : Handle) (call : Moving) → IsLiveAt s p handle (EventualMove call) → call.key ≡ key → (tag : Tag) (at : KeyId) (epoch latest_epoch : ℕ) (policy latest_policy : Policy)
    → WasSent s (m.Here tag at epoch policy latest_epoch latest_policy) → call.phase.tag ≡ tag → HereIs key s g epoch policy latest_epoch latest_policy
here_is key s g inv p handle call live at_key tag at epoch latest_epoch policy latest_policy sent own =
    let asked = inv.tells.here_asked tag at epoch policy latest_epoch latest_policy sent in
    let same : at ≡ key = inv.known.calls.one_key tag.call at key (by_request (m.Lookup tag at) asked refl refl) (by_life p handle (EventualMove call) live at_key (ap (λ (t : Tag). t.call) own)) in
    inv.epochs.here_opened tag epoch policy latest_epoch latest_policy (subst (λ (x : KeyId). WasSent s (m.Here tag x epoch policy latest_epoch latest_policy)) same sent)

-- what a step leaves
abbrev After : KeyId → Store → Ghost → Step Moving → Type 0
After key z h new = ArePosted z new → IsHeldMove key z h new.state.phase new.state.stage

-- the message that a step posts to each replica of the set was sent
to_set : (z : Store) (set : DcSet) (message : Message) → ((post : Post) → Contains (posts_to set message) post → Contains z.sent post) → (d : ℕ) → has set d ≡ true → Contains z.sent (post_to message d)
to_set z set message all d there = all (post_to message d) (Contains-posts_to set message d there)

next_phase : (tag : Tag) (n : ℕ) → tag.phase ≡ n → (next_tag tag).phase ≡ n + 1
next_phase tag n e = ap (λ k. k + 1) e

froze_now : (key : KeyId) (s : Store) (g : Ghost) (z : Store) (h : Ghost) → InvOfEventual key s g → Grows key s g z h → (p : ℕ) (handle : Handle) (call : Moving) → IsLiveAt s p handle (EventualMove call) → call.key ≡ key → (tag : Tag) (at : KeyId) (epoch latest_epoch : ℕ) (policy latest_policy : Policy)
    → WasSent s (m.Here tag at epoch policy latest_epoch latest_policy) → call.stage ≡ Looking → call.phase.tag ≡ tag → (epoch == latest_epoch) ≡ false
    → ((post : Post) → Contains (posts_to (replicas_of policy) (m.Freeze (next_tag call.phase.tag) call.key epoch)) post → Contains z.sent post)
    → FreezingHeld key z h (opened (next_tag call.phase.tag) (replicas_of policy)) (epoch_at epoch policy) (epoch_at latest_epoch latest_policy) None
froze_now key s g z h inv grows p handle call live at_key tag at epoch latest_epoch policy latest_policy sent stage own different posted =
    let b = here_is key s g inv p handle call live at_key tag at epoch latest_epoch policy latest_policy sent own in
    let out = inv.epochs.published epoch b.opened in
    let first : call.phase.tag.phase ≡ 1 = subst (IsHeldMove key s g call.phase) stage (inv.moves.live p handle call live at_key) in
    let target : IsTargetOf key s g epoch (epoch_at latest_epoch latest_policy) = record { opened = b.opened; later = not_equal epoch latest_epoch b.within.0 different; published = b.within.1; policy = b.newest_is } in
    record {
      second = next_phase call.phase.tag 1 first;
      target = target_stays key s g z h epoch (epoch_at latest_epoch latest_policy) grows target;
      policy = b.policy_is ∙ sym (grows.policies epoch out.0 out.1);
      asked = refl;
      sent = λ d there. subst (λ (x : KeyId). Contains z.sent (post_to (m.Freeze (next_tag call.phase.tag) x epoch) d)) at_key (to_set z (replicas_of policy) (m.Freeze (next_tag call.phase.tag) call.key epoch) posted d there);
      counted = λ d there. absurd (none_in d there);
    }

pub freezing_at : (key : KeyId) (s : Store) (g : Ghost) → InvOfEventual key s g → (p : ℕ) (handle : Handle) (call : Moving) → IsLiveAt s p handle (EventualMove call) → call.key ≡ key → (old new : Epoch) (best : Option Found) → call.stage ≡ Freezing old new best → FreezingHeld key s g call.phase old new best
freezing_at key s g inv p handle call live at_key old new best stage = subst (IsHeldMove key s g call.phase) stage (inv.moves.live p handle call live at_key)

pub seeding_at : (key : KeyId) (s : Store) (g : Ghost) → InvOfEventual key s g → (p : ℕ) (handle : Handle) (call : Moving) → IsLiveAt s p handle (EventualMove call) → call.key ≡ key → (old : ℕ) (new : Epoch) (frozen : DcSet) (seeded : Stamp) (top_gone : ℕ) → call.stage ≡ Seeding old new frozen seeded top_gone
    → SeedingHeld key s g call.phase old new seeded
seeding_at key s g inv p handle call live at_key old new frozen seeded top_gone stage = subst (IsHeldMove key s g call.phase) stage (inv.moves.live p handle call live at_key)

-- one more replica has what is seeded
seeded_counted : (key : KeyId) (s : Store) (g : Ghost) → InvOfEventual key s g → (phase : Phase) (old : ℕ) (new : Epoch) (seeded : Stamp) (tag : Tag) (replica : DcId) → SeedingHeld key s g phase old new seeded → WasSent s (m.Yes tag replica) → counts phase tag replica ≡ true
    → (d : ℕ) → has (with_good phase replica).good d ≡ true → IsAtMost seeded (version_before key s g d new.number)
seeded_counted key s g inv phase old new seeded tag replica held sent c =
    let seed = held.sent replica.0 (counts_asked phase tag replica c) in
    one_more (λ d. IsAtMost seeded (version_before key s g d new.number)) phase replica
    (inv.answers.yes_seed phase.tag replica.0 new.number seeded seed.0 (to.Replica replica.0, seed.1) (subst (λ (x : Tag). WasSent s (m.Yes x replica)) (sym (counts_own phase tag replica c)) sent)) held.counted

-- enough replicas of the new epoch have what was seeded
pub switch_now : (key : KeyId) (s : Store) (g : Ghost) → InvOfEventual key s g → (phase : Phase) (old : ℕ) (new : Epoch) (seeded : Stamp) (tag : Tag) (replica : DcId) → SeedingHeld key s g phase old new seeded → WasSent s (m.Yes tag replica) → counts phase tag replica ≡ true
    → eventual_rule.is_seeded new.policy (with_good phase replica) ≡ true → SwitchHeld key s g phase.tag.call old new.number
switch_now key s g inv phase old new seeded tag replica held sent c stored =
    let seed = held.sent replica.0 (counts_asked phase tag replica c) in
    record {
      seeded = seeded;
      seed = record { tag = phase.tag; of = refl; epoch = new.number; value = seed.0; sent = (to.Replica replica.0, seed.1) };
      opened = held.target.opened;
      later = held.target.later;
      published = held.target.published;
      all_frozen = held.frozen;
      to_all = λ d there. (let sent = held.sent d (subst (λ (x : DcSet). has x d ≡ true) (sym held.asked) (subst (λ (x : Policy). has (replicas_of x) d ≡ true) (sym held.target.policy) there)) in record { tag = phase.tag; value = sent.0; sent = sent.1 });
      held = held_by key s g new.number (faults_of new.policy) seeded (with_good phase replica).good (ap faults_of held.target.policy) stored
          (λ d there. subst (λ (x : Policy). has (replicas_of x) d ≡ true) held.target.policy (subst (λ (x : DcSet). has x d ≡ true) held.asked (within_good phase tag replica c held.within d there)))
          (seeded_counted key s g inv phase old new seeded tag replica held sent c);
    }

-- whatever a move makes of a message
pub moved_now : (key : KeyId) (s : Store) (g : Ghost) (z : Store) (h : Ghost) → InvOfEventual key s g → Grows key s g z h → (p : ℕ) (handle : Handle) (call : Moving) → IsLiveAt s p handle (EventualMove call) → call.key ≡ key → (message : Message) → WasSent s message
    → (new : Step Moving) → MoveTook eventual_rule call message new → After key z h new
moved_now key s g z h inv grows p handle call live at_key message sent new unheard = λ _. move_stays key s g z h call.phase call.stage grows inv.epochs.published (inv.moves.live p handle call live at_key)
moved_now key s g z h inv grows p handle call live at_key message sent new (was_current epoch own) = λ _. tt
moved_now key s g z h inv grows p handle call live at_key message sent new (was_stale epoch own) = λ _. tt
moved_now key s g z h inv grows p handle call live at_key message sent new (arrived tag at epoch old target frozen seeded stage got c) = λ _. tt
moved_now key s g z h inv grows p handle call live at_key message sent new (froze_first tag at epoch latest_epoch policy latest_policy stage got c different) =
    λ posted. froze_now key s g z h inv grows p handle call live at_key tag at epoch latest_epoch policy latest_policy (subst (WasSent s) got sent) stage (same_tag call.phase.tag tag c) different posted
moved_now key s g z h inv grows p handle call live at_key message sent new (froze_one tag replica version mark value old target best stage got c) =
    let was = freezing_at key s g inv p handle call live at_key old target best stage in
    let b = better_some best version value in
    let counted = froze_counted key s g call.phase old target best tag replica version mark value b.0 inv.answers was (subst (WasSent s) got sent) c b.1 in
    let held : FreezingHeld key s g (with_good call.phase replica) old target (better best version value) = record {
      second = was.second;
      target = was.target;
      policy = was.policy;
      asked = was.asked;
      sent = was.sent;
      counted = λ d there. subst (λ (x : Option Found). IsFrozenWith key s g d old.number x) (sym b.1) (counted d there);
    } in
    λ _. freezing_stays key s g z h (with_good call.phase replica) old target (better best version value) grows inv.epochs.published held
moved_now key s g z h inv grows p handle call live at_key message sent new (froze_all tag replica version mark value old target best found stage got c all e) =
    let was = freezing_at key s g inv p handle call live at_key old target best stage in
    let counted = froze_counted key s g call.phase old target best tag replica version mark value found inv.answers was (subst (WasSent s) got sent) c e in
    let frozen = all_frozen key s g (with_good call.phase replica) old found was.policy was.asked all counted in
    let seed : Message = m.Seed (next_tag call.phase.tag) call.key target.number found.stamp found.value in
    λ posted. record {
      third = next_phase call.phase.tag 2 was.second;
      target = target_stays key s g z h old.number target grows was.target;
      asked = refl;
      sent = λ d there. (found.value, subst (λ (x : KeyId). Contains z.sent (post_to (m.Seed (next_tag call.phase.tag) x target.number found.stamp found.value) d)) at_key (to_set z (replicas_of target.policy) seed posted d there));
      within = λ d there. absurd (none_in d there);
      frozen = frozen_stay key s g z h old.number found.stamp grows (inv.epochs.published old.number was.target.opened) frozen;
      counted = λ d there. absurd (none_in d there);
    }
moved_now key s g z h inv grows p handle call live at_key message sent new (seeded_next tag replica old target frozen seeded top_gone stage got c) =
    let was = seeding_at key s g inv p handle call live at_key old target frozen seeded top_gone stage in
    let held : SeedingHeld key s g (with_good call.phase replica) old target seeded = record {
      third = was.third;
      target = was.target;
      asked = was.asked;
      sent = was.sent;
      within = within_good call.phase tag replica c was.within;
      frozen = was.frozen;
      counted = seeded_counted key s g inv call.phase old target seeded tag replica was (subst (WasSent s) got sent) c;
    } in
    λ _. seeding_stays key s g z h (with_good call.phase replica) old target seeded grows inv.epochs.published held
moved_now key s g z h inv grows p handle call live at_key message sent new (seeded_all tag replica old target frozen seeded top_gone stage got c stored) =
    let was = seeding_at key s g inv p handle call live at_key old target frozen seeded top_gone stage in
    let held = switch_now key s g inv call.phase old target seeded tag replica was (subst (WasSent s) got sent) c stored in
    let later = was.target.later in
    let switch : Message = m.Switch (next_tag call.phase.tag) call.key old target.number in
    λ posted. record {
      fourth = next_phase call.phase.tag 3 was.third;
      held = switch_stays key s g z h call.phase.tag.call old target.number grows inv.epochs.published held;
      policy = was.target.policy ∙ sym (grows.policies target.number (omega arith) was.target.published);
      sent = subst (λ (x : KeyId). Contains z.sent (record { to = to.Directory; message = m.Switch (next_tag call.phase.tag) x old target.number })) at_key (posted (record { to = to.Directory; message = switch }) (Contains-here (record { to = to.Directory; message = switch }) []));
    }
moved_now key s g z h inv grows p handle call live at_key message sent new (was_refused tag replica epoch old target frozen seeded top_gone stage got c) =
    let was = seeding_at key s g inv p handle call live at_key old target frozen seeded top_gone stage in
    let held : SeedingHeld key s g (with_bad call.phase replica) old target seeded = record {
      third = was.third;
      target = was.target;
      asked = was.asked;
      sent = was.sent;
      within = was.within;
      frozen = was.frozen;
      counted = was.counted;
    } in
    λ _. seeding_stays key s g z h (with_bad call.phase replica) old target seeded grows inv.epochs.published held
