-- A move that goes on is backed.
use Rattle.std.proofs.Common.{◌≡◌, ℕ, ◌<◌, ◌≤◌, true, false, List, refl, sym, ap, ◌∙◌, subst, arith, ◌==◌, Option, Some, None}
use Rattle.register_law.proofs.Words.{has, faults_of, members_of, DcSet, DcId, KeyId, Policy, Stamp, Step, tag_of, Message, Tag, better, counts, has_quorum, with_good, Found, Phase, Moving, epoch_at, first_write_set, quorum_frozen, strong_rule, Epoch, Freezing, Seeding, Handle, Store, policy_of, Ghost, Inv, FreezesCounted, IsLiveMove, IsMoveRequest, IsTargetOf, MoveBacked, SeedsBacked, YesCounted, Grows, HasMost, IsFrozenSet, IsKnown, IsSettled, MeetsAll, WasSent, is_at_most, version_before, HereBacked, SwitchBacked, request_key, common_steps, has-no_centre, MoveStage as Stage, IsAtMost-trans, none_in}
use Rattle.wire_msg.specs.declared.message.Message.TheVariants as m
use Rattle.call_phase.proofs.Tags.{same_tag}
use Rattle.migration.specs.declared.stage.Stage.TheVariants.{Looking}
use Rattle.register_law.proofs.Quorums.{at_most_test}
use Rattle.register_law.proofs.MovesStep.{MoveTook, unheard, froze_first, froze_one, froze_all, seeded_next, seeded_all, was_refused, counts_own, counts_asked}
use Rattle.register_law.proofs.MovesStable.{IsOut, settled_stays, move_stays, seeds_stay, target_stays, freezes_stay, yes_stays}
use Rattle.register_law.proofs.MovesTook.{first_member, frozen_meets, most_pass, within_good, yes_more, froze_more, better_some}

-- an answer with the move's tag answers the request of its phase
pub record AnswersMove (key : KeyId) (s : Store) (call : Moving) : Type 0 where
  pub request : Message
  pub sent : WasSent s request
  pub is : IsMoveRequest call.stage call request

pub answers_move : (key : KeyId) (s : Store) (g : Ghost) → Inv key s g → (p : ℕ) (handle : Handle) (call : Moving) → IsLiveMove key s p handle call → (message : Message) → WasSent s message → request_key message ≡ None → call.phase.tag ≡ tag_of message → AnswersMove key s call
answers_move key s g inv p handle call live message sent none tag =
    let r = inv.tags.answers_asked message sent none in
    let same : tag_of r.0 ≡ call.phase.tag = r.3 ∙ sym tag in
    record {
      request = r.0;
      sent = r.1;
      is = (inv.moves p handle call live).request r.0 r.1 r.2 (record { call = ap (λ (t : Tag). t.call) same; phase = ap (λ (t : Tag). t.phase) same });
    }

-- the Lookup, the Freeze, the Seed or the Switch that the move has sent
pub freeze_asked : (key : KeyId) (s : Store) (call : Moving) (old new : Epoch) (best : Option Found) → AnswersMove key s call → call.key ≡ key → call.stage ≡ Freezing old new best → WasSent s (m.Freeze call.phase.tag key old.number)
freeze_asked key s call old new best a at_key stage =
    let is : IsMoveRequest (Freezing old new best) call a.request = subst (λ (x : Stage). IsMoveRequest x call a.request) stage a.is in
    subst (WasSent s) (is ∙ ap (λ (x : KeyId). m.Freeze call.phase.tag x old.number) at_key) a.sent

pub seed_asked : (key : KeyId) (s : Store) (call : Moving) (old : ℕ) (new : Epoch) (frozen : DcSet) (seeded : Stamp) (top_gone : ℕ) → AnswersMove key s call → call.key ≡ key → call.stage ≡ Seeding old new frozen seeded top_gone
    → (value : List ℕ) × WasSent s (m.Seed call.phase.tag key new.number seeded value)
seed_asked key s call old new frozen seeded top_gone a at_key stage =
    let is : IsMoveRequest (Seeding old new frozen seeded top_gone) call a.request = subst (λ (x : Stage). IsMoveRequest x call a.request) stage a.is in
    (is.0, subst (WasSent s) (is.1 ∙ ap (λ (x : KeyId). m.Seed call.phase.tag x new.number seeded is.0) at_key) a.sent)

pub not_equal : (a b : ℕ) → a ≤ b → (a == b) ≡ false → a < b
not_equal a b h k = grind (arith, common_steps)

-- the Here that a move takes is of its key
pub here_is : (key : KeyId) (s : Store) (g : Ghost) → Inv key s g → (p : ℕ) (handle : Handle) (call : Moving) → IsLiveMove key s p handle call → (tag : Tag) (at : KeyId) (epoch newest : ℕ) (policy newest_policy : Policy)
    → WasSent s (m.Here tag at epoch policy newest newest_policy) → call.stage ≡ Looking → call.phase.tag ≡ tag → HereBacked key s g epoch policy newest newest_policy
here_is key s g inv p handle call live tag at epoch newest policy newest_policy sent stage same =
    let asked : WasSent s (m.Lookup tag at) = inv.keys.here_asked tag at epoch policy newest newest_policy sent in
    let is : IsMoveRequest call.stage call (m.Lookup tag at) = (inv.moves p handle call live).request (m.Lookup tag at) asked refl (record { call = ap (λ (t : Tag). t.call) (sym same); phase = ap (λ (t : Tag). t.phase) (sym same) }) in
    let look : m.Lookup tag at ≡ m.Lookup call.phase.tag call.key = subst (λ (x : Stage). IsMoveRequest x call (m.Lookup tag at)) stage is in
    let at_key : at ≡ key = key_in look ∙ live.at_key in
    inv.messages.here_opened tag epoch policy newest newest_policy (subst (λ (x : KeyId). WasSent s (m.Here tag x epoch policy newest newest_policy)) at_key sent)
  where
    key_in : m.Lookup tag at ≡ m.Lookup call.phase.tag call.key → at ≡ call.key
    key_in e = cc

-- what was found once enough replicas are frozen
pub found_frozen : (key : KeyId) (s : Store) (g : Ghost) → Inv key s g → (p : ℕ) (handle : Handle) (call : Moving) → IsLiveMove key s p handle call → (tag : Tag) (replica : DcId) (version mark : Stamp) (value : List ℕ) (old target : Epoch) (best : Option Found) (found : Found)
    → WasSent s (m.Have tag replica version mark value) → call.stage ≡ Freezing old target best → counts call.phase tag replica ≡ true → better best version value ≡ Some found
    → FreezesCounted s (with_good call.phase replica) found
found_frozen key s g inv p handle call live tag replica version mark value old target best found sent stage c e =
    let k : MoveBacked key s g call.phase (Freezing old target best) = subst (MoveBacked key s g call.phase) stage ((inv.moves p handle call live).backed) in
    froze_more s call.phase best replica version mark value found k.3 (counts_asked call.phase tag replica c)
    (subst (λ (x : Tag). WasSent s (m.Have x replica version mark value)) (sym (counts_own call.phase tag replica c)) sent) e

frozen_now : (key : KeyId) (s : Store) (g : Ghost) → Inv key s g → (call : Moving) (old : Epoch) (set : DcSet) (phase : Phase) (found : Found) → WasSent s (m.Freeze phase.tag key old.number) → old.policy ≡ policy_of s key old.number
    → quorum_frozen (faults_of old.policy) (members_of old.policy) phase.good ≡ true → FreezesCounted s phase found → IsFrozenSet key s g old.number phase.good found.stamp
frozen_now key s g inv call old set phase found asked policy quorum f = record {
  meets = subst (λ (x : Policy). MeetsAll x (has phase.good)) policy (frozen_meets old.policy phase.good quorum);
  frozen = λ d c. let e = f.each d c in (inv.answers.have_freeze phase.tag d old.number e.0 e.1 e.2 asked e.3).0;
  below = λ d c. let e = f.each d c in IsAtMost-trans (version_before key s g d old.number) e.0 found.stamp (inv.answers.have_freeze phase.tag d old.number e.0 e.1 e.2 asked e.3).1 e.4;
}

-- enough replicas of the new epoch have what was seeded
settled_now : (key : KeyId) (s : Store) (g : Ghost) → Inv key s g → (new : Epoch) (phase : Phase) (seeded : Stamp) (value : List ℕ) → IsOut s new.number → new.policy ≡ policy_of s key new.number → phase.asked ≡ first_write_set new.policy
    → WasSent s (m.Seed phase.tag key new.number seeded value) → YesCounted s phase → ((d : ℕ) → has phase.good d ≡ true → has phase.asked d ≡ true) → has_quorum (faults_of new.policy) phase ≡ true → IsSettled key s g new.number seeded
settled_now key s g inv new phase seeded value out policy asked seed said within quorum =
    let q = first_member (policy_of s key new.number) (inv.openings.policies_quorum new.number out.0 out.1) in
    let writes : phase.asked ≡ q.0.write = asked ∙ ap first_write_set policy ∙ q.1.writes in
    let most = most_pass (faults_of new.policy) phase (λ d. is_at_most seeded (version_before key s g d new.number)) quorum within
    (λ d c. at_most_test seeded (version_before key s g d new.number) (inv.answers.yes_seed phase.tag d new.number seeded value seed (said d c))) in
    record {
      member = q.0;
      is_member = q.1.there;
      settled = subst (λ (x : Policy). HasMost (faults_of x) q.0.write (λ d. is_at_most seeded (version_before key s g d new.number))) policy
          (subst (λ (x : DcSet). HasMost (faults_of new.policy) x (λ d. is_at_most seeded (version_before key s g d new.number))) writes most);
    }

switching_now : (key : KeyId) (s : Store) (g : Ghost) → Inv key s g → (p : ℕ) (handle : Handle) (call : Moving) → IsLiveMove key s p handle call → (tag : Tag) (replica : DcId) (old : ℕ) (target : Epoch) (frozen : DcSet) (seeded : Stamp) (top_gone : ℕ)
    → WasSent s (m.Yes tag replica) → call.stage ≡ Seeding old target frozen seeded top_gone → counts call.phase tag replica ≡ true → has_quorum (faults_of target.policy) (with_good call.phase replica) ≡ true
    → SeedsBacked key s g old target frozen seeded × IsSettled key s g target.number seeded
switching_now key s g inv p handle call live tag replica old target frozen seeded top_gone sent stage c quorum =
    let k : MoveBacked key s g call.phase (Seeding old target frozen seeded top_gone) = subst (MoveBacked key s g call.phase) stage ((inv.moves p handle call live).backed) in
    let same = counts_own call.phase tag replica c in
    let seed = seed_asked key s call old target frozen seeded top_gone (answers_move key s g inv p handle call live (m.Yes tag replica) sent refl same) live.at_key stage in
    let later = k.0.target.later in (
      k.0,
      settled_now key s g inv target (with_good call.phase replica) seeded seed.0 (omega arith, k.0.target.published) k.0.target.policy k.1 seed.1
          (yes_more s call.phase replica k.2 (subst (λ (x : Tag). WasSent s (m.Yes x replica)) (sym same) sent))
          (within_good call.phase tag replica c (λ d. (inv.moves p handle call live).within d)) quorum,
    )

-- what a move goes on to is backed
pub backed_after : (key : KeyId) (s : Store) (g : Ghost) (z : Store) (h : Ghost) → Inv key s g → Grows key s g z h → (p : ℕ) (handle : Handle) (call : Moving) → IsLiveMove key s p handle call → (message : Message) → WasSent s message
    → (new : (Step Moving)) → MoveTook strong_rule call message new → MoveBacked key z h new.state.phase new.state.stage
backed_after key s g z h inv grows p handle call live message sent new unheard =
    move_stays key s g z h call.phase call.stage grows inv.openings.published ((inv.moves p handle call live).backed)
backed_after key s g z h inv grows p handle call live message sent new (froze_first tag at epoch newest policy newest_policy stage got c apart) =
    let b = here_is key s g inv p handle call live tag at epoch newest policy newest_policy (subst (WasSent s) got sent) stage (same_tag call.phase.tag tag c) in
    let out = inv.openings.published epoch b.opened in
    let target : IsTargetOf key s g epoch (epoch_at newest newest_policy) = record { opened = b.opened; later = not_equal epoch newest b.within.0 apart; published = b.within.1; policy = b.latest_is } in
    (target_stays key s g z h epoch (epoch_at newest newest_policy) grows target, b.policy_is ∙ sym (grows.policies epoch out.0 out.1), refl, has-no_centre)
backed_after key s g z h inv grows p handle call live message sent new (froze_one tag replica version mark value old target best stage got c) =
    let k : MoveBacked key s g call.phase (Freezing old target best) = subst (MoveBacked key s g call.phase) stage ((inv.moves p handle call live).backed) in
    let b = better_some best version value in
    let out = inv.openings.published old.number k.0.opened in
    let f = found_frozen key s g inv p handle call live tag replica version mark value old target best b.0 (subst (WasSent s) got sent) stage c b.1 in
    subst (λ (x : Option Found). MoveBacked key z h (with_good call.phase replica) (Freezing old target x)) (sym b.1)
    (target_stays key s g z h old.number target grows k.0, k.1 ∙ sym (grows.policies old.number out.0 out.1), k.2, freezes_stay key s g z h (with_good call.phase replica) b.0 grows f)
backed_after key s g z h inv grows p handle call live message sent new (froze_all tag replica version mark value old target best found stage got c quorum e) =
    let k : MoveBacked key s g call.phase (Freezing old target best) = subst (MoveBacked key s g call.phase) stage ((inv.moves p handle call live).backed) in
    let have : WasSent s (m.Have tag replica version mark value) = subst (WasSent s) got sent in
    let f = found_frozen key s g inv p handle call live tag replica version mark value old target best found have stage c e in
    let freeze = freeze_asked key s call old target best (answers_move key s g inv p handle call live (m.Have tag replica version mark value) have refl (counts_own call.phase tag replica c)) live.at_key stage in
    let set : IsFrozenSet key s g old.number (with_good call.phase replica).good found.stamp = frozen_now key s g inv call old (with_good call.phase replica).good (with_good call.phase replica) found freeze k.1 quorum f in
    (seeds_stay key s g z h old.number target (with_good call.phase replica).good found.stamp grows inv.openings.published (record { target = k.0; frozen_set = set }), refl, λ d some. absurd (none_in d some))
backed_after key s g z h inv grows p handle call live message sent new (seeded_next tag replica old target frozen seeded top_gone stage got c) =
    let k : MoveBacked key s g call.phase (Seeding old target frozen seeded top_gone) = subst (MoveBacked key s g call.phase) stage ((inv.moves p handle call live).backed) in
    let same = counts_own call.phase tag replica c in
    let said = yes_more s call.phase replica k.2 (subst (λ (x : Tag). WasSent s (m.Yes x replica)) (sym same) (subst (WasSent s) got sent)) in
    (seeds_stay key s g z h old target frozen seeded grows inv.openings.published k.0, k.1, yes_stays key s g z h (with_good call.phase replica) grows said)
backed_after key s g z h inv grows p handle call live message sent new (seeded_all tag replica old target frozen seeded top_gone stage got c quorum) =
    let b = switching_now key s g inv p handle call live tag replica old target frozen seeded top_gone (subst (WasSent s) got sent) stage c quorum in
    let later = b.0.target.later in
    (seeds_stay key s g z h old target frozen seeded grows inv.openings.published b.0, settled_stays key s g z h target.number seeded grows (omega arith, b.0.target.published) b.1)
backed_after key s g z h inv grows p handle call live message sent new (was_refused tag replica epoch old target frozen seeded top_gone stage got c) =
    let k : MoveBacked key s g call.phase (Seeding old target frozen seeded top_gone) = subst (MoveBacked key s g call.phase) stage ((inv.moves p handle call live).backed) in
    (seeds_stay key s g z h old target frozen seeded grows inv.openings.published k.0, k.1, yes_stays key s g z h call.phase grows k.2)
backed_after key s g z h inv grows p handle call live message sent new _ = tt

-- a Switch that a move sends is backed
pub switch_backed : (key : KeyId) (s : Store) (g : Ghost) → Inv key s g → (p : ℕ) (handle : Handle) (call : Moving) → IsLiveMove key s p handle call → (tag : Tag) (replica : DcId) (old : ℕ) (target : Epoch) (frozen : DcSet) (seeded : Stamp) (top_gone : ℕ)
    → WasSent s (m.Yes tag replica) → call.stage ≡ Seeding old target frozen seeded top_gone → counts call.phase tag replica ≡ true → has_quorum (faults_of target.policy) (with_good call.phase replica) ≡ true → SwitchBacked key s g old target.number
switch_backed key s g inv p handle call live tag replica old target frozen seeded top_gone sent stage c quorum =
    let b = switching_now key s g inv p handle call live tag replica old target frozen seeded top_gone sent stage c quorum in
    record { frozen = frozen; seeded = seeded; opened = b.0.target.opened; later = b.0.target.later; published = b.0.target.published; frozen_set = b.0.frozen_set; settled = b.1 }

-- what a move seeds is known
pub seed_backed : (key : KeyId) (s : Store) (g : Ghost) → Inv key s g → (p : ℕ) (handle : Handle) (call : Moving) → IsLiveMove key s p handle call → (tag : Tag) (replica : DcId) (version mark : Stamp) (value : List ℕ) (old target : Epoch) (best : Option Found) (found : Found)
    → WasSent s (m.Have tag replica version mark value) → call.stage ≡ Freezing old target best → counts call.phase tag replica ≡ true → better best version value ≡ Some found → IsKnown key s found.stamp found.value
seed_backed key s g inv p handle call live tag replica version mark value old target best found sent stage c e =
    let f = found_frozen key s g inv p handle call live tag replica version mark value old target best found sent stage c e in
    let freeze = freeze_asked key s call old target best (answers_move key s g inv p handle call live (m.Have tag replica version mark value) sent refl (counts_own call.phase tag replica c)) live.at_key stage in
    (inv.messages.freeze_known call.phase.tag old.number f.found.d found.stamp f.found.mark found.value freeze f.found.sent).0
