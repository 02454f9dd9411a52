-- Every event keeps it that pushes go to replicas of their epoch, and that each version has reached one.
use Rattle.std.proofs.Common.{◌≡◌, inl, inr, ℕ, true, false, List, refl, ◌++◌, sym, ap, ◌∙◌, subst}
use Rattle.std.proofs.lemmas.Option.{same_Some}
use Rattle.register_law.proofs.Words.{IsAtMost-refl}
use Rattle.std.specs.Prelude.{Contains}
use Rattle.span_base.specs.DcSet.{has}
use Rattle.span_base.specs.PolicyParts.{replicas_of}
use Rattle.span_base.specs.declared.ids.KeyId.{KeyId}
use Rattle.span_base.specs.declared.dc_set.DcSet.{DcSet}
use Rattle.span_base.specs.declared.policy.Policy.{Policy}
use Rattle.span_base.proofs.Sets.{has-no_centre}
use Rattle.ticket_rules.specs.declared.stamp.Stamp.{Stamp}
use Rattle.ticket_rules.specs.Stamp.{IsAtMost}
use Rattle.wire_msg.specs.declared.tag.Tag.{Tag}
use Rattle.wire_msg.specs.declared.message.Message.{Message}
use Rattle.wire_msg.specs.declared.outputs.View.{View}
use Rattle.wire_msg.specs.declared.actor.Actor.TheVariants as to
use Rattle.wire_msg.specs.declared.message.Message.TheVariants as m
use Rattle.replica_core.specs.Rule as replica
use Rattle.world_core.specs.State.{Store, proxy_at, view_at, replica_at, kept_of, policy_of}
use Rattle.world_core.specs.Starting.{first_tag, ticket_of}
use Rattle.world_core.specs.Step.{Happening, is_strong_key}
use Rattle.register_law.specs.Ghost.{Ghost, noted_of}
use Rattle.register_law.specs.Seen.{Grows}
use Rattle.register_law.specs.Cases.{Happened, next_call}
use Rattle.register_law.proofs.AnswersPairs.{reaches_before}
use Rattle.register_law.proofs.MovesKept.{by_start, by_replica, by_directory, Posted, by_call, posted}
use Rattle.register_law.proofs.Basics.{sent_or_posted}
use Rattle.register_law.proofs.TagsCalls.{started_opens, started_as}
use Rattle.register_law.proofs.TagsSent.{call_sends}
use Rattle.register_law.specs.Tags.{IsPushFree}
use Rattle.eventual_law.specs.Known.{CallsHaveKeys}
use Rattle.eventual_law.specs.Held.{IsReached, IsRouted, VersionsAreReached, InvOfEventual}
use Rattle.eventual_law.proofs.Passed.{directory_replies}
use Rattle.eventual_law.proofs.Sends.{start_key, no_request}
use Rattle.eventual_law.proofs.KeptNow.{KeptNow, kept_still, by_seed, by_push, kept_now}
use Rattle.eventual_law.proofs.Versions.{versions_kept}
use Rattle.eventual_law.proofs.Routed.{IsAimed, push_post, start_aimed, step_passes}
use Rattle.eventual_law.proofs.HeldStays.{replica_stays, version_stays}

routed_stays : (key : KeyId) (s : Store) (g : Ghost) (h : Happening) → InvOfEventual key s g → Grows key s g h.store (noted_of key s h g) → (d : ℕ) (stamp : Stamp) (onward : DcSet) → IsRouted key s g d stamp onward → IsRouted key h.store (noted_of key s h g) d stamp onward
routed_stays key s g h inv grows d stamp onward was =
    let out = inv.epochs.published stamp.epoch was.opened in
    record {
      opened = grows.opened stamp.epoch was.opened;
      here = replica_stays key s g h.store (noted_of key s h g) stamp.epoch d grows out was.here;
      onwards = λ e there. replica_stays key s g h.store (noted_of key s h g) stamp.epoch e grows out (was.onwards e there);
    }

-- a push that a put sends at its start
aimed_is : (key : KeyId) (s : Store) (g : Ghost) (view : View) (ticket : Stamp) (d : ℕ) (stamp : Stamp) (onward : DcSet) → ticket.epoch ≡ view.epoch → Contains g.opened view.epoch → view.policy ≡ policy_of s key view.epoch → IsAimed view ticket d key stamp onward → IsRouted key s g d stamp onward
aimed_is key s g view ticket d stamp onward epoch opened policy a =
    let at : view.epoch ≡ stamp.epoch = sym epoch ∙ ap (λ (x : Stamp). x.epoch) (sym a.stamp_is) in
    let own : view.policy ≡ policy_of s key stamp.epoch = policy ∙ ap (policy_of s key) at in
    record {
      opened = subst (Contains g.opened) at opened;
      here = subst (λ (x : Policy). has (replicas_of x) d ≡ true) own a.here;
      onwards = λ e there. subst (λ (x : Policy). has (replicas_of x) e ≡ true) own (a.onwards e there);
    }

pub push_free : (X : Type 0) (tag : Tag) (key : KeyId) (stamp : Stamp) (onward : DcSet) (value : List ℕ) (message : Message) → m.Push tag key stamp onward value ≡ message → IsPushFree message → X
push_free X tag key stamp onward value message is free = absurd (subst IsPushFree (sym is) free)

routed_now : (key : KeyId) (s : Store) (g : Ghost) (h : Happening) → InvOfEventual key s g → (d : ℕ) (tag : Tag) (stamp : Stamp) (onward : DcSet) (value : List ℕ) → Posted s h (push_post d tag key stamp onward value) → IsRouted key s g d stamp onward
routed_now key s g h inv d tag stamp onward value (by_start p on work st c) =
    let view : View = view_at (proxy_at s p).views on in
    let drawn : Stamp = ticket_of (proxy_at s p) view (next_call s p) in
    let first : Tag = first_tag (next_call s p) st.handle in
    let keyed : view.key ≡ key = same_Some view.key key (sym ((started_opens s p on work h st).requests (push_post d tag key stamp onward value) c).1) in
    let same : on ≡ key = start_key key s h p on work inv.known.kinds st keyed in
    let not_strong : is_strong_key s on ≡ false = ap (λ (x : KeyId). is_strong_key s x) same ∙ inv.known.kinds.eventual in
    let known = subst (λ (x : KeyId). Contains g.opened (view_at (proxy_at s p).views x).epoch × ((view_at (proxy_at s p).views x).policy ≡ policy_of s key (view_at (proxy_at s p).views x).epoch)) (sym same) (inv.views p st.exists) in
    let a = start_aimed first (proxy_at s p).at view drawn (is_strong_key s on) work st.taken not_strong (started_as s p on work h st) d tag key stamp onward value c in
    aimed_is key s g view drawn d stamp onward refl known.0 known.1 a
routed_now key s g h inv d tag stamp onward value (by_replica n from sent c) =
    let p = step_passes (replica_at s n).state from (replica.request_key from) d tag key stamp onward value c in
    let was = inv.versions.pushed n p.tag stamp p.set p.value (subst (λ (x : Message). Contains s.sent (record { to = to.Replica n; message = x })) p.from_is sent) in
    record { opened = was.opened; here = was.onwards d p.there; onwards = λ e there. absurd (let none = has-no_centre e in let z : has onward e ≡ false = ap (λ (x : DcSet). has x e) p.none ∙ none in cc) }
routed_now key s g h inv d tag stamp onward value (by_directory from sent directory_is c) =
    no_request (IsRouted key s g d stamp onward) key (m.Push tag key stamp onward value) refl (directory_replies s.directory from (push_post d tag key stamp onward value) c)
routed_now key s g h inv d tag stamp onward value (by_call p from old took c) =
    let sends = call_sends s p from old in
    push_free (IsRouted key s g d stamp onward) tag key stamp onward value sends.message (sends.copies (push_post d tag key stamp onward value) c) sends.push_free

-- what a replica keeps after an event
reached_now : (key : KeyId) (s : Store) (g : Ghost) (h : Happening) → InvOfEventual key s g → Grows key s g h.store (noted_of key s h g) → (d : ℕ) → KeptNow key s d (kept_of h.store d key) → IsReached key h.store (noted_of key s h g) (kept_of h.store d key).version
reached_now key s g h inv grows d (kept_still version value) =
    subst (IsReached key h.store (noted_of key s h g)) (sym version) (version_stays key s g h.store (noted_of key s h g) (kept_of s d key).version grows inv.epochs.published (inv.versions.versions.kept d))
reached_now key s g h inv grows d (by_seed tag epoch stamp held sent version value) =
    subst (IsReached key h.store (noted_of key s h g)) (sym version) (version_stays key s g h.store (noted_of key s h g) stamp grows inv.epochs.published (inv.versions.versions.seeded tag epoch stamp held sent))
reached_now key s g h inv grows d (by_push tag stamp onward held sent open_still version value) =
    let routed = routed_stays key s g h inv grows d stamp onward (inv.versions.pushed d tag stamp onward held sent) in
    let has_it : IsAtMost stamp (kept_of h.store d key).version = subst (IsAtMost stamp) (sym version) (IsAtMost-refl stamp) in
    subst (IsReached key h.store (noted_of key s h g)) (sym version)
    (inr (record { opened = routed.opened; d = d; of_policy = routed.here; reached = reaches_before key h.store (noted_of key s h g) d stamp.epoch stamp (record { open_still = open_still; has = has_it }) }))

pub reached_kept : (key : KeyId) (s : Store) (g : Ghost) (h : Happening) → Happened s h → InvOfEventual key s g → Grows key s g h.store (noted_of key s h g) → CallsHaveKeys h.store (g.marks ++ h.marks) → VersionsAreReached key h.store (noted_of key s h g)
reached_kept key s g h is inv grows keys = record {
  pushed = λ d tag stamp onward value sent.
      routed_stays key s g h inv grows d stamp onward
      (elim (sent_or_posted s h is (push_post d tag key stamp onward value) sent) as (λ _. IsRouted key s g d stamp onward) [
        | inl old ↦ inv.versions.pushed d tag stamp onward value old
        | inr new ↦ routed_now key s g h inv d tag stamp onward value (posted s h is (push_post d tag key stamp onward value) new)
      ]);
  versions = versions_kept key s h g.marks (λ stamp value. IsReached key s g stamp) (λ stamp value. IsReached key h.store (noted_of key s h g) stamp) is (record { kinds = inv.known.kinds; calls = inv.known.calls; versions = inv.versions.versions }) keys
      (λ stamp value was. version_stays key s g h.store (noted_of key s h g) stamp grows inv.epochs.published was) (λ d. reached_now key s g h inv grows d (kept_now key s h is inv.known.kinds d));
}
