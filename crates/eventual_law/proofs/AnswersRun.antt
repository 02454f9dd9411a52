-- What the answers of replicas tell of an eventual key holds after every run.
use Rattle.std.proofs.Common.{ℕ, ◌≤◌, List, refl, sym, subst, arith}
use Rattle.register_law.proofs.Words.{IsAtMost-refl}
use Rattle.std.specs.Prelude.{nat_lt, nat_le}
use Rattle.std.proofs.lemmas.Bool.{ltb-false, le-leb}
use Rattle.span_base.specs.declared.ids.KeyId.{KeyId}
use Rattle.span_base.specs.declared.dc_set.DcSet.{DcSet}
use Rattle.ticket_rules.specs.declared.stamp.Stamp.{Stamp}
use Rattle.ticket_rules.specs.Stamp.{stamp_zero, IsAtMost}
use Rattle.wire_msg.specs.declared.tag.Tag.{Tag}
use Rattle.wire_msg.specs.declared.message.Message.{Message}
use Rattle.wire_msg.specs.declared.message.Message.TheVariants as m
use Rattle.replica_core.specs.declared.kept.Kept.{Kept}
use Rattle.replica_core.specs.Rising.{Rises}
use Rattle.world_core.specs.declared.event.Header.{Header}
use Rattle.world_core.specs.State.{Store, opening, kept_of}
use Rattle.world_core.specs.Step.{Happening}
use Rattle.register_law.specs.Ghost.{Ghost, noted_of, first_ghost}
use Rattle.register_law.specs.Seen.{WasSent, version_before}
use Rattle.register_law.specs.Cases.{Happened}
use Rattle.register_law.proofs.Kept.{rises}
use Rattle.register_law.proofs.Growth.{before_grows, fixed_stays}
use Rattle.register_order.proofs.Stamps.{IsAtMost-trans}
use Rattle.register_law.proofs.Opening.{nothing_sent, nothing_kept}
use Rattle.register_law.proofs.ReplicasKept.{fixed_by}
use Rattle.register_law.proofs.AnswersTold.{seed_replied, freeze_replied, Replied}
use Rattle.register_law.proofs.AnswersPairs.{reaches_before, froze_now}
use Rattle.eventual_law.specs.Keys.{IsEventualKey}
use Rattle.eventual_law.specs.Known.{Known}
use Rattle.eventual_law.specs.Told.{EventualAnswersTell}
use Rattle.eventual_law.proofs.CallKeys.{keys_kept}
use Rattle.eventual_law.proofs.Shapes.{one_shape_after}
use Rattle.eventual_law.proofs.Pairs.{PairOf, both_sent, now_replied, pair_of, seed_copy, freeze_copy, push_copy, push_replied}
use Rattle.eventual_law.proofs.ValuesKept.{known_kept}
use Rattle.eventual_law.proofs.ValuesRun.{known_first}

still : (key : KeyId) (s : Store) (g : Ghost) (h : Happening) (d epoch : ℕ) (stamp : Stamp) → Happened s h → IsAtMost stamp (version_before key s g d epoch) → IsAtMost stamp (version_before key h.store (noted_of key s h g) d epoch)
still key s g h d epoch stamp is was = IsAtMost-trans stamp (version_before key s g d epoch) (version_before key h.store (noted_of key s h g) d epoch) was (before_grows key s g h is d epoch)

-- the record holds of a state, and of what was noted
pub record Tells (key : KeyId) (s : Store) (g : Ghost) : Type 0 where
  pub known : Known key s g.marks
  pub answers : EventualAnswersTell key s g

yes_push_after : (key : KeyId) (s : Store) (g : Ghost) (h : Happening) (tag : Tag) (stamp : Stamp) (onward : DcSet) (value : List ℕ) (d : ℕ) → Happened s h → Tells key s g → PairOf key s h (m.Push tag key stamp onward value) (m.Yes tag (record { 0 = d }))
    → IsAtMost stamp (version_before key h.store (noted_of key s h g) d stamp.epoch)
yes_push_after key s g h tag stamp onward value d is t (both_sent copy c sent told) =
    let push = push_copy copy tag key stamp value c.same in
    still key s g h d stamp.epoch stamp is (t.answers.yes_push tag stamp push.0 value d (subst (WasSent s) push.1 sent) told)
yes_push_after key s g h tag stamp onward value d is t (now_replied copy c r) =
    let push = push_copy copy tag key stamp value c.same in
    reaches_before key h.store (noted_of key s h g) d stamp.epoch stamp (push_replied key s h tag tag stamp push.0 value d (subst (λ (x : Message). Replied key s h x (m.Yes tag (record { 0 = d }))) push.1 r))

yes_seed_after : (key : KeyId) (s : Store) (g : Ghost) (h : Happening) (tag : Tag) (d epoch : ℕ) (stamp : Stamp) (value : List ℕ) → Happened s h → Tells key s g → PairOf key s h (m.Seed tag key epoch stamp value) (m.Yes tag (record { 0 = d }))
    → IsAtMost stamp (version_before key h.store (noted_of key s h g) d epoch)
yes_seed_after key s g h tag d epoch stamp value is t (both_sent copy c sent told) =
    still key s g h d epoch stamp is (t.answers.yes_seed tag d epoch stamp value (subst (WasSent s) (seed_copy copy tag key epoch stamp value c.same) sent) told)
yes_seed_after key s g h tag d epoch stamp value is t (now_replied copy c r) =
    reaches_before key h.store (noted_of key s h g) d epoch stamp
    (seed_replied key s h tag tag epoch stamp value d (subst (λ (x : Message). Replied key s h x (m.Yes tag (record { 0 = d }))) (seed_copy copy tag key epoch stamp value c.same) r))

have_freeze_after : (key : KeyId) (s : Store) (g : Ghost) (h : Happening) (tag : Tag) (d epoch : ℕ) (version mark : Stamp) (value : List ℕ) → Happened s h → Tells key s g → PairOf key s h (m.Freeze tag key epoch) (m.Have tag (record { 0 = d }) version mark value)
    → (epoch ≤ (kept_of h.store d key).frozen) × IsAtMost (version_before key h.store (noted_of key s h g) d epoch) version
have_freeze_after key s g h tag d epoch version mark value is t (both_sent copy c sent told) =
    let was = t.answers.have_freeze tag d epoch version mark value (subst (WasSent s) (freeze_copy copy tag key epoch c.same) sent) told in
    let le = was.0 in
    let more = (rises key s h is d).frozen in
    (omega arith, subst (λ (x : Stamp). IsAtMost x version) (sym (fixed_stays key s g h is d epoch was.0)) was.1)
have_freeze_after key s g h tag d epoch version mark value is t (now_replied copy c r) =
    froze_now key s g h t.answers.fixed_below d epoch version mark value (freeze_replied key s h tag tag epoch d version mark value (subst (λ (x : Message). Replied key s h x (m.Have tag (record { 0 = d }) version mark value)) (freeze_copy copy tag key epoch c.same) r))

pub tells_after : (key : KeyId) (s : Store) (g : Ghost) (h : Happening) → Happened s h → Tells key s g → Tells key h.store (noted_of key s h g)
tells_after key s g h is t =
    let kinds = t.known.kinds in
    let keys = keys_kept s h g.marks is t.known.kinds.tags t.known.calls in
    let one = one_shape_after key s h is t.known.kinds t.answers.one_shape in
    record {
      known = known_kept key s h g.marks is t.known;
      answers = record {
        one_shape = one;
        yes_push = λ tag stamp onward value d asked told. yes_push_after key s g h tag stamp onward value d is t (pair_of key s h (noted_of key s h g).marks (m.Push tag key stamp onward value) (m.Yes tag (record { 0 = d })) is kinds keys one asked told refl refl tt refl);
        yes_seed = λ tag d epoch stamp value asked told. yes_seed_after key s g h tag d epoch stamp value is t (pair_of key s h (noted_of key s h g).marks (m.Seed tag key epoch stamp value) (m.Yes tag (record { 0 = d })) is kinds keys one asked told refl refl tt refl);
        have_freeze = λ tag d epoch version mark value asked told.
            have_freeze_after key s g h tag d epoch version mark value is t (pair_of key s h (noted_of key s h g).marks (m.Freeze tag key epoch) (m.Have tag (record { 0 = d }) version mark value) is kinds keys one asked told refl refl tt refl);
        fixed_below = λ d e le.
            (let up : Rises (kept_of s d key) (kept_of h.store d key) = rises key s h is d in
            fixed_by (nat_lt (kept_of s d key).frozen e) (nat_le e (kept_of h.store d key).frozen) (kept_of s d key).version (kept_of h.store d key).version (g.fixed d e) (le-leb e (kept_of h.store d key).frozen le) up.version
            (λ b. IsAtMost-trans (g.fixed d e) (kept_of s d key).version (kept_of h.store d key).version (t.answers.fixed_below d e (ltb-false (kept_of s d key).frozen e b)) up.version));
      };
    }

pub tells_first : (header : Header) (key : KeyId) → IsEventualKey header key.0 → Tells key (opening header) first_ghost
tells_first header key e = record {
  known = known_first header key e;
  answers = record {
    one_shape = λ a b sent _ _ _ _. absurd (nothing_sent header a sent);
    yes_push = λ tag stamp onward value d asked _. absurd (nothing_sent header (m.Push tag key stamp onward value) asked);
    yes_seed = λ tag d epoch stamp value asked _. absurd (nothing_sent header (m.Seed tag key epoch stamp value) asked);
    have_freeze = λ tag d epoch version mark value asked _. absurd (nothing_sent header (m.Freeze tag key epoch) asked);
    fixed_below = λ d e _. subst (λ (x : Kept). IsAtMost stamp_zero x.version) (sym (nothing_kept header d key)) (IsAtMost-refl stamp_zero);
  };
}
