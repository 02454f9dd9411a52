-- Every event keeps what agreement rests on.
use Rattle.std.proofs.Common.{◌≡◌, ℕ, ◌≤◌, Bool, true, false, List, refl, ap, ◌∙◌, subst, arith}
use Rattle.std.specs.Prelude.{if◌then◌else◌, Ok}
use Rattle.std.proofs.lemmas.Grind.{common_steps}
use Rattle.span_base.specs.declared.ids.DcId.{DcId}
use Rattle.span_base.specs.declared.ids.KeyId.{KeyId}
use Rattle.ticket_rules.specs.declared.stamp.Stamp.{Stamp}
use Rattle.wire_msg.specs.declared.tag.Tag.{Tag}
use Rattle.wire_msg.specs.declared.message.Message.{Message}
use Rattle.wire_msg.specs.declared.message.Message.TheVariants as m
use Rattle.epoch_directory.specs.State.{current_of}
use Rattle.replica_core.specs.declared.kept.Kept.{Kept}
use Rattle.replica_core.specs.Keeping.{is_over}
use Rattle.replica_core.specs.Answering.{gone, done, merge_answer}
use Rattle.world_core.specs.declared.event.Event.{Event}
use Rattle.world_core.specs.State.{Store, kept_of}
use Rattle.world_core.specs.Step.{Happening, step}
use Rattle.world_core.specs.Run.{MayHappen}
use Rattle.register_law.specs.Ghost.{Ghost, noted_of}
use Rattle.register_law.specs.Seen.{WasSent, Grows}
use Rattle.register_law.specs.Cases.{Happened}
use Rattle.register_law.proofs.AnswersTold.{Replied, one_told}
use Rattle.register_law.proofs.Basics.{sent_cases}
use Rattle.register_law.proofs.Kept.{rises}
use Rattle.register_law.proofs.TagsSent.{was_sent_stays}
use Rattle.register_law.proofs.WaitingMeets.{handles_after}
use Rattle.eventual_law.specs.Held.{InvOfEventual}
use Rattle.eventual_law.specs.Quiet.{IsZeroOrPushed, MovesGoOn}
use Rattle.eventual_law.proofs.CallKeys.{keys_kept}
use Rattle.eventual_law.proofs.KeptNow.{kept_now}
use Rattle.eventual_law.proofs.Shapes.{one_shape_after}
use Rattle.eventual_law.proofs.Pairs.{PairOf, both_sent, now_replied, pair_of, seed_copy}
use Rattle.eventual_law.proofs.Versions.{versions_kept}
use Rattle.eventual_law.proofs.Bounds.{frozen_now, frozen_by_after}
use Rattle.eventual_law.proofs.Closing.{freeze_opened_after, closing_after}
use Rattle.eventual_law.proofs.Undecided.{not_switched_after, undecided_after}
use Rattle.eventual_law.proofs.Spread.{spread_after, pushed_now, zero_or_stays}
use Rattle.eventual_law.proofs.SoundKept.{sound_kept}

gone_same : (n d : ℕ) (kept : Kept) (tag other : Tag) (last : ℕ) → gone n kept tag ≡ m.Gone other (record { 0 = d }) last → n ≡ d
gone_same n d kept tag other last e =
    let a : DcId = record { 0 = n } in
    let b : DcId = record { 0 = d } in
    let same : a ≡ b = cc in
    ap (λ (x : DcId). x.0) same

pub over_is : (kept : Kept) (epoch : ℕ) → is_over kept epoch ≡ true → epoch ≤ kept.frozen
over_is kept epoch h = grind (arith, common_steps)

gone_told : (n d : ℕ) (kept : Kept) (tag other : Tag) (epoch last : ℕ) → merge_answer n kept tag epoch ≡ m.Gone other (record { 0 = d }) last → (n ≡ d) × (epoch ≤ kept.frozen)
gone_told n d kept tag other epoch last h = by (is_over kept epoch) refl h
  where
    by : (b : Bool) → is_over kept epoch ≡ b → (if b then gone n kept tag else done n tag) ≡ m.Gone other (record { 0 = d }) last → (n ≡ d) × (epoch ≤ kept.frozen)
    by true e z = (gone_same n d kept tag other last z, over_is kept epoch e)
    by false e z = absurd (cc)

-- a Gone to a Seed
gone_replied : (key : KeyId) (s : Store) (h : Happening) → Happened s h → (tag other : Tag) (epoch last : ℕ) (stamp : Stamp) (value : List ℕ) (d : ℕ) → Replied key s h (m.Seed tag key epoch stamp value) (m.Gone other (record { 0 = d }) last) → epoch ≤ (kept_of h.store d key).frozen
gone_replied key s h is tag other epoch last stamp value d r =
    let told = gone_told r.d d (kept_of s r.d key) tag other epoch last (one_told tag (merge_answer r.d (kept_of s r.d key) tag epoch) r.post r.told ∙ r.is) in
    let le : epoch ≤ (kept_of s d key).frozen = subst (λ n. epoch ≤ (kept_of s n key).frozen) told.0 told.1 in
    let more = (rises key s h is d).frozen in
    omega arith

gone_seed_after : (key : KeyId) (s : Store) (g : Ghost) (h : Happening) → Happened s h → MovesGoOn key s g → (tag : Tag) (d epoch last : ℕ) (stamp : Stamp) (value : List ℕ) → PairOf key s h (m.Seed tag key epoch stamp value) (m.Gone tag (record { 0 = d }) last) → epoch ≤ (kept_of h.store d key).frozen
gone_seed_after key s g h is go tag d epoch last stamp value (both_sent copy c sent told) =
    let le = go.gone_seed tag d epoch last stamp value (subst (WasSent s) (seed_copy copy tag key epoch stamp value c.same) sent) told in
    let more = (rises key s h is d).frozen in
    omega arith
gone_seed_after key s g h is go tag d epoch last stamp value (now_replied copy c r) =
    gone_replied key s h is tag tag epoch last stamp value d (subst (λ (x : Message). Replied key s h x (m.Gone tag (record { 0 = d }) last)) (seed_copy copy tag key epoch stamp value c.same) r)

pub go_kept : (key : KeyId) (s : Store) (g : Ghost) (e : Event) (h : Happening) → step s e ≡ Ok h → MayHappen s e → Happened s h → InvOfEventual key s g → MovesGoOn key s g → Grows key s g h.store (noted_of key s h g) → MovesGoOn key h.store (noted_of key s h g)
go_kept key s g e h taken may is inv go grows =
    let keys = keys_kept s h g.marks is inv.known.kinds.tags inv.known.calls in
    let one = one_shape_after key s h is inv.known.kinds inv.answers.one_shape in
    record {
      handles = handles_after s h is go.handles;
      sound = sound_kept key s g e h taken may is inv go;
      freeze_opened = λ tag epoch sent. grows.opened epoch (freeze_opened_after key s g h is inv go tag epoch (sent_cases s h (m.Freeze tag key epoch) is sent));
      frozen_by = λ d. frozen_by_after key s h.store d (kept_of h.store d key) (was_sent_stays s h is) (go.frozen_by d) (frozen_now key s h is inv.known.kinds d);
      gone_seed = λ tag d epoch last stamp value asked told.
          gone_seed_after key s g h is go tag d epoch last stamp value
          (pair_of key s h (noted_of key s h g).marks (m.Seed tag key epoch stamp value) (m.Gone tag (record { 0 = d }) last) is inv.known.kinds keys one asked told refl refl tt refl);
      not_switched = λ tag epoch sent. not_switched_after key s g h is inv go grows tag epoch (sent_cases s h (m.Switched tag key false epoch) is sent);
      undecided = undecided_after key s g h is inv go;
      closing = λ tag sent. closing_after key s g e h taken is inv go tag (sent_cases s h (m.Freeze tag key (current_of h.store.directory key)) is sent);
      pushed = spread_after key s g h is inv go grows;
      versions = versions_kept key s h g.marks (IsZeroOrPushed key s) (IsZeroOrPushed key h.store) is (record { kinds = inv.known.kinds; calls = inv.known.calls; versions = go.versions }) keys
          (zero_or_stays key s g h.store (noted_of key s h g) grows) (λ d. zero_or_stays key s g h.store (noted_of key s h g) grows (kept_of h.store d key).version (kept_of h.store d key).value (pushed_now key s g inv go d (kept_of h.store d key) (kept_now key s h is inv.known.kinds d)));
    }
