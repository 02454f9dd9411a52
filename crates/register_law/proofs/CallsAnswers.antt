-- An answer that counts keeps what a read or a write rests on.
use Rattle.std.proofs.Common.{◌≡◌, inl, inr, ℕ, ◌<◌, Bool, true, false, List, refl, sym, subst, arith, if◌then◌else◌, Option, Some, None, ◌∙◌, max, IsSome}
use Rattle.register_law.proofs.Words.{has, insert, DcSet, DcId, IsAtMost, greater, stamp_cmp, stamp_zero, Stamp, better, counts, Found, takes_have, takes_yes, Stage, Ended, First, Looking, Second, CallState, ToRead, ToWrite, Store, FirstCounted, HasAnswered, StrongCounted, WasSent, KeyId, tag_of, Message, counted, is_counted, Ghost, IsStrongRequest, TagsTellApart, request_key, CallBacked, is_gt, common_steps, has-insert_same, has-below, StrongWork as Work, IsAtMost-trans, IsAtMost-refl, has-insert_cases, has-insert_stays, and_left, and_right}
use Rattle.wire_msg.specs.declared.message.Message.TheVariants as m
use Rattle.strong_proxy.specs.Counting.{held_after}
use Rattle.register_law.proofs.Growth.{second_below}
use Rattle.register_law.specs.Live.{WasMarked}
use Rattle.register_law.proofs.CallsPhase.{recounted, recount}
use Rattle.register_law.proofs.MovesStep.{counted_is_own, counts_own, counts_asked}
use Rattle.register_law.proofs.Basics.{point_of}
use Rattle.register_law.proofs.MovesTook.{within_good, yes_more, gt_below, not_gt}

pub counted_yes : (s : Store) (work : Work) (stage : Stage) (call : CallState) (replica : DcId) (h : takes_yes work stage ≡ true) → WasSent s (m.Yes call.progress.phase.tag replica) → StrongCounted s work stage call
    → StrongCounted s work stage (recounted call call.best (insert call.progress.phase.good replica.0) call.progress.phase.bad call.progress.top_mark call.progress.had_gone call.progress.top_gone call.progress.top_held)
counted_yes s (ToWrite value) First call replica h sent old = yes_more s call.progress.phase replica old sent
counted_yes s ToRead Second call replica h sent old = yes_more s call.progress.phase replica old sent
counted_yes s (ToWrite value) Second call replica h sent old = yes_more s call.progress.phase replica old sent
counted_yes s work stage call replica h sent old = absurd (cc)

-- a refusal counts for nothing that was answered
first_refused : (s : Store) (call : CallState) (best : Option Found) (bad : DcSet) (had : Bool) (gone : ℕ) (held : Stamp) → FirstCounted s call best
    → FirstCounted s (recounted call call.best call.progress.phase.good bad call.progress.top_mark had gone held) best
first_refused s call None bad had gone held old = old
first_refused s call (Some best) bad had gone held old = record {
  each = λ d c. (let a = old.each d c in record { version = a.version; marked = a.marked; value = a.value; sent = a.sent; below = a.below; below_mark = a.below_mark });
  found = record { d = old.found.d; mark = old.found.mark; counted = old.found.counted; sent = old.found.sent };
  marked = record { d = old.marked.d; version = old.marked.version; value = old.marked.value; counted = old.marked.counted; sent = old.marked.sent };
}

pub counted_refused : (s : Store) (work : Work) (stage : Stage) (call : CallState) (bad : DcSet) (had : Bool) (gone : ℕ) (held : Stamp) → StrongCounted s work stage call
    → StrongCounted s work stage (recounted call call.best call.progress.phase.good bad call.progress.top_mark had gone held)
counted_refused s ToRead First call bad had gone held old = first_refused s call call.best bad had gone held old
counted_refused s (ToWrite value) First call bad had gone held old = λ d c. old d c
counted_refused s work Second call bad had gone held old = λ d c. old d c
counted_refused s work Looking call bad had gone held old = tt
counted_refused s work Ended call bad had gone held old = tt

above_greater : (a b c : Stamp) → IsAtMost c a → IsAtMost c (greater a b)
above_greater a b c h = chosen (is_gt (stamp_cmp b a)) refl
  where
    chosen : (t : Bool) → is_gt (stamp_cmp b a) ≡ t → IsAtMost c (if t then b else a)
    chosen true e = IsAtMost-trans c a b h (gt_below b a e)
    chosen false e = h

over_zero : (b : Stamp) → greater stamp_zero b ≡ b
over_zero b = chosen (is_gt (stamp_cmp b stamp_zero)) refl
  where
    chosen : (t : Bool) → is_gt (stamp_cmp b stamp_zero) ≡ t → (if t then b else stamp_zero) ≡ b
    chosen true e = refl
    chosen false e = sym (least b e)
      where
        zero_fields : (b : Stamp) → is_gt (stamp_cmp b stamp_zero) ≡ false → (b.epoch ≡ 0) × (b.number ≡ 0) × (b.proxy ≡ 0) × (b.seq ≡ 0)
        zero_fields b e = grind (arith, common_steps)

        least : (b : Stamp) → is_gt (stamp_cmp b stamp_zero) ≡ false → b ≡ stamp_zero
        least b e = let z = zero_fields b e in grind (arith, common_steps)

-- a version more in a read's first phase
have_more : (s : Store) (call : CallState) (replica : DcId) (version mark : Stamp) (value : List ℕ) (best : Option Found) → has call.progress.phase.asked replica.0 ≡ true → WasSent s (m.Have call.progress.phase.tag replica version mark value)
    → FirstCounted s call best
    → FirstCounted s (recounted call (better call.best version value) (insert call.progress.phase.good replica.0) call.progress.phase.bad (greater call.progress.top_mark mark) call.progress.had_gone call.progress.top_gone call.progress.top_held) (better best version value)
have_more s call replica version mark value None asked sent old =
    let lt : replica.0 < 16 = has-below call.progress.phase.asked replica.0 asked in
    let zero : greater call.progress.top_mark mark ≡ mark = subst (λ x. greater x mark ≡ mark) (sym old.1) (over_zero mark) in
    record {
      each = λ d c. elim (has-insert_cases call.progress.phase.good replica.0 d c) as (λ _. HasAnswered s call.progress.phase.tag d (record { stamp = version; value = value }) (greater call.progress.top_mark mark)) [
        | inl e ↦ record { version = version; marked = mark; value = value; sent = subst (λ n. WasSent s (m.Have call.progress.phase.tag (record { 0 = n }) version mark value)) (sym e) sent; below = IsAtMost-refl version; below_mark = second_below call.progress.top_mark mark }
        | inr was ↦ absurd (let no = old.0 d in cc)
      ];
      found = record { d = replica.0; mark = mark; counted = has-insert_same call.progress.phase.good replica.0 lt; sent = sent };
      marked = record { d = replica.0; version = version; value = value; counted = has-insert_same call.progress.phase.good replica.0 lt; sent = subst (λ x. WasSent s (m.Have call.progress.phase.tag replica version x value)) (sym zero) sent };
    }
have_more s call replica version mark value (Some best) asked sent old = chosen (is_gt (stamp_cmp version best.stamp)) refl
  where
    lt : replica.0 < 16
    lt = has-below call.progress.phase.asked replica.0 asked

    each_is : (now : Found) → IsAtMost version now.stamp → IsAtMost best.stamp now.stamp → (d : ℕ) → has (insert call.progress.phase.good replica.0) d ≡ true → HasAnswered s call.progress.phase.tag d now (greater call.progress.top_mark mark)
    each_is now a b d c =
        elim (has-insert_cases call.progress.phase.good replica.0 d c) as (λ _. HasAnswered s call.progress.phase.tag d now (greater call.progress.top_mark mark)) [
          | inl e ↦ record { version = version; marked = mark; value = value; sent = subst (λ n. WasSent s (m.Have call.progress.phase.tag (record { 0 = n }) version mark value)) (sym e) sent; below = a; below_mark = second_below call.progress.top_mark mark }
          | inr was ↦ (let o = old.each d was in record { version = o.version; marked = o.marked; value = o.value; sent = o.sent; below = IsAtMost-trans o.version best.stamp now.stamp o.below b; below_mark = above_greater call.progress.top_mark mark o.marked o.below_mark })
        ]

    marked_is : (t : Bool) → WasMarked s (record { tag = call.progress.phase.tag; asked = call.progress.phase.asked; good = insert call.progress.phase.good replica.0; bad = call.progress.phase.bad }) (if t then mark else call.progress.top_mark)
    marked_is true = record { d = replica.0; version = version; value = value; counted = has-insert_same call.progress.phase.good replica.0 lt; sent = sent }
    marked_is false = record { d = old.marked.d; version = old.marked.version; value = old.marked.value; counted = has-insert_stays call.progress.phase.good replica.0 old.marked.d lt old.marked.counted; sent = old.marked.sent }

    chosen : (t : Bool) → is_gt (stamp_cmp version best.stamp) ≡ t
        → FirstCounted s (recounted call (better call.best version value) (insert call.progress.phase.good replica.0) call.progress.phase.bad (greater call.progress.top_mark mark) call.progress.had_gone call.progress.top_gone call.progress.top_held) (if t then Some (record { stamp = version; value = value }) else Some best)
    chosen true e = record {
      each = each_is (record { stamp = version; value = value }) (IsAtMost-refl version) (gt_below version best.stamp e);
      found = record { d = replica.0; mark = mark; counted = has-insert_same call.progress.phase.good replica.0 lt; sent = sent };
      marked = marked_is (is_gt (stamp_cmp mark call.progress.top_mark));
    }
    chosen false e = record {
      each = each_is best (not_gt version best.stamp e) (IsAtMost-refl best.stamp);
      found = record { d = old.found.d; mark = old.found.mark; counted = has-insert_stays call.progress.phase.good replica.0 old.found.d lt old.found.counted; sent = old.found.sent };
      marked = marked_is (is_gt (stamp_cmp mark call.progress.top_mark));
    }

-- Have counts in a read's first phase alone
pub in_first : (work : Work) (stage : Stage) → takes_have work stage ≡ true → (work ≡ ToRead) × (stage ≡ First)
in_first ToRead First h = (refl, refl)
in_first work stage h = absurd (cc)

pub first_not_second : (stage : Stage) (P : Type 0) → stage ≡ First → stage ≡ Second → P
first_not_second First P a b = absurd (cc)
first_not_second stage P a b = absurd (cc)

pub counted_have : (s : Store) (work : Work) (stage : Stage) (call : CallState) (replica : DcId) (version mark : Stamp) (value : List ℕ) → takes_have work stage ≡ true → has call.progress.phase.asked replica.0 ≡ true → WasSent s (m.Have call.progress.phase.tag replica version mark value) → StrongCounted s work stage call
    → StrongCounted s work stage (recounted call (better call.best version value) (insert call.progress.phase.good replica.0) call.progress.phase.bad (greater call.progress.top_mark mark) call.progress.had_gone call.progress.top_gone call.progress.top_held)
counted_have s ToRead First call replica version mark value h asked sent old = have_more s call replica version mark value call.best asked sent old
counted_have s work stage call replica version mark value h asked sent old = absurd (cc)

-- ---- an answer that counts keeps what a read or a write rests on

-- a message that was sent and counts
pub counting : (key : KeyId) (s : Store) (g : Ghost) (call : CallState) (message : Message) → is_counted call message ≡ true → WasSent s message → CallBacked key s g call → CallBacked key s g (counted call message)
counting key s g call (m.Have tag replica version mark value) is sent b =
    let c = and_right (takes_have call.work call.progress.stage) (counts call.progress.phase tag replica) is in
    let t = and_left (takes_have call.work call.progress.stage) (counts call.progress.phase tag replica) is in
    recount key s g call (better call.best version value) (insert call.progress.phase.good replica.0) call.progress.phase.bad (greater call.progress.top_mark mark) call.progress.had_gone call.progress.top_gone call.progress.top_held b
    (λ second. first_not_second call.progress.stage (call.best ≡ better call.best version value) (in_first call.work call.progress.stage t).1 second)
    (counted_have s call.work call.progress.stage call replica version mark value t (counts_asked call.progress.phase tag replica c) (subst (λ x. WasSent s (m.Have x replica version mark value)) (sym (counts_own call.progress.phase tag replica c)) sent) b.counted)
    (within_good call.progress.phase tag replica c b.within)
counting key s g call (m.Yes tag replica) is sent b =
    let c = and_right (takes_yes call.work call.progress.stage) (counts call.progress.phase tag replica) is in
    recount key s g call call.best (insert call.progress.phase.good replica.0) call.progress.phase.bad call.progress.top_mark call.progress.had_gone call.progress.top_gone call.progress.top_held b (λ _. refl)
    (counted_yes s call.work call.progress.stage call replica (and_left (takes_yes call.work call.progress.stage) (counts call.progress.phase tag replica) is) (subst (λ x. WasSent s (m.Yes x replica)) (sym (counts_own call.progress.phase tag replica c)) sent) b.counted)
    (within_good call.progress.phase tag replica c b.within)
counting key s g call (m.Held tag replica stamp) is sent b =
    recount key s g call call.best call.progress.phase.good (insert call.progress.phase.bad replica.0) call.progress.top_mark call.progress.had_gone call.progress.top_gone (held_after call.progress.stage call.progress.top_held stamp) b (λ _. refl)
    (counted_refused s call.work call.progress.stage call (insert call.progress.phase.bad replica.0) call.progress.had_gone call.progress.top_gone (held_after call.progress.stage call.progress.top_held stamp) b.counted) b.within
counting key s g call (m.Gone tag replica epoch) is sent b =
    recount key s g call call.best call.progress.phase.good (insert call.progress.phase.bad replica.0) call.progress.top_mark true (max call.progress.top_gone epoch) call.progress.top_held b (λ _. refl)
    (counted_refused s call.work call.progress.stage call (insert call.progress.phase.bad replica.0) true (max call.progress.top_gone epoch) call.progress.top_held b.counted) b.within
counting key s g call (m.Here tag at epoch policy latest_epoch latest_policy) is sent b = b
counting key s g call message is sent b = absurd (cc)

-- what counts is an answer
counted_no_request : (call : CallState) (message : Message) → is_counted call message ≡ true → request_key message ≡ None
counted_no_request call (m.Have tag replica version mark value) is = refl
counted_no_request call message is = cc

-- the request that a phase's answer was given to
pub record PhaseRequest (s : Store) (call : CallState) : Type 0 where
  pub request : Message
  pub sent : WasSent s request
  pub some : IsSome (request_key request)
  pub tag_is : tag_of request ≡ call.progress.phase.tag
  pub is : IsStrongRequest call.work call.progress.stage call request

-- an answer that counts was given to the request of the call's present phase
pub phase_request : (key : KeyId) (s : Store) (g : Ghost) (call : CallState) (message : Message) → TagsTellApart s → is_counted call message ≡ true → WasSent s message → CallBacked key s g call → PhaseRequest s call
phase_request key s g call message tags is sent b =
    let asked = tags.answers_asked message sent (counted_no_request call message is) in
    let own : tag_of asked.0 ≡ call.progress.phase.tag = asked.3 ∙ sym (counted_is_own call message is) in
    record { request = asked.0; sent = asked.1; some = asked.2; tag_is = own; is = b.request asked.0 asked.1 asked.2 (point_of (tag_of asked.0) call.progress.phase.tag own) }
