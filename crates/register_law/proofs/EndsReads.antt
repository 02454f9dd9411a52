-- What a read gives, and what a write confirms, was stored and is kept.
use Rattle.std.proofs.Common.{◌≡◌, ◌⊎◌, inl, inr, ℕ, List, ◌++◌, refl, sym, ap, ◌∙◌, subst, Option, Some, Contains, subst₂}
use Rattle.register_law.proofs.Words.{Call, KeyId, IsAtMost, Stamp, Found, counted, best_stamp, Stage, Second, CallState, ToRead, Store, Happening, Happened, IsReadOf, Begun, Ghost, noted_of, Inv, IsWork, MayRepair, IsKnown, Tag, IsKept, WasSent, Contains-append_cases, StrongWork as Work, Work as Asked}
use Rattle.wire_msg.specs.declared.message.Message.TheVariants as m
use Rattle.wire_msg.specs.declared.outputs.Reply.TheVariants as r
use Rattle.strong_proxy.specs.declared.next.Next.TheVariants as n
use Rattle.run_marks.specs.declared.mark.Work.TheVariants as w
use Rattle.run_marks.specs.declared.mark.Mark.TheVariants as k
use Rattle.strong_proxy.proofs.Endings.{progress_after-key}
use Rattle.register_law.proofs.MovesStable.{sent_stays, kept_stays}
use Rattle.register_law.proofs.Next.{AnswersWhen, at_mark, repaired}
use Rattle.register_law.proofs.CallsBacked.{begun_before}
use Rattle.register_law.proofs.CallsStrong.{ReadFloor, found_known, TookCounted, took_counted}
use Rattle.register_law.proofs.Growth.{grows_by}
use Rattle.register_law.proofs.CallsSent.{next_by, Demanded, plain, at_start, by_call, demanded, call_sends, sends_confirm}
use Rattle.register_law.proofs.CallsMessages.{rests_by}
use Rattle.register_law.proofs.EndsBegun.{marked_begins_not}
use Rattle.register_law.proofs.EndsAnswered.{AnsweredNow, answered_now, AnswerIs, gives, confirms, answer_is, now_counted}
use Rattle.register_law.proofs.Basics.{is_some_of, sent_or_posted}
use Rattle.register_law.proofs.FloorsMet.{stored_is_kept}
use Rattle.register_law.proofs.BegunCalls.{BeginsWith, begun_with}

-- what a read gives
pub read_of_stays : (key : KeyId) (s : Store) (g : Ghost) (h : Happening) → Happened s h → Inv key s g → (stamp : Stamp) (value : List ℕ) → IsReadOf key s stamp value → IsReadOf key h.store stamp value
read_of_stays key s g h is inv stamp value (inl zero) = inl zero
read_of_stays key s g h is inv stamp value (inr by) =
    inr (by.0, record { tag = by.1.tag; of = by.1.of; sent = sent_stays key s g h.store (noted_of key s h g) (m.Store by.1.tag key stamp value) (grows_by key s g h is inv) by.1.sent })

known_is_read : (key : KeyId) (s : Store) (stamp : Stamp) (value : List ℕ) → IsKnown key s stamp value → IsReadOf key s stamp value
known_is_read key s stamp value (inl zero) = inl zero
known_is_read key s stamp value (inr stored) = inr (stored.tag.call, record { tag = stored.tag; of = refl; sent = stored.sent })

pub work_is_read : (work : Work) (asked : Asked) → work ≡ ToRead → IsWork work asked → asked ≡ w.Read
work_is_read work asked e h = subst (λ (x : Work). IsWork x asked) e h

-- what a read that answers gives is known, and isn't below what its begin found
pub record GivesWell (key : KeyId) (s : Store) (b : Begun) (stamp : Stamp) (value : List ℕ) : Type 0 where
  pub read : b.work ≡ w.Read
  pub above : IsAtMost b.floor stamp
  pub known : IsReadOf key s stamp value

same_value : (a b : Stamp) (v u : List ℕ) → r.Value a v ≡ r.Value b u → (a ≡ b) × (v ≡ u)
same_value a b v u e = (cc, cc)

pub gives_well : (key : KeyId) (s : Store) (g : Ghost) (h : Happening) (call : Call) (b : Begun) (stamp : Stamp) (value : List ℕ) → Happened s h → Inv key s g → ReadFloor key s g → AnsweredNow key s g h call (r.Value stamp value) → g.begun call ≡ Some b → GivesWell key s b stamp value
gives_well key s g h call b stamp value is inv floor a begun = by (answer_is (next_by s a.p a.message a.was) (counted a.was a.message) (r.Value stamp value) stamp refl a.ends)
  where
    t : TookCounted key s g h a.p a.message a.was
    t = now_counted key s g h call (r.Value stamp value) is inv a

    now : CallState
    now = counted a.was a.message

    of_now : g.begun (counted a.was a.message).progress.phase.tag.call ≡ Some b
    of_now = ap g.begun a.of ∙ begun

    found_well : (found : Found) → (counted a.was a.message).best ≡ Some found → AnswersWhen (counted a.was a.message).progress.stage (counted a.was a.message).work (best_stamp (counted a.was a.message).best) (counted a.was a.message).progress → GivesWell key s b found.stamp found.value
    found_well found best (at_mark version stage_is work_is quorum _ _) = record {
      read = work_is_read (counted a.was a.message).work b.work work_is (t.event.backed.begun b of_now);
      above = floor (counted a.was a.message) found b t.event.backed t.event.at_key work_is stage_is quorum best of_now;
      known = known_is_read key s found.stamp found.value (found_known key s g (counted a.was a.message) found inv.messages t.event.backed t.asked t.event.at_key work_is stage_is best);
    }
    found_well found best (repaired stage_is work_is quorum) =
        let told = subst (λ (o : Option Found). MayRepair key s ToRead Second o b.floor) best (subst₂ (λ (w : Work) (x : Stage). MayRepair key s w x (counted a.was a.message).best b.floor) work_is stage_is (t.event.backed.repair b of_now)) in
        record {
          read = work_is_read (counted a.was a.message).work b.work work_is (t.event.backed.begun b of_now);
          above = told.1;
          known = known_is_read key s found.stamp found.value told.0;
        }

    by : AnswerIs (counted a.was a.message) (next_by s a.p a.message a.was) (r.Value stamp value) → GivesWell key s b stamp value
    by (gives found next best e) =
        let both = same_value stamp found.stamp value found.value e in
        subst (λ (x : Stamp). GivesWell key s b x value) (sym both.0) (subst (λ (x : List ℕ). GivesWell key s b found.stamp x) (sym both.1) (found_well found best (rests_by s a.p a.message a.was n.Value next)))
    by (confirms next e) = absurd (cc)

-- each read that was answered gave what it may
pub ok_reads_after : (key : KeyId) (s : Store) (g : Ghost) (h : Happening) → Happened s h → Inv key s g → ReadFloor key s g → (call : Call) (b : Begun) (stamp : Stamp) (value : List ℕ) → (noted_of key s h g).begun call ≡ Some b → Contains (g.marks ++ h.marks) (k.End call (r.Value stamp value))
    → (b.work ≡ w.Read) × IsAtMost b.floor stamp × IsReadOf key h.store stamp value
ok_reads_after key s g h is inv floor call b stamp value e c =
    elim (Contains-append_cases g.marks h.marks (k.End call (r.Value stamp value)) c) as (λ _. (b.work ≡ w.Read) × IsAtMost b.floor stamp × IsReadOf key h.store stamp value) [
      | inl old ↦ was (before old)
      | inr new ↦ now (answered_now key s g h is inv call (r.Value stamp value) stamp (is_some_of ((noted_of key s h g).begun call) b e) new refl)
    ]
  where
    before : Contains g.marks (k.End call (r.Value stamp value)) → Contains g.marks (k.End call (r.Value stamp value)) × (g.begun call ≡ Some b)
    before old = (old, by (begun_with key s g h call b e))
      where
        by : (g.begun call ≡ Some b) ⊎ BeginsWith key s g h call b → g.begun call ≡ Some b
        by (inl same) = same
        by (inr new) = absurd (marked_begins_not key s g h is inv call (k.End call (r.Value stamp value)) old refl key b.work new.rest new.marks)

    was : Contains g.marks (k.End call (r.Value stamp value)) × (g.begun call ≡ Some b) → (b.work ≡ w.Read) × IsAtMost b.floor stamp × IsReadOf key h.store stamp value
    was old =
        let known = inv.ends.ok_reads call b stamp value old.1 old.0 in
        (known.0, known.1, read_of_stays key s g h is inv stamp value known.2)

    now : AnsweredNow key s g h call (r.Value stamp value) → (b.work ≡ w.Read) × IsAtMost b.floor stamp × IsReadOf key h.store stamp value
    now a =
        let well = gives_well key s g h call b stamp value is inv floor a (begun_before (g.begun call) ((noted_of key s h g).begun call) b a.begun ((grows_by key s g h is inv).begun call) e) in
        (well.read, well.above, read_of_stays key s g h is inv stamp value well.known)

-- ---- what a Confirm tells is kept

-- what a Confirm tells is kept
pub confirms_kept : (key : KeyId) (s : Store) (g : Ghost) (h : Happening) → Happened s h → Inv key s g → (tag : Tag) (stamp : Stamp) → WasSent h.store (m.Confirm tag key stamp) → IsKept key h.store (noted_of key s h g) stamp
confirms_kept key s g h is inv tag stamp sent =
    kept_stays key s g h.store (noted_of key s h g) stamp (grows_by key s g h is inv) inv.openings.published
    (elim (sent_or_posted s h is (record { to = sent.0; message = m.Confirm tag key stamp }) sent.1) as (λ _. IsKept key s g stamp) [
      | inl old ↦ inv.messages.confirm_kept tag stamp (sent.0, old)
      | inr new ↦ from new (demanded s h is (record { to = sent.0; message = m.Confirm tag key stamp }) new)
    ])
  where
    from : Contains h.posts (record { to = sent.0; message = m.Confirm tag key stamp }) → Demanded s h (m.Confirm tag key stamp) → IsKept key s g stamp
    from new (plain it) = absurd it
    from new (at_start p at asked st e) = absurd (cc)
    from new (by_call p message was took counts posts) =
        let c = sends_confirm (counted was message) (next_by s p message was) tag key stamp
        (call_sends h (next_by s p message was) (counted was message) (m.Confirm tag key stamp) posts (sent.0, new)) in
        let t = took_counted key s g h p message was is inv took (sym (progress_after-key was.progress message) ∙ c.key_is) counts in
        let x = rests_by s p message was n.Stored c.next_is in
        subst (IsKept key s g) c.stamp_is (stored_is_kept key s g (counted was message) x.value inv t.event.backed t.asked t.event.at_key x.work_is x.stage_is x.quorum)
