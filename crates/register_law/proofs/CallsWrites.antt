-- How a call's step ends it, as stored or never to be stored; and what the ends of writes tell stays so.
use Rattle.std.proofs.Common.{◌≡◌, ℕ, Bool, true, refl, sym, ap, ◌∙◌, if◌then◌else◌, option_map, Option, Some, None, ◌⊎◌, inl, inr, ◌≤◌, List, subst, IsSome, Contains}
use Rattle.register_law.proofs.Words.{Stamp, Step, tag_of, Message, Reply, View, Found, counted, is_counted, done, next_of, nothing_done, value_reply, Next, Fenced, Moved, NumbersOut, Outside, Stored, Value, Progress, Stage, CallState, is_dead, Strong, StoresOnly, StrongWork as Work, Store as World, Call, KeyId, Post, Tag, best_stamp, eventual_rule, strong_rule, EndsWith, key_of_call, tag_of_call, proxy_at, Happening, handle_in, LiveCall, Eventual, EventualMove, StrongMove, CallTook, Happened, StoredBy, Begun, Ghost, noted_of, Inv, WasSent, Handle, IsLiveAt, Contains-append_cases, StoreNext as Store, none_among}
use Rattle.wire_msg.specs.declared.outputs.Reply.TheVariants as r
use Rattle.strong_proxy.specs.Rule.{step}
use Rattle.wire_msg.specs.declared.message.Message.TheVariants as m
use Rattle.run_marks.specs.declared.mark.Work.TheVariants as w
use Rattle.run_marks.specs.declared.mark.Mark.TheVariants as k
use Rattle.relay_proxy.specs.State as relay
use Rattle.register_law.proofs.Next.{RestsOn}
use Rattle.register_law.proofs.MovesStep.{move_never, IsMoveEnd, counted_tag, made_by}
use Rattle.register_law.proofs.CallsOthers.{StrongStep, counts_it, ignores_it, strong_step, eventual_out}
use Rattle.register_law.proofs.CallsLive.{view_by, seen_by, not_next}
use Rattle.register_law.proofs.TagsCalls.{taken_of}
use Rattle.register_law.proofs.CallsGoes.{first_stores, looking_stores, over_stores}
use Rattle.register_law.proofs.CallsSent.{next_by, Demanded, plain, at_start, by_call, demanded, call_sends, sends_store}
use Rattle.register_law.proofs.CallsStrong.{store_request, took_counted, posts_of}
use Rattle.register_law.proofs.MovesStable.{sent_stays}
use Rattle.register_law.proofs.Basics.{WasPosted, sent_cases, is_some_of}
use Rattle.register_law.proofs.Growth.{grows_by, begun_old}
use Rattle.register_law.proofs.CallsMessages.{rests_by, write_work}
use Rattle.register_law.proofs.MarksAre.{marks_are, EndIs, at_once, by_message, by_hand, end_is}
use Rattle.std.proofs.lemmas.Option.{none-some}

pub ends_stored : (now : CallState) (next : Next) (stamp : Stamp) → (done next now).out.end ≡ Some (r.Stored stamp) → (next ≡ Stored) × (now.progress.leg.ticket ≡ stamp)
ends_stored now Stored stamp h = (refl, cc)
ends_stored now Value stamp h = absurd (by now.best h)
  where
    by : (best : Option Found) → option_map value_reply best ≡ Some (r.Stored stamp) → ⊥
    by None h = cc
    by (Some found) h = cc
ends_stored now next stamp h = absurd (cc)

-- what ends a write that was never stored
abbrev pub IsDeadNext : Next → Type 0
IsDeadNext Fenced = Unit {0}
IsDeadNext Moved = Unit {0}
IsDeadNext Outside = Unit {0}
IsDeadNext NumbersOut = Unit {0}
IsDeadNext _ = ⊥

pub ends_dead : (now : CallState) (next : Next) (reply : Reply) → (done next now).out.end ≡ Some reply → is_dead reply ≡ true → IsDeadNext next
ends_dead now Fenced reply h d = tt
ends_dead now Moved reply h d = tt
ends_dead now Outside reply h d = tt
ends_dead now NumbersOut reply h d = tt
ends_dead now Value reply h d = by now.best h
  where
    by : (best : Option Found) → option_map value_reply best ≡ Some reply → ⊥
    by None h = cc
    by (Some found) h = cc
ends_dead now next reply h d = absurd (cc)

-- a call that ends so has sent no Store
pub dead_stores : (stage : Stage) (work : Work) (best : Option Stamp) (p : Progress) (view : View) (seen : ℕ) (next : Next) (ticket stamp : Stamp) → IsDeadNext next → RestsOn stage work best p view seen next → StoresOnly work stage ticket stamp → ⊥
dead_stores stage work best p view seen Fenced ticket stamp d rests h = first_stores work stage ticket stamp rests.stage_is h
dead_stores stage work best p view seen Moved ticket stamp d rests h = over_stores stage work p view ticket stamp rests.over h
dead_stores stage work best p view seen Outside ticket stamp d rests h = looking_stores work stage ticket stamp rests.stage_is h
dead_stores stage work best p view seen NumbersOut ticket stamp d rests h = looking_stores work stage ticket stamp rests.stage_is h
dead_stores stage work best p view seen next ticket stamp d rests h = d

pub move_not_stored : (o : Option Reply) (stamp : Stamp) → IsMoveEnd o → o ≡ Some (r.Stored stamp) → ⊥
move_not_stored o stamp m e = move_never o (r.Stored stamp) ⊥ m e (λ n k. cc) (λ n k. cc) (λ n k. cc)

pub move_not_dead : (o : Option Reply) (reply : Reply) → IsMoveEnd o → o ≡ Some reply → is_dead reply ≡ true → ⊥
move_not_dead o reply m e d =
    move_never o reply ⊥ m e (λ n z. cc) (λ n z. cc) (λ n z. cc)

-- a strong call that ends at a message counts it
pub record EndsCounted (was : CallState) (message : Message) (next : Next) (reply : Reply) : Type 0 where
  pub counts : is_counted was message ≡ true
  pub own : was.progress.phase.tag ≡ tag_of message
  pub end : (done next (counted was message)).out.end ≡ Some reply

pub strong_ends : (s : World) (p : ℕ) (message : Message) (was : CallState) (reply : Reply) → (taken_of s p message (Strong was)).out.end ≡ Some reply → EndsCounted was message (next_by s p message was) reply
strong_ends s p message was reply h =
    by (step was message (view_by s p message was) (seen_by s p message)) (strong_step was message (view_by s p message was) (seen_by s p message)) h
  where
    by : (made : (Step CallState)) → StrongStep was message (view_by s p message was) (seen_by s p message) made → made.out.end ≡ Some reply → EndsCounted was message (next_by s p message was) reply
    by made (counts_it counts own is) e = record { counts = counts; own = own; end = sym (ap (λ (x : (Step CallState)). x.out.end) is) ∙ e }
    by made (ignores_it is) e = absurd (none-some reply (sym (ap (λ (x : (Step CallState)). x.out.end) is) ∙ e))

-- the step of a message that counts
pub counted_step_is : (call : CallState) (message : Message) (view : View) (seen : ℕ) → is_counted call message ≡ true → step call message view seen ≡ done (next_of (counted call message) view seen) (counted call message)
unfolding step
counted_step_is call message view seen counts = ap (λ (b : Bool). if b then done (next_of (counted call message) view seen) (counted call message) else nothing_done call) counts

-- ---- every event keeps what is told of writes of the key that ended: they are stored, or never will be

-- no get and no put of the key lives: its key is strong
abbrev pub NoEventual : KeyId → World → Type 0
NoEventual key s = (p : ℕ) (handle : Handle) (call : relay.State) → IsLiveAt s p handle (Eventual call) → call.key ≡ key → ⊥

-- what is told of a write that ended as stored
abbrev pub IsStoredWrite : KeyId → World → Call → Begun → Stamp → Type 0
IsStoredWrite key s call b stamp = (value : List ℕ) × (b.work ≡ w.Write value) × StoredBy key s call stamp value

pub ok_writes_kept : (key : KeyId) (s : World) (g : Ghost) (h : Happening) → Happened s h → Inv key s g → NoEventual key s → (call : Call) (b : Begun) (stamp : Stamp) → (noted_of key s h g).begun call ≡ Some b → EndsWith (noted_of key s h g).marks call (r.Stored stamp) → IsStoredWrite key h.store call b stamp
ok_writes_kept key s g h is inv none call b stamp begun_is ended = by (Contains-append_cases g.marks h.marks (k.End call (r.Stored stamp)) ended)
  where
    stays : (c : Call) → IsStoredWrite key s c b stamp → IsStoredWrite key h.store c b stamp
    stays c x = (x.0, x.1, record { tag = x.2.tag; of = x.2.of; sent = sent_stays key s g h.store (noted_of key s h g) (m.Store x.2.tag key stamp x.0) (grows_by key s g h is inv) x.2.sent })

    before : call.seq ≤ (proxy_at s call.proxy).begun → g.begun call ≡ Some b
    before le = sym (begun_old key s g h is call le) ∙ begun_is

    of_live : (p : ℕ) (message : Message) (was : LiveCall) → CallTook s p message was h → (tag_of_call was).call ≡ call → (g.begun call ≡ Some b) × (key_of_call was ≡ key)
    of_live p message was took own =
        let n = (inv.tags.live_numbered p (handle_in message) was took.live).0 in
        let e : g.begun call ≡ Some b = before (subst (λ (c : Call). c.seq ≤ (proxy_at s c.proxy).begun) own n.begun) in
        (e, inv.requests.begun_live p (handle_in message) was took.live (subst (λ (c : Call). IsSome (g.begun c)) (sym own) (is_some_of (g.begun call) b e)))

    stored : (p : ℕ) (message : Message) (was : LiveCall) → CallTook s p message was h → (taken_of s p message was).out.end ≡ Some (r.Stored stamp) → (tag_of message).call ≡ call → IsStoredWrite key s call b stamp
    stored p message (StrongMove was) took e own = absurd (move_not_stored (taken_of s p message (StrongMove was)).out.end stamp (made_by strong_rule was message).end e)
    stored p message (EventualMove was) took e own = absurd (move_not_stored (taken_of s p message (EventualMove was)).out.end stamp (made_by eventual_rule was message).end e)
    stored p message (Eventual was) took e own =
        absurd (none p (handle_in message) was took.live (of_live p message (Eventual was) took (ap (λ (t : Tag). t.call) ((eventual_out was message).end (r.Stored stamp) e) ∙ own)).1)
    stored p message (Strong was) took e own =
        let z = strong_ends s p message was (r.Stored stamp) e in
        let live = of_live p message (Strong was) took (ap (λ (t : Tag). t.call) z.own ∙ own) in
        let f = ends_stored (counted was message) (next_by s p message was) stamp z.end in
        let rests = rests_by s p message was Stored f.0 in
        let t = took_counted key s g h p message was is inv took live.1 z.counts in
        let now_call : (counted was message).progress.phase.tag.call ≡ call = ap (λ (t : Tag). t.call) (counted_tag was.progress message ∙ z.own) ∙ own in
        let request = store_request (counted was message).work (counted was message).progress.stage (counted was message) t.asked.request rests.value rests.work_is rests.stage_is t.asked.is in
        let sent : WasSent s (m.Store (counted was message).progress.phase.tag key stamp rests.value) =
        subst (λ (x : KeyId). WasSent s (m.Store (counted was message).progress.phase.tag x stamp rests.value)) t.event.at_key
        (subst (λ (x : Stamp). WasSent s (m.Store (counted was message).progress.phase.tag (counted was message).progress.key x rests.value)) f.1 (subst (WasSent s) request t.asked.sent)) in (
          rests.value,
          write_work (counted was message).work b rests.value rests.work_is (t.event.backed.begun b (subst (λ (c : Call). g.begun c ≡ Some b) (sym now_call) live.0)),
          record { tag = (counted was message).progress.phase.tag; of = now_call; sent = sent },
        )

    new : EndIs s h call (r.Stored stamp) → IsStoredWrite key s call b stamp
    new (at_once p at work lt next dead posts marks) = absurd (cc)
    new (by_hand p was given of e) = absurd (cc)
    new (by_message p message was took own e) = stored p message was took e own

    by : Contains g.marks (k.End call (r.Stored stamp)) ⊎ Contains h.marks (k.End call (r.Stored stamp)) → IsStoredWrite key h.store call b stamp
    by (inl old) = stays call (inv.ends.ok_writes call b stamp (before (inv.ends.marks_numbered call (k.End call (r.Stored stamp)) old refl).1) old)
    by (inr c) = stays call (new (end_is s h (marks_are s h is) call (r.Stored stamp) c))

pub dead_writes_kept : (key : KeyId) (s : World) (g : Ghost) (h : Happening) → Happened s h → Inv key s g → NoEventual key s → (call : Call) (reply : Reply) (stamp : Stamp) (value : List ℕ) → IsSome ((noted_of key s h g).begun call) → EndsWith (noted_of key s h g).marks call reply → is_dead reply ≡ true
    → StoredBy key h.store call stamp value → ⊥
dead_writes_kept key s g h is inv none call reply stamp value some ended dead stored =
    by (Contains-append_cases g.marks h.marks (k.End call reply) ended) (sent_cases s h (m.Store stored.tag key stamp value) is stored.sent)
  where
    before : call.seq ≤ (proxy_at s call.proxy).begun → IsSome (g.begun call)
    before le = subst (λ (o : Option Begun). IsSome o) (begun_old key s g h is call le) some

    -- a Store that the event sends is one of a call that lives
    posted : WasPosted h (m.Store stored.tag key stamp value) → Demanded s h (m.Store stored.tag key stamp value)
        → (p : ℕ) × (message : Message) × (was : CallState) × CallTook s p message (Strong was) h × (was.progress.phase.tag.call ≡ call)
    posted c (plain x) = absurd x
    posted c (at_start p at asked st e) = absurd (cc)
    posted c (by_call p message was took counts posts) =
        let sends = sends_store (counted was message) (next_by s p message was) stored.tag key stamp value
        (call_sends h (next_by s p message was) (counted was message) (m.Store stored.tag key stamp value) posts c) in
        (p, message, was, took, sym (ap (λ (t : Tag). t.call) (counted_tag was.progress message)) ∙ ap (λ (t : Tag). t.call) sends.tag_is ∙ stored.of)

    ended_before : Contains g.marks (k.End call reply) → WasPosted h (m.Store stored.tag key stamp value) → ⊥
    ended_before old c =
        let z = posted c (demanded s h is (record { to = c.0; message = m.Store stored.tag key stamp value }) c.1) in
        inv.ends.ended call reply z.0 (handle_in z.1) (Strong z.2) old z.3.live z.4

    numbered_live : (p : ℕ) (message : Message) (was : LiveCall) → CallTook s p message was h → (tag_of_call was).call ≡ call → key_of_call was ≡ key
    numbered_live p message was took own =
        let n = (inv.tags.live_numbered p (handle_in message) was took.live).0 in
        inv.requests.begun_live p (handle_in message) was took.live (subst (λ (c : Call). IsSome (g.begun c)) (sym own) (before (subst (λ (c : Call). c.seq ≤ (proxy_at s c.proxy).begun) own n.begun)))

    next_dead : (x y : Next) → x ≡ y → IsDeadNext x → IsDeadNext y
    next_dead x y e d = subst IsDeadNext e d

    took_dead : (p : ℕ) (message : Message) (was : LiveCall) → CallTook s p message was h → (taken_of s p message was).out.end ≡ Some reply → (tag_of message).call ≡ call
        → WasSent s (m.Store stored.tag key stamp value) ⊎ WasPosted h (m.Store stored.tag key stamp value) → ⊥
    took_dead p message (StrongMove was) took e own at = move_not_dead (taken_of s p message (StrongMove was)).out.end reply (made_by strong_rule was message).end e dead
    took_dead p message (EventualMove was) took e own at = move_not_dead (taken_of s p message (EventualMove was)).out.end reply (made_by eventual_rule was message).end e dead
    took_dead p message (Eventual was) took e own at =
        none p (handle_in message) was took.live (numbered_live p message (Eventual was) took (ap (λ (t : Tag). t.call) ((eventual_out was message).end reply e) ∙ own))
    took_dead p message (Strong was) took e own at =
        let z = strong_ends s p message was reply e in
        let d = ends_dead (counted was message) (next_by s p message was) reply z.end dead in
        let t = took_counted key s g h p message was is inv took (numbered_live p message (Strong was) took (ap (λ (t : Tag). t.call) z.own ∙ own)) z.counts in
        let now_call : (counted was message).progress.phase.tag.call ≡ call = ap (λ (t : Tag). t.call) (counted_tag was.progress message ∙ z.own) ∙ own in
        elim at as (λ _. ⊥) [
          | inl old ↦ dead_stores (counted was message).progress.stage (counted was message).work (best_stamp (counted was message).best) (counted was message).progress (view_by s p message was) (seen_by s p message) (next_by s p message was)
              (counted was message).progress.leg.ticket stamp d (rests_by s p message was (next_by s p message was) refl) (t.event.backed.store stored.tag stamp value old (stored.of ∙ sym now_call))
          | inr c ↦ next_dead (next_by s p message was) Store
              (sends_store (counted was message) (next_by s p message was) stored.tag key stamp value
              (call_sends h (next_by s p message was) (counted was message) (m.Store stored.tag key stamp value) (posts_of s h p message (Strong was) took ∙ ap (λ (x : (Step CallState)). x.out.posts) (counted_step_is was message (view_by s p message was) (seen_by s p message) z.counts)) c)).next_is d
        ]

    now_dead : EndIs s h call reply → WasSent s (m.Store stored.tag key stamp value) ⊎ WasPosted h (m.Store stored.tag key stamp value) → ⊥
    now_dead (at_once p at work lt next d posts marks) (inl old) =
        not_next s p stored.tag.call (inv.tags.sent_numbered (m.Store stored.tag key stamp value) old).begun (sym (stored.of ∙ next))
    now_dead (at_once p at work lt next d posts marks) (inr c) = none_among (record { to = c.0; message = m.Store stored.tag key stamp value }) (subst (λ (x : List Post). Contains x (record { to = c.0; message = m.Store stored.tag key stamp value })) posts c.1)
    now_dead (by_hand p was given of e) at = (let x = sym (ap is_dead e) ∙ dead in cc)
    now_dead (by_message p message was took own e) at = took_dead p message was took e own at

    by : Contains g.marks (k.End call reply) ⊎ Contains h.marks (k.End call reply) → WasSent s (m.Store stored.tag key stamp value) ⊎ WasPosted h (m.Store stored.tag key stamp value) → ⊥
    by (inl old) (inl was) =
        inv.ends.dead_writes call reply stamp value (before (inv.ends.marks_numbered call (k.End call reply) old refl).1) old dead (record { tag = stored.tag; of = stored.of; sent = was })
    by (inl old) (inr c) = ended_before old c
    by (inr e) at = now_dead (end_is s h (marks_are s h is) call reply e) at
