-- Every event keeps it that the ticket of each put that was answered is held in its epoch.
use Rattle.std.proofs.Common.{◌≡◌, ◌⊎◌, inl, inr, ℕ, ◌≤◌, true, List, ◌++◌, refl, sym, ap, ◌∙◌, subst, arith}
use Rattle.std.specs.Prelude.{Some, Contains}
use Rattle.std.proofs.lemmas.List.Elements.{Contains-append_left, Contains-append_right, Contains-append_cases}
use Rattle.span_base.specs.DcSet.{has}
use Rattle.span_base.specs.declared.ids.Call.{Call}
use Rattle.span_base.specs.declared.ids.KeyId.{KeyId}
use Rattle.span_base.specs.declared.dc_set.DcSet.{DcSet}
use Rattle.ticket_rules.specs.declared.stamp.Stamp.{Stamp}
use Rattle.ticket_rules.specs.Stamp.{IsAtMost}
use Rattle.wire_msg.specs.declared.tag.Tag.{Tag}
use Rattle.wire_msg.specs.declared.message.Message.{Message}
use Rattle.wire_msg.specs.declared.outputs.Reply.{Reply}
use Rattle.wire_msg.specs.Posts.{tag_of}
use Rattle.wire_msg.specs.Outputs.{Step}
use Rattle.wire_msg.specs.declared.actor.Actor.TheVariants as to
use Rattle.wire_msg.specs.declared.outputs.Reply.TheVariants as r
use Rattle.migration.specs.Eventual.{eventual as eventual_rule}
use Rattle.migration.specs.Move.{Moving}
use Rattle.migration.specs.Move as move
use Rattle.run_marks.specs.declared.mark.Work.{Work}
use Rattle.run_marks.specs.declared.mark.Work.TheVariants as w
use Rattle.run_marks.specs.declared.mark.Mark.{Mark}
use Rattle.run_marks.specs.declared.mark.Mark.TheVariants as k
use Rattle.world_core.specs.declared.live.LiveCall.{LiveCall}
use Rattle.world_core.specs.declared.live.LiveCall.TheVariants.{Strong, Eventual, StrongMove, EventualMove}
use Rattle.world_core.specs.State.{Store, proxy_at, view_at}
use Rattle.world_core.specs.Knowing.{learned}
use Rattle.world_core.specs.Calls.{tag_of_call, key_of_call}
use Rattle.world_core.specs.Step.{Happening, handle_in}
use Rattle.call_phase.specs.Counting.{with_good}
use Rattle.register_law.specs.Ghost.{Ghost, noted_of}
use Rattle.register_law.specs.Seen.{Grows, version_before}
use Rattle.register_law.specs.Tags.{TagsTellApart}
use Rattle.register_law.specs.Cases.{Happened, CallTook, next_call}
use Rattle.register_law.proofs.CallsOthers.{take_end}
use Rattle.register_law.proofs.Growth.{calls_grow}
use Rattle.register_law.proofs.MarksAre.{MarkOf, begins_now, takes_now, gives_up, marks_are, mark_of, EndIs, by_message, by_hand, end_is, at_once}
use Rattle.register_law.proofs.MovesTook.{within_good}
use Rattle.register_law.proofs.MovesStep.{MoveTook, move_took, unheard}
use Rattle.register_law.proofs.TagsCalls.{taken_of, next_is_none}
use Rattle.eventual_law.specs.Kinds.{IsOfEventual}
use Rattle.eventual_law.specs.Known.{IsOn, by_life, by_begin}
use Rattle.eventual_law.specs.Held.{IsHeld, MarksAreHeld, InvOfEventual}
use Rattle.eventual_law.proofs.CallKeys.{BeginsOn, was_on, begun_now as begins_at}
use Rattle.eventual_law.proofs.Counted.{held_by, one_more}
use Rattle.eventual_law.proofs.HeldStays.{held_stays}
use Rattle.eventual_law.proofs.PutsHeld.{yes_has}
use Rattle.eventual_law.proofs.PutTurns.{stores}
use Rattle.register_law.proofs.BegunCalls.{BegunIs, begun_is, begins_next, begun_before, begun_now}

-- the call of a mark of an event is counted after it
numbered_now : (s : Store) (h : Happening) → Happened s h → TagsTellApart s → (call : Call) → MarkOf s h call → call.seq ≤ (proxy_at h.store call.proxy).begun
numbered_now s h is tags call (begins_now at work rest marks) = (begins_next s h is call at work rest marks).counted
numbered_now s h is tags call (takes_now p message live took same) =
    let n = tags.sent_numbered message (to.Proxy p, took.sent) in
    let le = n.begun in
    let more = calls_grow s h is (tag_of message).call.proxy in
    let all : (tag_of message).call.seq ≤ (proxy_at h.store (tag_of message).call.proxy).begun = omega arith in
    subst (λ (c : Call). c.seq ≤ (proxy_at h.store c.proxy).begun) same all
numbered_now s h is tags call (gives_up p live given same) =
    let n = (tags.live_numbered p given.handle live given.live).0 in
    let le = n.begun in
    let more = calls_grow s h is (tag_of_call live).call.proxy in
    let all : (tag_of_call live).call.seq ≤ (proxy_at h.store (tag_of_call live).call.proxy).begun = omega arith in
    subst (λ (c : Call). c.seq ≤ (proxy_at h.store c.proxy).begun) same all

pub marks_kept : (key : KeyId) (s : Store) (g : Ghost) (h : Happening) → Happened s h → InvOfEventual key s g → MarksAreHeld key h.store (noted_of key s h g)
marks_kept key s g h is inv = record {
  noted = λ call some. noted call (begun_is key s g h call some);
  ended = λ call reply c. elim (Contains-append_cases g.marks h.marks (k.End call reply) c) as (λ _. call.seq ≤ (proxy_at h.store call.proxy).begun) [
    | inl old ↦ (let le = inv.marks.ended call reply old in let more = calls_grow s h is call.proxy in omega arith)
    | inr new ↦ numbered_now s h is inv.known.kinds.tags call (mark_of s h (marks_are s h is) (k.End call reply) call refl new)
  ];
}
  where
    noted : (call : Call) → BegunIs key g h.marks call → (work : Work) × Contains (g.marks ++ h.marks) (k.Begin call key work)
    noted call (begun_before some) = let b = inv.marks.noted call some in (b.0, Contains-append_left g.marks h.marks (k.Begin call key b.0) b.1)
    noted call (begun_now work rest marks) = (work, Contains-append_right g.marks h.marks (k.Begin call key work) (subst (λ (x : List Mark). Contains x (k.Begin call key work)) (sym marks) (0, omega arith, refl)))

-- no move answers a put
took_stores : (X : Type 0) (call : Moving) (taken : Message) (stamp : Stamp) (new : Step Moving) → MoveTook eventual_rule call taken new → new.out.end ≡ Some (r.Stored stamp) → X
took_stores X call taken stamp new unheard e = absurd (cc)
took_stores X call taken stamp new _ e = absurd (cc)

-- the ticket is held in its epoch, which has been current
abbrev HeldIn : KeyId → Store → Ghost → Stamp → Type 0
HeldIn key s g stamp = Contains g.opened stamp.epoch × IsHeld key s g stamp.epoch stamp

-- a put that is answered at a message
stored_now : (key : KeyId) (s : Store) (g : Ghost) (h : Happening) → InvOfEventual key s g → (p : ℕ) (taken : Message) (live : LiveCall) (stamp : Stamp) → CallTook s p taken live h → IsOfEventual live → key_of_call live ≡ key → (taken_of s p taken live).out.end ≡ Some (r.Stored stamp) → HeldIn key s g stamp
stored_now key s g h inv p taken (Strong call) stamp took kind at ends = absurd kind
stored_now key s g h inv p taken (StrongMove call) stamp took kind at ends = absurd kind
stored_now key s g h inv p taken (EventualMove call) stamp took kind at ends = took_stores (HeldIn key s g stamp) call taken stamp (move.step eventual_rule call taken) (move_took eventual_rule call taken) ends
stored_now key s g h inv p taken (Eventual call) stamp took kind at ends =
    let by = stores call taken stamp ends in
    let held = inv.puts.live p (handle_in taken) call stamp took.live at by.last.stage_is in (
      held.opened,
      held_by key s g stamp.epoch call.f stamp (with_good call.phase by.replica).good held.faults by.enough
          (λ d there. subst (λ (x : DcSet). has x d ≡ true) held.asked (within_good call.phase by.last.tag by.replica by.last.counted held.within d there))
          (one_more (λ d. IsAtMost stamp (version_before key s g d stamp.epoch)) call.phase by.replica (yes_has key s g inv p (handle_in taken) call stamp taken by.replica took.live at held (to.Proxy p, took.sent) by.last) held.counted),
    )

-- a put that was begun, and is answered in an event
ending : (key : KeyId) (s : Store) (g : Ghost) (h : Happening) → Happened s h → InvOfEventual key s g → (call : Call) (stamp : Stamp) (work : Work) → Contains (g.marks ++ h.marks) (k.Begin call key work) → EndIs s h call (r.Stored stamp) → HeldIn key s g stamp
ending key s g h is inv call stamp work begun (at_once p at on lt next dead no_posts all_marks) = absurd (cc)
ending key s g h is inv call stamp work begun (by_hand p live given of none) = absurd (cc)
ending key s g h is inv call stamp work begun (by_message p taken live took of ends) = on (was_on s h g.marks call key is inv.known.kinds.tags (by_begin work begun))
  where
    own : tag_of_call live ≡ tag_of taken
    own = take_end live taken (view_at (learned (proxy_at s p) taken).views (key_of_call live)) (learned (proxy_at s p) taken).seen (r.Stored stamp) ends

    same : (tag_of_call live).call ≡ call
    same = ap (λ (t : Tag). t.call) own ∙ of

    on : IsOn s g.marks call key ⊎ BeginsOn s h call key → HeldIn key s g stamp
    on (inr b) = absurd (next_is_none s b.p (tag_of_call live) call (inv.known.kinds.tags.live_numbered p (handle_in taken) live took.live).0 same b.next)
    on (inl o) =
        let at : key_of_call live ≡ key = inv.known.calls.one_key call (key_of_call live) key (by_life p (handle_in taken) live took.live refl same) o in
        stored_now key s g h inv p taken live stamp took (inv.known.kinds.live_kinds p (handle_in taken) live took.live at) at ends

-- a put that was answered before was begun before
begun_before_end : (key : KeyId) (s : Store) (g : Ghost) (h : Happening) → Happened s h → InvOfEventual key s g → (call : Call) (reply : Reply) (work : Work) → Contains g.marks (k.End call reply) → Contains (g.marks ++ h.marks) (k.Begin call key work) → Contains g.marks (k.Begin call key work)
begun_before_end key s g h is inv call reply work ended begun =
    elim (Contains-append_cases g.marks h.marks (k.Begin call key work) begun) as (λ _. Contains g.marks (k.Begin call key work)) [
      | inl old ↦ old
      | inr new ↦ (let b = (begins_at s h (marks_are s h is) call key work new).0 in
          let le : (next_call s b.p).seq ≤ (proxy_at s (next_call s b.p).proxy).begun = subst (λ (x : Call). x.seq ≤ (proxy_at s x.proxy).begun) b.next (inv.marks.ended call reply ended) in
          absurd (omega arith))
    ]

pub stored_kept : (key : KeyId) (s : Store) (g : Ghost) (h : Happening) → Happened s h → InvOfEventual key s g → Grows key s g h.store (noted_of key s h g) → (call : Call) (stamp : Stamp) (value : List ℕ)
    → Contains (g.marks ++ h.marks) (k.Begin call key (w.Put value)) → Contains (g.marks ++ h.marks) (k.End call (r.Stored stamp)) → HeldIn key h.store (noted_of key s h g) stamp
stored_kept key s g h is inv grows call stamp value begun ended =
    let was : HeldIn key s g stamp = elim (Contains-append_cases g.marks h.marks (k.End call (r.Stored stamp)) ended) as (λ _. HeldIn key s g stamp) [
      | inl old ↦ inv.puts.stored call stamp value (begun_before_end key s g h is inv call (r.Stored stamp) (w.Put value) old begun) old
      | inr new ↦ ending key s g h is inv call stamp (w.Put value) begun (end_is s h (marks_are s h is) call (r.Stored stamp) new)
    ] in
    (grows.opened stamp.epoch was.0, held_stays key s g h.store (noted_of key s h g) stamp.epoch stamp grows (inv.epochs.published stamp.epoch was.0) was.1)
