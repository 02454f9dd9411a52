-- What an event's calls, posts and marks are made of is within the ranges of a log.
use Rattle.std.proofs.Common.{◌≡◌, ℕ, ◌+◌, ◌<◌, ◌≤◌, Bool, true, false, [], ◌∷◌, refl, sym, ap, subst, arith}
use Rattle.std.specs.Prelude.{if◌then◌else◌, length, Option, Some, None, Contains}
use Rattle.span_base.specs.declared.ids.KeyId.{KeyId}
use Rattle.ticket_rules.specs.declared.stamp.Stamp.{Stamp}
use Rattle.wire_msg.specs.declared.tag.Tag.{Tag}
use Rattle.wire_msg.specs.declared.message.Message.{Message}
use Rattle.wire_msg.specs.declared.actor.Actor.TheVariants as to
use Rattle.wire_msg.specs.declared.outputs.Reply.{Reply}
use Rattle.wire_msg.specs.declared.outputs.Reply.TheVariants as r
use Rattle.wire_msg.specs.Posts.{tag_of}
use Rattle.replica_core.specs.Rule.{request_key, kept_at, step_at}
use Rattle.epoch_directory.specs.State.{latest}
use Rattle.run_marks.specs.declared.mark.Work.{Work}
use Rattle.run_marks.specs.declared.mark.Mark.{Mark}
use Rattle.run_marks.specs.declared.mark.Mark.TheVariants as k
use Rattle.register_order.proofs.Members.{none_among}
use Rattle.world_core.specs.declared.live.LiveCall.{LiveCall}
use Rattle.world_core.specs.State.{Store, replica_at, proxy_at, view_at}
use Rattle.world_core.specs.Knowing.{learned}
use Rattle.world_core.specs.Calls.{tag_of_call, key_of_call}
use Rattle.world_core.specs.Starting.{draws_ticket}
use Rattle.world_core.specs.Starting as starting
use Rattle.world_core.specs.Step.{Happening, handle_in}
use Rattle.register_law.specs.Tags.{IsNumbered}
use Rattle.register_law.specs.Cases.{Happened, Started, CallTook, next_call, refused_at_once, started, replica_took, directory_took, call_took, gave_up, published, not_published}
use Rattle.register_law.proofs.Basics.{Each, each_none, is_made}
use Rattle.register_law.proofs.TagsCalls.{taken_of}
use Rattle.register_law.proofs.MarksAre.{start_ticket, in_one, in_two, in_call_marks, moved}
use Rattle.history_audit.specs.Ranges.{FitsCall, FitsStamp, FitsWork, FitsReply, FitsMark}
use Rattle.log_law.specs.Fits.{FitsMessage}
use Rattle.log_law.specs.Within.{FitsProxy, IsWithin}
use Rattle.log_law.proofs.Basics.{FitsTicket, FitsEnd}
use Rattle.log_law.proofs.Replica.{answers_fit}
use Rattle.log_law.proofs.Directory.{told_fits}
use Rattle.log_law.proofs.Proxies.{learned_fits}
use Rattle.log_law.proofs.Calls.{TakenFits, take_fits, opened_fits}
use Rattle.log_law.proofs.Heads.{FitsHead, FitsBehind}

-- a call that begins
pub record StartFits (s : Store) (p : ℕ) (key : KeyId) (work : Work) (h : Happening) (st : Started s p key work h) : Type 0 where
  pub key_fits : key.0 ≤ 999
  pub work_fits : FitsWork work
  pub ticket : draws_ticket work ≡ true → FitsStamp (start_ticket s p key)
  pub taken : TakenFits st.taken

module _ (s : Store) (events : ℕ) (w : IsWithin s events) (room : events + 2 ≤ 4294967295) where
  -- whose a tag is
  pub numbered_fits : (tag : Tag) → IsNumbered s tag → FitsCall tag.call
  numbered_fits tag n =
      let below = n.proxy in
      let few = w.proxies in
      let seq = n.begun in
      let begun = (w.proxy tag.call.proxy).begun in
      record { proxy = omega (arith, below, few); seq = omega (arith, seq, begun, room) }

  pub next_fits : (p : ℕ) → p < length s.proxies → FitsCall (next_call s p)
  next_fits p below =
      let few = w.proxies in
      let begun = (w.proxy p).begun in
      record { proxy = omega (arith, below, few); seq = omega (arith, begun, room) }

  -- a call that begins
  pub start_fits : (p : ℕ) (key : KeyId) (work : Work) (h : Happening) (st : Started s p key work h) → FitsHead h.marks → StartFits s p key work h st
  start_fits p key work h st head =
      let now : FitsHead (k.Begin (next_call s p) key work ∷ starting.ticket_marks (next_call s p) (start_ticket s p key) work) = subst (λ (x : Happening). FitsHead x.marks) st.is head in
      let drawn = drawn_fits now.2 in
      record { key_fits = now.0; work_fits = now.1; ticket = drawn; taken = opened_fits _ _ _ _ _ work st.taken now.1 drawn st.first }
    where
      number : (b : Bool) → b ≡ true → FitsBehind (if b then k.Ticket (next_call s p) (start_ticket s p key) ∷ [] else []) → (start_ticket s p key).number ≤ 18446744073709551615
      number true e behind = behind
      number false e behind = absurd (cc)

      drawn_fits : FitsBehind (starting.ticket_marks (next_call s p) (start_ticket s p key) work) → draws_ticket work ≡ true → FitsStamp (start_ticket s p key)
      drawn_fits behind draws =
          let c = next_fits p st.exists in
          record { epoch = (w.proxy p).views key; number = number (draws_ticket work) draws behind; proxy = c.proxy; seq = c.seq }

  -- a call that takes a message
  pub took_fits : (p : ℕ) (message : Message) (call : LiveCall) (h : Happening) → CallTook s p message call h → TakenFits (taken_of s p message call)
  took_fits p message call h took =
      let sent : FitsMessage message = w.sent message (to.Proxy p, took.sent) in
      let knows : FitsProxy events (learned (proxy_at s p) message) = learned_fits events (proxy_at s p) message sent (w.proxy p) in
      let own : FitsCall (tag_of_call call).call = numbered_fits (tag_of_call call) (w.tags.live_numbered p (handle_in message) call took.live).0 in
      take_fits call message (view_at (learned (proxy_at s p) message).views (key_of_call call)) (learned (proxy_at s p) message).seen own (knows.views (key_of_call call)) knows.seen sent (w.live p (handle_in message) call took.live)

  -- what a replica puts out
  replica_posts : (d : ℕ) (message : Message) (o : Option KeyId) → FitsMessage message → Each FitsMessage (step_at (replica_at s d).state message o).out.posts
  replica_posts d message None f = each_none FitsMessage
  replica_posts d message (Some key) f = answers_fit (replica_at s d).state.number (kept_at (replica_at s d).state key) message f (w.kept d key)

  -- what an event sends
  abbrev Sends : Happening → Type 0
  Sends x = Each FitsMessage x.posts

  pub sends_fit : (h : Happening) → Happened s h → FitsHead h.marks → Each FitsMessage h.posts
  sends_fit h (started p key work st) head = subst Sends (sym st.is) (start_fits p key work h st head).taken.out.posts
  sends_fit h (replica_took d message taken is) head = subst Sends (sym is) (replica_posts d message (request_key message) (w.sent message (to.Replica d, taken.sent)))
  sends_fit h (directory_took message sent is) head =
      let few = w.directory.few in
      subst Sends (sym is) (told_fits s.directory message (w.sent message (to.Directory, sent)) w.directory.current (omega (arith, few, room)))
  sends_fit h (call_took p message call took) head = subst Sends (sym took.is) (took_fits p message call h took).out.posts
  sends_fit h o head = subst Sends (sym (is_made s h o)) (each_none FitsMessage)

  mark_is : (mark e : Mark) → FitsMark mark → e ≡ mark → FitsMark e
  mark_is mark e f is = subst FitsMark (sym is) f

  end_is : (o : Option Reply) (reply : Reply) → o ≡ Some reply → FitsEnd o → FitsReply reply
  end_is o reply is f = let g : FitsEnd (Some reply) = subst FitsEnd is f in g

  ticket_is : (o : Option Stamp) (stamp : Stamp) → o ≡ Some stamp → FitsTicket o → FitsStamp stamp
  ticket_is o stamp is f = let g : FitsTicket (Some stamp) = subst FitsTicket is f in g

  -- the marks of an event
  pub marks_fit : (h : Happening) → Happened s h → FitsHead h.marks → (e : Mark) → Contains h.marks e → FitsMark e
  marks_fit h (refused_at_once p key work reply lt dead is) head e c =
      let call = next_fits p lt in
      let now : FitsHead (k.Begin (next_call s p) key work ∷ k.End (next_call s p) reply ∷ []) = subst (λ (x : Happening). FitsHead x.marks) is head in
      in_two (FitsMark e) (k.Begin (next_call s p) key work) (k.End (next_call s p) reply) e (mark_is (k.Begin (next_call s p) key work) e (call, now.0, now.1)) (mark_is (k.End (next_call s p) reply) e (call, now.2))
      (moved h.marks _ e (ap (λ (x : Happening). x.marks) is) c)
  marks_fit h (started p key work st) head e c =
      started_mark (draws_ticket work) refl (moved h.marks _ e (ap (λ (x : Happening). x.marks) st.is) c)
    where
      started_mark : (b : Bool) → draws_ticket work ≡ b → Contains (k.Begin (next_call s p) key work ∷ (if b then k.Ticket (next_call s p) (start_ticket s p key) ∷ [] else [])) e → FitsMark e
      started_mark true draws c =
          let call = next_fits p st.exists in
          let fit = start_fits p key work h st head in
          in_two (FitsMark e) (k.Begin (next_call s p) key work) (k.Ticket (next_call s p) (start_ticket s p key)) e (mark_is (k.Begin (next_call s p) key work) e (call, fit.key_fits, fit.work_fits))
          (mark_is (k.Ticket (next_call s p) (start_ticket s p key)) e (call, fit.ticket draws)) c
      started_mark false draws c =
          let call = next_fits p st.exists in
          let fit = start_fits p key work h st head in
          in_one (FitsMark e) (k.Begin (next_call s p) key work) e (mark_is (k.Begin (next_call s p) key work) e (call, fit.key_fits, fit.work_fits)) c
  marks_fit h (call_took p message call took) head e c =
      let own = numbered_fits (tag_of message) (w.tags.sent_numbered message (to.Proxy p, took.sent)) in
      let out = (took_fits p message call h took).out in
      in_call_marks (FitsMark e) (tag_of message).call (taken_of s p message call).out.ticket (taken_of s p message call).out.end e
      (λ stamp is. mark_is (k.Ticket (tag_of message).call stamp) e (own, ticket_is (taken_of s p message call).out.ticket stamp is out.ticket))
      (λ reply is. mark_is (k.End (tag_of message).call reply) e (own, end_is (taken_of s p message call).out.end reply is out.end))
      (moved h.marks _ e (ap (λ (x : Happening). x.marks) took.is) c)
  marks_fit h (gave_up p handle call live is) head e c =
      let own = numbered_fits (tag_of_call call) (w.tags.live_numbered p handle call live).0 in
      in_one (FitsMark e) (k.End (tag_of_call call).call r.GivenUp) e (mark_is (k.End (tag_of_call call).call r.GivenUp) e (own, tt)) (moved h.marks _ e (ap (λ (x : Happening). x.marks) is) c)
  marks_fit h (published table right is) head e c =
      let few = w.directory.few in
      in_one (FitsMark e) (k.Epoch (latest s.directory + 1)) e (mark_is (k.Epoch (latest s.directory + 1)) e (omega (arith, few, room))) (moved h.marks _ e (ap (λ (x : Happening). x.marks) is) c)
  marks_fit h (not_published cause is) head e c =
      let now : FitsHead (k.NoEpoch cause ∷ []) = subst (λ (x : Happening). FitsHead x.marks) is head in
      in_one (FitsMark e) (k.NoEpoch cause) e (mark_is (k.NoEpoch cause) e now) (moved h.marks _ e (ap (λ (x : Happening). x.marks) is) c)
  marks_fit h o head e c = absurd (none_among e (moved h.marks [] e (ap (λ (x : Happening). x.marks) (is_made s h o)) c))
