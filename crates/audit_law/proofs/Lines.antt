-- Each line that an event leaves is well formed, and no event leaves more than two.
use Rattle.std.proofs.Common.{◌≡◌, ℕ, true, List, [], ◌∷◌, ◌++◌, refl, sym, ◌∙◌, subst, Option, Some, None, Contains}
use Rattle.register_law.proofs.Words.{KeyId, Stamp, tag_of, Message, Reply, Tag, call_of, Mark, Work, GivesLatest, IsOpen, KeepsForm, answers_of, draws, fits, key_of_call, tag_of_call, learned, draws_ticket, Store, proxy_at, view_at, Happening, end_marks, handle_in, ticket_marks, LiveCall, Happened, IsTicketOf}
use Rattle.wire_msg.specs.declared.outputs.Reply.TheVariants as r
use Rattle.run_marks.specs.declared.mark.Mark.TheVariants as k
use Rattle.register_order.proofs.Begins.{begins_as_one}
use Rattle.register_order.proofs.Numbered.{numbered_calls_begin_once}
use Rattle.register_law.proofs.CallsOthers.{take_ticket, take_end, take_ticket_is}
use Rattle.register_law.proofs.TagsCalls.{taken_of}
use Rattle.register_law.proofs.MarksAre.{MarksAre, unmarked, of_no_call, of_refused, of_start, of_call, of_give_up, marks_are}
use Rattle.audit_law.specs.Live.{IsTold, LogIsFormed}
use Rattle.audit_law.proofs.Asked.{BeginsRightly}
use Rattle.audit_law.proofs.StrongFits.{EndFits, EndGives}
use Rattle.audit_law.proofs.Tickets.{IsDrawn}
use Rattle.audit_law.proofs.Takes.{take_fits, take_gives, take_drawn}
use Rattle.audit_law.proofs.Unended.{calls_kept}
use Rattle.audit_law.proofs.NewLines.{AreFormed, no_lines, one_line, refused_lines, start_lines}

of_nobody : (marks : List Mark) (mark : Mark) → call_of mark ≡ None → KeepsForm marks mark
of_nobody marks (k.Epoch epoch) e = record { call = tt; kind = tt; stamp = tt }
of_nobody marks (k.NoEpoch cause) e = record { call = tt; kind = tt; stamp = tt }
of_nobody marks mark e = absurd (cc)

told_open : (marks : List Mark) (live : LiveCall) → IsTold marks live → IsOpen marks (tag_of_call live).call
told_open marks live told = record { key = told.at; work = told.work; begun = told.begun; unended = told.unended }

-- what holds of the work that a live call does holds of the one that it began with
told_work : (s : Store) (marks : List Mark) → LogIsFormed s marks → (live : LiveCall) (told : IsTold marks live) (P : Work → Type 0) → P told.work → (at : KeyId) (does : Work) → Contains marks (k.Begin (tag_of_call live).call at does) → P does
told_work s marks f live told P p at does c =
    let one = begins_as_one marks (numbered_calls_begin_once marks (calls_kept s marks f)) (tag_of_call live).call told.at at told.work does told.begun c in
    let same : told.work ≡ does = cc in
    subst P same p

end_line : (s : Store) (marks : List Mark) → LogIsFormed s marks → (live : LiveCall) (told : IsTold marks live) (reply : Reply) → fits (answers_of told.work) reply ≡ true → GivesLatest marks (tag_of_call live).call reply → KeepsForm marks (k.End (tag_of_call live).call reply)
end_line s marks f live told reply fit gives = record {
  call = told_open marks live told;
  kind = λ at does c. told_work s marks f live told (λ (x : Work). fits (answers_of x) reply ≡ true) fit at does c;
  stamp = gives;
}

ticket_line : (s : Store) (marks : List Mark) → LogIsFormed s marks → (live : LiveCall) (told : IsTold marks live) (tag : Tag) (stamp : Stamp) (end : Option Reply) → tag_of_call live ≡ tag → IsTicketOf tag stamp → IsDrawn marks (tag_of_call live).call told.work stamp end → KeepsForm marks (k.Ticket (tag_of_call live).call stamp)
ticket_line s marks f live told tag stamp end own ticket drawn =
    let t : IsTicketOf (tag_of_call live) stamp = subst (λ (x : Tag). IsTicketOf x stamp) (sym own) ticket in
    record {
      call = told_open marks live told;
      kind = λ at does c. told_work s marks f live told (λ (x : Work). draws x ≡ true) drawn.draws at does c;
      stamp = record { proxy = t.proxy; seq = t.seq; number = t.some; above = drawn.above };
    }

-- a call that takes a message draws a ticket or ends, if either
took_lines : (s : Store) (marks : List Mark) → LogIsFormed s marks → (p : ℕ) (message : Message) (live : LiveCall) → IsTold marks live → (t : Option Stamp) (o : Option Reply) → (taken_of s p message live).out.ticket ≡ t → (taken_of s p message live).out.end ≡ o
    → AreFormed marks (ticket_marks (tag_of message).call t ++ end_marks (tag_of message).call o)
took_lines s marks f p message live told None None drawn ended = no_lines marks
took_lines s marks f p message live told None (Some reply) drawn ended =
    let own : tag_of_call live ≡ tag_of message = take_end live message (view_at (learned (proxy_at s p) message).views (key_of_call live)) (learned (proxy_at s p) message).seen reply ended in
    let fit : EndFits told.work (Some reply) = subst (EndFits told.work) ended (take_fits live message (view_at (learned (proxy_at s p) message).views (key_of_call live)) (learned (proxy_at s p) message).seen told.work marks told.does told.latest) in
    let gives : EndGives marks (tag_of_call live).call (Some reply) =
    subst (EndGives marks (tag_of_call live).call) ended (take_gives live message (view_at (learned (proxy_at s p) message).views (key_of_call live)) (learned (proxy_at s p) message).seen told.work marks told.does told.latest) in
    subst (λ (x : Tag). AreFormed marks (k.End x.call reply ∷ [])) own (one_line marks (k.End (tag_of_call live).call reply) (end_line s marks f live told reply fit gives))
took_lines s marks f p message live told (Some stamp) o drawn ended = by o ended
  where
    is_drawn : IsDrawn marks (tag_of_call live).call told.work stamp (taken_of s p message live).out.end
    is_drawn = take_drawn live message (view_at (learned (proxy_at s p) message).views (key_of_call live)) (learned (proxy_at s p) message).seen told.work marks stamp drawn told.does told.latest

    own : tag_of_call live ≡ tag_of message
    own = take_ticket live message (view_at (learned (proxy_at s p) message).views (key_of_call live)) (learned (proxy_at s p) message).seen stamp drawn

    ticket : IsTicketOf (tag_of message) stamp
    ticket = take_ticket_is live message (view_at (learned (proxy_at s p) message).views (key_of_call live)) (learned (proxy_at s p) message).seen stamp drawn

    by : (o : Option Reply) → (taken_of s p message live).out.end ≡ o → AreFormed marks (k.Ticket (tag_of message).call stamp ∷ end_marks (tag_of message).call o)
    by None e = subst (λ (x : Tag). AreFormed marks (k.Ticket x.call stamp ∷ [])) own
        (one_line marks (k.Ticket (tag_of_call live).call stamp) (ticket_line s marks f live told (tag_of message) stamp (taken_of s p message live).out.end own ticket is_drawn))
    by (Some reply) e = absurd (let none = sym is_drawn.alone ∙ e in cc)

pub event_lines : (s : Store) (h : Happening) (marks : List Mark) → Happened s h → BeginsRightly s h.marks → LogIsFormed s marks → AreFormed marks h.marks
event_lines s h marks is right f = by (marks_are s h is)
  where
    by : MarksAre s h → AreFormed marks h.marks
    by (unmarked e) = subst (AreFormed marks) (sym e) (no_lines marks)
    by (of_no_call mark none e) = subst (AreFormed marks) (sym e) (one_line marks mark (of_nobody marks mark none))
    by (of_refused p key work reply lt dead _ e) = subst (AreFormed marks) (sym e) (refused_lines s marks f p key work reply dead (subst (BeginsRightly s) e right).1)
    by (of_start p key work st e) = subst (AreFormed marks) (sym e) (start_lines s marks f p key work (draws_ticket work) refl)
    by (of_call p message live took e) =
        subst (AreFormed marks) (sym e) (took_lines s marks f p message live (f.live p (handle_in message) live took.live) (taken_of s p message live).out.ticket (taken_of s p message live).out.end refl refl)
    by (of_give_up p live given e) = subst (AreFormed marks) (sym e) (one_line marks (k.End (tag_of_call live).call r.GivenUp) (end_line s marks f live (f.live p given.handle live given.live) r.GivenUp refl tt))
