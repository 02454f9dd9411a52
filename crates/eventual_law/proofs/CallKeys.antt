-- Every event keeps it that a call has one key.
use Rattle.std.proofs.Common.{◌≡◌, ◌⊎◌, inl, inr, ℕ, ◌≤◌, List, [], ◌∷◌, ◌++◌, sym, ap, ◌∙◌, subst, arith}
use Rattle.std.proofs.lemmas.Option.{same_Some}
use Rattle.std.specs.Prelude.{Some, None, Contains}
use Rattle.std.proofs.lemmas.List.Elements.{Contains-append_cases}
use Rattle.span_base.specs.declared.ids.Call.{Call}
use Rattle.span_base.specs.declared.ids.KeyId.{KeyId}
use Rattle.wire_msg.specs.declared.tag.Tag.{Tag}
use Rattle.wire_msg.specs.declared.message.Message.{Message}
use Rattle.run_marks.specs.declared.mark.Work.{Work}
use Rattle.run_marks.specs.declared.mark.Mark.{Mark}
use Rattle.run_marks.specs.declared.mark.Mark.TheVariants as k
use Rattle.run_marks.specs.History.{call_of}
use Rattle.slot_pool.specs.declared.handles.Handle.{Handle}
use Rattle.world_core.specs.declared.live.LiveCall.{LiveCall}
use Rattle.world_core.specs.State.{Store, proxy_at, view_at}
use Rattle.wire_msg.specs.Posts.{tag_of}
use Rattle.world_core.specs.Calls.{tag_of_call, key_of_call}
use Rattle.world_core.specs.Starting.{ticket_marks}
use Rattle.world_core.specs.Step.{Happening, handle_in}
use Rattle.register_law.specs.Tags.{TagsTellApart, request_key}
use Rattle.register_law.specs.Cases.{Happened, Started, next_call}
use Rattle.register_law.proofs.Growth.{calls_grow}
use Rattle.register_law.proofs.TagsSent.{IsPushedOn, Posted, replies, opens, asks, sent_after}
use Rattle.register_law.proofs.TagsCalls.{LiveFrom, older, newer, live_from, next_is_none, taken_of}
use Rattle.register_law.proofs.MarksAre.{MarksAre, unmarked, of_no_call, of_refused, of_start, of_call, of_give_up, marks_are, start_ticket, in_one, in_two, in_call_marks, in_start_marks}
use Rattle.register_order.proofs.Members.{none_among}
use Rattle.eventual_law.specs.Known.{IsOn, by_request, by_life, by_begin, CallsHaveKeys}
use Rattle.register_law.proofs.BegunCalls.{begins_next}

-- the event begins this call on the key
pub record BeginsOn (s : Store) (h : Happening) (call : Call) (key : KeyId) : Type 0 where
  pub work : Work
  pub rest : List Mark
  pub marks : h.marks ≡ k.Begin call key work ∷ rest
  pub p : ℕ
  pub next : call ≡ next_call s p

begin_is : (one other : Call) (key at : KeyId) (work on : Work) → k.Begin one key work ≡ k.Begin other at on → (one ≡ other) × (key ≡ at) × (work ≡ on)
begin_is one other key at work on e = (cc, cc, cc)

no_begin : (X : Type 0) (call : Call) (key : KeyId) (work : Work) (mark : Mark) → k.Begin call key work ≡ mark → call_of mark ≡ None → X
no_begin X call key work mark is none = absurd (let z : call_of mark ≡ Some call = ap call_of (sym is) in cc)

-- the event begins this call on the key, for this work
abbrev pub NowOn : Store → Happening → Call → KeyId → Work → Type 0
NowOn s h call key work = (b : BeginsOn s h call key) × (work ≡ b.work)

-- a Begin among the marks of an event is the first one, of its proxy's next call
pub begun_now : (s : Store) (h : Happening) → MarksAre s h → (call : Call) (key : KeyId) (work : Work) → Contains h.marks (k.Begin call key work) → NowOn s h call key work
begun_now s h (unmarked is) call key work c = absurd (none_among (k.Begin call key work) (subst (λ (x : List Mark). Contains x (k.Begin call key work)) is c))
begun_now s h (of_no_call mark none is) call key work c = in_one (NowOn s h call key work) mark (k.Begin call key work) (λ same. no_begin (NowOn s h call key work) call key work mark same none) (subst (λ (x : List Mark). Contains x (k.Begin call key work)) is c)
begun_now s h (of_refused p at asked reply lt dead no_posts is) call key work c =
    in_two (NowOn s h call key work) (k.Begin (next_call s p) at asked) (k.End (next_call s p) reply) (k.Begin call key work)
    (λ same. now (begin_is call (next_call s p) key at work asked same)) (λ same. absurd (cc)) (subst (λ (x : List Mark). Contains x (k.Begin call key work)) is c)
  where
    now : (call ≡ next_call s p) × (key ≡ at) × (work ≡ asked) → NowOn s h call key work
    now e = (record { work = asked; rest = k.End (next_call s p) reply ∷ []; marks = is ∙ ap (λ (x : Call). k.Begin x at asked ∷ k.End (next_call s p) reply ∷ []) (sym e.0) ∙ ap (λ (x : KeyId). k.Begin call x asked ∷ k.End (next_call s p) reply ∷ []) (sym e.1); p = p; next = e.0 }, e.2)
begun_now s h (of_start p at asked st is) call key work c =
    in_start_marks (NowOn s h call key work) (next_call s p) at asked (start_ticket s p at) (k.Begin call key work) (λ same. now (begin_is call (next_call s p) key at work asked same)) (λ same. absurd (cc))
    (subst (λ (x : List Mark). Contains x (k.Begin call key work)) is c)
  where
    rest : List Mark
    rest = ticket_marks (next_call s p) (start_ticket s p at) asked

    now : (call ≡ next_call s p) × (key ≡ at) × (work ≡ asked) → NowOn s h call key work
    now e = (record { work = asked; rest = rest; marks = is ∙ ap (λ (x : Call). k.Begin x at asked ∷ rest) (sym e.0) ∙ ap (λ (x : KeyId). k.Begin call x asked ∷ rest) (sym e.1); p = p; next = e.0 }, e.2)
begun_now s h (of_call p message live took is) call key work c =
    in_call_marks (NowOn s h call key work) (tag_of message).call (taken_of s p message live).out.ticket (taken_of s p message live).out.end (k.Begin call key work) (λ stamp _ same. absurd (cc)) (λ reply _ same. absurd (cc))
    (subst (λ (x : List Mark). Contains x (k.Begin call key work)) is c)
begun_now s h (of_give_up p live given is) call key work c = in_one (NowOn s h call key work) _ (k.Begin call key work) (λ same. absurd (cc)) (subst (λ (x : List Mark). Contains x (k.Begin call key work)) is c)

-- a start's key is that of its view
starts_on : (s : Store) (h : Happening) (p : ℕ) (at key : KeyId) (work : Work) (call : Call) → TagsTellApart s → Started s p at work h → (view_at (proxy_at s p).views at).key ≡ key → call ≡ next_call s p → BeginsOn s h call key
starts_on s h p at key work call tags st is next =
    let same : at ≡ key = sym (tags.view_keys p at st.exists st.known) ∙ is in
    let rest : List Mark = ticket_marks (next_call s p) (start_ticket s p at) work in
    record { work = work; rest = rest; marks = ap (λ (x : Happening). x.marks) st.is ∙ ap (λ (x : KeyId). k.Begin (next_call s p) x work ∷ rest) same ∙ ap (λ (x : Call). k.Begin x key work ∷ rest) (sym next); p = p; next = next }

of_posted : (s : Store) (h : Happening) (marks : List Mark) (request : Message) (key : KeyId) (call : Call) → TagsTellApart s → Posted s h request → request_key request ≡ Some key → (tag_of request).call ≡ call → IsOn s marks call key ⊎ BeginsOn s h call key
of_posted s h marks request key call tags (replies from sent answer) at of = by answer.kind
  where
    by : (request_key request ≡ None) ⊎ IsPushedOn from request → IsOn s marks call key ⊎ BeginsOn s h call key
    by (inl none) = absurd (cc)
    by (inr on) = inl (by_request from sent (sym on.same_key ∙ at) (ap (λ (t : Tag). t.call) (sym answer.tag) ∙ of))
of_posted s h marks request key call tags (opens p on work st tag keyed free) at of =
    inr (starts_on s h p on key work call tags st (same_Some (view_at (proxy_at s p).views on).key key (sym keyed ∙ at)) (sym of ∙ ap (λ (t : Tag). t.call) tag))
of_posted s h marks request key call tags (asks p taken live post took tag keyed free c) at of =
    inl (by_life p (handle_in taken) live took.live (same_Some (key_of_call live) key (sym keyed ∙ at)) (ap (λ (t : Tag). t.call) (sym tag) ∙ of))

of_live : (s : Store) (h : Happening) (marks : List Mark) (p : ℕ) (handle : Handle) (live : LiveCall) (key : KeyId) (call : Call) → TagsTellApart s → LiveFrom s h p handle live → key_of_call live ≡ key → (tag_of_call live).call ≡ call
    → IsOn s marks call key ⊎ BeginsOn s h call key
of_live s h marks p handle live key call tags (older old there from keyed _) at of = inl (by_life p handle old there (sym keyed ∙ at) (sym from ∙ of))
of_live s h marks p handle live key call tags (newer on work st _ tag keyed) at of = inr (starts_on s h p on key work call tags st (sym keyed ∙ at) (sym of ∙ ap (λ (t : Tag). t.call) tag))

-- a call that is of a key after an event was so before it, or begins on it
pub was_on : (s : Store) (h : Happening) (marks : List Mark) (call : Call) (key : KeyId) → Happened s h → TagsTellApart s → IsOn h.store (marks ++ h.marks) call key → IsOn s marks call key ⊎ BeginsOn s h call key
was_on s h marks call key is tags (by_request request sent at of) =
    elim (sent_after s h is request sent) as (λ _. IsOn s marks call key ⊎ BeginsOn s h call key) [
      | inl old ↦ inl (by_request request old at of)
      | inr new ↦ of_posted s h marks request key call tags new at of
    ]
was_on s h marks call key is tags (by_life p handle live there at of) = of_live s h marks p handle live key call tags (live_from s h is p handle live there) at of
was_on s h marks call key is tags (by_begin work c) =
    elim (Contains-append_cases marks h.marks (k.Begin call key work) c) as (λ _. IsOn s marks call key ⊎ BeginsOn s h call key) [
      | inl old ↦ inl (by_begin work old)
      | inr new ↦ inr (begun_now s h (marks_are s h is) call key work new).0
    ]

-- a call that is of a key isn't the next one
pub next_is_on_none : (s : Store) (marks : List Mark) (call : Call) (key : KeyId) (p : ℕ) → TagsTellApart s → CallsHaveKeys s marks → IsOn s marks call key → call ≡ next_call s p → ⊥
next_is_on_none s marks call key p tags calls (by_request request sent at of) next = next_is_none s p (tag_of request) call (tags.sent_numbered request sent) of next
next_is_on_none s marks call key p tags calls (by_life q handle live there at of) next = next_is_none s p (tag_of_call live) call (tags.live_numbered q handle live there).0 of next
next_is_on_none s marks call key p tags calls (by_begin work c) next =
    let le : (next_call s p).seq ≤ (proxy_at s (next_call s p).proxy).begun = subst (λ (x : Call). x.seq ≤ (proxy_at s x.proxy).begun) next (calls.begun call key work c) in
    omega arith

first_key : (one other : Call) (key at : KeyId) (work on : Work) (rest more marks : List Mark) → marks ≡ k.Begin one key work ∷ rest → marks ≡ k.Begin other at on ∷ more → key ≡ at
first_key one other key at work on rest more marks a b = cc

pub keys_kept : (s : Store) (h : Happening) (marks : List Mark) → Happened s h → TagsTellApart s → CallsHaveKeys s marks → CallsHaveKeys h.store (marks ++ h.marks)
keys_kept s h marks is tags calls = record {
  one_key = λ call key other a b. by call key other (was_on s h marks call key is tags a) (was_on s h marks call other is tags b);
  begun = λ call at work c. elim (Contains-append_cases marks h.marks (k.Begin call at work) c) as (λ _. call.seq ≤ (proxy_at h.store call.proxy).begun) [
    | inl old ↦ (let le = calls.begun call at work old in let more = calls_grow s h is call.proxy in omega arith)
    | inr new ↦ (let b = (begun_now s h (marks_are s h is) call at work new).0 in (begins_next s h is call at b.work b.rest b.marks).counted)
  ];
}
  where
    by : (call : Call) (key other : KeyId) → IsOn s marks call key ⊎ BeginsOn s h call key → IsOn s marks call other ⊎ BeginsOn s h call other → key ≡ other
    by call key other (inl a) (inl b) = calls.one_key call key other a b
    by call key other (inl a) (inr b) = absurd (next_is_on_none s marks call key b.p tags calls a b.next)
    by call key other (inr a) (inl b) = absurd (next_is_on_none s marks call other a.p tags calls b a.next)
    by call key other (inr a) (inr b) = first_key call call key other a.work b.work a.rest b.rest h.marks a.marks b.marks
