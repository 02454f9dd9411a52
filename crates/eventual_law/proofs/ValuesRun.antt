-- After every run each value that a get gave is that of a put that had begun.
use Rattle.std.proofs.Common.{◌≡◌, inl, inr, ℕ, List, [], ◌∷◌, ◌++◌, refl, sym, ◌∙◌, subst, ◌≤◌}
use Rattle.std.specs.Prelude.{Ok, Err, Contains}
use Rattle.std.proofs.lemmas.List.{append-nil, append_assoc}
use Rattle.std.proofs.lemmas.List.Elements.{Contains-append_left}
use Rattle.span_base.specs.declared.ids.Call.{Call}
use Rattle.span_base.specs.declared.ids.KeyId.{KeyId}
use Rattle.ticket_rules.specs.declared.stamp.Stamp.{Stamp}
use Rattle.ticket_rules.specs.Stamp.{stamp_zero, IsAbove}
use Rattle.ticket_rules.proofs.StampOrder.{IsAbove-irrefl}
use Rattle.wire_msg.specs.declared.message.Message.TheVariants as m
use Rattle.wire_msg.specs.declared.outputs.Reply.TheVariants as r
use Rattle.run_marks.specs.declared.mark.Mark.{Mark}
use Rattle.run_marks.specs.declared.mark.Mark.TheVariants as k
use Rattle.replica_core.specs.declared.kept.Kept.{Kept}
use Rattle.world_core.specs.declared.live.LiveCall.TheVariants.{EventualMove}
use Rattle.world_core.specs.declared.event.Event.{Event}
use Rattle.world_core.specs.declared.event.Header.{Header}
use Rattle.world_core.specs.State.{Store, opening}
use Rattle.world_core.specs.Step.{Happening, Outcome, step}
use Rattle.world_core.specs.Run.{Run, run, run_of, ran, store_after}
use Rattle.register_law.specs.Cases.{Happened}
use Rattle.register_law.proofs.Happened.{happened}
use Rattle.register_order.proofs.Members.{none_among}
use Rattle.register_law.proofs.Opening.{nothing_sent, none_live, nothing_kept}
use Rattle.register_law.proofs.MarksOfKey.{in_between, same_fields}
use Rattle.eventual_law.specs.Keys.{IsEventualKey}
use Rattle.eventual_law.specs.Puts.{IsPutOf}
use Rattle.eventual_law.specs.Known.{IsOn, by_request, by_life, by_begin, IsKnownPut, Known}
use Rattle.eventual_law.specs.Laws.{ValuesAreThoseOfPuts}
use Rattle.eventual_law.proofs.GreatestRun.{kinds_first}
use Rattle.eventual_law.proofs.ValuesKept.{known_kept}
use Rattle.register_law.proofs.EndsEnded.{tickets_after}

one_more : (P : Store → List Mark → Type 0) (s : Store) (marks : List Mark) (o : Outcome) (rest : Run) → ((h : Happening) → o ≡ Ok h → P h.store (marks ++ h.marks)) → P s marks
    → ((now : List Mark) → P (store_after s o) now → P rest.store (now ++ rest.marks)) → P (ran s o rest).store (marks ++ (ran s o rest).marks)
one_more P s marks (Ok h) rest keeps was more = subst (P rest.store) (append_assoc marks h.marks rest.marks) (more (marks ++ h.marks) (keeps h refl))
one_more P s marks (Err fault) rest keeps was more = subst (P s) (sym (append-nil marks)) was

-- what every event keeps of a state and the marks up to it holds after every run
pub along : (P : Store → List Mark → Type 0) → ((s : Store) (h : Happening) (marks : List Mark) → Happened s h → P s marks → P h.store (marks ++ h.marks)) → (events : List Event) (s : Store) (marks : List Mark) → P s marks → P (run events s).store (marks ++ (run events s).marks)
unfolding run
along P keeps [] s marks was = subst (P s) (sym (append-nil marks)) was
along P keeps (e ∷ es) s marks was =
    one_more P s marks (step s e) (run es (store_after s (step s e))) (λ h is. keeps s h marks (happened s e h is) was) was (λ now p. along P keeps es (store_after s (step s e)) now p)

-- no call is of a key yet
none_on : (X : Type 0) (header : Header) (call : Call) (key : KeyId) → IsOn (opening header) [] call key → X
none_on X header call key (by_request request sent at of) = absurd (nothing_sent header request sent)
none_on X header call key (by_life p handle live there at of) = absurd (none_live header p handle live there)
none_on X header call key (by_begin work c) = absurd (none_among (k.Begin call key work) c)

pub known_first : (header : Header) (key : KeyId) → IsEventualKey header key.0 → Known key (opening header) []
known_first header key e = record {
  kinds = kinds_first header key e;
  calls = record { one_key = λ call one other on _. none_on (one ≡ other) header call one on; begun = λ call at work c. absurd (none_among (k.Begin call at work) c) };
  values = record {
    pushed = λ tag stamp onward value sent. absurd (nothing_sent header (m.Push tag key stamp onward value) sent);
    versions = record {
      seeded = λ tag epoch stamp value sent. absurd (nothing_sent header (m.Seed tag key epoch stamp value) sent);
      kept = λ d. subst (λ (x : Kept). IsKnownPut key [] x.version x.value) (sym (nothing_kept header d key)) (inl (refl, refl));
      had = λ tag replica version mark value sent _ _ _ _. absurd (nothing_sent header (m.Have tag replica version mark value) sent);
      best = λ p handle call old target found there _ _. absurd (none_live header p handle (EventualMove call) there);
    };
    given = λ call stamp value earlier later split _. absurd (none_among (k.End call (r.Value stamp value)) (in_between [] earlier (k.End call (r.Value stamp value)) later split));
  };
}

above_zero : (key : KeyId) (marks : List Mark) (stamp : Stamp) (value : List ℕ) → IsAbove stamp stamp_zero → IsKnownPut key marks stamp value → IsPutOf key marks stamp value
above_zero key marks stamp value above (inl zero) = absurd (IsAbove-irrefl stamp_zero (subst (λ (x : Stamp). IsAbove x stamp_zero) zero.0 above))
above_zero key marks stamp value above (inr put) = put

pub known_along : (header : Header) (events : List Event) (key : KeyId) → IsEventualKey header key.0 → Known key (run_of header events).store (run_of header events).marks
known_along header events key e = along (Known key) (known_kept key) events (opening header) [] (known_first header key e)

-- a ticket has its call's name
abbrev pub TicketsName : Store → List Mark → Type 0
TicketsName s marks = (call : Call) (stamp : Stamp) → Contains marks (k.Ticket call stamp) → (stamp.proxy ≡ call.proxy) × (stamp.seq ≡ call.seq) × (1 ≤ stamp.number)

pub tickets_name : (s : Store) (h : Happening) (marks : List Mark) → Happened s h → TicketsName s marks → TicketsName h.store (marks ++ h.marks)
tickets_name s h marks is was = tickets_after s h marks is was

-- no two calls have one ticket
pub one_call : (s : Store) (marks : List Mark) (stamp : Stamp) (one other : Call) → TicketsName s marks → Contains marks (k.Ticket one stamp) → Contains marks (k.Ticket other stamp) → other ≡ one
one_call s marks stamp one other names a b =
    let x = names one stamp a in
    let y = names other stamp b in
    same_fields other one (sym y.0 ∙ x.0) (sym y.1 ∙ x.1)

pub values_are_those_of_puts : ValuesAreThoseOfPuts
values_are_those_of_puts header events h may key e call stamp value earlier later split get above =
    let put = above_zero key earlier stamp value above ((known_along header events key e).values.given call stamp value earlier later split get) in
    let names = along TicketsName tickets_name events (opening header) [] (λ one t c. absurd (none_among (k.Ticket one t) c)) in
    let there = subst (λ (x : List Mark). Contains x (k.Ticket put.call stamp)) (sym split) (Contains-append_left earlier (k.End call (r.Value stamp value) ∷ later) (k.Ticket put.call stamp) put.ticket) in
    record { put = put; only = λ other c. one_call (run_of header events).store (run_of header events).marks stamp put.call other names there c }
