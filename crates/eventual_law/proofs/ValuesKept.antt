-- Every event keeps it that the values of an eventual key are those of puts that have begun.
use Rattle.std.proofs.Common.{◌≡◌, ◌⊎◌, inl, inr, ℕ, List, [], ◌∷◌, ◌++◌, refl, sym, ap, ◌∙◌, subst, arith}
use Rattle.std.specs.Prelude.{Some, Contains}
use Rattle.std.proofs.lemmas.List.Elements.{Contains-append_left, Contains-append_right}
use Rattle.span_base.specs.declared.ids.Call.{Call}
use Rattle.span_base.specs.declared.ids.KeyId.{KeyId}
use Rattle.span_base.specs.declared.dc_set.DcSet.{DcSet}
use Rattle.span_base.specs.DcSet.{no_centre}
use Rattle.ticket_rules.specs.declared.stamp.Stamp.{Stamp}
use Rattle.wire_msg.specs.declared.tag.Tag.{Tag}
use Rattle.wire_msg.specs.declared.actor.Actor.TheVariants as to
use Rattle.wire_msg.specs.declared.message.Message.{Message}
use Rattle.wire_msg.specs.declared.message.Message.TheVariants as m
use Rattle.wire_msg.specs.declared.outputs.Reply.TheVariants as r
use Rattle.run_marks.specs.declared.mark.Work.{Work}
use Rattle.run_marks.specs.declared.mark.Work.TheVariants as w
use Rattle.run_marks.specs.declared.mark.Mark.{Mark}
use Rattle.run_marks.specs.declared.mark.Mark.TheVariants as marked
use Rattle.replica_core.specs.declared.kept.Kept.{Kept}
use Rattle.world_core.specs.declared.live.LiveCall.{LiveCall}
use Rattle.world_core.specs.declared.live.LiveCall.TheVariants.{Strong, Eventual, StrongMove, EventualMove}
use Rattle.world_core.specs.State.{Store, kept_of, proxy_at, view_at}
use Rattle.wire_msg.specs.Posts.{tag_of}
use Rattle.world_core.specs.Calls.{tag_of_call, key_of_call}
use Rattle.world_core.specs.Step.{Happening, handle_in}
use Rattle.register_law.specs.Seen.{WasSent}
use Rattle.register_law.specs.Cases.{Happened, Started, CallTook, next_call}
use Rattle.register_law.proofs.MarksOfKey.{Splits, in_front, behind, splits, in_between}
use Rattle.register_law.proofs.Basics.{sent_cases}
use Rattle.register_law.proofs.MarksAre.{marks_are, start_ticket, EndIs, by_message, by_hand, end_is, at_once}
use Rattle.register_law.proofs.CallsOthers.{take_end}
use Rattle.register_law.proofs.TagsCalls.{taken_of, next_is_none}
use Rattle.world_core.specs.Knowing.{learned}
use Rattle.eventual_law.specs.Puts.{IsGet}
use Rattle.eventual_law.specs.Kinds.{IsOfEventual}
use Rattle.eventual_law.specs.Known.{IsOn, by_life, by_begin, CallsHaveKeys, IsKnownPut, ValuesAreKnown, Known}
use Rattle.eventual_law.proofs.Starts.{puts}
use Rattle.eventual_law.proofs.Starts as start
use Rattle.eventual_law.proofs.Takes.{seeds, freezes, switches}
use Rattle.eventual_law.proofs.Takes as takes
use Rattle.eventual_law.proofs.Sends.{Sends, passes, starts, calls, moves, sends, start_key}
use Rattle.eventual_law.proofs.KindsKept.{kinds_kept}
use Rattle.eventual_law.proofs.CallKeys.{keys_kept, was_on, BeginsOn}
use Rattle.eventual_law.proofs.Turns.{gives, no_move_gives}
use Rattle.eventual_law.proofs.KeptNow.{KeptNow, kept_still, by_seed, by_push, kept_now}
use Rattle.eventual_law.proofs.Versions.{Said, had_by, versions_kept}

-- what is known stays known
known_more : (key : KeyId) (marks more : List Mark) (stamp : Stamp) (value : List ℕ) → IsKnownPut key marks stamp value → IsKnownPut key (marks ++ more) stamp value
known_more key marks more stamp value (inl zero) = inl zero
known_more key marks more stamp value (inr put) = inr (record {
  call = put.call;
  begun = Contains-append_left marks more (marked.Begin put.call key (w.Put value)) put.begun;
  ticket = Contains-append_left marks more (marked.Ticket put.call stamp) put.ticket;
})

push_is : (one other : Tag) (key at : KeyId) (stamp t : Stamp) (onward set : DcSet) (value v : List ℕ) → m.Push one key stamp onward value ≡ m.Push other at t set v → (key ≡ at) × (stamp ≡ t) × (value ≡ v)
push_is one other key at stamp t onward set value v e = (cc, cc, cc)

as_known : (key : KeyId) (marks : List Mark) (stamp t : Stamp) (value v : List ℕ) → stamp ≡ t → value ≡ v → IsKnownPut key marks t v → IsKnownPut key marks stamp value
as_known key marks stamp t value v a b h = subst (λ (x : Stamp). IsKnownPut key marks x value) (sym a) (subst (λ (x : List ℕ). IsKnownPut key marks t x) (sym b) h)

-- a put's own value
put_known : (key : KeyId) (s : Store) (h : Happening) (marks : List Mark) (p : ℕ) (at : KeyId) (value : List ℕ) → Started s p at (w.Put value) h → at ≡ key → IsKnownPut key (marks ++ h.marks) (start_ticket s p at) value
put_known key s h marks p at value st same =
    let all : h.marks ≡ marked.Begin (next_call s p) at (w.Put value) ∷ marked.Ticket (next_call s p) (start_ticket s p at) ∷ [] = ap (λ (x : Happening). x.marks) st.is in
    inr (record {
      call = next_call s p;
      begun = Contains-append_right marks h.marks (marked.Begin (next_call s p) key (w.Put value)) (subst (λ (x : List Mark). Contains x (marked.Begin (next_call s p) key (w.Put value))) (sym all) (0, omega arith, ap (λ (x : KeyId). marked.Begin (next_call s p) x (w.Put value)) same));
      ticket = Contains-append_right marks h.marks (marked.Ticket (next_call s p) (start_ticket s p at)) (subst (λ (x : List Mark). Contains x (marked.Ticket (next_call s p) (start_ticket s p at))) (sym all) (1, omega arith, refl));
    })

pushed_now : (key : KeyId) (s : Store) (h : Happening) (marks : List Mark) (tag : Tag) (stamp : Stamp) (onward : DcSet) (value : List ℕ) → Known key s marks → Sends s h (m.Push tag key stamp onward value) → IsKnownPut key (marks ++ h.marks) stamp value
pushed_now key s h marks tag stamp onward value k (passes from sent on) =
    let e = push_is tag on.tag key on.key stamp on.stamp onward no_centre value on.value on.is in
    let was : WasSent s (m.Push on.tag key on.stamp on.onward on.value) = subst (λ (x : KeyId). WasSent s (m.Push on.tag x on.stamp on.onward on.value)) (sym e.0) (subst (WasSent s) on.from_is sent) in
    known_more key marks h.marks stamp value (as_known key marks stamp on.stamp value on.value e.1 e.2 (k.values.pushed on.tag on.stamp on.onward on.value was))
pushed_now key s h marks tag stamp onward value k (starts p at work st (start.carries_none c)) = absurd c
pushed_now key s h marks tag stamp onward value k (starts p at work st (puts set v is sends)) =
    let e = push_is tag _ key (view_at (proxy_at s p).views at).key stamp (start_ticket s p at) onward set value v sends in
    as_known key (marks ++ h.marks) stamp (start_ticket s p at) value v e.1 e.2 (put_known key s h marks p at v (subst (λ (x : Work). Started s p at x h) is st) (start_key key s h p at work k.kinds st (sym e.0)))
pushed_now key s h marks tag stamp onward value k (calls p taken call took c) = absurd c
pushed_now key s h marks tag stamp onward value k (moves p taken call took (takes.carries_none c)) = absurd c
pushed_now key s h marks tag stamp onward value k (moves p taken call took (seeds found epoch finds is)) = absurd (cc)
pushed_now key s h marks tag stamp onward value k (moves p taken call took (freezes epoch from is)) = absurd (cc)
pushed_now key s h marks tag stamp onward value k (moves p taken call took (switches old target enough is)) = absurd (cc)

kept_known : (key : KeyId) (s : Store) (marks : List Mark) (d : ℕ) (new : Kept) → Known key s marks → KeptNow key s d new → IsKnownPut key marks new.version new.value
kept_known key s marks d new k (kept_still version value) = as_known key marks new.version (kept_of s d key).version new.value (kept_of s d key).value version value (k.values.versions.kept d)
kept_known key s marks d new k (by_seed tag epoch stamp held sent version value) = as_known key marks new.version stamp new.value held version value (k.values.versions.seeded tag epoch stamp held sent)
kept_known key s marks d new k (by_push tag stamp onward held sent open_still version value) = as_known key marks new.version stamp new.value held version value (k.values.pushed tag stamp onward held (to.Replica d, sent))

-- all of it together
pub said : (key : KeyId) (s : Store) (marks : List Mark) → Known key s marks → Said key s marks (IsKnownPut key marks)
said key s marks k = record { kinds = k.kinds; calls = k.calls; versions = k.values.versions }

-- a live call of the key that gives a value
gives_known : (key : KeyId) (s : Store) (h : Happening) (marks : List Mark) (p : ℕ) (taken : Message) (live : LiveCall) (stamp : Stamp) (value : List ℕ) → Known key s marks → CallTook s p taken live h → IsOfEventual live → key_of_call live ≡ key
    → (taken_of s p taken live).out.end ≡ Some (r.Value stamp value) → IsKnownPut key marks stamp value
gives_known key s h marks p taken (Strong call) stamp value k took kind at ends = absurd kind
gives_known key s h marks p taken (Eventual call) stamp value k took kind at ends =
    let g = gives call taken stamp value ends in
    had_by key s marks (IsKnownPut key marks) p (handle_in taken) (Eventual call) g.tag g.replica stamp g.mark value (said key s marks k) took.live at g.own (subst (WasSent s) g.taken_is (to.Proxy p, took.sent))
gives_known key s h marks p taken (StrongMove call) stamp value k took kind at ends = absurd kind
gives_known key s h marks p taken (EventualMove call) stamp value k took kind at ends = no_move_gives (IsKnownPut key marks stamp value) call taken stamp value ends

get_begun : (key : KeyId) (marks : List Mark) (call : Call) → IsGet key marks call → (work : Work) × Contains marks (marked.Begin call key work)
get_begun key marks call (inl c) = (w.Get, c)
get_begun key marks call (inr c) = (w.GetAny, c)

given_after : (key : KeyId) (s : Store) (h : Happening) (marks : List Mark) (call : Call) (stamp : Stamp) (value : List ℕ) (earlier later : List Mark) → Happened s h → Known key s marks
    → marks ++ h.marks ≡ earlier ++ marked.End call (r.Value stamp value) ∷ later → IsGet key earlier call → IsKnownPut key earlier stamp value
given_after key s h marks call stamp value earlier later is k split get = by (splits marks h.marks earlier (marked.End call (r.Value stamp value)) later split)
  where
    begun : (work : Work) × Contains earlier (marked.Begin call key work)
    begun = get_begun key earlier call get

    by : Splits marks h.marks earlier (marked.End call (r.Value stamp value)) later → IsKnownPut key earlier stamp value
    by (in_front rest front back) = k.values.given call stamp value earlier rest front get
    by (behind rest front back) = ending (end_is s h (marks_are s h is) call (r.Value stamp value) (in_between h.marks rest (marked.End call (r.Value stamp value)) later back))
      where
        all : Contains (marks ++ h.marks) (marked.Begin call key begun.0)
        all = subst (λ (x : List Mark). Contains x (marked.Begin call key begun.0)) (sym split) (Contains-append_left earlier (marked.End call (r.Value stamp value) ∷ later) (marked.Begin call key begun.0) begun.1)

        ending : EndIs s h call (r.Value stamp value) → IsKnownPut key earlier stamp value
        ending (at_once p at work lt next dead no_posts all_marks) = absurd (cc)
        ending (by_hand p live given of none) = absurd (cc)
        ending (by_message p taken live took of ends) = on (was_on s h marks call key is k.kinds.tags (by_begin begun.0 all))
          where
            own : tag_of_call live ≡ tag_of taken
            own = take_end live taken (view_at (learned (proxy_at s p) taken).views (key_of_call live)) (learned (proxy_at s p) taken).seen (r.Value stamp value) ends

            same : (tag_of_call live).call ≡ call
            same = ap (λ (t : Tag). t.call) own ∙ of

            on : IsOn s marks call key ⊎ BeginsOn s h call key → IsKnownPut key earlier stamp value
            on (inr b) = absurd (next_is_none s b.p (tag_of_call live) call (k.kinds.tags.live_numbered p (handle_in taken) live took.live).0 same b.next)
            on (inl o) =
                let at : key_of_call live ≡ key = k.calls.one_key call (key_of_call live) key (by_life p (handle_in taken) live took.live refl same) o in
                subst (λ (x : List Mark). IsKnownPut key x stamp value) (sym front)
                (known_more key marks rest stamp value (gives_known key s h marks p taken live stamp value k took (k.kinds.live_kinds p (handle_in taken) live took.live at) at ends))

values_kept : (key : KeyId) (s : Store) (h : Happening) (marks : List Mark) → Happened s h → Known key s marks → CallsHaveKeys h.store (marks ++ h.marks) → ValuesAreKnown key h.store (marks ++ h.marks)
values_kept key s h marks is k keys = record {
  pushed = λ tag stamp onward value sent. elim (sent_cases s h (m.Push tag key stamp onward value) is sent) as (λ _. IsKnownPut key (marks ++ h.marks) stamp value) [
    | inl old ↦ known_more key marks h.marks stamp value (k.values.pushed tag stamp onward value old)
    | inr new ↦ pushed_now key s h marks tag stamp onward value k (sends key s h (m.Push tag key stamp onward value) is k.kinds new refl)
  ];
  versions = versions_kept key s h marks (IsKnownPut key marks) (IsKnownPut key (marks ++ h.marks)) is (said key s marks k) keys (λ stamp value. known_more key marks h.marks stamp value)
      (λ d. known_more key marks h.marks (kept_of h.store d key).version (kept_of h.store d key).value (kept_known key s marks d (kept_of h.store d key) k (kept_now key s h is k.kinds d)));
  given = λ call stamp value earlier later split get. given_after key s h marks call stamp value earlier later is k split get;
}

pub known_kept : (key : KeyId) (s : Store) (h : Happening) (marks : List Mark) → Happened s h → Known key s marks → Known key h.store (marks ++ h.marks)
known_kept key s h marks is k =
    let keys = keys_kept s h marks is k.kinds.tags k.calls in
    record { kinds = kinds_kept key s h is k.kinds; calls = keys; values = values_kept key s h marks is k keys }
