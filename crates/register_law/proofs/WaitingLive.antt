-- Whatever was begun, and has no end, lives; and what lives lives on, unless the event marks its end.
use Rattle.std.proofs.Common.{◌≡◌, ℕ, [], ◌∷◌, ◌++◌, refl, sym, ap, ◌∙◌, subst, arith, Option, Some, None, Contains, inl, inr, Bool, List}
use Rattle.register_law.proofs.Words.{StrongWork, Call, Stamp, Step, tag_of, Message, Reply, View, Tag, counted, Next, Wait, CallState, Handle, key_of_call, tag_of_call, take, learned, proxy_at, view_at, Happening, end_marks, handle_in, ticket_marks, LiveCall, Strong, CallTook, Happened, IsWork, IsLiveAt, IsKindOf, DcId, KeyId, item_at, EndsWith, Mark, Work, Taken, Proxy, Store, Started, next_call, IsLiveCall, OpenCallsLive, Contains-append_right, Contains-append_left, Contains-append_cases, Work as Asked, Store as World}
use Rattle.wire_msg.specs.declared.outputs.Reply.TheVariants as r
use Rattle.strong_proxy.specs.Rule as strong
use Rattle.run_marks.specs.declared.mark.Mark.TheVariants as k
use Rattle.slot_pool.proofs.HistoryLemmas.{put_map}
use Rattle.register_law.proofs.CallsOthers.{StrongStep, counts_it, ignores_it, strong_step, take_end}
use Rattle.register_law.proofs.TagsCalls.{taken_of, proxy_is, started_opens, started_as}
use Rattle.register_law.proofs.TagsSteps.{may_ask, take_goes_on}
use Rattle.register_law.proofs.WaitingMeets.{same_part, Meets, untouched, takes, given_up, meets, takes_and_lives}
use Rattle.register_law.proofs.CallsRows.{OpensAs, opens_read}
use Rattle.register_law.proofs.Basics.{is_itself}
use Rattle.register_law.proofs.MarksAre.{MarksAre, marks_are, moved, MarkIs, nobodys, refused_begin, started_begin, mark_is}
use Rattle.std.proofs.lemmas.Bool.{cond-true}

-- no step changes what a call does
done_work : (next : Next) (call : CallState) → (strong.done next call).state.work ≡ call.work
done_work Wait call = refl
done_work next call = refl

step_work : (call : CallState) (message : Message) (view : View) (seen : ℕ) (made : (Step CallState)) → StrongStep call message view seen made → made.state.work ≡ call.work
step_work call message view seen made (counts_it counts own is) = ap (λ (x : (Step CallState)). x.state.work) is ∙ done_work (strong.next_of (counted call message) view seen) (counted call message)
step_work call message view seen made (ignores_it is) = ap (λ (x : (Step CallState)). x.state.work) is

-- a call that takes a message stays of its kind
take_kind : (call : LiveCall) (message : Message) (view : View) (seen : ℕ) (asked : Asked) → IsKindOf call asked → IsKindOf (take call message view seen).state asked
take_kind (Strong call) message view seen asked kind = subst (λ (x : StrongWork). IsWork x asked) (sym (step_work call message view seen (strong.step call message view seen) (strong_step call message view seen))) kind
take_kind call message view seen asked kind = kind

-- the call lives on, and is of its kind, or the event marks its end
pub data LivesOrEnds (s : World) (h : Happening) (p : ℕ) (handle : Handle) (live : LiveCall) : Type 0 where
  lives : (now : LiveCall) → IsLiveAt h.store p handle now → (tag_of_call now).call ≡ (tag_of_call live).call → ((asked : Asked) → IsKindOf live asked → IsKindOf now asked) → LivesOrEnds s h p handle live
  is_ended : (reply : Reply) → Contains h.marks (k.End (tag_of_call live).call reply) → LivesOrEnds s h p handle live

end_among : (call : Call) (t : Option Stamp) (o : Option Reply) (reply : Reply) → o ≡ Some reply → Contains (ticket_marks call t ++ end_marks call o) (k.End call reply)
end_among call t o reply is =
    subst (λ (x : Option Reply). Contains (ticket_marks call t ++ end_marks call x) (k.End call reply)) (sym is)
    (Contains-append_right (ticket_marks call t) (k.End call reply ∷ []) (k.End call reply) (0, omega arith, refl))

-- the end of a call that took a message is marked
pub end_is_marked : (s : World) (h : Happening) (p : ℕ) (message : Message) (live : LiveCall) → CallTook s p message live h → (reply : Reply) → (taken_of s p message live).out.end ≡ Some reply → Contains h.marks (k.End (tag_of_call live).call reply)
end_is_marked s h p message live t reply end =
    let own : tag_of_call live ≡ tag_of message = take_end live message (view_at (learned (proxy_at s p) message).views (key_of_call live)) (learned (proxy_at s p) message).seen reply end in
    subst (λ (c : Call). Contains h.marks (k.End c reply)) (ap (λ (x : Tag). x.call) (sym own)) (subst (λ (x : Happening). Contains x.marks (k.End (tag_of message).call reply)) (sym t.is)
    (end_among (tag_of message).call (taken_of s p message live).out.ticket (taken_of s p message live).out.end reply end))

-- a call that takes a message lives on or ends
took : (s : World) (h : Happening) (p : ℕ) (message : Message) (live : LiveCall) → CallTook s p message live h → (o : Option Reply) → (taken_of s p message live).out.end ≡ o → LivesOrEnds s h p (handle_in message) live
took s h p message live t None end =
    lives (taken_of s p message live).state (takes_and_lives s h p message live t end)
    (same_part (λ (tag : Tag). tag.call) (λ _. refl) (may_ask live) (tag_of_call live) (key_of_call live) (taken_of s p message live).state (taken_of s p message live).out (take_goes_on live message (view_at (learned (proxy_at s p) message).views (key_of_call live)) (learned (proxy_at s p) message).seen))
    (λ asked kind. take_kind live message (view_at (learned (proxy_at s p) message).views (key_of_call live)) (learned (proxy_at s p) message).seen asked kind)
took s h p message live t (Some reply) end = is_ended reply (end_is_marked s h p message live t reply end)

pub lives_or_ends : (s : World) (h : Happening) → Happened s h → (p : ℕ) (handle : Handle) (live : LiveCall) → IsLiveAt s p handle live → LivesOrEnds s h p handle live
lives_or_ends s h is p handle live there = by (meets s h is p handle live there)
  where
    by : Meets s h p handle live → LivesOrEnds s h p handle live
    by (untouched now) = lives live now refl (λ asked kind. kind)
    by (takes message t same) = subst (λ (x : Handle). LivesOrEnds s h p x live) (sym same) (took s h p message live t (taken_of s p message live).out.end refl)
    by (given_up c) = is_ended r.GivenUp c

-- ---- whatever was begun, and has no end, lives

-- a call that was begun lives
pub started_lives : (s : Store) (h : Happening) (p : ℕ) (key : KeyId) (work : Work) (st : Started s p key work h) → IsLiveAt h.store p st.handle st.taken.state
started_lives s h p key work st =
    subst (λ (x : Happening). IsLiveAt x.store p st.handle st.taken.state) (sym st.is)
    (subst (λ (x : Proxy). item_at x.calls st.handle ≡ Some st.taken.state) (sym (proxy_is s p _ st.exists))
    (put_map (proxy_at s p).calls st.handle st.taken.state st.free st.handle ∙ cond-true _ _ _ (is_itself st.handle.slot st.handle.generation)))

-- what a call that begins is
kind_opened : (tag : Tag) (at : DcId) (view : View) (ticket : Stamp) (strong : Bool) (asked : Work) (taken : Taken) → OpensAs tag at view ticket strong asked taken → IsKindOf taken.state asked
kind_opened tag at view ticket strong asked taken (opens_read member of) = refl
kind_opened tag at view ticket strong asked taken _ = refl

-- what an event begins lives after it, or has its end there too
begun_lives : (s : Store) (h : Happening) → MarksAre s h → (call : Call) (at : KeyId) (work : Work) → Contains h.marks (k.Begin call at work) → ((reply : Reply) → EndsWith h.marks call reply → ⊥) → IsLiveCall h.store call work
begun_lives s h are call at work c goes_on = by call at work (mark_is s h are (k.Begin call at work) c) goes_on
  where
    by : (one : Call) (on : KeyId) (asked : Work) → MarkIs s h (k.Begin one on asked) → ((reply : Reply) → EndsWith h.marks one reply → ⊥) → IsLiveCall h.store one asked
    by one on asked (nobodys _ none) goes_on = absurd (cc)
    by one on asked (refused_begin p key what reply is) goes_on = absurd (goes_on reply (moved _ h.marks (k.End (next_call s p) reply) (sym is) (1, omega arith, refl)))
    by one on asked (started_begin p key what st is) goes_on = record {
      handle = st.handle;
      live = st.taken.state;
      is = started_lives s h p key what st;
      of = ap (λ (t : Tag). t.call) (started_opens s p key what h st).tag_is;
      kind = kind_opened _ _ _ _ _ what st.taken (started_as s p key what h st);
    }

-- every event keeps it
pub open_calls_live_after : (s : Store) (marks : List Mark) (h : Happening) → Happened s h → OpenCallsLive s marks → OpenCallsLive h.store (marks ++ h.marks)
open_calls_live_after s marks h is all call at work c goes_on =
    elim (Contains-append_cases marks h.marks (k.Begin call at work) c) as (λ _. IsLiveCall h.store call work) [
      | inl old ↦ was (all call at work old (λ reply e. goes_on reply (Contains-append_left marks h.marks (k.End call reply) e)))
      | inr new ↦ begun_lives s h (marks_are s h is) call at work new no_more
    ]
  where
    no_more : (reply : Reply) → EndsWith h.marks call reply → ⊥
    no_more reply e = goes_on reply (Contains-append_right marks h.marks (k.End call reply) e)

    was : IsLiveCall s call work → IsLiveCall h.store call work
    was l = by (lives_or_ends s h is call.proxy l.handle l.live l.is)
      where
        by : LivesOrEnds s h call.proxy l.handle l.live → IsLiveCall h.store call work
        by (lives now there same kind) = record { handle = l.handle; live = now; is = there; of = same ∙ l.of; kind = kind work l.kind }
        by (is_ended reply e) = absurd (no_more reply (subst (λ (x : Call). Contains h.marks (k.End x reply)) l.of e))
