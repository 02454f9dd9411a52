-- A live call of a strong key reads, writes or moves it as one.
use Rattle.std.proofs.Common.{◌≡◌, ℕ, Bool, true, sym, ap, ◌∙◌, subst}
use Rattle.register_law.proofs.Words.{DcId, KeyId, Stamp, Message, Outputs, View, Tag, Handle, Work, Taken, key_of_call, tag_of_call, take, learned, first_tag, ticket_of, Store, proxy_at, view_at, Happening, LiveCall, Eventual, EventualMove, Strong, StrongMove, Happened, next_call, IsOfStrong, Ghost, Inv, IsLiveAt}
use Rattle.register_law.proofs.CallsRows.{OpensAs, opens_read}
use Rattle.register_law.proofs.TagsSends.{GoesOn, stays, turns, ends}
use Rattle.register_law.proofs.TagsSteps.{take_goes_on}
use Rattle.register_law.proofs.TagsCalls.{LiveIs, was_live, begins, went_on, taken_of, live_after, started_opens, started_as}
use Rattle.register_law.proofs.RequestsKept.{Before, start_strong}
use Rattle.register_law.proofs.OpeningsTold.{key_is_strong}

opened_kind : (tag : Tag) (at : DcId) (view : View) (ticket : Stamp) (work : Work) (taken : Taken) → OpensAs tag at view ticket true work taken → IsOfStrong taken.state
opened_kind tag at view ticket work taken (opens_read member of) = tt
opened_kind tag at view ticket work taken _ = tt

kind_stays : (call : LiveCall) (message : Message) (view : View) (seen : ℕ) → IsOfStrong call → IsOfStrong (take call message view seen).state
kind_stays (Strong call) message view seen h = tt
kind_stays (Eventual call) message view seen h = absurd h
kind_stays (StrongMove call) message view seen h = tt
kind_stays (EventualMove call) message view seen h = absurd h

key_stays : (May : Stamp → Type 0) (tag : Tag) (key : KeyId) (call : LiveCall) (out : Outputs) → GoesOn May tag key call out → key_of_call call ≡ key
key_stays May tag key call out (stays same _ _) = same
key_stays May tag key call out (turns same _ _) = same
key_stays May tag key call out (ends same _ _ _) = same

-- a call that takes a message keeps its key
pub taken_key : (s : Store) (p : ℕ) (message : Message) (call : LiveCall) → key_of_call (taken_of s p message call).state ≡ key_of_call call
taken_key s p message call =
    key_stays _ (tag_of_call call) (key_of_call call) (taken_of s p message call).state (taken_of s p message call).out
    (take_goes_on call message (view_at (learned (proxy_at s p) message).views (key_of_call call)) (learned (proxy_at s p) message).seen)

pub live_kinds_after : (key : KeyId) (s : Store) (g : Ghost) (h : Happening) → Happened s h → Inv key s g → (p : ℕ) (handle : Handle) (live : LiveCall) → IsLiveAt h.store p handle live → key_of_call live ≡ key → IsOfStrong live
live_kinds_after key s g h is inv p handle live lives at_key = by (live_after s h is p handle live lives)
  where
    before : Before key s g
    before = record { tags = inv.tags; requests = inv.requests; strong = key_is_strong key s g inv.openings }

    by : LiveIs s h p handle live → IsOfStrong live
    by (was_live there) = inv.ends.live_kinds p handle live there at_key
    by (begins at work st _ new) =
        let opened = started_opens s p at work h st in
        let strongly = start_strong key s g h p at work before st (sym opened.key_is ∙ ap key_of_call (sym new) ∙ at_key) in
        subst IsOfStrong (sym new) (opened_kind _ _ _ _ work st.taken (subst (λ (b : Bool). OpensAs (first_tag (next_call s p) st.handle) (proxy_at s p).at (view_at (proxy_at s p).views at) (ticket_of (proxy_at s p) (view_at (proxy_at s p).views at) (next_call s p)) b work st.taken) strongly (started_as s p at work h st)))
    by (went_on message old took _ new _) =
        let was = inv.ends.live_kinds p _ old took.live (sym (taken_key s p message old) ∙ ap key_of_call (sym new) ∙ at_key) in
        subst IsOfStrong (sym new) (kind_stays old message (view_at (learned (proxy_at s p) message).views (key_of_call old)) (learned (proxy_at s p) message).seen was)
