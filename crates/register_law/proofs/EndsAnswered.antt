-- What a call is answered with is kept.
use Rattle.std.proofs.Common.{◌≡◌, Bool, true, false, List, [], ◌∷◌, refl, sym, ap, ◌∙◌, subst, arith, if◌then◌else◌, Option, Some, None, IsSome, Contains, ℕ, option_map}
use Rattle.std.proofs.lemmas.Option.{same_Some}
use Rattle.register_law.proofs.Words.{Call, KeyId, greater, stamp_cmp, Stamp, Reply, counted, Mark, Store, Happening, Happened, Begun, Ghost, answered_with, is_begun, noted_of, raised_by, top_after, Inv, IsKept, Step, tag_of, Message, Tag, Found, is_counted, done, value_reply, Next, CallState, strong_rule, key_of_call, tag_of_call, learned, proxy_at, view_at, handle_in, LiveCall, Eventual, EventualMove, Strong, StrongMove, CallTook, HasBegin, IsOfStrong, is_gt, Contains-there}
use Rattle.wire_msg.specs.declared.outputs.Reply.TheVariants as r
use Rattle.strong_proxy.specs.declared.next.Next.TheVariants as n
use Rattle.run_marks.specs.declared.mark.Mark.TheVariants as k
use Rattle.strong_proxy.specs.Rule as strong
use Rattle.register_law.proofs.MovesStable.{kept_stays}
use Rattle.register_law.proofs.CallsStrong.{TookCounted, took_counted}
use Rattle.register_law.proofs.Growth.{grows_by}
use Rattle.register_law.proofs.CallsSent.{next_by}
use Rattle.register_law.proofs.CallsMessages.{rests_by}
use Rattle.register_law.proofs.FloorsMet.{answer_is_kept, stored_is_kept}
use Rattle.register_law.proofs.MovesStep.{move_never, counted_tag, IsMoveEnd, made_by}
use Rattle.register_law.proofs.TagsCalls.{taken_of}
use Rattle.register_law.proofs.CallsOthers.{StrongStep, counts_it, ignores_it, strong_step, take_end}
use Rattle.register_law.proofs.MarksAre.{marks_are, EndIs, at_once, by_message, by_hand, end_is}
use Rattle.register_law.proofs.EndsBegun.{was_of_key}
use Rattle.register_law.proofs.EndsEnded.{dead_answers_none}
use Rattle.register_law.proofs.BegunCalls.{begun_some_stays}

-- a read or a write of the key is answered at a message
pub record AnsweredNow (key : KeyId) (s : Store) (g : Ghost) (h : Happening) (call : Call) (reply : Reply) : Type 0 where
  pub p : ℕ
  pub message : Message
  pub was : CallState
  pub took : CallTook s p message (Strong was) h
  pub at_key : was.progress.key ≡ key
  pub counts : is_counted was message ≡ true
  pub of : (counted was message).progress.phase.tag.call ≡ call
  pub begun : IsSome (g.begun call)
  pub ends : (done (next_by s p message was) (counted was message)).out.end ≡ Some reply

move_answers_none : (o : Option Reply) (reply : Reply) (stamp : Stamp) → IsMoveEnd o → o ≡ Some reply → answered_with reply ≡ Some stamp → ⊥
move_answers_none o reply stamp q e a =
    move_never o reply ⊥ q e (λ n z. cc) (λ n z. cc) (λ n z. cc)

pub answered_now : (key : KeyId) (s : Store) (g : Ghost) (h : Happening) → Happened s h → Inv key s g → (call : Call) (reply : Reply) (stamp : Stamp) → IsSome ((noted_of key s h g).begun call) → Contains h.marks (k.End call reply) → answered_with reply ≡ Some stamp → AnsweredNow key s g h call reply
answered_now key s g h is inv call reply stamp some c answered = by (end_is s h (marks_are s h is) call reply c)
  where
    by : EndIs s h call reply → AnsweredNow key s g h call reply
    by (at_once p at work lt next dead _ marks) = absurd (let e = dead_answers_none reply dead in cc)
    by (by_hand p live given of gives) = absurd (let e : answered_with reply ≡ None = ap answered_with gives in cc)
    by (by_message p message live took of ends) = of_kind live took ends own (inv.ends.live_kinds p (handle_in message) live took.live at_key) at_key
      where
        own : tag_of_call live ≡ tag_of message
        own = take_end live message (view_at (learned (proxy_at s p) message).views (key_of_call live)) (learned (proxy_at s p) message).seen reply ends

        same : (tag_of_call live).call ≡ call
        same = ap (λ (t : Tag). t.call) own ∙ of

        begun : IsSome (g.begun call)
        begun =
            let b : HasBegin g.marks (tag_of_call live).call = inv.ends.live_marked p (handle_in message) live took.live in
            was_of_key key s g h is inv call (k.Begin call b.at b.work) (subst (λ (x : Call). Contains g.marks (k.Begin x b.at b.work)) same b.marked) refl some

        at_key : key_of_call live ≡ key
        at_key = inv.requests.begun_live p (handle_in message) live took.live (subst (λ (x : Call). IsSome (g.begun x)) (sym same) begun)

        of_kind : (one : LiveCall) → CallTook s p message one h → (taken_of s p message one).out.end ≡ Some reply → tag_of_call one ≡ tag_of message → IsOfStrong one → key_of_call one ≡ key → AnsweredNow key s g h call reply
        of_kind (Strong was) took ends own kind at = counted_one (strong.step was message (view_at (learned (proxy_at s p) message).views was.progress.key) (learned (proxy_at s p) message).seen)
            (strong_step was message (view_at (learned (proxy_at s p) message).views was.progress.key) (learned (proxy_at s p) message).seen) ends
          where
            counted_one : (made : (Step CallState)) → StrongStep was message (view_at (learned (proxy_at s p) message).views was.progress.key) (learned (proxy_at s p) message).seen made → made.out.end ≡ Some reply → AnsweredNow key s g h call reply
            counted_one made (counts_it counts _ is) ends = record {
              p = p;
              message = message;
              was = was;
              took = took;
              at_key = at;
              counts = counts;
              of = tag_stays ∙ ap (λ (t : Tag). t.call) own ∙ of;
              begun = begun;
              ends = sym (ap (λ (x : (Step CallState)). x.out.end) is) ∙ ends;
            }
              where
                tag_stays : (counted was message).progress.phase.tag.call ≡ was.progress.phase.tag.call
                tag_stays = ap (λ (t : Tag). t.call) (counted_tag was.progress message)
            counted_one made (ignores_it is) ends = absurd (let e : None ≡ Some reply = sym (ap (λ (x : (Step CallState)). x.out.end) is) ∙ ends in cc)
        of_kind (Eventual one) took ends own kind at = absurd kind
        of_kind (StrongMove one) took ends own kind at = absurd (move_answers_none (taken_of s p message (StrongMove one)).out.end reply stamp (made_by strong_rule one message).end ends answered)
        of_kind (EventualMove one) took ends own kind at = absurd kind

-- what a call that is answered does
pub data AnswerIs (now : CallState) (next : Next) (reply : Reply) : Type 0 where
  gives : (found : Found) → next ≡ n.Value → now.best ≡ Some found → reply ≡ r.Value found.stamp found.value → AnswerIs now next reply
  confirms : next ≡ n.Stored → reply ≡ r.Stored now.progress.leg.ticket → AnswerIs now next reply

given_is : (now : CallState) (best : Option Found) (reply : Reply) → now.best ≡ best → option_map value_reply best ≡ Some reply → AnswerIs now n.Value reply
given_is now None reply best h = absurd (cc)
given_is now (Some found) reply best h = gives found refl best (cc)

pub answer_is : (next : Next) (now : CallState) (reply : Reply) (stamp : Stamp) → answered_with reply ≡ Some stamp → (done next now).out.end ≡ Some reply → AnswerIs now next reply
answer_is n.Value now reply stamp a h = given_is now now.best reply refl h
answer_is n.Stored now reply stamp a h = confirms refl (cc)
answer_is next now reply stamp a h = absurd (cc)

-- the counted call of an answer
pub now_counted : (key : KeyId) (s : Store) (g : Ghost) (h : Happening) (call : Call) (reply : Reply) → Happened s h → Inv key s g → (a : AnsweredNow key s g h call reply) → TookCounted key s g h a.p a.message a.was
now_counted key s g h call reply is inv a = took_counted key s g h a.p a.message a.was is inv a.took a.at_key a.counts

-- ---- what a call was answered with is kept

stamp_of : (reply given : Reply) (stamp : Stamp) → answered_with reply ≡ Some stamp → reply ≡ given → answered_with given ≡ Some stamp
stamp_of reply given stamp a e = ap answered_with (sym e) ∙ a

-- the stamp of an answer is kept
pub answer_kept : (key : KeyId) (s : Store) (g : Ghost) (h : Happening) (call : Call) (reply : Reply) (stamp : Stamp) → Happened s h → Inv key s g → AnsweredNow key s g h call reply → answered_with reply ≡ Some stamp → IsKept key s g stamp
answer_kept key s g h call reply stamp is inv a answered = by (answer_is (next_by s a.p a.message a.was) (counted a.was a.message) reply stamp answered a.ends)
  where
    t : TookCounted key s g h a.p a.message a.was
    t = now_counted key s g h call reply is inv a

    by : AnswerIs (counted a.was a.message) (next_by s a.p a.message a.was) reply → IsKept key s g stamp
    by (gives found next best is) =
        subst (IsKept key s g) (same_Some found.stamp stamp (stamp_of reply (r.Value found.stamp found.value) stamp answered is))
        (answer_is_kept key s g (counted a.was a.message) found inv t.event.backed t.asked t.event.at_key (rests_by s a.p a.message a.was n.Value next) best)
    by (confirms next is) =
        let c = rests_by s a.p a.message a.was n.Stored next in
        subst (IsKept key s g) (same_Some (counted a.was a.message).progress.leg.ticket stamp (stamp_of reply (r.Stored (counted a.was a.message).progress.leg.ticket) stamp answered is))
        (stored_is_kept key s g (counted a.was a.message) c.value inv t.event.backed t.asked t.event.at_key c.work_is c.stage_is c.quorum)

greater_has : (P : Stamp → Type 0) (a b : Stamp) → P a → P b → P (greater a b)
greater_has P a b p q = by (is_gt (stamp_cmp b a))
  where
    by : (t : Bool) → P (if t then b else a)
    by true = q
    by false = p

-- the greatest answer after some marks is one of theirs, or what it was
top_among : (P : Stamp → Type 0) (is_of : Call → Bool) (marks : List Mark) (top : Stamp) → P top → ((call : Call) (reply : Reply) (stamp : Stamp) → Contains marks (k.End call reply) → is_of call ≡ true → answered_with reply ≡ Some stamp → P stamp) → P (top_after is_of marks top)
top_among P is_of [] top p each = p
top_among P is_of (k.End call reply ∷ rest) top p each =
    top_among P is_of rest (if is_of call then raised_by (answered_with reply) top else top) (raised (is_of call) (answered_with reply) refl refl) (λ c x stamp there. each c x stamp (Contains-there (k.End call reply) rest (k.End c x) there))
  where
    raised : (b : Bool) (o : Option Stamp) → is_of call ≡ b → answered_with reply ≡ o → P (if b then raised_by o top else top)
    raised true None e f = p
    raised true (Some stamp) e f = greater_has P top stamp p (each call reply stamp (0, omega arith, refl) e f)
    raised false o e f = p
top_among P is_of (mark ∷ rest) top p each = top_among P is_of rest top p (λ c x stamp there. each c x stamp (Contains-there mark rest (k.End c x) there))

is_begun_some : (o : Option Begun) → is_begun o ≡ true → IsSome o
is_begun_some None h = absurd (cc)
is_begun_some (Some b) h = refl

-- the greatest answer is kept
pub top_kept_after : (key : KeyId) (s : Store) (g : Ghost) (h : Happening) → Happened s h → Inv key s g → IsKept key h.store (noted_of key s h g) (noted_of key s h g).top
top_kept_after key s g h is inv =
    kept_stays key s g h.store (noted_of key s h g) (noted_of key s h g).top (grows_by key s g h is inv) inv.openings.published
    (top_among (IsKept key s g) (λ call. is_begun (g.begun call)) h.marks g.top inv.ends.top_kept
    (λ call reply stamp there of answered. answer_kept key s g h call reply stamp is inv
    (answered_now key s g h is inv call reply stamp (begun_some_stays key s g h is inv.requests call (is_begun_some (g.begun call) of)) there answered) answered))
