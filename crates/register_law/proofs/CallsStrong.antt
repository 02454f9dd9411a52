-- Every event keeps what the reads and the writes of the key rest on: a call that goes on, and the cases put together.
use Rattle.std.proofs.Common.{◌≡◌, ℕ, true, List, [], ◌++◌, refl, sym, ap, ◌∙◌, subst, Option, Some, None, option_map, ◌<◌, ◌≤◌, length, IsSome, Contains, subst₂}
use Rattle.register_law.proofs.Words.{Call, KeyId, IsAbove, IsAtMost, Stamp, Message, View, has_quorum, Found, best_stamp, done, value_reply, Next, Enter, Look, Repair, Value, Wait, Stage, First, Second, CallState, ToRead, ToWrite, Happening, end_marks, ticket_marks, Started, Begun, Ghost, noted_of, Inv, FirstCounted, HavesCounted, IsStrongRequest, StrongCounted, IsKnown, WasSent, MessagesAreBacked, CallBacked, StrongWork as Work, StoreNext as Store, Work as Asked, Store as World, Step, tag_of, Outputs, Post, Tag, counted, is_counted, next_of, nothing_done, Handle, Mark, learned, first_tag, proxy_at, view_at, handle_in, LiveCall, Strong, CallTook, Happened, next_call, IsLiveStrong, StrongCallsAreBacked, none_among}
use Rattle.wire_msg.specs.declared.message.Message.TheVariants as m
use Rattle.wire_msg.specs.declared.actor.Actor.TheVariants as to
use Rattle.strong_proxy.specs.Rule.{step}
use Rattle.strong_proxy.proofs.Endings.{progress_after-key}
use Rattle.run_marks.specs.declared.mark.Mark.TheVariants as k
use Rattle.register_law.proofs.MovesStable.{known_stays}
use Rattle.register_law.proofs.Next.{RestsOn, found_behind, AnswersWhen, at_mark, repaired, rests_on}
use Rattle.register_law.proofs.CallsAnswers.{PhaseRequest, counting, phase_request}
use Rattle.register_law.proofs.CallsPhase.{InEvent}
use Rattle.register_law.proofs.CallsGoes.{waits_keep, repairs_keep, stores_keep, looks_keep, enters_keep}
use Rattle.register_law.proofs.OpeningsShown.{IsOpenedView, learned_view, opened_at}
use Rattle.register_law.proofs.CallsStart.{start_view, starts_backed, BeginsAs, begins_as}
use Rattle.register_law.proofs.Growth.{grows_by}
use Rattle.register_law.proofs.MovesStep.{counted_tag}
use Rattle.register_law.proofs.Basics.{Each, each_none}
use Rattle.register_law.proofs.CallsOthers.{StrongStep, counts_it, ignores_it, strong_step}
use Rattle.register_law.proofs.MarksAre.{start_ticket}
use Rattle.register_law.proofs.CallsLive.{view_by, seen_by, NotOwn, LiveAfter, stayed, begun, went_on, live_after}
use Rattle.register_law.proofs.TagsCalls.{taken_of, started_as}
use Rattle.register_law.proofs.CallsBacked.{stays}

-- a read's first phase that has its number found a version of at least the floor
abbrev pub ReadFloor : KeyId → World → Ghost → Type 0
ReadFloor key s g = (call : CallState) (best : Found) (b : Begun) → CallBacked key s g call → call.progress.key ≡ key → call.work ≡ ToRead → call.progress.stage ≡ First → has_quorum call.progress.leg.f call.progress.phase ≡ true
    → call.best ≡ Some best → g.begun call.progress.phase.tag.call ≡ Some b → IsAtMost b.floor best.stamp

-- a write's first phase that has its number has a ticket above the floor
abbrev pub AskFloor : KeyId → World → Ghost → Type 0
AskFloor key s g = (call : CallState) (value : List ℕ) (b : Begun) → CallBacked key s g call → call.progress.key ≡ key → call.work ≡ ToWrite value → call.progress.stage ≡ First → has_quorum call.progress.leg.f call.progress.phase ≡ true
    → g.begun call.progress.phase.tag.call ≡ Some b → IsAbove call.progress.leg.ticket b.floor

-- a call begins under its key's view
abbrev pub StartsAreKeyed : World → Happening → Type 0
StartsAreKeyed s h = (p : ℕ) (at : KeyId) (asked : Asked) → Started s p at asked h → (start_view s p at).key ≡ at

pub read_request : (work : Work) (stage : Stage) (call : CallState) (request : Message) → work ≡ ToRead → stage ≡ First → IsStrongRequest work stage call request → request ≡ m.Read call.progress.phase.tag call.progress.key call.progress.leg.epoch
read_request work stage call request a b h = subst₂ (λ (w : Work) (x : Stage). IsStrongRequest w x call request) a b h

pub store_request : (work : Work) (stage : Stage) (call : CallState) (request : Message) (value : List ℕ) → work ≡ ToWrite value → stage ≡ Second → IsStrongRequest work stage call request → request ≡ m.Store call.progress.phase.tag call.progress.key call.progress.leg.ticket value
store_request work stage call request value a b h = subst₂ (λ (w : Work) (x : Stage). IsStrongRequest w x call request) a b h

pub haves_of : (s : World) (work : Work) (stage : Stage) (call : CallState) (best : Found) → work ≡ ToRead → stage ≡ First → call.best ≡ Some best → StrongCounted s work stage call → HavesCounted s call best
haves_of s work stage call best a b e h = subst (FirstCounted s call) e (subst₂ (λ (w : Work) (x : Stage). StrongCounted s w x call) a b h)

-- a read in its second phase has what it repairs
pub repairs_found : (work : Work) (stage : Stage) (call : CallState) (request : Message) → work ≡ ToRead → stage ≡ Second → IsStrongRequest work stage call request
    → (found : Found) × (call.best ≡ Some found) × (request ≡ m.Repair call.progress.phase.tag call.progress.key call.progress.leg.epoch found.stamp found.value)
repairs_found work stage call request a b h = subst₂ (λ (w : Work) (x : Stage). IsStrongRequest w x call request) a b h

-- what a read found is a version that is known
pub found_known : (key : KeyId) (s : World) (g : Ghost) (now : CallState) (best : Found) → MessagesAreBacked key s g → CallBacked key s g now → PhaseRequest s now → now.progress.key ≡ key → now.work ≡ ToRead → now.progress.stage ≡ First → now.best ≡ Some best
    → IsKnown key s best.stamp best.value
found_known key s g now best messages b asked at_key work_is stage_is best_is =
    let haves = haves_of s now.work now.progress.stage now best work_is stage_is best_is b.counted in
    let read : asked.request ≡ m.Read now.progress.phase.tag now.progress.key now.progress.leg.epoch = read_request now.work now.progress.stage now asked.request work_is stage_is asked.is in
    let sent : WasSent s (m.Read now.progress.phase.tag key now.progress.leg.epoch) =
    subst (λ (x : KeyId). WasSent s (m.Read now.progress.phase.tag x now.progress.leg.epoch)) at_key (subst (λ (x : Message). WasSent s x) read asked.sent) in
    (messages.read_known now.progress.phase.tag now.progress.leg.epoch haves.found.d best.stamp haves.found.mark best.value sent haves.found.sent).0

pub no_best : (best : Option Found) → option_map value_reply best ≡ None → best ≡ None
no_best None h = refl
no_best (Some found) h = absurd (cc)

-- a read that answers has something to answer
pub never_silent : (s : World) (now : CallState) (stage : Stage) (work : Work) → AnswersWhen stage work (best_stamp now.best) now.progress → stage ≡ now.progress.stage → work ≡ now.work → PhaseRequest s now → now.best ≡ None → ⊥
never_silent s now stage work (at_mark version a b q is ge) x y asked none = (let e : best_stamp now.best ≡ None = ap best_stamp none in cc)
never_silent s now stage work (repaired a b q) x y asked none =
    let f = repairs_found now.work now.progress.stage now asked.request (sym y ∙ b) (sym x ∙ a) asked.is in
    let e = f.1 in cc

-- of a call that goes on
pub goes_on : (key : KeyId) (s : World) (g : Ghost) (h : Happening) (now : CallState) (view : View) (seen : ℕ) (next : Next) → InEvent key s g h now → Inv key s g → ReadFloor key s g → IsOpenedView key s g view → PhaseRequest s now
    → h.posts ≡ (done next now).out.posts → h.marks ≡ ticket_marks now.progress.phase.tag.call (done next now).out.ticket ++ end_marks now.progress.phase.tag.call (done next now).out.end → (done next now).out.end ≡ None
    → RestsOn now.progress.stage now.work (best_stamp now.best) now.progress view seen next → CallBacked key h.store (noted_of key s h g) (done next now).state
goes_on key s g h now view seen Wait e inv floor known asked posts marks end rests = waits_keep key s g h now e posts marks
goes_on key s g h now view seen Value e inv floor known asked posts marks end rests = absurd (never_silent s now now.progress.stage now.work rests refl refl asked (no_best now.best end))
goes_on key s g h now view seen Repair e inv floor known asked posts marks end rests =
    let f = found_behind now.best rests.version rests.best_is in
    repairs_keep key s g h now f.0 e posts marks rests.stage_is rests.work_is f.1
    (known_stays key s g h.store (noted_of key s h g) f.0.stamp f.0.value e.grows (found_known key s g now f.0 inv.messages e.backed asked e.at_key rests.work_is rests.stage_is f.1))
    (λ b is. floor now f.0 b e.backed e.at_key rests.work_is rests.stage_is rests.quorum f.1 is)
goes_on key s g h now view seen Store e inv floor known asked posts marks end rests = stores_keep key s g h now rests.value e posts marks rests.stage_is rests.work_is
goes_on key s g h now view seen Look e inv floor known asked posts marks end rests = looks_keep key s g h now view e posts marks rests.over
goes_on key s g h now view seen (Enter leg) e inv floor known asked posts marks end rests =
    enters_keep key s g h now view seen leg e known inv.openings.policies_quorum posts (marks ∙ no_end now.progress.phase.tag.call (done (Enter leg) now).out.ticket) rests
  where
    no_end : (call : Call) (o : Option Stamp) → ticket_marks call o ++ [] ≡ ticket_marks call o
    no_end call None = refl
    no_end call (Some t) = refl
goes_on key s g h now view seen next e inv floor known asked posts marks end rests = absurd (cc)

-- ---- every event keeps what the reads and the writes of the key rest on: the cases put together

pub done_key : (next : Next) (call : CallState) → (done next call).state.progress.key ≡ call.progress.key
done_key Wait call = refl
done_key next call = refl

pub strong_is : (a b : CallState) → Strong a ≡ Strong b → a ≡ b
strong_is a b h = cc

-- a call, its answer counted, in the event that the answer makes
pub record TookCounted (key : KeyId) (s : World) (g : Ghost) (h : Happening) (p : ℕ) (message : Message) (was : CallState) : Type 0 where
  pub event : InEvent key s g h (counted was message)
  pub asked : PhaseRequest s (counted was message)
  pub view : IsOpenedView key s g (view_by s p message was)

pub took_counted : (key : KeyId) (s : World) (g : Ghost) (h : Happening) (p : ℕ) (message : Message) (was : CallState) → Happened s h → Inv key s g → CallTook s p message (Strong was) h → was.progress.key ≡ key → is_counted was message ≡ true → TookCounted key s g h p message was
took_counted key s g h p message was is inv took at_key counts =
    let sent : WasSent s message = (to.Proxy p, took.sent) in
    let live : IsLiveStrong key s p (handle_in message) was = record { live = took.live; at_key = at_key } in
    let before : CallBacked key s g was = inv.strong p (handle_in message) was live in
    let tag : (counted was message).progress.phase.tag ≡ was.progress.phase.tag = counted_tag was.progress message in
    let call : was.progress.phase.tag.call ≡ (counted was message).progress.phase.tag.call = ap (λ (t : Tag). t.call) (sym tag) in
    let after : CallBacked key s g (counted was message) = counting key s g was message counts sent before in
    let asked : PhaseRequest s was = phase_request key s g was message inv.tags counts sent before in
    let numbered = inv.tags.live_numbered p (handle_in message) (Strong was) took.live in
    record {
      event = record {
        is = is;
        grows = grows_by key s g h is inv;
        published = inv.openings.published;
        some = subst (λ (c : Call). IsSome (g.begun c)) call (inv.requests.live_begun p (handle_in message) (Strong was) took.live at_key);
        at_key = progress_after-key was.progress message ∙ at_key;
        bound = λ request posted own. subst (λ (t : Tag). (tag_of request).phase ≤ t.phase) (sym tag) (inv.tags.phase_bound p (handle_in message) (Strong was) request took.live posted (own ∙ sym call));
        backed = after;
      };
      asked = record {
        request = asked.request;
        sent = asked.sent;
        some = asked.some;
        tag_is = asked.tag_is ∙ sym tag;
        is = after.request asked.request asked.sent asked.some (record { call = ap (λ (t : Tag). t.call) (asked.tag_is ∙ sym tag); phase = ap (λ (t : Tag). t.phase) (asked.tag_is ∙ sym tag) });
      };
      view = subst (λ (x : KeyId). IsOpenedView key s g (view_at (learned (proxy_at s p) message).views x)) (sym at_key)
          (learned_view key s g inv (proxy_at s p).views message sent (opened_at key s g inv p (subst (λ (n : ℕ). n < length s.proxies) numbered.1 numbered.0.proxy)));
    }

-- what the event of a call's answer puts out
pub posts_of : (s : World) (h : Happening) (p : ℕ) (message : Message) (was : LiveCall) → CallTook s p message was h → h.posts ≡ (taken_of s p message was).out.posts
posts_of s h p message was took = ap (λ (x : Happening). x.posts) took.is

pub marks_of : (s : World) (h : Happening) (p : ℕ) (message : Message) (was : LiveCall) → CallTook s p message was h → h.marks ≡ ticket_marks (tag_of message).call (taken_of s p message was).out.ticket ++ end_marks (tag_of message).call (taken_of s p message was).out.end
marks_of s h p message was took = ap (λ (x : Happening). x.marks) took.is

-- a call that took a message and lives on
strong_went_on : (key : KeyId) (s : World) (g : Ghost) (h : Happening) (p : ℕ) (message : Message) (was : CallState) (made : (Step CallState)) → Happened s h → Inv key s g → ReadFloor key s g → CallTook s p message (Strong was) h
    → StrongStep was message (view_by s p message was) (seen_by s p message) made → (taken_of s p message (Strong was)).out ≡ made.out → made.out.end ≡ None → made.state.progress.key ≡ key
    → CallBacked key h.store (noted_of key s h g) made.state
strong_went_on key s g h p message was made is inv floor took (counts_it counts own made_is) out end at_key =
    let next : Next = next_of (counted was message) (view_by s p message was) (seen_by s p message) in
    let was_key : was.progress.key ≡ key =
    sym (progress_after-key was.progress message) ∙ sym (done_key next (counted was message)) ∙ ap (λ (x : (Step CallState)). x.state.progress.key) (sym made_is) ∙ at_key in
    let t = took_counted key s g h p message was is inv took was_key counts in
    let outs : (taken_of s p message (Strong was)).out ≡ (done next (counted was message)).out = out ∙ ap (λ (x : (Step CallState)). x.out) made_is in
    let call : (tag_of message).call ≡ (counted was message).progress.phase.tag.call = ap (λ (x : Tag). x.call) (sym own ∙ sym (counted_tag was.progress message)) in
    subst (λ (x : (Step CallState)). CallBacked key h.store (noted_of key s h g) x.state) (sym made_is)
    (goes_on key s g h (counted was message) (view_by s p message was) (seen_by s p message) next t.event inv floor t.view t.asked
    (posts_of s h p message (Strong was) took ∙ ap (λ (o : Outputs). o.posts) outs)
    (marks_of s h p message (Strong was) took ∙ ap (λ (o : Outputs). ticket_marks (tag_of message).call o.ticket ++ end_marks (tag_of message).call o.end) outs
    ∙ ap (λ (c : Call). ticket_marks c (done next (counted was message)).out.ticket ++ end_marks c (done next (counted was message)).out.end) call)
    (sym (ap (λ (x : (Step CallState)). x.out.end) made_is) ∙ end)
    (rests_on (counted was message) (view_by s p message was) (seen_by s p message) next refl))
strong_went_on key s g h p message was made is inv floor took (ignores_it made_is) out end at_key =
    let same_key : was.progress.key ≡ key = ap (λ (x : (Step CallState)). x.state.progress.key) (sym made_is) ∙ at_key in
    let live : IsLiveStrong key s p (handle_in message) was = record { live = took.live; at_key = same_key } in
    let outs : (taken_of s p message (Strong was)).out ≡ (nothing_done was).out = out ∙ ap (λ (x : (Step CallState)). x.out) made_is in
    let posts : h.posts ≡ [] = posts_of s h p message (Strong was) took ∙ ap (λ (o : Outputs). o.posts) outs in
    let marks : h.marks ≡ [] = marks_of s h p message (Strong was) took ∙ ap (λ (o : Outputs). ticket_marks (tag_of message).call o.ticket ++ end_marks (tag_of message).call o.end) outs in
    subst (λ (x : (Step CallState)). CallBacked key h.store (noted_of key s h g) x.state) (sym made_is)
    (stays key s g h was is (grows_by key s g h is inv) inv.openings.published (inv.requests.live_begun p (handle_in message) (Strong was) took.live same_key)
    (record { posts = subst (λ (x : List Post). Each (NotOwn s was.progress.phase.tag) x) (sym posts) (each_none (NotOwn s was.progress.phase.tag)); tickets = λ other c. none_among (k.Ticket was.progress.phase.tag.call other) (subst (λ (x : List Mark). Contains x (k.Ticket was.progress.phase.tag.call other)) marks c) })
    (inv.strong p (handle_in message) was live))

-- a call that began
strong_begun : (key : KeyId) (s : World) (g : Ghost) (h : Happening) (p : ℕ) (at : KeyId) (asked : Asked) (st : Started s p at asked h) (call : CallState) → Happened s h → Inv key s g → StartsAreKeyed s h
    → BeginsAs (first_tag (next_call s p) st.handle) (proxy_at s p).at (start_view s p at) (start_ticket s p at) asked st.taken call → call.progress.key ≡ key → CallBacked key h.store (noted_of key s h g) call
strong_begun key s g h p at asked st call is inv keyed o at_key =
    let view_key = keyed p at asked st in
    subst (λ (c : CallState). CallBacked key h.store (noted_of key s h g) c) (sym o.is)
    (starts_backed key s g h p at asked st o.work o.ticket inv.tags inv.openings inv.ends (grows_by key s g h is inv) o.agree
    (sym view_key ∙ ap (λ (c : CallState). c.progress.key) (sym o.is) ∙ at_key) view_key o.member o.is_member (ap (λ (x : Happening). x.posts) st.is ∙ o.posts))

pub strong_kept : (key : KeyId) (s : World) (g : Ghost) (h : Happening) → Happened s h → Inv key s g → StartsAreKeyed s h → ReadFloor key s g → StrongCallsAreBacked key h.store (noted_of key s h g)
strong_kept key s g h is inv keyed floor = λ p handle call live. by p handle call live (live_after s h inv.tags is p handle (Strong call) live.live)
  where
    went : (p : ℕ) (message : Message) (was : LiveCall) (call : CallState) → CallTook s p message was h → Strong call ≡ (taken_of s p message was).state → (taken_of s p message was).out.end ≡ None → call.progress.key ≡ key → CallBacked key h.store (noted_of key s h g) call
    went p message (Strong was) call took e end at_key =
        let same : call ≡ (step was message (view_by s p message was) (seen_by s p message)).state = strong_is call (step was message (view_by s p message was) (seen_by s p message)).state e in
        subst (λ (c : CallState). CallBacked key h.store (noted_of key s h g) c) (sym same)
        (strong_went_on key s g h p message was (step was message (view_by s p message was) (seen_by s p message)) is inv floor took
        (strong_step was message (view_by s p message was) (seen_by s p message)) refl end (ap (λ (c : CallState). c.progress.key) (sym same) ∙ at_key))
    went p message live_one call took e end at_key = absurd (cc)

    by : (p : ℕ) (handle : Handle) (call : CallState) → IsLiveStrong key h.store p handle call → LiveAfter s h p handle (Strong call) → CallBacked key h.store (noted_of key s h g) call
    by p handle call live (stayed old apart) =
        stays key s g h call is (grows_by key s g h is inv) inv.openings.published (inv.requests.live_begun p handle (Strong call) old live.at_key) apart (inv.strong p handle call (record { live = old; at_key = live.at_key }))
    by p handle call live (begun at asked st e f) =
        strong_begun key s g h p at asked st call is inv keyed (begins_as _ _ _ _ _ asked st.taken call (started_as s p at asked h st) f) live.at_key
    by p handle call live (went_on message was took e f end) = went p message was call took f end live.at_key
