-- How a proxy takes a message, in the parts of which the code makes it.
use Rattle.std.proofs.Common.{◌≡◌, ℕ, Bool, List, [], ◌++◌, length, refl, sym, ap, ◌∙◌, subst}
use Rattle.std.specs.Prelude.{Option, Some, None, IfSome}
use Rattle.std.specs.Option.{option_map_or}
use Rattle.std.specs.List.{All}
use Rattle.span_base.specs.declared.ids.DcId.{DcId}
use Rattle.wire_msg.specs.declared.message.Message.{Message}
use Rattle.wire_msg.specs.declared.outputs.Outputs.{Outputs}
use Rattle.wire_msg.specs.declared.outputs.View.{View}
use Rattle.wire_msg.specs.declared.outputs.Reply.{Reply}
use Rattle.wire_msg.specs.Lawful.{IsLawfulView}
use Rattle.wire_msg.specs.Outputs.{IsMade}
use Rattle.wire_msg.specs.Posts.{tag_of}
use Rattle.slot_pool.specs.declared.handles.Handle.{Handle}
use Rattle.slot_pool.specs.Slots.{Slot, item_at, after_write}
use Rattle.world_core.specs.declared.live.LiveCall.{LiveCall}
use Rattle.world_core.specs.declared.lesson.Lesson.{Lesson}
use Rattle.world_core.specs.State.{Proxy}
use Rattle.world_core.specs.Knowing.{learned}
use Rattle.world_core.specs.Calls.{Taken}
use Rattle.world_core.specs.Starting.{Done}
use Rattle.world_core.specs.Step.{handle_in, seen_with, views_with, calls_with, ticket_marks, end_marks, call_takes, only_learns, proxy_takes_as, proxy_takes}
use Rattle.world_core.specs.Proxies.{AreViews, IsProxySlot, IsProxy, after_lesson}
use Rattle.world_core.specs.Taking.{taken_by, taken_under, calls_left, finished}
use Rattle.world_core.proofs.Views.{length-views_with, views_kept}
use Rattle.world_core.proofs.Pools.{written_leaves, left_kept, length-calls_left}

abbrev Calls : Type 0
Calls = List (Slot LiveCall)

-- the posts of a call that is live
pub takes_some : (proxy : Proxy) (message : Message) (lesson : Lesson) (call : LiveCall) → after_lesson proxy lesson ≡ learned proxy message → item_at proxy.calls (handle_in message) ≡ Some call
    → (proxy_takes proxy message).posts ≡ (taken_by call message (views_with proxy.views lesson.shown) lesson.seen).out.posts
unfolding proxy_takes
takes_some proxy message lesson call is live =
    ap (λ (p : Proxy). (proxy_takes_as p message).posts) (sym is)
    ∙ ap (λ o. (option_map_or (call_takes (after_lesson proxy lesson) message) o (only_learns (after_lesson proxy lesson))).posts) live

-- and of none
pub takes_none : (proxy : Proxy) (message : Message) (lesson : Lesson) → after_lesson proxy lesson ≡ learned proxy message → item_at proxy.calls (handle_in message) ≡ None → (proxy_takes proxy message).posts ≡ []
unfolding proxy_takes
takes_none proxy message lesson is live =
    ap (λ (p : Proxy). (proxy_takes_as p message).posts) (sym is)
    ∙ ap (λ o. (option_map_or (call_takes (after_lesson proxy lesson) message) o (only_learns (after_lesson proxy lesson))).posts) live

leaves : (calls : Calls) (handle : Handle) (was call : LiveCall) (end : Option Reply) → item_at calls handle ≡ Some was → calls_left (after_write calls handle call) handle end ≡ calls_with calls handle call end
leaves calls handle was call None live = refl
leaves calls handle was call (Some reply) live = written_leaves calls handle was call live

done_by : (proxy : Proxy) (message : Message) (o : Option LiveCall) → item_at proxy.calls (handle_in message) ≡ o
    → finished proxy (handle_in message) (tag_of message).call (taken_under proxy.calls (handle_in message) message proxy.views proxy.seen o) ≡ option_map_or (call_takes proxy message) o (only_learns proxy)
done_by proxy message None live = refl
done_by proxy message (Some call) live =
    let taken : Taken = taken_by call message proxy.views proxy.seen in
    ap (λ (calls : Calls). let done : Done Proxy = record {
      actor = record proxy { seen = seen_with proxy.seen taken.out.ticket; views = views_with proxy.views taken.out.view; calls = calls };
      posts = taken.out.posts;
      marks = ticket_marks (tag_of message).call taken.out.ticket ++ end_marks (tag_of message).call taken.out.end;
    } in done) (leaves proxy.calls (handle_in message) call taken.state taken.out.end live)

-- what a proxy does that has learned, and whose calls took the message
pub take_done : (proxy : Proxy) (message : Message) (lesson : Lesson) (calls : Calls) (out : Outputs) → after_lesson proxy lesson ≡ learned proxy message
    → IsMade (taken_under proxy.calls (handle_in message) message (views_with proxy.views lesson.shown) lesson.seen (item_at proxy.calls (handle_in message))) calls out
    → finished (after_lesson proxy lesson) (handle_in message) (tag_of message).call (record { state = calls; out = out }) ≡ proxy_takes proxy message
unfolding proxy_takes
take_done proxy message lesson calls out is made =
    ap (λ (cs : Calls). finished (after_lesson proxy lesson) (handle_in message) (tag_of message).call (record { state = cs; out = out })) made.0
    ∙ ap (λ (o : Outputs). finished (after_lesson proxy lesson) (handle_in message) (tag_of message).call (record { state = (taken_under proxy.calls (handle_in message) message (views_with proxy.views lesson.shown) lesson.seen (item_at proxy.calls (handle_in message))).state; out = o })) made.1
    ∙ done_by (after_lesson proxy lesson) message (item_at proxy.calls (handle_in message)) refl
    ∙ ap (λ (p : Proxy). proxy_takes_as p message) is

-- what is true of every proxy is true of one that took a message
pub taken_kept : (at : DcId) (stopped : Bool) (begun seen : ℕ) (views : List View) (shown view : Option View) (calls : Calls) (handle : Handle) (end : Option Reply)
    → AreViews views → IfSome shown IsLawfulView → IfSome view IsLawfulView → length calls ≡ 64 → All (IsProxySlot (length views)) calls
    → IsProxy (record { at = at; stopped = stopped; begun = begun; seen = seen; views = views_with (views_with views shown) view; calls = calls_left calls handle end })
taken_kept at stopped begun seen views shown view calls handle end are shown_lawful view_lawful count slots =
    let keys : length (views_with (views_with views shown) view) ≡ length views = length-views_with (views_with views shown) view ∙ length-views_with views shown in
    record {
      views = views_kept (views_with views shown) view (views_kept views shown are shown_lawful) view_lawful;
      slots = length-calls_left calls handle end ∙ count;
      calls = subst (λ n. All (IsProxySlot n) (calls_left calls handle end)) (sym keys) (left_kept (length views) calls handle end slots);
    }
