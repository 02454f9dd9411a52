use Rattle.std.proofs.Common.{◌≡◌, ◌++◌, List, length, sym, ap, ◌∙◌, subst}
use Rattle.std.specs.List.{All}
use Rattle.wire_msg.specs.declared.tag.Tag.{Tag}
use Rattle.wire_msg.specs.declared.outputs.View.{View}
use Rattle.wire_msg.specs.Outputs.{IsMade}
use Rattle.wire_msg.specs.Posts.{tag_of}
use Rattle.slot_pool.specs.declared.handles.Handle.{Handle}
use Rattle.slot_pool.specs.Slots.{item_at}
use Rattle.world_core.specs.State.{Proxy}
use Rattle.world_core.specs.Knowing.{learned}
use Rattle.world_core.specs.Starting.{Done}
use Rattle.world_core.specs.Step.{handle_in, seen_with, views_with, ticket_marks, end_marks, proxy_takes}
use Rattle.world_core.specs.Proxies.{IsProxySlot, after_lesson}
use Rattle.world_core.specs.Taking.{taken_under, calls_left, finished}
use Rattle.world_core.proofs.Takes.{taken_kept, take_done}
use Rattle.world_core.proofs.proxy.Proxy.take.Goals as goal

views_are : (c : goal.After-of_call) → c.set_view-2.new.views.items ≡ views_with (views_with c.self.inside.views.items c.args.lesson.shown) c.take_under.new.out.view
views_are c =
    let first : c.set_view.new.views.items ≡ views_with c.self.inside.views.items c.args.lesson.shown = c.set_view.ensures in
    let second : c.set_view-2.new.views.items ≡ views_with c.set_view.new.views.items c.take_under.new.out.view = c.set_view-2.ensures in
    second ∙ ap (λ (views : List View). views_with views c.take_under.new.out.view) first

pub invariant_of-self-2 : goal.invariant_of-self-2
invariant_of-self-2 c =
    let calls_are : c.leave.new.calls ≡ calls_left c.take_under.new.calls c.handle_in-handle.result c.take_under.new.out.end = c.leave.ensures in
    let viewed : c.as_slice.result.now ≡ c.self.inside.views.items = c.as_slice.ensures.value in
    let slots : All (IsProxySlot (length c.self.inside.views.items)) c.take_under.new.calls =
    subst (λ (views : List View). All (IsProxySlot (length views)) c.take_under.new.calls) viewed c.in_ok-take_under.ensures.slots in
    rw (views_are c, calls_are)
    (taken_kept c.self.inside.at c.self.inside.stopped c.self.inside.begun c.seen_with-self-inside.result c.self.inside.views.items c.args.lesson.shown c.take_under.new.out.view c.take_under.new.calls c.handle_in-handle.result c.take_under.new.out.end
    c.self.invariant.views c.requires.lesson.lawful c.in_ok-take_under.ensures.view (c.in_ok-take_under.ensures.count ∙ c.self.invariant.slots) slots)

pub returns-clause-ok : goal.returns-clause-ok
returns-clause-ok c =
    let before : Proxy = record { at = c.self.inside.at; stopped = c.self.inside.stopped; begun = c.self.inside.begun; seen = c.self.inside.seen; views = c.self.inside.views.items; calls = c.self.inside.calls } in
    let is : before ≡ c.args.self.now = c.self.view_is in
    let calls_are : c.leave.new.calls ≡ calls_left c.take_under.new.calls c.handle_in-handle.result c.take_under.new.out.end = c.leave.ensures in
    let handle_is : c.handle_in-handle.result ≡ handle_in c.args.message.now = c.handle_in-handle.ensures in
    let tag_is : c.tag_of.result ≡ tag_of c.args.message.now = c.tag_of.ensures in
    let seen_is : c.seen_with-self-inside.result ≡ seen_with c.args.lesson.seen c.take_under.new.out.ticket = c.seen_with-self-inside.ensures in
    let marks_are : c.of_call.result ≡ ticket_marks c.tag_of.result.call c.take_under.new.out.ticket ++ end_marks c.tag_of.result.call c.take_under.new.out.end = c.of_call.ensures in
    let viewed : c.as_slice.result.now ≡ before.views = c.as_slice.ensures.value in
    let made : IsMade (taken_under before.calls (handle_in c.args.message.now) c.args.message.now (views_with before.views c.args.lesson.shown) c.args.lesson.seen (item_at before.calls (handle_in c.args.message.now))) c.take_under.new.calls c.take_under.new.out =
    subst (λ (views : List View). IsMade (taken_under before.calls (handle_in c.args.message.now) c.args.message.now (views_with views c.args.lesson.shown) c.args.lesson.seen (item_at before.calls (handle_in c.args.message.now))) c.take_under.new.calls c.take_under.new.out) viewed
    (subst (λ (handle : Handle). IsMade (taken_under before.calls handle c.args.message.now (views_with c.as_slice.result.now c.args.lesson.shown) c.args.lesson.seen (item_at before.calls handle)) c.take_under.new.calls c.take_under.new.out) handle_is c.in_ok-take_under.ensures.ok) in
    let done : finished (after_lesson before c.args.lesson) (handle_in c.args.message.now) (tag_of c.args.message.now).call (record { state = c.take_under.new.calls; out = c.take_under.new.out }) ≡ proxy_takes before c.args.message.now =
    take_done before c.args.message.now c.args.lesson c.take_under.new.calls c.take_under.new.out (subst (λ (p : Proxy). after_lesson p c.args.lesson ≡ learned p c.args.message.now) (sym is) c.requires.lesson.learned) made in
    let all : finished (after_lesson before c.args.lesson) (handle_in c.args.message.now) (tag_of c.args.message.now).call (record { state = c.take_under.new.calls; out = c.take_under.new.out }) ≡ proxy_takes c.args.self.now c.args.message.now =
    done ∙ ap (λ (p : Proxy). proxy_takes p c.args.message.now) is in
    let with_calls : c.leave.new.calls ≡ calls_left c.take_under.new.calls (handle_in c.args.message.now) c.take_under.new.out.end =
    calls_are ∙ ap (λ (handle : Handle). calls_left c.take_under.new.calls handle c.take_under.new.out.end) handle_is in (
      rw (seen_is, views_are c, with_calls) (ap (λ (d : Done Proxy). d.actor) all),
      ap (λ (d : Done Proxy). d.posts) all,
      marks_are ∙ ap (λ (t : Tag). ticket_marks t.call c.take_under.new.out.ticket ++ end_marks t.call c.take_under.new.out.end) tag_is ∙ ap (λ (d : Done Proxy). d.marks) all,
    )
