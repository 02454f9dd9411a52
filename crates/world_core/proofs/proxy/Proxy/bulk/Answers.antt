use Rattle.std.proofs.Common.{◌≡◌, List, sym, ap, ◌∙◌}
use Rattle.std.specs.Prelude.{Some, None}
use Rattle.std.specs.Option.{option_copied}
use Rattle.wire_msg.specs.Sizes.{bulk_of}
use Rattle.wire_msg.specs.declared.outputs.View.{View}
use Rattle.slot_pool.specs.Slots.{Slot, item_at}
use Rattle.world_core.specs.declared.live.LiveCall.{LiveCall}
use Rattle.world_core.specs.State.{Proxy}
use Rattle.world_core.specs.Step.{handle_in, views_with}
use Rattle.world_core.specs.Taking.{taken_by}
use Rattle.wire_msg.proofs.Bulks.{bulk_of-none}
use Rattle.world_core.proofs.Takes.{takes_some, takes_none}
use Rattle.world_core.proofs.proxy.Proxy.bulk.Goals as goal

pub returns-in-Some : goal.returns-in-Some
returns-in-Some c =
    let calls_are : c.self.inside.calls ≡ c.args.self.now.calls = ap (λ (p : Proxy). p.calls) c.self.view_is in
    let views_are : c.as_slice.result.now ≡ c.args.self.now.views = c.as_slice.ensures.value ∙ ap (λ (p : Proxy). p.views) c.self.view_is in
    let live : item_at c.args.self.now.calls (handle_in c.args.message.now) ≡ Some c.in-Some.call.now =
    ap (λ (calls : List (Slot LiveCall)). item_at calls (handle_in c.args.message.now)) (sym calls_are) ∙ ap (item_at c.self.inside.calls) (sym c.handle_in.ensures) ∙ sym c.get.ensures ∙ ap option_copied c.in-Some.is in
    c.bulk.ensures
    ∙ ap (λ (views : List View). bulk_of (taken_by c.in-Some.call.now c.args.message.now (views_with views c.args.lesson.now.shown) c.args.lesson.now.seen).out.posts) views_are
    ∙ ap bulk_of (sym (takes_some c.args.self.now c.args.message.now c.args.lesson.now c.in-Some.call.now c.requires.lesson.learned live))

pub returns-in-None : goal.returns-in-None
returns-in-None c =
    let calls_are : c.self.inside.calls ≡ c.args.self.now.calls = ap (λ (p : Proxy). p.calls) c.self.view_is in
    let dead : item_at c.args.self.now.calls (handle_in c.args.message.now) ≡ None =
    ap (λ (calls : List (Slot LiveCall)). item_at calls (handle_in c.args.message.now)) (sym calls_are) ∙ ap (item_at c.self.inside.calls) (sym c.handle_in.ensures) ∙ sym c.get.ensures ∙ ap option_copied c.in-None.is in
    c.none.ensures ∙ sym bulk_of-none ∙ ap bulk_of (sym (takes_none c.args.self.now c.args.message.now c.args.lesson.now c.requires.lesson.learned dead))
