use Rattle.std.proofs.Common.{◌≡◌, ◌+◌, ◌<◌, length, sym, ap, ◌∙◌, subst, arith}
use Rattle.std.specs.Prelude.{Ok, Err, Some, option_map}
use Rattle.std.proofs.lemmas.Result.{IfOk-weaker}
use Rattle.span_base.specs.declared.ids.Call.{Call}
use Rattle.span_base.specs.declared.ids.KeyId.{KeyId}
use Rattle.wire_msg.specs.declared.tag.Tag.{Tag}
use Rattle.wire_msg.specs.declared.outputs.View.{View}
use Rattle.run_marks.specs.declared.mark.Work.{Work}
use Rattle.run_marks.specs.declared.mark.Mark.TheVariants as k
use Rattle.world_core.specs.declared.beginning.Beginning.{Beginning}
use Rattle.world_core.specs.State.{Proxy, view_at}
use Rattle.world_core.specs.Starting.{first_tag, opened_call, starts}
use Rattle.world_core.specs.Proxies.{begun_with, AreOfKeysBelow}
use Rattle.world_core.specs.Taking.{way_in, ticket_under, drawn_ticket, at_once, beginning_of}
use Rattle.world_core.proofs.Pools.{of_key_below}
use Rattle.world_core.proofs.Starts.{ends_so, begins_ok}
use Rattle.world_core.proofs.proxy.Proxy.begin.Goals as goal

pub returns-in-Ok-clause-ok : goal.returns-in-Ok-clause-ok
returns-in-Ok-clause-ok c =
    let now : Proxy = c.args.self.now in
    let view : View = view_at now.views c.args.key in
    let call : Call = record { proxy = c.args.number; seq = now.begun + 1 } in
    let before : Proxy = record { at = c.self.inside.at; stopped = c.self.inside.stopped; begun = c.self.inside.begun; seen = c.self.inside.seen; views = c.self.inside.views.items; calls = c.self.inside.calls } in
    let is : before ≡ now = c.self.view_is in
    let viewed : c.view-view.result.now ≡ view = c.view-view.ensures.value in
    let copied : c.in_ok-copy_of.field-0 ≡ c.args.work.now = c.in_ok-copy_of.ensures in
    let tagged : c.first_tag-tag.result ≡ first_tag (record { proxy = c.args.number; seq = before.begun + 1 }) c.in-Ok.handle = c.first_tag-tag.ensures in
    let way : way_in now view c.args.work.now ≡ Ok c.in-Ok.handle = ap (λ v. way_in now v c.args.work.now) (sym viewed) ∙ sym c.way_in.ensures.way ∙ c.in-Ok.is in
    IfOk-weaker c.first_step.result _ (λ (beginning : Beginning). begun_with now beginning ≡ starts c.args.strong c.args.number now c.args.key c.args.work.now)
    (λ beginning made. begins_ok c.args.strong c.args.number now c.args.key c.args.work.now c.in-Ok.handle beginning way
    (subst (λ (p : Proxy). option_map (beginning_of p.seen (k.Begin (record { proxy = c.args.number; seq = p.begun + 1 }) c.args.key c.args.work.now) (record { proxy = c.args.number; seq = p.begun + 1 }) (drawn_ticket view p.seen (record { proxy = c.args.number; seq = p.begun + 1 }) c.args.work.now)) (opened_call c.args.strong (first_tag (record { proxy = c.args.number; seq = p.begun + 1 }) c.in-Ok.handle) p.at view (ticket_under view p.seen (record { proxy = c.args.number; seq = p.begun + 1 })) c.args.work.now) ≡ Some beginning) is
    (subst (λ (w : Work). option_map (beginning_of before.seen (k.Begin (record { proxy = c.args.number; seq = before.begun + 1 }) c.args.key w) (record { proxy = c.args.number; seq = before.begun + 1 }) (drawn_ticket view before.seen (record { proxy = c.args.number; seq = before.begun + 1 }) c.args.work.now)) (opened_call c.args.strong (first_tag (record { proxy = c.args.number; seq = before.begun + 1 }) c.in-Ok.handle) before.at view (ticket_under view before.seen (record { proxy = c.args.number; seq = before.begun + 1 })) c.args.work.now) ≡ Some beginning) copied
    (subst (λ (v : View). option_map (beginning_of before.seen (k.Begin (record { proxy = c.args.number; seq = before.begun + 1 }) c.args.key c.in_ok-copy_of.field-0) (record { proxy = c.args.number; seq = before.begun + 1 }) (drawn_ticket v before.seen (record { proxy = c.args.number; seq = before.begun + 1 }) c.args.work.now)) (opened_call c.args.strong (first_tag (record { proxy = c.args.number; seq = before.begun + 1 }) c.in-Ok.handle) before.at v (ticket_under v before.seen (record { proxy = c.args.number; seq = before.begun + 1 })) c.args.work.now) ≡ Some beginning) viewed
    (subst (λ (t : Tag). option_map (beginning_of before.seen (k.Begin (record { proxy = c.args.number; seq = before.begun + 1 }) c.args.key c.in_ok-copy_of.field-0) t.call (drawn_ticket c.view-view.result.now before.seen t.call c.args.work.now)) (opened_call c.args.strong t before.at c.view-view.result.now (ticket_under c.view-view.result.now before.seen t.call) c.args.work.now) ≡ Some beginning) tagged made)))))
    c.first_step.ensures.ok

pub returns-in-Ok-clause-keys : goal.returns-in-Ok-clause-keys
returns-in-Ok-clause-keys c =
    let key : c.view-view.result.now.key ≡ c.args.key = c.view-view.ensures.key in
    let within : c.view-view.result.now.key.0 < length c.args.self.now.views = omega (arith, c.requires.key, ap (λ (x : KeyId). x.0) key) in
    IfOk-weaker c.first_step.result _ (λ (beginning : Beginning). AreOfKeysBelow (length c.args.self.now.views) beginning.effects.posts)
    (λ beginning of_key. of_key_below (length c.args.self.now.views) c.view-view.result.now.key beginning.effects.posts within of_key)
    c.first_step.ensures.of_key

pub returns-in-Err-clause-ok : goal.returns-in-Err-clause-ok
returns-in-Err-clause-ok c =
    let now : Proxy = c.args.self.now in
    let view : View = view_at now.views c.args.key in
    let before : Proxy = record { at = c.self.inside.at; stopped = c.self.inside.stopped; begun = c.self.inside.begun; seen = c.self.inside.seen; views = c.self.inside.views.items; calls = c.self.inside.calls } in
    let is : before ≡ now = c.self.view_is in
    let viewed : c.view-view.result.now ≡ view = c.view-view.ensures.value in
    let copied : c.in_ok-copy_of.field-0 ≡ c.args.work.now = c.in_ok-copy_of.ensures in
    let way : way_in now view c.args.work.now ≡ Err c.in-Err.reply = ap (λ v. way_in now v c.args.work.now) (sym viewed) ∙ sym c.way_in.ensures.way ∙ c.in-Err.is in
    let made : c.at_once.result ≡ at_once before.seen (k.Begin (record { proxy = c.args.number; seq = before.begun + 1 }) c.args.key c.in_ok-copy_of.field-0) (record { proxy = c.args.number; seq = before.begun + 1 }) c.in-Err.reply = c.at_once.ensures in
    ap (begun_with now)
    (made ∙ ap (λ (w : Work). at_once before.seen (k.Begin (record { proxy = c.args.number; seq = before.begun + 1 }) c.args.key w) (record { proxy = c.args.number; seq = before.begun + 1 }) c.in-Err.reply) copied
    ∙ ap (λ (p : Proxy). at_once p.seen (k.Begin (record { proxy = c.args.number; seq = p.begun + 1 }) c.args.key c.args.work.now) (record { proxy = c.args.number; seq = p.begun + 1 }) c.in-Err.reply) is)
    ∙ ends_so c.args.strong c.args.number now c.args.key c.args.work.now c.in-Err.reply way
