use Rattle.std.proofs.Common.{◌≡◌, ◌<◌, length, sym, ap, ◌∙◌, arith}
use Rattle.std.specs.Prelude.{Some}
use Rattle.std.specs.Option.{option_copied_mut}
use Rattle.std.proofs.lemmas.Result.{on_ok_weaker, on_err_weaker}
use Rattle.span_base.specs.declared.ids.KeyId.{KeyId}
use Rattle.slot_pool.specs.Slots.{item_at, with_item}
use Rattle.world_core.specs.Calls.{key_of_call}
use Rattle.world_core.proofs.Pools.{write_same, with_kept, call_within, of_key_below}
use Rattle.world_core.proofs.taking.take_under.Goals as goal

pub returns-in-Some-clause-err : goal.returns-in-Some-clause-err
returns-in-Some-clause-err c =
    let here : item_at c.args.calls.now c.args.handle ≡ Some c.in-Some.call.now = sym c.get_mut.ensures.value ∙ ap option_copied_mut c.in-Some.is in
    on_err_weaker c.take.result
    (λ same. (ap (with_item c.args.calls.now c.args.handle) same.0 ∙ write_same c.args.calls.now c.args.handle c.in-Some.call.now here, same.1))
    c.take.ensures.err

pub returns-in-Some-clause-keys : goal.returns-in-Some-clause-keys
returns-in-Some-clause-keys c =
    let here : item_at c.args.calls.now c.args.handle ≡ Some c.in-Some.call.now = sym c.get_mut.ensures.value ∙ ap option_copied_mut c.in-Some.is in
    let within : (key_of_call c.in-Some.call.now).0 < length c.args.views.now = call_within (length c.args.views.now) c.args.calls.now c.args.handle c.in-Some.call.now c.requires.calls here in
    on_ok_weaker c.take.result (of_key_below (length c.args.views.now) (key_of_call c.in-Some.call.now) c.take.new.out.posts within) c.take.ensures.of_key

pub returns-in-Some-clause-slots : goal.returns-in-Some-clause-slots
returns-in-Some-clause-slots c =
    let here : item_at c.args.calls.now c.args.handle ≡ Some c.in-Some.call.now = sym c.get_mut.ensures.value ∙ ap option_copied_mut c.in-Some.is in
    let within : (key_of_call c.in-Some.call.now).0 < length c.args.views.now = call_within (length c.args.views.now) c.args.calls.now c.args.handle c.in-Some.call.now c.requires.calls here in
    on_ok_weaker c.take.result
    (λ same. with_kept (length c.args.views.now) c.args.calls.now c.args.handle c.take.new.self c.requires.generation (omega (arith, within, ap (λ (key : KeyId). key.0) same)) c.requires.calls)
    c.take.ensures.key
