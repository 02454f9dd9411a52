-- How a call begins, by the way it finds into the pool.
use Rattle.std.proofs.Common.{◌≡◌, ℕ, ◌+◌, ◌==◌, ◌&&◌, Bool, true, false, cond, [], ◌∷◌, refl, sym, ap, ◌∙◌}
use Rattle.std.specs.Prelude.{Option, Some, None, Result, Ok, Err, not, option_map}
use Rattle.std.specs.Option.{option_map_or}
use Rattle.span_base.specs.declared.ids.Call.{Call}
use Rattle.span_base.specs.declared.ids.KeyId.{KeyId}
use Rattle.ticket_rules.specs.declared.stamp.Stamp.{Stamp}
use Rattle.wire_msg.specs.declared.outputs.View.{View}
use Rattle.wire_msg.specs.declared.outputs.Reply.{Reply}
use Rattle.wire_msg.specs.declared.outputs.Reply.TheVariants as r
use Rattle.slot_pool.specs.declared.handles.Handle.{Handle}
use Rattle.slot_pool.specs.Slots.{next_handle, with_item}
use Rattle.run_marks.specs.declared.mark.Work.{Work}
use Rattle.run_marks.specs.declared.mark.Mark.TheVariants as k
use Rattle.world_core.specs.declared.beginning.Beginning.{Beginning}
use Rattle.world_core.specs.State.{Proxy, view_at}
use Rattle.world_core.specs.Calls.{Taken}
use Rattle.world_core.specs.Starting.{Done, is_member, draws_ticket, first_tag, opened_call, ends_at_once, enters, enters_with, starts_in, starts_as, starts}
use Rattle.world_core.specs.Step.{ticket_marks as marks_of_ticket, seen_with}
use Rattle.world_core.specs.Proxies.{begun_with}
use Rattle.world_core.specs.Taking.{numbered, way_in, ticket_under, drawn_ticket, at_once, beginning_of}

-- what begins by the way in
abbrev by_way : Bool → Proxy → Call → KeyId → Work → View → Result Handle Reply → Done Proxy
by_way strong proxy call key work view (Ok handle) = enters_with strong proxy call key work view handle
by_way strong proxy call key work view (Err reply) = ends_at_once proxy call key work reply

starts_by_way : (strong : Bool) (proxy : Proxy) (call : Call) (key : KeyId) (work : Work) (view : View) → starts_as strong proxy call key work view ≡ by_way strong proxy call key work view (way_in proxy view work)
starts_by_way strong proxy call key work view = by_member (is_member work view proxy.at)
  where
    once : Reply → Done Proxy
    once reply = ends_at_once proxy call key work reply

    by_number : (handle : Handle) (b : Bool) → cond b (ends_at_once proxy call key work r.NumbersOut) (enters_with strong proxy call key work view handle) ≡ by_way strong proxy call key work view (cond b (Err r.NumbersOut) (Ok handle))
    by_number handle true = refl
    by_number handle false = refl

    by_handle : (o : Option Handle) → option_map_or (starts_in strong proxy call key work view) o (ends_at_once proxy call key work r.Full) ≡ by_way strong proxy call key work view (option_map_or (numbered proxy work) o (Err r.Full))
    by_handle None = refl
    by_handle (Some handle) = by_number handle (draws_ticket work && (proxy.seen == 18446744073709551615))

    by_member : (b : Bool) → cond (not b) (ends_at_once proxy call key work r.Outside) (option_map_or (starts_in strong proxy call key work view) (next_handle proxy.calls) (ends_at_once proxy call key work r.Full))
        ≡ by_way strong proxy call key work view (cond (not b) (Err r.Outside) (option_map_or (numbered proxy work) (next_handle proxy.calls) (Err r.Full)))
    by_member true = by_handle (next_handle proxy.calls)
    by_member false = refl

-- a call that finds none ends at once
pub ends_so : (strong : Bool) (number : ℕ) (proxy : Proxy) (key : KeyId) (work : Work) (reply : Reply) → way_in proxy (view_at proxy.views key) work ≡ Err reply
    → begun_with proxy (at_once proxy.seen (k.Begin (record { proxy = number; seq = proxy.begun + 1 }) key work) (record { proxy = number; seq = proxy.begun + 1 }) reply) ≡ starts strong number proxy key work
unfolding starts
ends_so strong number proxy key work reply way =
    let call : Call = record { proxy = number; seq = proxy.begun + 1 } in
    sym (starts_by_way strong proxy call key work (view_at proxy.views key) ∙ ap (by_way strong proxy call key work (view_at proxy.views key)) way)

way_number : (handle other : Handle) (b : Bool) (made : Result Handle Reply) → made ≡ cond b (Err r.NumbersOut) (Ok other) → made ≡ Ok handle → Some other ≡ Some handle
way_number handle other true made is e = absurd (cc)
way_number handle other false made is e = cc

way_handle : (proxy : Proxy) (work : Work) (handle : Handle) (o : Option Handle) → option_map_or (numbered proxy work) o (Err r.Full) ≡ Ok handle → o ≡ Some handle
way_handle proxy work handle None is = absurd (cc)
way_handle proxy work handle (Some other) is = way_number handle other (draws_ticket work && (proxy.seen == 18446744073709551615)) (numbered proxy work other) refl is

-- the handle of the way in is the next one
pub way_next : (proxy : Proxy) (view : View) (work : Work) (handle : Handle) → way_in proxy view work ≡ Ok handle → next_handle proxy.calls ≡ Some handle
way_next proxy view work handle = by (is_member work view proxy.at)
  where
    by : (b : Bool) → cond (not b) (Err r.Outside) (option_map_or (numbered proxy work) (next_handle proxy.calls) (Err r.Full)) ≡ Ok handle → next_handle proxy.calls ≡ Some handle
    by true is = way_handle proxy work handle (next_handle proxy.calls) is
    by false is = absurd (cc)

-- the first step of a call that finds one
module _ (proxy : Proxy) (number : ℕ) (handle : Handle) (key : KeyId) (work : Work) (view : View) (taken : Taken) where
  abbrev call : Call
  call = record { proxy = number; seq = proxy.begun + 1 }

  -- with the ticket of a work that draws one or not
  abbrev drawn : Bool → Option Stamp
  drawn b = cond b (Some (ticket_under view proxy.seen call)) None

  abbrev made : Bool → Option Handle → Done Proxy
  made b next = record {
    actor = record proxy { begun = proxy.begun + 1; seen = seen_with proxy.seen (drawn b); calls = option_map_or (λ h. with_item proxy.calls h taken.state) next proxy.calls };
    posts = taken.out.posts;
    marks = k.Begin call key work ∷ marks_of_ticket call (drawn b);
  }

  abbrev entered : Bool → Done Proxy
  entered b = record {
    actor = record proxy { begun = proxy.begun + 1; seen = cond b (proxy.seen + 1) proxy.seen; calls = with_item proxy.calls handle taken.state };
    posts = taken.out.posts;
    marks = k.Begin call key work ∷ cond b (k.Ticket call (ticket_under view proxy.seen call) ∷ []) [];
  }

  by_draw : (b : Bool) → made b (Some handle) ≡ entered b
  by_draw true = refl
  by_draw false = refl

  begins_so : next_handle proxy.calls ≡ Some handle → begun_with proxy (beginning_of proxy.seen (k.Begin call key work) call (drawn_ticket view proxy.seen call work) taken) ≡ enters proxy call handle key work (ticket_under view proxy.seen call) taken
  begins_so next = ap (made (draws_ticket work)) next ∙ by_draw (draws_ticket work)

-- a call that finds a handle, with its first step
pub begins_ok : (strong : Bool) (number : ℕ) (proxy : Proxy) (key : KeyId) (work : Work) (handle : Handle) (beginning : Beginning) → way_in proxy (view_at proxy.views key) work ≡ Ok handle
    → option_map (beginning_of proxy.seen (k.Begin (record { proxy = number; seq = proxy.begun + 1 }) key work) (record { proxy = number; seq = proxy.begun + 1 }) (drawn_ticket (view_at proxy.views key) proxy.seen (record { proxy = number; seq = proxy.begun + 1 }) work)) (opened_call strong (first_tag (record { proxy = number; seq = proxy.begun + 1 }) handle) proxy.at (view_at proxy.views key) (ticket_under (view_at proxy.views key) proxy.seen (record { proxy = number; seq = proxy.begun + 1 })) work) ≡ Some beginning
    → begun_with proxy beginning ≡ starts strong number proxy key work
unfolding starts
begins_ok strong number proxy key work handle beginning way =
    by (opened_call strong (first_tag call handle) proxy.at view (ticket_under view proxy.seen call) work) refl
  where
    call : Call
    call = record { proxy = number; seq = proxy.begun + 1 }

    view : View
    view = view_at proxy.views key

    by : (o : Option Taken) → opened_call strong (first_tag call handle) proxy.at view (ticket_under view proxy.seen call) work ≡ o
        → option_map (beginning_of proxy.seen (k.Begin call key work) call (drawn_ticket view proxy.seen call work)) o ≡ Some beginning
        → begun_with proxy beginning ≡ starts_as strong proxy call key work view
    by None is made = absurd (cc)
    by (Some taken) is made =
        let same : beginning_of proxy.seen (k.Begin call key work) call (drawn_ticket view proxy.seen call work) taken ≡ beginning = cc in
        ap (begun_with proxy) (sym same)
        ∙ begins_so proxy number handle key work view taken (way_next proxy view work handle way)
        ∙ sym (starts_by_way strong proxy call key work view ∙ ap (by_way strong proxy call key work view) way ∙ ap (λ o. option_map_or (enters proxy call handle key work (ticket_under view proxy.seen call)) o (ends_at_once proxy call key work r.Outside)) is)
