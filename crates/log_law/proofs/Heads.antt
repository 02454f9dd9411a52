-- The first marks of a call that begins are within the ranges of a log.
use Rattle.std.proofs.Common.{◌≡◌, ◌+◌, ◌≤◌, Bool, true, false, List, [], ◌∷◌, refl}
use Rattle.std.specs.Prelude.{not, ◌&&◌, ◌==◌, if◌then◌else◌, Option, Some, None}
use Rattle.std.specs.Option.{option_map_or}
use Rattle.span_base.specs.declared.ids.Call.{Call}
use Rattle.span_base.specs.declared.ids.KeyId.{KeyId}
use Rattle.ticket_rules.specs.declared.stamp.Stamp.{Stamp}
use Rattle.wire_msg.specs.declared.outputs.View.{View}
use Rattle.wire_msg.specs.declared.outputs.Reply.TheVariants as r
use Rattle.slot_pool.specs.declared.handles.Handle.{Handle}
use Rattle.slot_pool.specs.Slots.{next_handle}
use Rattle.run_marks.specs.declared.mark.Work.{Work}
use Rattle.run_marks.specs.declared.mark.Mark.{Mark}
use Rattle.run_marks.specs.declared.mark.Mark.TheVariants as k
use Rattle.world_core.specs.State.{Proxy}
use Rattle.world_core.specs.Calls.{Taken}
use Rattle.world_core.specs.Starting.{Done, is_member, draws_ticket, ticket_of, opened_call, ends_at_once, enters, enters_with, first_tag, starts_in, starts_as}
use Rattle.history_audit.specs.Ranges.{FitsWork, FitsReply, FitsCause}
use Rattle.log_law.proofs.Strong.{not_last}

-- behind a begin: the number of a ticket, and a reply
abbrev pub FitsBehind : List Mark → Type 0
FitsBehind [] = Unit {0}
FitsBehind (k.Begin call key work ∷ marks) = Unit {0}
FitsBehind (k.Ticket call stamp ∷ marks) = stamp.number ≤ 18446744073709551615
FitsBehind (k.End call reply ∷ marks) = FitsReply reply
FitsBehind (k.Epoch epoch ∷ marks) = Unit {0}
FitsBehind (k.NoEpoch cause ∷ marks) = Unit {0}

-- what an event's marks tell of what was asked for: a call's key and work, and why a table opened no epoch
abbrev pub FitsHead : List Mark → Type 0
FitsHead [] = Unit {0}
FitsHead (k.Begin call key work ∷ marks) = (key.0 ≤ 999) × FitsWork work × FitsBehind marks
FitsHead (k.Ticket call stamp ∷ marks) = Unit {0}
FitsHead (k.End call reply ∷ marks) = Unit {0}
FitsHead (k.Epoch epoch ∷ marks) = Unit {0}
FitsHead (k.NoEpoch cause ∷ marks) = FitsCause cause

-- the proxy has a number left, and the call is one that may be asked for
pub record IsAsked (proxy : Proxy) (key : KeyId) (work : Work) : Type 0 where
  pub key_fits : key.0 ≤ 999
  pub work_fits : FitsWork work
  pub seen : proxy.seen ≤ 18446744073709551615

did_either : (b : Bool) (one other : Done Proxy) → (b ≡ true → FitsHead one.marks) → (b ≡ false → FitsHead other.marks) → FitsHead (if b then one else other).marks
did_either true one other f g = f refl
did_either false one other f g = g refl

behind_begin : (call : Call) (ticket : Stamp) (b : Bool) → (b ≡ true → ticket.number ≤ 18446744073709551615) → FitsBehind (if b then k.Ticket call ticket ∷ [] else [])
behind_begin call ticket true n = n refl
behind_begin call ticket false n = tt

number_left : (draws last : Bool) → (draws && last) ≡ false → draws ≡ true → last ≡ false
number_left true last h e = h
number_left false last h e = absurd (cc)

opens_head : (strong : Bool) (proxy : Proxy) (call : Call) (key : KeyId) (work : Work) (view : View) (handle : Handle) (o : Option Taken) → IsAsked proxy key work → (draws_ticket work ≡ true → proxy.seen + 1 ≤ 18446744073709551615)
    → FitsHead (option_map_or (enters proxy call handle key work (ticket_of proxy view call)) o (ends_at_once proxy call key work r.Outside)).marks
opens_head strong proxy call key work view handle None a n = (a.key_fits, a.work_fits, tt)
opens_head strong proxy call key work view handle (Some taken) a n = (a.key_fits, a.work_fits, behind_begin call (ticket_of proxy view call) (draws_ticket work) n)

in_slot : (strong : Bool) (proxy : Proxy) (call : Call) (key : KeyId) (work : Work) (view : View) (o : Option Handle) → IsAsked proxy key work
    → FitsHead (option_map_or (starts_in strong proxy call key work view) o (ends_at_once proxy call key work r.Full)).marks
in_slot strong proxy call key work view None a = (a.key_fits, a.work_fits, tt)
in_slot strong proxy call key work view (Some handle) a =
    did_either (draws_ticket work && (proxy.seen == 18446744073709551615)) (ends_at_once proxy call key work r.NumbersOut) (enters_with strong proxy call key work view handle) (λ _. (a.key_fits, a.work_fits, tt))
    (λ e. opens_head strong proxy call key work view handle (opened_call strong (first_tag call handle) proxy.at view (ticket_of proxy view call) work) a
    (λ draws. not_last proxy.seen (number_left (draws_ticket work) (proxy.seen == 18446744073709551615) e draws) a.seen))

pub starts_head : (strong : Bool) (proxy : Proxy) (call : Call) (key : KeyId) (work : Work) (view : View) → IsAsked proxy key work → FitsHead (starts_as strong proxy call key work view).marks
starts_head strong proxy call key work view a =
    did_either (not (is_member work view proxy.at)) (ends_at_once proxy call key work r.Outside) (option_map_or (starts_in strong proxy call key work view) (next_handle proxy.calls) (ends_at_once proxy call key work r.Full))
    (λ _. (a.key_fits, a.work_fits, tt)) (λ _. in_slot strong proxy call key work view (next_handle proxy.calls) a)
