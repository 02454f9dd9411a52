-- What is kept of the calls and the tickets of the lines so far.
use Rattle.std.specs.Prelude.{◌≡◌, ◌≢◌, ℕ, ◌≤◌, Bool, true, List, Option, Some, None, Contains}
use Rattle.span_base.specs.declared.ids.Call.{Call}
use Rattle.span_base.specs.declared.ids.KeyId.{KeyId}
use Rattle.ticket_rules.specs.declared.stamp.Stamp.{Stamp}
use Rattle.wire_msg.specs.declared.outputs.Reply.{Reply}
use Rattle.run_marks.specs.declared.mark.Work.{Work}
use Rattle.run_marks.specs.declared.mark.Mark.{Mark}
use Rattle.run_marks.specs.declared.mark.Mark.TheVariants as k
use Rattle.run_marks.specs.History.{call_of, EndsWith}
use Rattle.register_order.specs.Form.{last_seq, IsLatestTicket, KeepsForm}
use Rattle.register_order.specs.Clauses.{KeepsValue}
use Rattle.history_audit.specs.declared.calls.CallState.{CallState}
use Rattle.history_audit.specs.declared.calls.Ending.TheVariants.{Open}

-- the latest ticket of the call, where it drew one
abbrev pub HasLatest : List Mark → Call → Option Stamp → Type 0
HasLatest marks call None = (stamp : Stamp) → Contains marks (k.Ticket call stamp) → ⊥
HasLatest marks call (Some latest) = IsLatestTicket marks call latest

-- the lines tell this of the call
pub record IsTold (marks : List Mark) (call : Call) (state : CallState) : Type 0 where
  pub begun : Contains marks (k.Begin call state.key state.work)
  pub unended : state.ending ≡ Open → (reply : Reply) → EndsWith marks call reply → ⊥
  pub ended : state.ending ≢ Open → (reply : Reply) × EndsWith marks call reply
  pub latest : HasLatest marks call state.latest

-- the call has begun so, and this is kept of it
pub record IsKept (looked : Option CallState) (key : KeyId) (work : Work) : Type 0 where
  pub state : CallState
  pub found : looked ≡ Some state
  pub key_is : state.key ≡ key
  pub work_is : state.work ≡ work

-- what is kept of calls, of the last number of each proxy and of tickets is what the lines tell
pub record Tells (marks : List Mark) (kept : Call → Option CallState) (last : ℕ → ℕ) (drawn : Stamp → Bool) : Type 0 where
  pub told : (call : Call) (state : CallState) → kept call ≡ Some state → IsTold marks call state
  pub begun : (call : Call) (key : KeyId) (work : Work) → Contains marks (k.Begin call key work) → IsKept (kept call) key work
  pub named : (call : Call) (mark : Mark) → Contains marks mark → call_of mark ≡ Some call → (state : CallState) × (kept call ≡ Some state)
  pub numbers : (proxy : ℕ) → last proxy ≡ last_seq proxy marks
  pub low : (call : Call) (state : CallState) → kept call ≡ Some state → call.seq ≤ last call.proxy
  pub was : (stamp : Stamp) → drawn stamp ≡ true → (call : Call) × Contains marks (k.Ticket call stamp)
  pub drawn_is : (call : Call) (stamp : Stamp) → Contains marks (k.Ticket call stamp) → drawn stamp ≡ true
  pub own : (call : Call) (stamp : Stamp) → Contains marks (k.Ticket call stamp) → (stamp.proxy ≡ call.proxy) × (stamp.seq ≡ call.seq) × (1 ≤ stamp.number)

-- the line keeps the clauses that look at no answer of another call
pub record KeepsFirst (before : List Mark) (mark : Mark) : Type 0 where
  pub form : KeepsForm before mark
  pub value : KeepsValue before mark
