-- What one more line adds to what the lines tell of stamps.
use Rattle.std.proofs.Common.{◌≡◌, ◌⊎◌, inl, inr, ℕ, ◌+◌, Bool, List, [], ◌∷◌, ◌++◌, append_assoc, Option, Some, refl, sym, ap, subst, ◌∙◌, arith}
use Rattle.std.specs.Prelude.{Contains}
use Rattle.std.proofs.lemmas.List.Elements.{Contains-append_left, Contains-push_cases}
use Rattle.span_base.specs.declared.ids.Call.{Call}
use Rattle.span_base.specs.declared.ids.KeyId.{KeyId}
use Rattle.ticket_rules.specs.declared.stamp.Stamp.{Stamp}
use Rattle.wire_msg.specs.declared.outputs.Reply.{Reply}
use Rattle.wire_msg.specs.declared.outputs.Reply.TheVariants as r
use Rattle.run_marks.specs.declared.mark.Work.{Work}
use Rattle.run_marks.specs.declared.mark.Work.TheVariants as w
use Rattle.run_marks.specs.declared.mark.Mark.{Mark}
use Rattle.run_marks.specs.declared.mark.Mark.TheVariants as k
use Rattle.run_marks.specs.History.{call_of, EndsBefore, EndsWith, IsGiven}
use Rattle.register_order.specs.Form.{last_seq, IsOpen, KeepsCall}
use Rattle.register_order.specs.Clauses.{EachKeeps, WasDrawn, GivesWritten}
use Rattle.register_order.proofs.Pushed.{placed_in_push}
use Rattle.history_audit.specs.declared.calls.CallState.{CallState}
use Rattle.history_audit.specs.Told.{Tells}
use Rattle.history_audit.specs.Counted.{Answered, CountsWith, IsFloor}
use Rattle.history_audit.proofs.Telling.{more, still}

-- one more line that keeps this
pub each_push : (K : List Mark → Mark → Type 0) (before marks : List Mark) (mark : Mark) → EachKeeps K before marks → K (before ++ marks) mark → EachKeeps K before (marks ++ mark ∷ [])
each_push K before [] mark each one = (subst (λ (ms : List Mark). K ms mark) (append_nil_ before) one, tt)
  where
    append_nil_ : (ms : List Mark) → ms ++ [] ≡ ms
    append_nil_ [] = refl
    append_nil_ (m ∷ ms) = ap (λ (x : List Mark). m ∷ x) (append_nil_ ms)
each_push K before (m ∷ ms) mark each one = (each.0, each_push K (before ++ m ∷ []) ms mark each.1 (subst (λ (x : List Mark). K x mark) (sym (append_assoc before (m ∷ []) ms)) one))

-- what the lines told, they tell with one more
pub given_still : (marks : List Mark) (mark : Mark) (stamp : Stamp) → IsGiven marks stamp → IsGiven (more marks mark) stamp
given_still marks mark stamp g = record {
  reader = g.reader;
  value = g.value;
  reads = record { read = (g.reads.read.0, still marks mark (k.Begin g.reader g.reads.read.0 w.Read) g.reads.read.1); ended = still marks mark (k.End g.reader (r.Value stamp g.value)) g.reads.ended };
}

pub counts_still : (marks : List Mark) (mark : Mark) (call : Call) (stamp : Stamp) → CountsWith marks call stamp → CountsWith (more marks mark) call stamp
counts_still marks mark call stamp c = elim c as (λ _. CountsWith (more marks mark) call stamp) [
  | inl ended ↦ inl (still marks mark (k.End call (r.Stored stamp)) ended)
  | inr it ↦ inr (still marks mark (k.Ticket call stamp) it.0, given_still marks mark stamp it.1)
]

pub answered_still : (marks : List Mark) (mark : Mark) (key : KeyId) (call : Call) (stamp : Stamp) → Answered marks key call stamp → Answered (more marks mark) key call stamp
answered_still marks mark key call stamp a = elim a as (λ _. Answered (more marks mark) key call stamp) [
  | inl it ↦ inl (it.0, still marks mark (k.Begin call key w.Read) it.1, still marks mark (k.End call (r.Value stamp it.0)) it.2)
  | inr it ↦ inr (it.0, still marks mark (k.Begin call key (w.Write it.0)) it.1, still marks mark (k.End call (r.Stored stamp)) it.2)
]

pub ends_before_still : (marks : List Mark) (mark : Mark) (first second : Call) → EndsBefore marks first second → EndsBefore (more marks mark) first second
ends_before_still marks mark first second e = record {
  earlier = e.earlier;
  later = e.later ++ mark ∷ [];
  key = e.key;
  work = e.work;
  split = ap (λ (ms : List Mark). ms ++ mark ∷ []) e.split ∙ append_assoc e.earlier (k.Begin second e.key e.work ∷ e.later) (mark ∷ []);
  reply = e.reply;
  answered = e.answered;
  ended = e.ended;
}

pub floor_still : (marks : List Mark) (mark : Mark) (key : KeyId) (call : Call) (floor : Stamp) → IsFloor marks key call floor → IsFloor (more marks mark) key call floor
floor_still marks mark key call floor f = elim f as (λ _. IsFloor (more marks mark) key call floor) [
  | inl none ↦ inl none
  | inr it ↦ inr (it.0, ends_before_still marks mark it.0 call it.1, answered_still marks mark key it.0 floor it.2)
]

pub written_still : (marks : List Mark) (mark : Mark) (key : KeyId) (stamp : Stamp) (value : List ℕ) → GivesWritten marks key (r.Value stamp value) → GivesWritten (more marks mark) key (r.Value stamp value)
written_still marks mark key stamp value g = elim g as (λ _. GivesWritten (more marks mark) key (r.Value stamp value)) [
  | inl none ↦ inl none
  | inr it ↦ inr (it.0, let d : WasDrawn (more marks mark) key stamp value = record { writer = it.1.writer; begun = still marks mark (k.Begin it.1.writer key (w.Write value)) it.1.begun; ticket = still marks mark (k.Ticket it.1.writer stamp) it.1.ticket } in d)
]

-- a call that was answered before another one began was so a line before, unless this line begins that one
pub ends_before_there : (marks : List Mark) (mark : Mark) (first second : Call) → ((key : KeyId) (work : Work) → mark ≡ k.Begin second key work → ⊥) → EndsBefore (more marks mark) first second → EndsBefore marks first second
ends_before_there marks mark first second no_begin e =
    elim (placed_in_push marks mark e.earlier (k.Begin second e.key e.work) e.later e.split) as (λ _. EndsBefore marks first second) [
      | inl last ↦ absurd (no_begin e.key e.work last.same)
      | inr before ↦ record { earlier = e.earlier; later = before.between; key = e.key; work = e.work; split = before.is; reply = e.reply; answered = e.answered; ended = e.ended }
    ]

-- the call that was answered has an end
pub ended_before : (marks : List Mark) (first second : Call) → EndsBefore marks first second → (reply : Reply) × EndsWith marks first reply
ended_before marks first second e = (e.reply, subst (λ (ms : List Mark). Contains ms (k.End first e.reply)) (sym e.split) (Contains-append_left e.earlier (k.Begin second e.key e.work ∷ e.later) (k.End first e.reply) e.ended))

-- the line ends a read of the key with this value
pub record ReadsHere (marks : List Mark) (mark : Mark) (key : KeyId) (call : Call) (stamp : Stamp) (value : List ℕ) : Type 0 where
  pub begun : Contains marks (k.Begin call key w.Read)
  pub is : mark ≡ k.End call (r.Value stamp value)

-- the line ends a write of the key and of this value with this stamp
pub record StoresHere (marks : List Mark) (mark : Mark) (key : KeyId) (call : Call) (stamp : Stamp) (value : List ℕ) : Type 0 where
  pub begun : Contains marks (k.Begin call key (w.Write value))
  pub is : mark ≡ k.End call (r.Stored stamp)

-- what the line adds to the calls that were answered, to the stamps that count
abbrev pub AnswersHere : List Mark → Mark → KeyId → Call → Stamp → Type 0
AnswersHere marks mark key call stamp = ((value : List ℕ) × ReadsHere marks mark key call stamp value) ⊎ ((value : List ℕ) × StoresHere marks mark key call stamp value)

abbrev pub GivesHere : List Mark → Mark → Stamp → Type 0
GivesHere marks mark stamp = (reader : Call) × (key : KeyId) × (value : List ℕ) × ReadsHere marks mark key reader stamp value

abbrev pub CountsHere : List Mark → Mark → Call → Stamp → Type 0
CountsHere marks mark call stamp = (mark ≡ k.End call (r.Stored stamp)) ⊎ (((mark ≡ k.Ticket call stamp) × IsGiven marks stamp) ⊎ (Contains marks (k.Ticket call stamp) × GivesHere marks mark stamp))

module _ (marks : List Mark) (mark : Mark) (kept : Call → Option CallState) (last : ℕ → ℕ) (drawn : Stamp → Bool) (h : Tells marks kept last drawn) (keeps : KeepsCall marks mark) where
  -- a call of which a line speaks doesn't begin again, one that has ended doesn't end again
  pub no_begin_again : (call : Call) (one : Mark) → Contains marks one → call_of one ≡ Some call → (key : KeyId) (work : Work) → mark ≡ k.Begin call key work → ⊥
  no_begin_again call one c of key work e =
      let it = h.named call one c of in
      let low = h.low call it.0 it.1 in
      let next : call.seq ≡ last_seq call.proxy marks + 1 = subst (λ (m : Mark). KeepsCall marks m) e keeps in
      let n = h.numbers call.proxy in
      omega (arith, low, next, n)

  pub no_end_again : (call : Call) (reply again : Reply) → EndsWith marks call reply → mark ≡ k.End call again → ⊥
  no_end_again call reply again c e = let open_ : IsOpen marks call = subst (λ (m : Mark). KeepsCall marks m) e keeps in open_.unended reply c

  begun_before : (call : Call) (one : Mark) → Contains marks one → call_of one ≡ Some call → (key : KeyId) (work : Work) → Contains (more marks mark) (k.Begin call key work) → Contains marks (k.Begin call key work)
  begun_before call one c of key work b = elim (Contains-push_cases marks mark (k.Begin call key work) b) as (λ _. Contains marks (k.Begin call key work)) [ inl old ↦ old | inr e ↦ absurd (no_begin_again call one c of key work e) ]

  begun_before_end : (ended : Call) (reply : Reply) → mark ≡ k.End ended reply → (call : Call) (key : KeyId) (work : Work) → Contains (more marks mark) (k.Begin call key work) → Contains marks (k.Begin call key work)
  begun_before_end ended reply is call key work b = elim (Contains-push_cases marks mark (k.Begin call key work) b) as (λ _. Contains marks (k.Begin call key work)) [ inl old ↦ old | inr e ↦ absurd (apart ended call key work reply (sym is ∙ e)) ]
    where
      apart : (c d : Call) (at : KeyId) (does : Work) (one : Reply) → k.End c one ≡ k.Begin d at does → ⊥
      apart c d at does one e = cc

  pub read_cases : (call : Call) (key : KeyId) (stamp : Stamp) (value : List ℕ) → Contains (more marks mark) (k.Begin call key w.Read) → EndsWith (more marks mark) call (r.Value stamp value)
      → (Contains marks (k.Begin call key w.Read) × EndsWith marks call (r.Value stamp value)) ⊎ ReadsHere marks mark key call stamp value
  read_cases call key stamp value b e = elim (Contains-push_cases marks mark (k.End call (r.Value stamp value)) e) as (λ _. (Contains marks (k.Begin call key w.Read) × EndsWith marks call (r.Value stamp value)) ⊎ ReadsHere marks mark key call stamp value) [
    | inl old ↦ inl (begun_before call (k.End call (r.Value stamp value)) old refl key w.Read b, old)
    | inr is ↦ inr (record { begun = begun_before_end call (r.Value stamp value) is call key w.Read b; is = is })
  ]

  write_cases : (call : Call) (key : KeyId) (stamp : Stamp) (value : List ℕ) → Contains (more marks mark) (k.Begin call key (w.Write value)) → EndsWith (more marks mark) call (r.Stored stamp)
      → (Contains marks (k.Begin call key (w.Write value)) × EndsWith marks call (r.Stored stamp)) ⊎ StoresHere marks mark key call stamp value
  write_cases call key stamp value b e = elim (Contains-push_cases marks mark (k.End call (r.Stored stamp)) e) as (λ _. (Contains marks (k.Begin call key (w.Write value)) × EndsWith marks call (r.Stored stamp)) ⊎ StoresHere marks mark key call stamp value) [
    | inl old ↦ inl (begun_before call (k.End call (r.Stored stamp)) old refl key (w.Write value) b, old)
    | inr is ↦ inr (record { begun = begun_before_end call (r.Stored stamp) is call key (w.Write value) b; is = is })
  ]

  pub answered_cases : (key : KeyId) (call : Call) (stamp : Stamp) → Answered (more marks mark) key call stamp → Answered marks key call stamp ⊎ AnswersHere marks mark key call stamp
  answered_cases key call stamp a = elim a as (λ _. Answered marks key call stamp ⊎ AnswersHere marks mark key call stamp) [
    | inl it ↦ elim (read_cases call key stamp it.0 it.1 it.2) as (λ _. Answered marks key call stamp ⊎ AnswersHere marks mark key call stamp) [ inl old ↦ inl (inl (it.0, old.0, old.1)) | inr here ↦ inr (inl (it.0, here)) ]
    | inr it ↦ elim (write_cases call key stamp it.0 it.1 it.2) as (λ _. Answered marks key call stamp ⊎ AnswersHere marks mark key call stamp) [ inl old ↦ inl (inr (it.0, old.0, old.1)) | inr here ↦ inr (inr (it.0, here)) ]
  ]

  -- a call that had ended wasn't answered by this line
  pub answered_before : (key : KeyId) (call : Call) (stamp : Stamp) (reply : Reply) → EndsWith marks call reply → Answered (more marks mark) key call stamp → Answered marks key call stamp
  answered_before key call stamp reply ended a = elim (answered_cases key call stamp a) as (λ _. Answered marks key call stamp) [
    | inl old ↦ old
    | inr here ↦ absurd (elim here as (λ _. ⊥) [ inl it ↦ no_end_again call reply (r.Value stamp it.0) ended it.1.is | inr it ↦ no_end_again call reply (r.Stored stamp) ended it.1.is ])
  ]

  pub given_cases : (stamp : Stamp) → IsGiven (more marks mark) stamp → IsGiven marks stamp ⊎ GivesHere marks mark stamp
  given_cases stamp g = elim (read_cases g.reader g.reads.read.0 stamp g.value g.reads.read.1 g.reads.ended) as (λ _. IsGiven marks stamp ⊎ GivesHere marks mark stamp) [
    | inl old ↦ inl (record { reader = g.reader; value = g.value; reads = record { read = (g.reads.read.0, old.0); ended = old.1 } })
    | inr here ↦ inr (g.reader, g.reads.read.0, g.value, here)
  ]

  pub counts_cases : (call : Call) (stamp : Stamp) → CountsWith (more marks mark) call stamp → CountsWith marks call stamp ⊎ CountsHere marks mark call stamp
  counts_cases call stamp c = elim c as (λ _. CountsWith marks call stamp ⊎ CountsHere marks mark call stamp) [
    | inl ended ↦ elim (Contains-push_cases marks mark (k.End call (r.Stored stamp)) ended) as (λ _. CountsWith marks call stamp ⊎ CountsHere marks mark call stamp) [ inl old ↦ inl (inl old) | inr is ↦ inr (inl is) ]
    | inr it ↦ elim (given_cases stamp it.1) as (λ _. CountsWith marks call stamp ⊎ CountsHere marks mark call stamp) [
      | inl given ↦ elim (Contains-push_cases marks mark (k.Ticket call stamp) it.0) as (λ _. CountsWith marks call stamp ⊎ CountsHere marks mark call stamp) [ inl old ↦ inl (inr (old, given)) | inr is ↦ inr (inr (inl (is, given))) ]
      | inr here ↦ inr (inr (inr (ticket_before here.0 (r.Value stamp here.2) here.3.is call stamp it.0, here)))
    ]
  ]
    where
      ticket_before : (ended : Call) (reply : Reply) → mark ≡ k.End ended reply → (drew : Call) (one : Stamp) → Contains (more marks mark) (k.Ticket drew one) → Contains marks (k.Ticket drew one)
      ticket_before ended reply is drew one t = elim (Contains-push_cases marks mark (k.Ticket drew one) t) as (λ _. Contains marks (k.Ticket drew one)) [ inl old ↦ old | inr e ↦ absurd (apart ended drew one reply (sym is ∙ e)) ]
        where
          apart : (c d : Call) (s : Stamp) (answer : Reply) → k.End c answer ≡ k.Ticket d s → ⊥
          apart c d s answer e = cc
