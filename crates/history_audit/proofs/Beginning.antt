-- A call begins.
use Rattle.std.proofs.Common.{◌≡◌, ◌≢◌, inl, inr, ℕ, ◌+◌, ◌≤◌, Bool, true, false, cond, ◌==◌, List, Option, Some, None, refl, sym, ap, subst, ◌∙◌, arith}
use Rattle.std.proofs.lemmas.Bool.{eqb-true, eq-eqb}
use Rattle.std.proofs.lemmas.Option.{same_Some}
use Rattle.std.proofs.lemmas.List.Elements.{Contains-push, Contains-push_cases}
use Rattle.span_base.specs.declared.ids.Call.{Call}
use Rattle.span_base.specs.declared.ids.KeyId.{KeyId}
use Rattle.ticket_rules.specs.declared.stamp.Stamp.{Stamp}
use Rattle.run_marks.specs.declared.mark.Work.{Work}
use Rattle.run_marks.specs.declared.mark.Mark.{Mark}
use Rattle.run_marks.specs.declared.mark.Mark.TheVariants as k
use Rattle.run_marks.specs.History.{is_same_call, call_of}
use Rattle.register_order.specs.Form.{last_seq}
use Rattle.register_order.proofs.Tests.{same_call, call_is_itself}
use Rattle.history_audit.specs.declared.calls.CallState.{CallState}
use Rattle.history_audit.specs.declared.calls.Ending.TheVariants.{Open}
use Rattle.history_audit.specs.Told.{IsTold, IsKept, Tells, KeepsFirst}
use Rattle.history_audit.proofs.Telling.{more, still, last_of_more, PassesBy, told_stays}

-- what is kept of a call that has just begun
abbrev pub fresh : KeyId → Work → Stamp → CallState
fresh key work floor = record { key = key; work = work; floor = floor; latest = None; counted = None; ending = Open }

pub begin_keeps : (marks : List Mark) (kept : Call → Option CallState) (last : ℕ → ℕ) (drawn : Stamp → Bool) → Tells marks kept last drawn → (call : Call) (key : KeyId) (work : Work) → call.seq ≡ last call.proxy + 1
    → KeepsFirst marks (k.Begin call key work)
begin_keeps marks kept last drawn h call key work next = record { form = record { call = next ∙ ap (λ n. n + 1) (h.numbers call.proxy); kind = tt; stamp = tt }; value = tt }

pub begin_breaks : (marks : List Mark) (kept : Call → Option CallState) (last : ℕ → ℕ) (drawn : Stamp → Bool) → Tells marks kept last drawn → (call : Call) → call.seq ≢ last call.proxy + 1
    → call.seq ≡ last_seq call.proxy marks + 1 → ⊥
begin_breaks marks kept last drawn h call other next = other (next ∙ ap (λ n. n + 1) (sym (h.numbers call.proxy)))

passes_by : (call other : Call) (key : KeyId) (work : Work) → PassesBy (k.Begin call key work) other
passes_by call other key work = record { no_ticket = λ stamp e. cc; no_end = λ reply e. cc }

record SameBegin (call other : Call) (key at : KeyId) (work does : Work) : Type 0 where
  call_is : call ≡ other
  key_is : key ≡ at
  work_is : work ≡ does

same_begin : (call other : Call) (key at : KeyId) (work does : Work) → k.Begin call key work ≡ k.Begin other at does → SameBegin call other key at work does
same_begin call other key at work does e = record { call_is = cc; key_is = cc; work_is = cc }

pub tells_after_begin : (marks : List Mark) (call : Call) (key : KeyId) (work : Work) (floor : Stamp) (old new : Call → Option CallState) (last after : ℕ → ℕ) (drawn : Stamp → Bool)
    → call.seq ≡ last call.proxy + 1 → ((other : Call) → new other ≡ cond (is_same_call call other) (Some (fresh key work floor)) (old other)) → ((other : ℕ) → after other ≡ cond (call.proxy == other) call.seq (last other))
    → Tells marks old last drawn → Tells (more marks (k.Begin call key work)) new after drawn
tells_after_begin marks call key work floor old new last after drawn next is numbers h = record {
  told = told;
  begun = λ other at does c. elim (Contains-push_cases marks mark (k.Begin other at does) c) as (λ _. IsKept (new other) at does) [
    | inl before ↦ let it = h.begun other at does before in record { state = it.state; found = kept_on other it.state it.found; key_is = it.key_is; work_is = it.work_is }
    | inr e ↦
        let same = same_begin call other key at work does e in
        record { state = fresh key work floor; found = subst (λ (c : Call). new c ≡ Some (fresh key work floor)) same.call_is here; key_is = same.key_is; work_is = same.work_is }
  ];
  named = λ other one c names. elim (Contains-push_cases marks mark one c) as (λ _. (s : CallState) × (new other ≡ Some s)) [
    | inl before ↦ let it = h.named other one before names in (it.0, kept_on other it.0 it.1)
    | inr e ↦
        let same = same_Some call other (ap call_of e ∙ names) in
        (fresh key work floor, subst (λ (c : Call). new c ≡ Some (fresh key work floor)) same here)
  ];
  numbers = λ proxy. numbers proxy ∙ ap (λ (n : ℕ). cond (call.proxy == proxy) call.seq n) (h.numbers proxy) ∙ sym (last_of_more proxy marks mark);
  low = low;
  was = λ stamp drew. let it = h.was stamp drew in (it.0, still marks mark (k.Ticket it.0 stamp) it.1);
  drawn_is = λ other stamp c. elim (Contains-push_cases marks mark (k.Ticket other stamp) c) as (λ _. drawn stamp ≡ true) [ inl before ↦ h.drawn_is other stamp before | inr e ↦ absurd ((passes_by call other key work).no_ticket stamp e) ];
  own = λ other stamp c. elim (Contains-push_cases marks mark (k.Ticket other stamp) c) as (λ _. (stamp.proxy ≡ other.proxy) × (stamp.seq ≡ other.seq) × (1 ≤ stamp.number)) [
    | inl before ↦ h.own other stamp before
    | inr e ↦ absurd ((passes_by call other key work).no_ticket stamp e)
  ];
}
  where
    mark : Mark
    mark = k.Begin call key work

    not_yet : (s : CallState) → old call ≡ Some s → ⊥
    not_yet s at = let low_ = h.low call s at in omega (arith, low_, next)

    here : new call ≡ Some (fresh key work floor)
    here = subst (λ (b : Bool). new call ≡ cond b (Some (fresh key work floor)) (old call)) (call_is_itself call) (is call)

    at_test : (other : Call) (b : Bool) → is_same_call call other ≡ b → new other ≡ cond b (Some (fresh key work floor)) (old other)
    at_test other b same = subst (λ (b : Bool). new other ≡ cond b (Some (fresh key work floor)) (old other)) same (is other)

    kept_on : (other : Call) (s : CallState) → old other ≡ Some s → new other ≡ Some s
    kept_on other s at = by_test (is_same_call call other) refl
      where
        by_test : (b : Bool) → is_same_call call other ≡ b → new other ≡ Some s
        by_test true same = absurd (not_yet s (subst (λ (c : Call). old c ≡ Some s) (sym (same_call call other same)) at))
        by_test false same = at_test other false same ∙ at

    first : IsTold (more marks mark) call (fresh key work floor)
    first = record {
      begun = Contains-push marks mark;
      unended = λ open_ reply c. elim (Contains-push_cases marks mark (k.End call reply) c) as (λ _. ⊥) [
        | inl before ↦ let it = h.named call (k.End call reply) before refl in not_yet it.0 it.1
        | inr e ↦ (passes_by call call key work).no_end reply e
      ];
      ended = λ over. absurd (over refl);
      latest = λ stamp c. elim (Contains-push_cases marks mark (k.Ticket call stamp) c) as (λ _. ⊥) [
        | inl before ↦ let it = h.named call (k.Ticket call stamp) before refl in not_yet it.0 it.1
        | inr e ↦ (passes_by call call key work).no_ticket stamp e
      ];
    }

    told : (other : Call) (now : CallState) → new other ≡ Some now → IsTold (more marks mark) other now
    told other now found = by_test (is_same_call call other) refl
      where
        by_test : (b : Bool) → is_same_call call other ≡ b → IsTold (more marks mark) other now
        by_test true same =
            let e = same_Some (fresh key work floor) now (sym (at_test other true same) ∙ found) in
            subst (λ (c : Call). IsTold (more marks mark) c now) (same_call call other same) (subst (λ (s : CallState). IsTold (more marks mark) call s) e first)
        by_test false same = told_stays marks mark other now (passes_by call other key work) (h.told other now (sym (at_test other false same) ∙ found))

    low : (other : Call) (now : CallState) → new other ≡ Some now → other.seq ≤ after other.proxy
    low other now found = by_test (is_same_call call other) refl
      where
        rises : (b : Bool) → (call.proxy == other.proxy) ≡ b → other.seq ≤ last other.proxy → other.seq ≤ cond b call.seq (last other.proxy)
        rises true same at = let e = ap last (eqb-true call.proxy other.proxy same) in omega (arith, e, at, next)
        rises false same at = at

        by_test : (b : Bool) → is_same_call call other ≡ b → other.seq ≤ after other.proxy
        by_test true same =
            let e = subst (λ (b : Bool). after call.proxy ≡ cond b call.seq (last call.proxy)) (eq-eqb call.proxy call.proxy refl) (numbers call.proxy) in
            let l : call.seq ≤ after call.proxy = omega (arith, e) in
            subst (λ (c : Call). c.seq ≤ after c.proxy) (same_call call other same) l
        by_test false same =
            let l = rises (call.proxy == other.proxy) refl (h.low other now (sym (at_test other false same) ∙ found)) in
            let e = numbers other.proxy in
            omega (arith, e, l)
