-- What is kept of a call changes.
use Rattle.std.proofs.Common.{◌≡◌, ◌⊎◌, inl, inr, ℕ, ◌≤◌, Bool, true, false, cond, List, Option, Some, None, refl, sym, ap, subst, ◌∙◌}
use Rattle.std.specs.Prelude.{Contains, option_map}
use Rattle.std.proofs.lemmas.Option.{same_Some}
use Rattle.std.proofs.lemmas.List.Elements.{Contains-push_cases}
use Rattle.span_base.specs.declared.ids.Call.{Call}
use Rattle.span_base.specs.declared.ids.KeyId.{KeyId}
use Rattle.ticket_rules.specs.declared.stamp.Stamp.{Stamp}
use Rattle.run_marks.specs.declared.mark.Work.{Work}
use Rattle.run_marks.specs.declared.mark.Mark.{Mark}
use Rattle.run_marks.specs.declared.mark.Mark.TheVariants as k
use Rattle.run_marks.specs.History.{is_same_call, call_of}
use Rattle.register_order.specs.Form.{seq_after, last_seq}
use Rattle.register_order.proofs.Tests.{same_call}
use Rattle.history_audit.specs.declared.calls.CallState.{CallState}
use Rattle.history_audit.specs.Told.{IsTold, IsKept, Tells}
use Rattle.history_audit.proofs.Telling.{more, last_of_more, PassesBy, told_stays}

-- what is kept of this call changes by f, and nothing else
abbrev pub Changes : Call → (CallState → CallState) → (Call → Option CallState) → (Call → Option CallState) → Type 0
Changes call f old new = (other : Call) → new other ≡ cond (is_same_call call other) (option_map f (old call)) (old other)

map_some : (f : CallState → CallState) (o : Option CallState) (now : CallState) → option_map f o ≡ Some now → (was : CallState) × (o ≡ Some was) × (now ≡ f was)
map_some f None now h = absurd (cc)
map_some f (Some was) now h = (was, refl, sym (same_Some (f was) now h))

-- what is kept of a call after the change is what was kept of it, or that changed
pub changed : (call : Call) (f : CallState → CallState) (old new : Call → Option CallState) → Changes call f old new → (other : Call) (now : CallState) → new other ≡ Some now
    → ((is_same_call call other ≡ false) × (old other ≡ Some now)) ⊎ ((call ≡ other) × ((was : CallState) × (old call ≡ Some was) × (now ≡ f was)))
changed call f old new is other now found = by_test (is_same_call call other) refl
  where
    by_test : (b : Bool) → is_same_call call other ≡ b → ((is_same_call call other ≡ false) × (old other ≡ Some now)) ⊎ ((call ≡ other) × ((was : CallState) × (old call ≡ Some was) × (now ≡ f was)))
    by_test true same =
        let e = subst (λ (b : Bool). new other ≡ cond b (option_map f (old call)) (old other)) same (is other) in
        inr (same_call call other same, map_some f (old call) now (sym e ∙ found))
    by_test false same =
        let e = subst (λ (b : Bool). new other ≡ cond b (option_map f (old call)) (old other)) same (is other) in
        inl (same, sym e ∙ found)

-- a call that has begun goes on to be kept
pub kept_on : (call : Call) (f : CallState → CallState) (old new : Call → Option CallState) → Changes call f old new → ((s : CallState) → (f s).key ≡ s.key) → ((s : CallState) → (f s).work ≡ s.work)
    → (other : Call) (key : KeyId) (work : Work) → IsKept (old other) key work → IsKept (new other) key work
kept_on call f old new is key_stays work_stays other key work h = by_test (is_same_call call other) refl
  where
    by_test : (b : Bool) → is_same_call call other ≡ b → IsKept (new other) key work
    by_test true same =
        let e = subst (λ (b : Bool). new other ≡ cond b (option_map f (old call)) (old other)) same (is other) in
        let at = subst (λ (c : Call). old c ≡ Some h.state) (sym (same_call call other same)) h.found in
        record { state = f h.state; found = e ∙ ap (option_map f) at; key_is = key_stays h.state ∙ h.key_is; work_is = work_stays h.state ∙ h.work_is }
    by_test false same =
        let e = subst (λ (b : Bool). new other ≡ cond b (option_map f (old call)) (old other)) same (is other) in
        record { state = h.state; found = e ∙ h.found; key_is = h.key_is; work_is = h.work_is }

pub still_kept : (call : Call) (f : CallState → CallState) (old new : Call → Option CallState) → Changes call f old new → (other : Call) → (s : CallState) × (old other ≡ Some s) → (s : CallState) × (new other ≡ Some s)
still_kept call f old new is other h = by_test (is_same_call call other) refl
  where
    by_test : (b : Bool) → is_same_call call other ≡ b → (s : CallState) × (new other ≡ Some s)
    by_test true same =
        let e = subst (λ (b : Bool). new other ≡ cond b (option_map f (old call)) (old other)) same (is other) in
        let at = subst (λ (c : Call). old c ≡ Some h.0) (sym (same_call call other same)) h.1 in
        (f h.0, e ∙ ap (option_map f) at)
    by_test false same =
        let e = subst (λ (b : Bool). new other ≡ cond b (option_map f (old call)) (old other)) same (is other) in
        (h.0, e ∙ h.1)

-- the change keeps what the lines tell of a call
pub record KeepsTold (f : CallState → CallState) : Type 0 where
  pub key : (s : CallState) → (f s).key ≡ s.key
  pub work : (s : CallState) → (f s).work ≡ s.work
  pub told : (marks : List Mark) (call : Call) (s : CallState) → IsTold marks call s → IsTold marks call (f s)

pub tells_after_change : (marks : List Mark) (call : Call) (f : CallState → CallState) (old new : Call → Option CallState) (last : ℕ → ℕ) (drawn : Stamp → Bool)
    → KeepsTold f → Changes call f old new → Tells marks old last drawn → Tells marks new last drawn
tells_after_change marks call f old new last drawn keeps is h = record {
  told = λ other now found. elim (changed call f old new is other now found) as (λ _. IsTold marks other now) [
    | inl same ↦ h.told other now same.1
    | inr it ↦ subst (λ (c : Call). IsTold marks c now) it.0 (subst (λ (s : CallState). IsTold marks call s) (sym it.1.2) (keeps.told marks call it.1.0 (h.told call it.1.0 it.1.1)))
  ];
  begun = λ other key work c. kept_on call f old new is keeps.key keeps.work other key work (h.begun other key work c);
  named = λ other mark c names. still_kept call f old new is other (h.named other mark c names);
  numbers = h.numbers;
  low = λ other now found. elim (changed call f old new is other now found) as (λ _. other.seq ≤ last other.proxy) [
    | inl same ↦ h.low other now same.1
    | inr it ↦ subst (λ (c : Call). c.seq ≤ last c.proxy) it.0 (h.low call it.1.0 it.1.1)
  ];
  was = h.was;
  drawn_is = h.drawn_is;
  own = h.own;
}

-- a line of this call alone, that doesn't begin it
pub record IsOfCall (mark : Mark) (call : Call) : Type 0 where
  pub passes : (other : Call) → is_same_call call other ≡ false → PassesBy mark other
  pub names : call_of mark ≡ Some call
  pub begins : (other : Call) (key : KeyId) (work : Work) → mark ≡ k.Begin other key work → ⊥
  pub numbers : (proxy last : ℕ) → seq_after proxy last mark ≡ last

-- what is kept of tickets is what the lines tell
pub record TicketsAre (marks : List Mark) (drawn : Stamp → Bool) : Type 0 where
  pub was : (stamp : Stamp) → drawn stamp ≡ true → (call : Call) × Contains marks (k.Ticket call stamp)
  pub drawn_is : (call : Call) (stamp : Stamp) → Contains marks (k.Ticket call stamp) → drawn stamp ≡ true
  pub own : (call : Call) (stamp : Stamp) → Contains marks (k.Ticket call stamp) → (stamp.proxy ≡ call.proxy) × (stamp.seq ≡ call.seq) × (1 ≤ stamp.number)

pub tells_after_line : (marks : List Mark) (mark : Mark) (call : Call) (state : CallState) (f : CallState → CallState) (old new : Call → Option CallState) (last : ℕ → ℕ) (drawn after : Stamp → Bool)
    → IsOfCall mark call → ((s : CallState) → (f s).key ≡ s.key) → ((s : CallState) → (f s).work ≡ s.work) → Changes call f old new → old call ≡ Some state
    → IsTold (more marks mark) call (f state) → TicketsAre (more marks mark) after → Tells marks old last drawn → Tells (more marks mark) new last after
tells_after_line marks mark call state f old new last drawn after of_call key_stays work_stays is at told tickets h = record {
  told = λ other now found. elim (changed call f old new is other now found) as (λ _. IsTold (more marks mark) other now) [
    | inl same ↦ told_stays marks mark other now (of_call.passes other same.0) (h.told other now same.1)
    | inr it ↦
        let one = same_Some it.1.0 state (sym it.1.1 ∙ at) in
        subst (λ (c : Call). IsTold (more marks mark) c now) it.0 (subst (λ (s : CallState). IsTold (more marks mark) call s) (sym (it.1.2 ∙ ap f one)) told)
  ];
  begun = λ other key work c. elim (Contains-push_cases marks mark (k.Begin other key work) c) as (λ _. IsKept (new other) key work) [
    | inl old_ ↦ kept_on call f old new is key_stays work_stays other key work (h.begun other key work old_)
    | inr new_ ↦ absurd (of_call.begins other key work new_)
  ];
  named = λ other one c names. still_kept call f old new is other (elim (Contains-push_cases marks mark one c) as (λ _. (s : CallState) × (old other ≡ Some s)) [
    | inl old_ ↦ h.named other one old_ names
    | inr new_ ↦
        let same = same_Some call other (sym of_call.names ∙ ap call_of new_ ∙ names) in
        subst (λ (c : Call). (s : CallState) × (old c ≡ Some s)) same (state, at)
  ]);
  numbers = λ proxy. h.numbers proxy ∙ sym (last_of_more proxy marks mark ∙ of_call.numbers proxy (last_seq proxy marks));
  low = λ other now found. elim (changed call f old new is other now found) as (λ _. other.seq ≤ last other.proxy) [
    | inl same ↦ h.low other now same.1
    | inr it ↦ subst (λ (c : Call). c.seq ≤ last c.proxy) it.0 (h.low call it.1.0 it.1.1)
  ];
  was = tickets.was;
  drawn_is = tickets.drawn_is;
  own = tickets.own;
}
