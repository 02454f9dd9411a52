-- What is noted of the call that an event begins: its proxy's next one, with its work.
use Rattle.std.proofs.Common.{◌≡◌, ℕ, ◌+◌, ◌<◌, ◌≤◌, Bool, true, false, List, [], ◌∷◌, ◌++◌, refl, sym, ap, ◌∙◌, subst, arith, ◌==◌, ◌&&◌, if◌then◌else◌, length, Option, Some, None, IsSome, ◌⊎◌, inl, inr}
use Rattle.std.proofs.lemmas.Bool.{eq-eqb}
use Rattle.register_law.proofs.Words.{Call, KeyId, Stamp, Reply, current_of, is_same_call, Mark, Work, Proxy, Store, proxy_at, Happening, end_marks, fits_mode, ticket_marks, with_proxy, Happened, call_took, gave_up, next_call, not_published, published, refused_at_once, started, Begun, Ghost, begun_after, is_noted, noted_of, RequestsAreOne}
use Rattle.run_marks.specs.declared.mark.Work.TheVariants as w
use Rattle.run_marks.specs.declared.mark.Mark.TheVariants as k
use Rattle.register_order.proofs.Tests.{same_call}
use Rattle.register_law.proofs.Growth.{step_grows}
use Rattle.register_law.proofs.Basics.{is_itself, key_is, is_made, some_begun, is_some_of}
use Rattle.register_law.proofs.TagsCalls.{proxy_is}

-- a call of the key that is begun after an event
pub data BegunIs (key : KeyId) (g : Ghost) (marks : List Mark) (call : Call) : Type 0 where
  begun_before : IsSome (g.begun call) → BegunIs key g marks call
  begun_now : (work : Work) (rest : List Mark) → marks ≡ k.Begin call key work ∷ rest → BegunIs key g marks call

-- what is noted of a call that the event begins
pub record BeginsWith (key : KeyId) (s : Store) (g : Ghost) (h : Happening) (call : Call) (b : Begun) : Type 0 where
  pub rest : List Mark
  pub marks : h.marks ≡ k.Begin call key b.work ∷ rest
  pub floor : b.floor ≡ g.top
  pub epoch : b.epoch ≡ current_of s.directory key

noted_cases : (X : Type 0) (x y z : Bool) (new b : Begun) (was : Option Begun) → (x ≡ true → z ≡ true → new ≡ b → X) → (was ≡ Some b → X) → (if x && (y && z) then Some new else was) ≡ Some b → X
noted_cases X true true true new b was f g h = f refl refl (cc)
noted_cases X true true false new b was f g h = g h
noted_cases X x y z new b was f g h = g h

-- what is noted of a call after an event was noted before, or the event begins it
pub begun_with : (key : KeyId) (s : Store) (g : Ghost) (h : Happening) (call : Call) (b : Begun) → (noted_of key s h g).begun call ≡ Some b → (g.begun call ≡ Some b) ⊎ BeginsWith key s g h call b
begun_with key s g h call b e = by h.marks refl e
  where
    by : (marks : List Mark) → h.marks ≡ marks → begun_after key g.top (current_of s.directory key) marks g.begun call ≡ Some b → (g.begun call ≡ Some b) ⊎ BeginsWith key s g h call b
    by (k.Begin other at work ∷ rest) is e =
        noted_cases ((g.begun call ≡ Some b) ⊎ BeginsWith key s g h call b) (at.0 == key.0) (is_noted work) (is_same_call other call) (record { work = work; floor = g.top; epoch = current_of s.directory key }) b (g.begun call)
        (λ x z new. inr (record {
          rest = rest;
          marks = is ∙ ap (λ (v : KeyId). k.Begin other v work ∷ rest) (key_is at key x) ∙ ap (λ (v : Call). k.Begin v key work ∷ rest) (same_call other call z) ∙ ap (λ (v : Begun). k.Begin call key v.work ∷ rest) new;
          floor = ap (λ (v : Begun). v.floor) (sym new);
          epoch = ap (λ (v : Begun). v.epoch) (sym new);
        })) (λ was. inl was) e
    by marks is e = inl e

pub begun_is : (key : KeyId) (s : Store) (g : Ghost) (h : Happening) (call : Call) → IsSome ((noted_of key s h g).begun call) → BegunIs key g h.marks call
begun_is key s g h call some =
    let b = some_begun ((noted_of key s h g).begun call) some in
    elim (begun_with key s g h call b.0 b.1) as (λ _. BegunIs key g h.marks call) [ inl old ↦ begun_before (is_some_of (g.begun call) b.0 old) | inr new ↦ begun_now b.0.work new.rest new.marks ]

-- a read, a write or a move of the key that the first mark begins is noted with its work
pub begun_first : (key : KeyId) (top : Stamp) (epoch : ℕ) (marks rest : List Mark) (begun : Call → Option Begun) (call : Call) (work : Work) → is_noted work ≡ true → marks ≡ k.Begin call key work ∷ rest
    → begun_after key top epoch marks begun call ≡ Some (record { work = work; floor = top; epoch = epoch })
begun_first key top epoch marks rest begun call work noted is =
    subst (λ (x : List Mark). begun_after key top epoch x begun call ≡ Some (record { work = work; floor = top; epoch = epoch })) (sym is)
    (rw (eq-eqb key.0 key.0 refl, noted, is_itself call.proxy call.seq) refl)

pub begun_noted : (key : KeyId) (s : Store) (g : Ghost) (h : Happening) (call : Call) (work : Work) (rest : List Mark) → is_noted work ≡ true → h.marks ≡ k.Begin call key work ∷ rest → IsSome ((noted_of key s h g).begun call)
begun_noted key s g h call work rest noted is = subst (λ (x : Option Begun). IsSome x) (sym (begun_first key g.top (current_of s.directory key) h.marks rest g.begun call work noted is)) refl

-- what a strong key is asked for is noted
pub strong_noted : (work : Work) → fits_mode true work ≡ true → is_noted work ≡ true
strong_noted w.Get h = cc
strong_noted work h = cc

some_stays : (one other : Option Begun) → ((b : Begun) → one ≡ Some b → other ≡ Some b) → IsSome one → IsSome other
some_stays None other f h = absurd (cc)
some_stays (Some b) other f h = let e = f b refl in rw e refl

pub begun_some_stays : (key : KeyId) (s : Store) (g : Ghost) (h : Happening) → Happened s h → RequestsAreOne key s g → (call : Call) → IsSome (g.begun call) → IsSome ((noted_of key s h g).begun call)
begun_some_stays key s g h is one call some = some_stays (g.begun call) ((noted_of key s h g).begun call) (λ b e. (step_grows key s g h is (λ c z. (one.begun_numbered c z).1)).begun call b e) some

-- the call that an event begins is its proxy's next one, and is counted
pub record BeginsNext (s : Store) (h : Happening) (call : Call) : Type 0 where
  pub next : call ≡ next_call s call.proxy
  pub counted : call.seq ≤ (proxy_at h.store call.proxy).begun

next_counted : (s : Store) (p : ℕ) (h : Happening) (call : Call) → call ≡ next_call s p → (proxy_at h.store p).begun ≡ (proxy_at s p).begun + 1 → BeginsNext s h call
next_counted s p h call is counted = subst (BeginsNext s h) (sym is) (record { next = refl; counted = omega arith })

-- the proxy in whose place a call began
counts_one : (s : Store) (p : ℕ) (new : Proxy) → p < length s.proxies → new.begun ≡ (proxy_at s p).begun + 1 → (proxy_at (with_proxy s p new) p).begun ≡ (proxy_at s p).begun + 1
counts_one s p new lt is = ap (λ (x : Proxy). x.begun) (proxy_is s p new lt) ∙ is

call_marks : (X : Type 0) (of call : Call) (at : KeyId) (work : Work) (rest : List Mark) (t : Option Stamp) (e : Option Reply) → ticket_marks of t ++ end_marks of e ≡ k.Begin call at work ∷ rest → X
call_marks X of call at work rest None None h = absurd (cc)
call_marks X of call at work rest t e h = absurd (cc)

no_marks : (X : Type 0) (marks rest : List Mark) (mark : Mark) → marks ≡ [] → marks ≡ mark ∷ rest → X
no_marks X marks rest mark e h = absurd (cc)

pub begins_next : (s : Store) (h : Happening) → Happened s h → (call : Call) (at : KeyId) (work : Work) (rest : List Mark) → h.marks ≡ k.Begin call at work ∷ rest → BeginsNext s h call
begins_next s h (refused_at_once p key asked reply lt dead is) call at work rest e =
    let first : k.Begin (next_call s p) key asked ∷ k.End (next_call s p) reply ∷ [] ≡ k.Begin call at work ∷ rest = sym (ap (λ (x : Happening). x.marks) is) ∙ e in
    let same : call ≡ next_call s p = cc in
    next_counted s p h call same (ap (λ (x : Happening). (proxy_at x.store p).begun) is ∙ counts_one s p _ lt refl)
begins_next s h (started p key asked st) call at work rest e =
    let first : k.Begin (next_call s p) key asked ∷ _ ≡ k.Begin call at work ∷ rest = sym (ap (λ (x : Happening). x.marks) st.is) ∙ e in
    let same : call ≡ next_call s p = cc in
    next_counted s p h call same (ap (λ (x : Happening). (proxy_at x.store p).begun) st.is ∙ counts_one s p _ st.exists refl)
begins_next s h (call_took p message live took) call at work rest e = call_marks (BeginsNext s h call) _ call at work rest _ _ (sym (ap (λ (x : Happening). x.marks) took.is) ∙ e)
begins_next s h (gave_up p handle live lives is) call at work rest e = let no_begin = sym (ap (λ (x : Happening). x.marks) is) ∙ e in absurd (cc)
begins_next s h (published table right is) call at work rest e = let no_begin = sym (ap (λ (x : Happening). x.marks) is) ∙ e in absurd (cc)
begins_next s h (not_published cause is) call at work rest e = let no_begin = sym (ap (λ (x : Happening). x.marks) is) ∙ e in absurd (cc)
begins_next s h o call at work rest e = no_marks (BeginsNext s h call) h.marks rest (k.Begin call at work) (ap (λ (x : Happening). x.marks) (is_made s h o)) e
