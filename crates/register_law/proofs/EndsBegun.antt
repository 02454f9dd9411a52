-- Each begin is numbered, stands once, and is noted with the floor before it.
use Rattle.std.proofs.Common.{◌≡◌, inl, inr, ℕ, ◌+◌, ◌≤◌, List, ◌∷◌, ◌++◌, ap, subst, arith, true, [], refl, sym, ◌∙◌, ◌⊎◌, Some, IsSome, Contains}
use Rattle.register_law.proofs.Words.{Call, KeyId, tag_of, Tag, call_of, Mark, Work, tag_of_call, Store, proxy_at, Happening, Happened, next_call, Ghost, noted_of, Inv, IsNumbered, is_noted, IsAtMost, Stamp, BegunAfter, Begun, Contains-append_cases, Contains-append_left, append_assoc, none_among, draws_ticket}
use Rattle.wire_msg.specs.declared.actor.Actor.TheVariants as to
use Rattle.run_marks.specs.declared.mark.Mark.TheVariants as k
use Rattle.register_law.proofs.Growth.{calls_grow}
use Rattle.register_law.proofs.MarksAre.{MarkOf, begins_now, takes_now, gives_up, marks_are, mark_of, BeginsNone, MarkIs, nobodys, refused_begin, started_begin, mark_is, end_begins, ticket_begins, start_ticket}
use Rattle.register_law.proofs.MarksOfKey.{Splits, in_front, behind, splits, in_between}
use Rattle.register_law.proofs.BegunCalls.{BegunIs, begun_before, begun_now, begun_is, begins_next, begun_noted, begun_some_stays, BeginsWith, begun_with}

-- each call that is marked was begun
pub numbered_after : (key : KeyId) (s : Store) (g : Ghost) (h : Happening) → Happened s h → Inv key s g → (call : Call) (mark : Mark) → Contains (g.marks ++ h.marks) mark → call_of mark ≡ Some call → (1 ≤ call.seq) × (call.seq ≤ (proxy_at h.store call.proxy).begun)
numbered_after key s g h is inv call mark c of =
    elim (Contains-append_cases g.marks h.marks mark c) as (λ _. (1 ≤ call.seq) × (call.seq ≤ (proxy_at h.store call.proxy).begun)) [
      | inl old ↦ (let n = inv.ends.marks_numbered call mark old of in let le = n.1 in let more = calls_grow s h is call.proxy in (n.0, omega arith))
      | inr new ↦ from_mark (mark_of s h (marks_are s h is) mark call of new)
    ]
  where
    of_tag : (tag : Tag) → IsNumbered s tag → tag.call ≡ call → (1 ≤ call.seq) × (call.seq ≤ (proxy_at h.store call.proxy).begun)
    of_tag tag n same =
        let le = n.begun in
        let more = calls_grow s h is tag.call.proxy in
        let both : (1 ≤ tag.call.seq) × (tag.call.seq ≤ (proxy_at h.store tag.call.proxy).begun) = (n.some, omega arith) in
        subst (λ (c : Call). (1 ≤ c.seq) × (c.seq ≤ (proxy_at h.store c.proxy).begun)) same both

    from_mark : MarkOf s h call → (1 ≤ call.seq) × (call.seq ≤ (proxy_at h.store call.proxy).begun)
    from_mark (begins_now at work rest marks) =
        let b = begins_next s h is call at work rest marks in
        let e : call.seq ≡ (proxy_at s call.proxy).begun + 1 = ap (λ (c : Call). c.seq) b.next in
        (omega arith, b.counted)
    from_mark (takes_now p message live took same) = of_tag (tag_of message) (inv.tags.sent_numbered message (to.Proxy p, took.sent)) same
    from_mark (gives_up p live given same) = of_tag (tag_of_call live) (inv.tags.live_numbered p given.handle live given.live).0 same

-- no call that is marked begins next
pub marked_is_old : (key : KeyId) (s : Store) (g : Ghost) → Inv key s g → (call : Call) (mark : Mark) → Contains g.marks mark → call_of mark ≡ Some call → (p : ℕ) → call ≡ next_call s p → ⊥
marked_is_old key s g inv call mark c of p same =
    let le : (next_call s p).seq ≤ (proxy_at s (next_call s p).proxy).begun = subst (λ (x : Call). x.seq ≤ (proxy_at s x.proxy).begun) same (inv.ends.marks_numbered call mark c of).1 in
    omega arith

pub marked_begins_not : (key : KeyId) (s : Store) (g : Ghost) (h : Happening) → Happened s h → Inv key s g → (call : Call) (mark : Mark) → Contains g.marks mark → call_of mark ≡ Some call → (at : KeyId) (work : Work) (rest : List Mark) → h.marks ≡ k.Begin call at work ∷ rest → ⊥
marked_begins_not key s g h is inv call mark c of at work rest marks = marked_is_old key s g inv call mark c of call.proxy (begins_next s h is call at work rest marks).next

-- a call that is marked and is one of the key now was one before
pub was_of_key : (key : KeyId) (s : Store) (g : Ghost) (h : Happening) → Happened s h → Inv key s g → (call : Call) (mark : Mark) → Contains g.marks mark → call_of mark ≡ Some call → IsSome ((noted_of key s h g).begun call) → IsSome (g.begun call)
was_of_key key s g h is inv call mark c of some = by (begun_is key s g h call some)
  where
    by : BegunIs key g h.marks call → IsSome (g.begun call)
    by (begun_before b) = b
    by (begun_now work rest marks) = absurd (marked_begins_not key s g h is inv call mark c of key work rest marks)

-- ---- each call begins in one place, and what begins on the key is noted

-- a begin among the marks of an event is the first of them
pub new_begin : (X : Type 0) (s : Store) (h : Happening) → Happened s h → (call : Call) (at : KeyId) (work : Work) → Contains h.marks (k.Begin call at work) → ((rest : List Mark) → h.marks ≡ k.Begin call at work ∷ rest → BeginsNone rest → X) → X
new_begin X s h is call at work c f = by call at work (mark_is s h (marks_are s h is) (k.Begin call at work) c) f
  where
    by : (one : Call) (on : KeyId) (asked : Work) → MarkIs s h (k.Begin one on asked) → ((rest : List Mark) → h.marks ≡ k.Begin one on asked ∷ rest → BeginsNone rest → X) → X
    by one on asked (nobodys _ none) f = absurd (cc)
    by one on asked (refused_begin p key what reply marks) f = f _ marks (end_begins (next_call s p) reply)
    by one on asked (started_begin p key what st marks) f = f _ marks (ticket_begins (next_call s p) (start_ticket s p key) (draws_ticket what))

-- each call's begin stands in one place
pub begins_once_after : (key : KeyId) (s : Store) (g : Ghost) (h : Happening) → Happened s h → Inv key s g → (call : Call) (at : KeyId) (work : Work) (earlier later : List Mark) → g.marks ++ h.marks ≡ earlier ++ k.Begin call at work ∷ later → (other : KeyId) (again : Work)
    → (Contains earlier (k.Begin call other again) → ⊥) × (Contains later (k.Begin call other again) → ⊥)
begins_once_after key s g h is inv call at work earlier later split other again = by (splits g.marks h.marks earlier (k.Begin call at work) later split)
  where
    by : Splits g.marks h.marks earlier (k.Begin call at work) later → (Contains earlier (k.Begin call other again) → ⊥) × (Contains later (k.Begin call other again) → ⊥)
    by (in_front m front back) =
        let once = inv.ends.begins_once call at work earlier m front other again in (
          once.0,
          λ c. elim (Contains-append_cases m h.marks (k.Begin call other again) (subst (λ (x : List Mark). Contains x (k.Begin call other again)) back c)) as (λ _. ⊥) [
            | inl old ↦ once.1 old
            | inr new ↦ new_begin ⊥ s h is call other again new (λ rest marks none. marked_begins_not key s g h is inv call (k.Begin call at work) (in_between g.marks earlier (k.Begin call at work) m front) refl other again rest marks)
          ],
        )
    by (behind m front back) = new_begin ((Contains earlier (k.Begin call other again) → ⊥) × (Contains later (k.Begin call other again) → ⊥)) s h is call at work (in_between h.marks m (k.Begin call at work) later back) (λ rest marks none. at_head rest marks none m front (sym marks ∙ back))
      where
        fresh : (rest : List Mark) → h.marks ≡ k.Begin call at work ∷ rest → Contains g.marks (k.Begin call other again) → ⊥
        fresh rest marks c = marked_begins_not key s g h is inv call (k.Begin call other again) c refl at work rest marks

        at_head : (rest : List Mark) → h.marks ≡ k.Begin call at work ∷ rest → BeginsNone rest → (n : List Mark) → earlier ≡ g.marks ++ n → k.Begin call at work ∷ rest ≡ n ++ k.Begin call at work ∷ later → (Contains earlier (k.Begin call other again) → ⊥) × (Contains later (k.Begin call other again) → ⊥)
        at_head rest marks none [] e same =
            let all : rest ≡ later = cc in (
              (λ c. elim (Contains-append_cases g.marks [] (k.Begin call other again) (subst (λ (x : List Mark). Contains x (k.Begin call other again)) e c)) as (λ _. ⊥) [ inl old ↦ fresh rest marks old | inr new ↦ none_among (k.Begin call other again) new ]),
              (λ c. none call other again (subst (λ (x : List Mark). Contains x (k.Begin call other again)) (sym all) c)),
            )
        at_head rest marks none (x ∷ xs) e same =
            let tail : rest ≡ xs ++ k.Begin call at work ∷ later = cc in
            absurd (none call at work (in_between rest xs (k.Begin call at work) later tail))

-- what begins as a read, a write or a move of the key is noted
pub noted_after : (key : KeyId) (s : Store) (g : Ghost) (h : Happening) → Happened s h → Inv key s g → (call : Call) (work : Work) → Contains (g.marks ++ h.marks) (k.Begin call key work) → is_noted work ≡ true → IsSome ((noted_of key s h g).begun call)
noted_after key s g h is inv call work c noted =
    elim (Contains-append_cases g.marks h.marks (k.Begin call key work) c) as (λ _. IsSome ((noted_of key s h g).begun call)) [
      | inl old ↦ begun_some_stays key s g h is inv.requests call (inv.ends.noted call work old noted)
      | inr new ↦ new_begin (IsSome ((noted_of key s h g).begun call)) s h is call key work new (λ rest marks none. begun_noted key s g h call work rest noted marks)
    ]

-- ---- what was noted of a call is what its begin found

-- where a call's begin stands, and what it found
pub begins_after : (key : KeyId) (s : Store) (g : Ghost) (h : Happening) → Happened s h → Inv key s g → (call : Call) (b : Begun) → (noted_of key s h g).begun call ≡ Some b → BegunAfter (noted_of key s h g) call b key
begins_after key s g h is inv call b e = by (begun_with key s g h call b e)
  where
    by : (g.begun call ≡ Some b) ⊎ BeginsWith key s g h call b → BegunAfter (noted_of key s h g) call b key
    by (inl old) =
        let was : BegunAfter g call b key = inv.ends.begins call b old in
        record {
          earlier = was.earlier;
          later = was.later ++ h.marks;
          split = ap (λ (x : List Mark). x ++ h.marks) was.split ∙ append_assoc was.earlier (k.Begin call key b.work ∷ was.later) h.marks;
          floor = λ other reply stamp some ends answered. was.floor other reply stamp
              (was_of_key key s g h is inv other (k.End other reply) (subst (λ (x : List Mark). Contains x (k.End other reply)) (sym was.split) (Contains-append_left was.earlier (k.Begin call key b.work ∷ was.later) (k.End other reply) ends)) refl some) ends answered;
        }
    by (inr new) = record {
      earlier = g.marks;
      later = new.rest;
      split = ap (λ (x : List Mark). g.marks ++ x) new.marks;
      floor = λ other reply stamp some ends answered. subst (λ (x : Stamp). IsAtMost stamp x) (sym new.floor)
          (inv.ends.top_greatest other reply stamp (was_of_key key s g h is inv other (k.End other reply) ends refl some) ends answered);
    }
