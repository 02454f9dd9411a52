-- How many calls take effect: the calls that are kept as counted are those with an effect.
use Rattle.std.proofs.Common.{◌≡◌, ◌≢◌, inl, inr, ℕ, ◌+◌, Bool, true, false, ◌&&◌, cond, List, [], ◌∷◌, length, length-append, Option, Some, None, refl, sym, ap, subst, ◌∙◌, arith}
use Rattle.std.specs.Prelude.{Contains, is_some, min, option_map, take}
use Rattle.std.specs.List.{count_by, flat_map}
use Rattle.std.proofs.lemmas.Bool.{and_from, false_from_ne_true}
use Rattle.std.proofs.lemmas.List.Sums.{sum_by-append, sum_by-cons, sum_by_push}
use Rattle.span_base.specs.declared.ids.Call.{Call}
use Rattle.span_base.specs.declared.ids.KeyId.{KeyId}
use Rattle.ticket_rules.specs.declared.stamp.Stamp.{Stamp}
use Rattle.ticket_rules.specs.Stamp.{stamp_zero}
use Rattle.wire_msg.specs.declared.outputs.Reply.TheVariants as r
use Rattle.run_marks.specs.declared.mark.Work.{Work}
use Rattle.run_marks.specs.declared.mark.Work.TheVariants as w
use Rattle.run_marks.specs.declared.mark.Mark.{Mark}
use Rattle.run_marks.specs.declared.mark.Mark.TheVariants as k
use Rattle.run_marks.specs.History.{is_register_work, is_same_call}
use Rattle.run_marks.specs.Register.{Effect}
use Rattle.register_order.specs.Agree.{BeginsOnce}
use Rattle.register_order.specs.Form.{KeepsCall}
use Rattle.register_order.specs.Clauses.{EachKeeps}
use Rattle.register_order.proofs.Lines.{each_weaker}
use Rattle.register_order.proofs.Numbered.{numbered_calls_begin_once}
use Rattle.history_audit.proofs.Events.{no_begin_again}
use Rattle.register_order.specs.Order.{effect, effects_at, effects_by, effects_of, is_given, read_at, write_at}
use Rattle.register_order.proofs.Effects.{counted, in_read_at, in_write_at}
use Rattle.register_order.proofs.Members.{Contains-here, Contains-there, in_flat_map, into_cond, into_flat_map, none_among, parted}
use Rattle.register_order.proofs.Tests.{call_is_itself, same_call, test_from_given}
use Rattle.history_audit.specs.declared.calls.CallState.{CallState}
use Rattle.history_audit.specs.Calls.{counting}
use Rattle.history_audit.specs.Told.{IsKept, KeepsFirst, Tells}
use Rattle.history_audit.specs.Counted.{Counted, CountsWith, IsCounted}
use Rattle.history_audit.specs.Judging.{drawer_of, CountsGiven, MayGive}
use Rattle.history_audit.specs.Summed.{counts_at, is_counted}
use Rattle.history_audit.proofs.Telling.{more}
use Rattle.history_audit.proofs.Changing.{Changes}

count_same : {X : Type 0} (p q : X → Bool) (xs : List X) → ((x : X) → Contains xs x → p x ≡ q x) → count_by p xs ≡ count_by q xs
count_same {X} p q [] same = refl
count_same {X} p q (x ∷ xs) same =
    let one = sum_by-cons (λ y. cond (p y) 1 0) x xs in
    let other = sum_by-cons (λ y. cond (q y) 1 0) x xs in
    let here = ap {B = ℕ} (λ (b : Bool). cond b 1 0) (same x (Contains-here x xs)) in
    let rest = count_same p q xs (λ y c. same y (Contains-there x xs y c)) in
    omega (arith, one, other, here, rest)

-- two tables that count the same of the calls that began
pub same_counts : (marks : List Mark) (old new : Call → Option CallState) → ((other : Call) (key : KeyId) (work : Work) → Contains marks (k.Begin other key work) → is_counted (new other) ≡ is_counted (old other))
    → count_by (counts_at new) marks ≡ count_by (counts_at old) marks
same_counts marks old new same = count_same (counts_at new) (counts_at old) marks by_mark
  where
    by_mark : (mark : Mark) → Contains marks mark → counts_at new mark ≡ counts_at old mark
    by_mark (k.Begin other key work) c = same other key work c
    by_mark (k.Ticket call stamp) c = refl
    by_mark (k.End call reply) c = refl
    by_mark (k.Epoch epoch) c = refl
    by_mark (k.NoEpoch cause) c = refl

pub changed_counts : (call : Call) (f : CallState → CallState) (old new : Call → Option CallState) → Changes call f old new → ((s : CallState) → is_some (f s).counted ≡ is_some s.counted) → (other : Call) → is_counted (new other) ≡ is_counted (old other)
changed_counts call f old new is stays other = by_test (is_same_call call other) refl
  where
    map_counts : (o : Option CallState) → is_counted (option_map f o) ≡ is_counted o
    map_counts None = refl
    map_counts (Some s) = stays s

    by_test : (b : Bool) → is_same_call call other ≡ b → is_counted (new other) ≡ is_counted (old other)
    by_test true same =
        let e = subst (λ (b : Bool). new other ≡ cond b (option_map f (old call)) (old other)) same (is other) in
        ap is_counted e ∙ map_counts (old call) ∙ ap (λ (c : Call). is_counted (old c)) (same_call call other same)
    by_test false same = ap is_counted (subst (λ (b : Bool). new other ≡ cond b (option_map f (old call)) (old other)) same (is other))

-- a line that begins no counted call
pub counted_with_line : (marks : List Mark) (mark : Mark) (old new : Call → Option CallState) (number : ℕ) → counts_at new mark ≡ false → ((other : Call) (key : KeyId) (work : Work) → Contains marks (k.Begin other key work) → is_counted (new other) ≡ is_counted (old other))
    → number ≡ min (count_by (counts_at old) marks) 4294967295 → number ≡ min (count_by (counts_at new) (more marks mark)) 4294967295
counted_with_line marks mark old new number none same is =
    let one = sum_by_push (λ (m : Mark). cond (counts_at new m) 1 0) marks mark in
    let nothing = ap {B = ℕ} (λ (b : Bool). cond b 1 0) none in
    let before = same_counts marks old new same in
    omega (arith, one, nothing, before, is)

-- a call counts that has begun: one more does, where it didn't before
counting_adds : (marks : List Mark) (call : Call) (key : KeyId) (work : Work) (stamp : Stamp) (state : CallState) (old new : Call → Option CallState) → BeginsOnce marks → Contains marks (k.Begin call key work) → old call ≡ Some state → Changes call (counting stamp) old new
    → count_by (counts_at new) marks ≡ count_by (counts_at old) marks + cond (is_counted (old call)) 0 1
counting_adds marks call key work stamp state old new once begun at is = by_counted (is_counted (old call)) refl
  where
    now : is_counted (new call) ≡ true
    now =
        let e = subst (λ (b : Bool). new call ≡ cond b (option_map (counting stamp) (old call)) (old call)) (call_is_itself call) (is call) in
        ap is_counted (e ∙ ap (option_map (counting stamp)) at)

    apart : (other : Call) → is_same_call call other ≡ false → is_counted (new other) ≡ is_counted (old other)
    apart other same = ap is_counted (subst (λ (b : Bool). new other ≡ cond b (option_map (counting stamp) (old call)) (old other)) same (is other))

    by_counted : (b : Bool) → is_counted (old call) ≡ b → count_by (counts_at new) marks ≡ count_by (counts_at old) marks + cond b 0 1
    by_counted true was = let e = same_counts marks old new (λ other at_ does c. each other (is_same_call call other) refl) in omega (arith, e)
      where
        each : (other : Call) (b : Bool) → is_same_call call other ≡ b → is_counted (new other) ≡ is_counted (old other)
        each other true same = subst (λ (c : Call). is_counted (new c) ≡ is_counted (old c)) (same_call call other same) (now ∙ sym was)
        each other false same = apart other same
    by_counted false was =
        let p = parted marks (k.Begin call key work) begun in
        let rule = λ (at_ : KeyId) (does : Work). once call key at_ work does p.0 p.1 p.2 in
        let front = same_counts p.0 old new (λ other at_ does c. apart other (other_call other (λ e. (rule at_ does).0 (subst (λ (d : Call). Contains p.0 (k.Begin d at_ does)) (sym e) c)))) in
        let back = same_counts p.1 old new (λ other at_ does c. apart other (other_call other (λ e. (rule at_ does).1 (subst (λ (d : Call). Contains p.1 (k.Begin d at_ does)) (sym e) c)))) in
        let a = ap (λ (ms : List Mark). count_by (counts_at new) ms) p.2 ∙ sum_by-append (λ (m : Mark). cond (counts_at new m) 1 0) p.0 (k.Begin call key work ∷ p.1) in
        let b = sum_by-cons (λ (m : Mark). cond (counts_at new m) 1 0) (k.Begin call key work) p.1 in
        let c = ap (λ (ms : List Mark). count_by (counts_at old) ms) p.2 ∙ sum_by-append (λ (m : Mark). cond (counts_at old m) 1 0) p.0 (k.Begin call key work ∷ p.1) in
        let d = sum_by-cons (λ (m : Mark). cond (counts_at old m) 1 0) (k.Begin call key work) p.1 in
        let e = ap {B = ℕ} (λ (t : Bool). cond t 1 0) now in
        let f = ap {B = ℕ} (λ (t : Bool). cond t 1 0) was in
        omega (arith, a, b, c, d, e, f, front, back)
      where
        other_call : (other : Call) → (call ≡ other → ⊥) → is_same_call call other ≡ false
        other_call other no_ = false_from_ne_true (is_same_call call other) (λ h. no_ (same_call call other h))

pub counted_more : (marks : List Mark) (call : Call) (key : KeyId) (work : Work) (stamp : Stamp) (state : CallState) (old new : Call → Option CallState) (number after : ℕ) → BeginsOnce marks → Contains marks (k.Begin call key work) → old call ≡ Some state
    → Changes call (counting stamp) old new → after ≡ cond (is_counted (old call)) number (min (number + 1) 4294967295) → number ≡ min (count_by (counts_at old) marks) 4294967295 → after ≡ min (count_by (counts_at new) marks) 4294967295
counted_more marks call key work stamp state old new number after once begun at is rises number_is = by_counted (is_counted (old call)) rises (counting_adds marks call key work stamp state old new once begun at is)
  where
    by_counted : (b : Bool) → after ≡ cond b number (min (number + 1) 4294967295) → count_by (counts_at new) marks ≡ count_by (counts_at old) marks + cond b 0 1 → after ≡ min (count_by (counts_at new) marks) 4294967295
    by_counted true a c = omega (arith, a, c, number_is)
    by_counted false a c = omega (arith, a, c, number_is)

-- a call that has just begun isn't counted
pub begun_counts : (marks : List Mark) (call : Call) (key : KeyId) (work : Work) (fresh : CallState) (old new : Call → Option CallState) (last : ℕ → ℕ) (drawn : Stamp → Bool) → Tells marks old last drawn → KeepsCall marks (k.Begin call key work)
    → ((other : Call) → new other ≡ cond (is_same_call call other) (Some fresh) (old other)) → (other : Call) (at : KeyId) (does : Work) → Contains marks (k.Begin other at does) → is_counted (new other) ≡ is_counted (old other)
begun_counts marks call key work fresh old new last drawn h keeps is other at does there = by_test (is_same_call call other) refl
  where
    by_test : (b : Bool) → is_same_call call other ≡ b → is_counted (new other) ≡ is_counted (old other)
    by_test true same =
        absurd (no_begin_again marks (k.Begin call key work) old last drawn h keeps other (k.Begin other at does) there refl key work (ap (λ (c : Call). k.Begin c key work) (same_call call other same)))
    by_test false same = ap is_counted (subst (λ (b : Bool). new other ≡ cond b (Some fresh) (old other)) same (is other))

pub begun_counts_not : (call : Call) (fresh : CallState) (old new : Call → Option CallState) → fresh.counted ≡ None → ((other : Call) → new other ≡ cond (is_same_call call other) (Some fresh) (old other)) → is_counted (new call) ≡ false
begun_counts_not call fresh old new none is = ap is_counted (subst (λ (b : Bool). new call ≡ cond b (Some fresh) (old call)) (call_is_itself call) (is call)) ∙ ap is_some none

-- what a read gives counts
pub given_more : (marks : List Mark) (key : KeyId) (floor stamp : Stamp) (value : List ℕ) (old given : Call → Option CallState) (last : ℕ → ℕ) (drawn : Stamp → Bool) (number after : ℕ) → Tells marks old last drawn → BeginsOnce marks → MayGive marks old key floor stamp value
    → CountsGiven stamp old given → (stamp ≡ stamp_zero → after ≡ number) → (stamp ≢ stamp_zero → after ≡ cond (is_counted (old (drawer_of stamp))) number (min (number + 1) 4294967295))
    → number ≡ min (count_by (counts_at old) marks) 4294967295 → after ≡ min (count_by (counts_at given) marks) 4294967295
given_more marks key floor stamp value old given last drawn number after h once may is none one number_is = elim may as (λ _. after ≡ min (count_by (counts_at given) marks) 4294967295) [
  | inl it ↦
      let same = same_counts marks old given (λ other at does c. ap is_counted (is.none it.0 other)) in
      let e = none it.0 in
      omega (arith, same, e, number_is)
  | inr it ↦
      let writer = it.1.0 in
      let by = it.1.1 in
      counted_more marks (drawer_of stamp) writer.key writer.work stamp writer old given number after once (h.told (drawer_of stamp) writer by.found).begun by.found (is.one it.0) (one it.0) number_is
]

pub begin_once : (marks : List Mark) → EachKeeps KeepsFirst [] marks → BeginsOnce marks
begin_once marks each = numbered_calls_begin_once marks (each_weaker KeepsFirst KeepsCall (λ before mark keeps. keeps.form.call) [] marks each)

-- as many effects as calls that are counted
has_one : {X : Type 0} (xs : List X) (x : X) → Contains xs x → length (take 1 xs) ≡ 1
has_one {X} [] x c = absurd (none_among x c)
has_one {X} (y ∷ ys) x c = refl

has_none : {X : Type 0} (xs : List X) → ((x : X) → Contains xs x → ⊥) → length (take 1 xs) ≡ 0
has_none {X} [] no_ = refl
has_none {X} (y ∷ ys) no_ = absurd (no_ y (Contains-here y ys))

length_counts : {X Y : Type 0} (f : X → List Y) (p : X → Bool) (xs : List X) → ((x : X) → Contains xs x → length (f x) ≡ cond (p x) 1 0) → length (flat_map f xs) ≡ count_by p xs
length_counts {X} {Y} f p [] each = refl
length_counts {X} {Y} f p (x ∷ xs) each =
    let here = each x (Contains-here x xs) in
    let rest = length_counts f p xs (λ y c. each y (Contains-there x xs y c)) in
    let one = length-append (f x) (flat_map f xs) in
    let other = sum_by-cons (λ y. cond (p y) 1 0) x xs in
    omega (arith, here, rest, one, other)

module _ (marks : List Mark) (kept : Call → Option CallState) (last : ℕ → ℕ) (drawn : Stamp → Bool) (top : ℕ → Stamp) (h : Tells marks kept last drawn) (c : Counted marks kept top) where
  read_effects : (call : Call) (state : CallState) → state.work ≡ w.Read → IsCounted marks call state → length (take 1 (flat_map (read_at call) marks)) ≡ cond (is_some state.counted) 1 0
  read_effects call state does of_ = by_count state.counted refl
    where
      by_count : (o : Option Stamp) → state.counted ≡ o → length (take 1 (flat_map (read_at call) marks)) ≡ cond (is_some o) 1 0
      by_count (Some stamp) e =
          let it = of_.read_counts stamp does e in
          has_one (flat_map (read_at call) marks) (effect call false stamp it.0)
          (into_flat_map (read_at call) marks (k.End call (r.Value stamp it.0)) (effect call false stamp it.0) it.1
          (into_cond (is_same_call call call) (effect call false stamp it.0 ∷ []) (effect call false stamp it.0) (call_is_itself call) (Contains-here (effect call false stamp it.0) [])))
      by_count None e = has_none (flat_map (read_at call) marks) none
        where
          none : (x : Effect) → Contains (flat_map (read_at call) marks) x → ⊥
          none x there =
              let found = in_flat_map (read_at call) marks x there in
              let it = in_read_at call found.0 x found.2 in
              let some = of_.read_counted it.stamp it.value does (subst (λ (m : Mark). Contains marks m) it.is found.1) in
              cc (sym e ∙ some)

  write_effects : (call : Call) (state : CallState) (value : List ℕ) → state.work ≡ w.Write value → IsCounted marks call state → length (take 1 (flat_map (write_at marks call value) marks)) ≡ cond (is_some state.counted) 1 0
  write_effects call state value does of_ = by_count state.counted refl
    where
      there_is : (stamp : Stamp) → CountsWith marks call stamp → Contains (flat_map (write_at marks call value) marks) (effect call true stamp value)
      there_is stamp (inl ended) =
          into_flat_map (write_at marks call value) marks (k.End call (r.Stored stamp)) (effect call true stamp value) ended
          (into_cond (is_same_call call call) (effect call true stamp value ∷ []) (effect call true stamp value) (call_is_itself call) (Contains-here (effect call true stamp value) []))
      there_is stamp (inr given) =
          into_flat_map (write_at marks call value) marks (k.Ticket call stamp) (effect call true stamp value) given.0
          (into_cond (is_same_call call call && is_given marks stamp) (effect call true stamp value ∷ []) (effect call true stamp value)
          (and_from (is_same_call call call) (is_given marks stamp) (call_is_itself call) (test_from_given marks stamp given.1)) (Contains-here (effect call true stamp value) []))

      by_count : (o : Option Stamp) → state.counted ≡ o → length (take 1 (flat_map (write_at marks call value) marks)) ≡ cond (is_some o) 1 0
      by_count (Some stamp) e = has_one (flat_map (write_at marks call value) marks) (effect call true stamp value) (there_is stamp (of_.counts value stamp does e).0)
      by_count None e = has_none (flat_map (write_at marks call value) marks) none
        where
          none : (x : Effect) → Contains (flat_map (write_at marks call value) marks) x → ⊥
          none x there =
              let found = in_flat_map (write_at marks call value) marks x there in
              let it = in_write_at marks call value found.0 x found.2 in
              let some = of_.counted value it.stamp does (counted marks call it.stamp found.0 found.1 it.is) in
              cc (sym e ∙ some)

  no_effects : (state : CallState) (call : Call) → is_register_work state.work ≡ false → IsCounted marks call state → ◌≡◌ {A = ℕ} 0 (cond (is_some state.counted) 1 0)
  no_effects state call other of_ = uncounted state.counted (of_.others other)
    where
      uncounted : (o : Option Stamp) → o ≡ None → ◌≡◌ {A = ℕ} 0 (cond (is_some o) 1 0)
      uncounted None e = refl
      uncounted (Some stamp) e = absurd (cc e)

  -- by what the call that begins does
  effects_here : (mark : Mark) → Contains marks mark → length (effects_at marks mark) ≡ cond (counts_at kept mark) 1 0
  effects_here (k.Begin call key work) begun = subst (λ (o : Option CallState). length (effects_by marks call work) ≡ cond (is_counted o) 1 0) (sym it.found) (by_work work it.work_is)
    where
      it : IsKept (kept call) key work
      it = h.begun call key work begun

      of_ : IsCounted marks call it.state
      of_ = c.each call it.state it.found

      by_work : (does : Work) → it.state.work ≡ does → length (effects_by marks call does) ≡ cond (is_some it.state.counted) 1 0
      by_work w.Read is = read_effects call it.state is of_
      by_work (w.Write value) is = write_effects call it.state value is of_
      by_work w.Get is = no_effects it.state call (ap is_register_work is) of_
      by_work w.GetAny is = no_effects it.state call (ap is_register_work is) of_
      by_work (w.Put value) is = no_effects it.state call (ap is_register_work is) of_
      by_work w.Move is = no_effects it.state call (ap is_register_work is) of_
  effects_here (k.Ticket call stamp) there = refl
  effects_here (k.End call reply) there = refl
  effects_here (k.Epoch epoch) there = refl
  effects_here (k.NoEpoch cause) there = refl

  pub as_many_effects : length (effects_of marks) ≡ count_by (counts_at kept) marks
  unfolding effects_of
  as_many_effects = length_counts (effects_at marks) (counts_at kept) marks effects_here
