-- The summary goes on with each line.
use Rattle.std.proofs.Common.{◌≡◌, inl, inr, ℕ, ◌+◌, ◌≤◌, Bool, true, false, not, ◌&&◌, ◌||◌, cond, ◌==◌, if◌then◌else◌, nat_lt, List, [], ◌∷◌, length, Option, Some, None, Ok, Err, refl, sym, ap, subst, ◌∙◌, arith}
use Rattle.std.specs.Prelude.{Contains, min, Result}
use Rattle.std.specs.List.{count_by, fold}
use Rattle.std.proofs.lemmas.Bool.{eqb-true, eq-eqb, ltb-false}
use Rattle.std.proofs.lemmas.List.Elements.{Contains-push_cases}
use Rattle.std.proofs.lemmas.List.Sums.{count_by-le-length, fold_push, sum_by_push}
use Rattle.span_base.specs.declared.ids.Call.{Call}
use Rattle.span_base.specs.declared.ids.KeyId.{KeyId}
use Rattle.ticket_rules.specs.declared.stamp.Stamp.{Stamp}
use Rattle.wire_msg.specs.declared.outputs.Reply.{Reply}
use Rattle.run_marks.specs.declared.mark.Work.{Work}
use Rattle.run_marks.specs.declared.mark.NoEpochCause.{NoEpochCause}
use Rattle.run_marks.specs.declared.mark.Mark.{Mark}
use Rattle.run_marks.specs.declared.mark.Mark.TheVariants as k
use Rattle.run_marks.specs.History.{is_register_work}
use Rattle.register_order.specs.Order.{effects_of}
use Rattle.history_audit.specs.declared.line.LogLine.{LogLine}
use Rattle.history_audit.specs.declared.line.LogLine.TheVariants as l
use Rattle.history_audit.specs.declared.summary.Summary.{Summary}
use Rattle.history_audit.specs.Lines.{line_says}
use Rattle.history_audit.specs.Texts.{LogFault, Limit, ended_at, led_by_mark, lines_of, lines_say, log_says, said_by}
use Rattle.history_audit.specs.Summed.{begins_register, is_among, keys_of, with_key, SumsAre, SumsUp}
use Rattle.history_audit.proofs.Telling.{more}

-- a line that begins no call
pub record BeginsNone (mark : Mark) : Type 0 where
  pub no_begin : (call : Call) (key : KeyId) (work : Work) → mark ≡ k.Begin call key work → ⊥
  pub counts_not : begins_register mark ≡ false
  pub adds_none : (keys : List ℕ) → with_key keys mark ≡ keys

pub ticket_begins_none : (call : Call) (stamp : Stamp) → BeginsNone (k.Ticket call stamp)
ticket_begins_none call stamp = record { no_begin = λ c at does e. cc; counts_not = refl; adds_none = λ keys. refl }

pub end_begins_none : (call : Call) (reply : Reply) → BeginsNone (k.End call reply)
end_begins_none call reply = record { no_begin = λ c at does e. cc; counts_not = refl; adds_none = λ keys. refl }

pub epoch_begins_none : (epoch : ℕ) → BeginsNone (k.Epoch epoch)
epoch_begins_none epoch = record { no_begin = λ c at does e. cc; counts_not = refl; adds_none = λ keys. refl }

pub no_epoch_begins_none : (cause : NoEpochCause) → BeginsNone (k.NoEpoch cause)
no_epoch_begins_none cause = record { no_begin = λ c at does e. cc; counts_not = refl; adds_none = λ keys. refl }

pub sums_after_other : (marks : List Mark) (mark : Mark) (old new : Summary) (has after : ℕ → Bool) → BeginsNone mark → new.calls ≡ old.calls → new.keys ≡ old.keys → ((key : ℕ) → after key ≡ has key) → SumsAre marks old has → SumsAre (more marks mark) new after
sums_after_other marks mark old new has after none calls keys same s = record {
  calls = calls ∙ s.calls ∙ ap (λ (n : ℕ). min n 4294967295) (sym counted);
  keys = keys ∙ s.keys ∙ ap (λ (ks : List ℕ). min (length ks) 4294967295) (sym keys_then);
  known = λ key. same key ∙ s.known key ∙ ap (λ (ks : List ℕ). is_among key ks) (sym keys_then);
  begun = λ call key work c register. elim (Contains-push_cases marks mark (k.Begin call key work) c) as (λ _. after key.0 ≡ true) [ inl before ↦ same key.0 ∙ s.begun call key work before register | inr e ↦ absurd (none.no_begin call key work e) ];
}
  where
    counted : count_by begins_register (more marks mark) ≡ count_by begins_register marks
    counted =
        let one = sum_by_push (λ (m : Mark). cond (begins_register m) 1 0) marks mark in
        let nothing = ap {B = ℕ} (λ (b : Bool). cond b 1 0) none.counts_not in
        omega (arith, one, nothing)

    keys_then : keys_of (more marks mark) ≡ keys_of marks
    keys_then = fold_push with_key [] marks mark ∙ none.adds_none (keys_of marks)

pub sums_after_begin : (marks : List Mark) (call : Call) (key : KeyId) (work : Work) (old new : Summary) (has after : ℕ → Bool) → new.calls ≡ cond (is_register_work work) (min (old.calls + 1) 4294967295) old.calls
    → new.keys ≡ cond (is_register_work work && not (has key.0)) (min (old.keys + 1) 4294967295) old.keys → ((other : ℕ) → after other ≡ cond (is_register_work work && not (has key.0)) (cond (key.0 == other) true (has other)) (has other)) → SumsAre marks old has
    → SumsAre (more marks (k.Begin call key work)) new after
sums_after_begin marks call key work old new has after calls keys rises s = record { calls = by_work (is_register_work work) refl; keys = keys_are (is_register_work work) (has key.0) refl refl; known = knows; begun = begun }
  where
    counted : count_by begins_register (more marks (k.Begin call key work)) ≡ count_by begins_register marks + cond (is_register_work work) 1 0
    counted = sum_by_push (λ (m : Mark). cond (begins_register m) 1 0) marks (k.Begin call key work)

    keys_then : keys_of (more marks (k.Begin call key work)) ≡ with_key (keys_of marks) (k.Begin call key work)
    keys_then = fold_push with_key [] marks (k.Begin call key work)

    by_work : (b : Bool) → is_register_work work ≡ b → new.calls ≡ min (count_by begins_register (more marks (k.Begin call key work))) 4294967295
    by_work true is =
        let n = subst (λ (b : Bool). new.calls ≡ cond b (min (old.calls + 1) 4294967295) old.calls) is calls in
        let m = subst (λ (b : Bool). count_by begins_register (more marks (k.Begin call key work)) ≡ count_by begins_register marks + cond b 1 0) is counted in
        let o = s.calls in
        omega (arith, n, m, o)
    by_work false is =
        let n = subst (λ (b : Bool). new.calls ≡ cond b (min (old.calls + 1) 4294967295) old.calls) is calls in
        let m = subst (λ (b : Bool). count_by begins_register (more marks (k.Begin call key work)) ≡ count_by begins_register marks + cond b 1 0) is counted in
        let o = s.calls in
        omega (arith, n, m, o)

    -- the keys after the line, by whether it begins a read or a write and whether the key is known
    known_by : (b h : Bool) → is_register_work work ≡ b → has key.0 ≡ h → keys_of (more marks (k.Begin call key work)) ≡ (if b && not h then key.0 ∷ keys_of marks else keys_of marks)
    known_by b h is knows_ =
        keys_then ∙ subst (λ (x : Bool). (if is_register_work work && not (is_among key.0 (keys_of marks)) then key.0 ∷ keys_of marks else keys_of marks) ≡ (if x && not h then key.0 ∷ keys_of marks else keys_of marks)) is
        (subst (λ (x : Bool). (if is_register_work work && not (is_among key.0 (keys_of marks)) then key.0 ∷ keys_of marks else keys_of marks) ≡ (if is_register_work work && not x then key.0 ∷ keys_of marks else keys_of marks)) (sym (s.known key.0) ∙ knows_) refl)

    keys_now : (b h : Bool) → is_register_work work ≡ b → has key.0 ≡ h → new.keys ≡ cond (b && not h) (min (old.keys + 1) 4294967295) old.keys
    keys_now b h is knows_ =
        subst (λ (x : Bool). new.keys ≡ cond (x && not h) (min (old.keys + 1) 4294967295) old.keys) is
        (subst (λ (x : Bool). new.keys ≡ cond (is_register_work work && not x) (min (old.keys + 1) 4294967295) old.keys) knows_ keys)

    keys_are : (b h : Bool) → is_register_work work ≡ b → has key.0 ≡ h → new.keys ≡ min (length (keys_of (more marks (k.Begin call key work)))) 4294967295
    keys_are true false is knows_ = let n = keys_now true false is knows_ in let m = ap length (known_by true false is knows_) in let o = s.keys in omega (arith, n, m, o)
    keys_are true true is knows_ = let n = keys_now true true is knows_ in let m = ap length (known_by true true is knows_) in let o = s.keys in omega (arith, n, m, o)
    keys_are false h is knows_ = let n = keys_now false h is knows_ in let m = ap length (known_by false h is knows_) in let o = s.keys in omega (arith, n, m, o)

    rises_by : (b h : Bool) → is_register_work work ≡ b → has key.0 ≡ h → (other : ℕ) → after other ≡ cond (b && not h) (cond (key.0 == other) true (has other)) (has other)
    rises_by b h is knows_ other =
        subst (λ (x : Bool). after other ≡ cond (x && not h) (cond (key.0 == other) true (has other)) (has other)) is
        (subst (λ (x : Bool). after other ≡ cond (is_register_work work && not x) (cond (key.0 == other) true (has other)) (has other)) knows_ (rises other))

    among_by : (other : ℕ) (t : Bool) → cond t true (has other) ≡ (t || is_among other (keys_of marks))
    among_by other true = refl
    among_by other false = s.known other

    knows_by : (b h : Bool) → is_register_work work ≡ b → has key.0 ≡ h → (other : ℕ) → after other ≡ is_among other (keys_of (more marks (k.Begin call key work)))
    knows_by false h is knows_ other = rises_by false h is knows_ other ∙ s.known other ∙ ap (λ (ks : List ℕ). is_among other ks) (sym (known_by false h is knows_))
    knows_by true true is knows_ other = rises_by true true is knows_ other ∙ s.known other ∙ ap (λ (ks : List ℕ). is_among other ks) (sym (known_by true true is knows_))
    knows_by true false is knows_ other = rises_by true false is knows_ other ∙ among_by other (key.0 == other) ∙ ap (λ (ks : List ℕ). is_among other ks) (sym (known_by true false is knows_))

    knows : (other : ℕ) → after other ≡ is_among other (keys_of (more marks (k.Begin call key work)))
    knows other = knows_by (is_register_work work) (has key.0) refl refl other

    keeps_by : (other : ℕ) (b t : Bool) → has other ≡ true → cond b (cond t true (has other)) (has other) ≡ true
    keeps_by other true true is = refl
    keeps_by other true false is = is
    keeps_by other false t is = is

    keeps : (other : ℕ) → has other ≡ true → after other ≡ true
    keeps other is = rises other ∙ keeps_by other (is_register_work work && not (has key.0)) (key.0 == other) is

    -- the key of a read or a write that begins is known then
    here : is_register_work work ≡ true → after key.0 ≡ true
    here register = by_known (has key.0) refl
      where
        by_known : (h : Bool) → has key.0 ≡ h → after key.0 ≡ true
        by_known true is = keeps key.0 is
        by_known false is = rises_by true false register is key.0 ∙ ap (λ (t : Bool). cond t true (has key.0)) (eq-eqb key.0 key.0 refl)

    begun : (c : Call) (at : KeyId) (does : Work) → Contains (more marks (k.Begin call key work)) (k.Begin c at does) → is_register_work does ≡ true → after at.0 ≡ true
    begun c at does there register = elim (Contains-push_cases marks (k.Begin call key work) (k.Begin c at does) there) as (λ _. after at.0 ≡ true) [
      | inl before ↦ keeps at.0 (s.begun c at does before register)
      | inr e ↦ let same = begin_in c at does e in subst (λ (x : KeyId). after x.0 ≡ true) same.0 (here (ap is_register_work same.1 ∙ register))
    ]
      where
        begin_in : (d : Call) (p : KeyId) (u : Work) → k.Begin call key work ≡ k.Begin d p u → (key ≡ p) × (work ≡ u)
        begin_in d p u e = (cc, cc)

-- a stamp that is answered on a known key makes no new one
pub known_stays : (has after : ℕ → Bool) (key : ℕ) → has key ≡ true → ((other : ℕ) → after other ≡ cond (key == other) true (has other)) → (other : ℕ) → after other ≡ has other
known_stays has after key is rises other = rises other ∙ by_test (key == other) refl
  where
    by_test : (t : Bool) → (key == other) ≡ t → cond t true (has other) ≡ has other
    by_test false e = refl
    by_test true e = sym (subst (λ (n : ℕ). has n ≡ true) (eqb-true key other e) is)

-- a key that is known is so by its other name
pub known_read : (has : ℕ → Bool) (key at : KeyId) → key ≡ at → has key.0 ≡ true → has at.0 ≡ true
known_read has key at same is = subst (λ (x : KeyId). has x.0 ≡ true) same is

-- a log has at most 4,000,000 lines
says_few : (line : ℕ) (texts : List (List ℕ)) (marks : List Mark) → lines_say line texts ≡ Ok marks → line + length marks ≤ 4000000
unfolding lines_say
says_few line [] marks h = absurd (cc h)
says_few line (text ∷ texts) marks h = by_line (λ ms is. says_few (line + 1) texts ms is) (nat_lt 4000000 line) refl
  where
    with_line : (t : Bool) → nat_lt 4000000 line ≡ t → (if t then Err (Limit line) else said_by line (line_says text) texts (lines_say (line + 1) texts)) ≡ Ok marks
    with_line t e = subst (λ (t : Bool). (if t then Err (Limit line) else said_by line (line_says text) texts (lines_say (line + 1) texts)) ≡ Ok marks) e h

    ok_in : (a b : List Mark) → (let x : Result (List Mark) LogFault = Ok a in x) ≡ Ok b → a ≡ b
    ok_in a b e = cc

    by_said : ((ms : List Mark) → lines_say (line + 1) texts ≡ Ok ms → (line + 1) + length ms ≤ 4000000) → (o : Option LogLine) → line ≤ 4000000 → said_by line o texts (lines_say (line + 1) texts) ≡ Ok marks → line + length marks ≤ 4000000
    by_said on None low said = absurd (cc said)
    by_said on (Some (l.Messages sent)) low said = none_follow texts said
      where
        none_follow : (more_ : List (List ℕ)) → ended_at (line + 1) more_ ≡ Ok marks → line + length marks ≤ 4000000
        none_follow [] e = let none = ok_in [] marks e in subst (λ (ms : List Mark). line + length ms ≤ 4000000) none (omega (arith, low))
        none_follow (one ∷ rest) e = absurd (cc e)
    by_said on (Some (l.Mark mark)) low said = follows (lines_say (line + 1) texts) refl said
      where
        mark_in : (a : List Mark) → (let x : Result (List Mark) LogFault = Ok (mark ∷ a) in x) ≡ Ok marks → mark ∷ a ≡ marks
        mark_in a e = cc

        follows : (left : Result (List Mark) LogFault) → lines_say (line + 1) texts ≡ left → led_by_mark mark left ≡ Ok marks → line + length marks ≤ 4000000
        follows (Err fault) is e = absurd (cc e)
        follows (Ok ms) is e =
            let rest = on ms is in
            let same = ap length (mark_in ms e) in
            omega (arith, rest, same)

    by_line : ((ms : List Mark) → lines_say (line + 1) texts ≡ Ok ms → (line + 1) + length ms ≤ 4000000) → (t : Bool) → nat_lt 4000000 line ≡ t → line + length marks ≤ 4000000
    by_line on true e = absurd (let f = with_line true e in cc f)
    by_line on false e = by_said on (line_says text) (ltb-false 4000000 line e) (with_line false e)

few_keys : (keys : List ℕ) (marks : List Mark) → length (fold with_key keys marks) ≤ length keys + length marks
few_keys keys [] = omega (arith)
few_keys keys (mark ∷ marks) = let on = few_keys (with_key keys mark) marks in let one = one_key mark in omega (arith, on, one)
  where
    by_test : (b : Bool) (key : ℕ) → length (if b then key ∷ keys else keys) ≤ length keys + 1
    by_test true key = omega (arith)
    by_test false key = omega (arith)

    one_key : (m : Mark) → length (with_key keys m) ≤ length keys + 1
    one_key (k.Begin call key work) = by_test (is_register_work work && not (is_among key.0 keys)) key.0
    one_key (k.Ticket call stamp) = omega (arith)
    one_key (k.End call reply) = omega (arith)
    one_key (k.Epoch epoch) = omega (arith)
    one_key (k.NoEpoch cause) = omega (arith)

pub sums_up : (text : List ℕ) (marks : List Mark) (summary : Summary) (has : ℕ → Bool) (number : ℕ) → log_says text ≡ Ok marks → SumsAre marks summary has → summary.counted ≡ min number 4294967295 → number ≤ length marks → length (effects_of marks) ≡ number → SumsUp marks summary
sums_up text marks summary has number says s counted few_counted effects =
    let few = says_few 1 (lines_of text) marks says in
    let calls = count_by-le-length begins_register marks in
    let keys = few_keys [] marks in
    record { calls = let c = s.calls in omega (arith, few, calls, c); counted = omega (arith, few, counted, few_counted, effects); keys = let c = s.keys in omega (arith, few, keys, c) }
