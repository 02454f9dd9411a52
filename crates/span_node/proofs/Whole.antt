-- Which loops go to the end of their scripts.
use Rattle.std.proofs.Common.{◌≡◌, ℕ, zero, suc, ◌+◌, ◌-◌, ◌≤◌, inl, inr, Bool, true, false, List, [], ◌∷◌, ◌++◌, length, refl, sym, ap, ◌∙◌, subst, arith}
use Rattle.std.specs.Prelude.{nat_le, slice_get, Option, Some, None, Result, Ok, Err}
use Rattle.std.proofs.lemmas.Bool.{leb-true, leb-false}
use Rattle.std.proofs.lemmas.List.{append_assoc, append-nil, length-append}
use Rattle.run_marks.specs.declared.mark.Mark.{Mark}
use Rattle.world_core.specs.declared.event.Header.{Header}
use Rattle.world_core.specs.declared.event.Event.{Event}
use Rattle.world_core.specs.declared.event.Event.TheVariants.{Deliver}
use Rattle.world_core.specs.declared.event.StepFault.{StepFault}
use Rattle.world_core.specs.State.{opening}
use Rattle.world_core.specs.Step.{Outcome, step}
use Rattle.world_core.specs.Run.{Run, run_of}
use Rattle.world_core.proofs.Runs.{one_more_by, run_more}
use Rattle.schedule_text.specs.declared.setting.Form.TheVariants.{Script}
use Rattle.schedule_text.specs.declared.fault.ScheduleFault.{ScheduleFault}
use Rattle.schedule_text.specs.Schedules.{Schedule, schedule_of}
use Rattle.schedule_replay.specs.declared.fault.ReplayFault.{ReplayFault}
use Rattle.schedule_replay.specs.declared.fault.ReplayFault.TheVariants as replay
use Rattle.frame_link.specs.Frames.{Sent, arrived}
use Rattle.span_node.specs.declared.fault.LoopFault.{LoopFault}
use Rattle.span_node.specs.declared.fault.LoopFault.TheVariants.{Bad, Limit, BadEvent, WriteFault, LinkFault, Strange, NoMemory}
use Rattle.span_node.specs.Traffic.{Traffic, IsFresh}
use Rattle.span_node.specs.Carried.{carried, first_same}
use Rattle.span_node.specs.Rounds.{with_delivery, loop_events}
use Rattle.span_node.specs.InOrder.{Turn, with_next, turned_by, turned, frames_so_far, in_order, AreInOrder}
use Rattle.span_node.specs.Loops.{looped, IsRefused, IsFull, IsStrange, LoopEnds}
use Rattle.span_node.specs.WholeLoops.{IsTakenInOrder, IsTakenAsAnswered, IsOverOrFailed}
use Rattle.span_node.proofs.Ordered.{honest_known, stays, at_end}

-- ---- the first events of a run that refuses none

unrefused_before : (r : Run) (outcome : Outcome) (refused : Option StepFault) → r.refused ≡ refused → (one_more_by r outcome refused).refused ≡ None → r.refused ≡ None
unrefused_before r outcome None is none = is
unrefused_before r outcome (Some fault) is none = none

pub unrefused_front : (header : Header) (events more : List Event) → (run_of header (events ++ more)).refused ≡ None → (run_of header events).refused ≡ None
unrefused_front header events [] none = ap (λ (es : List Event). (run_of header es).refused) (sym (append-nil events)) ∙ none
unrefused_front header events (event ∷ more) none =
    let r : Run = run_of header events in
    let longer : (run_of header (events ++ event ∷ [])).refused ≡ None =
    unrefused_front header (events ++ event ∷ []) more (ap (λ (es : List Event). (run_of header es).refused) (append_assoc events (event ∷ []) more) ∙ none) in
    unrefused_before r (step r.store event) r.refused refl (sym (ap (λ (x : Run). x.refused) (run_more events event (opening header))) ∙ longer)

-- ---- the loop in order

-- its events stay, and others come behind them
goes_on : (header : Header) (turn : Turn) → (more : List Event) × (turn.events ++ more ≡ (turned header turn).events)
unfolding turned with_delivery
goes_on header turn = by_answer (slice_get (frames_so_far header turn.events) turn.come)
  where
    by_left : (left : List Event) → (more : List Event) × (turn.events ++ more ≡ (with_next turn.events turn.come left).events)
    by_left [] = ([], append-nil turn.events)
    by_left (event ∷ left) = (event ∷ [], refl)

    by_answer : (answer : Option Sent) → (more : List Event) × (turn.events ++ more ≡ (turned_by header turn answer).events)
    by_answer None = by_left turn.left
    by_answer (Some frame) = (Deliver (first_same (carried (run_of header turn.events).store.sent) frame) ∷ [], refl)

goes_further : (header : Header) (script : List Event) (n k : ℕ) → (more : List Event) × ((in_order header script n).events ++ more ≡ (in_order header script (n + k)).events)
unfolding in_order
goes_further header script n zero =
    let same : n ≡ n + 0 = omega arith in
    ([], append-nil (in_order header script n).events ∙ ap (λ i. (in_order header script i).events) same)
goes_further header script n (suc k) =
    let so_far : (more : List Event) × ((in_order header script n).events ++ more ≡ (in_order header script (n + k)).events) = goes_further header script n k in
    let next : (more : List Event) × ((in_order header script (n + k)).events ++ more ≡ (turned header (in_order header script (n + k))).events) = goes_on header (in_order header script (n + k)) in
    let one : suc (n + k) ≡ n + suc k = omega arith in (
      so_far.0 ++ next.0,
      sym (append_assoc (in_order header script n).events so_far.0 next.0) ∙ ap (λ (es : List Event). es ++ next.0) so_far.1 ∙ next.1 ∙ ap (λ i. (in_order header script i).events) one,
    )

-- what it has come to is a front of all its events
is_front : (header : Header) (script events front : List Event) (come : ℕ) (left : List Event) → AreInOrder header script events
    → in_order header script (length front) ≡ record { events = front; come = come; left = left } → (more : List Event) × (front ++ more ≡ events)
is_front header script events front come left all is = by (nat_le (length front) (length events)) refl
  where
    by : (b : Bool) → nat_le (length front) (length events) ≡ b → (more : List Event) × (front ++ more ≡ events)
    by true less =
        let low : length front ≤ length events = leb-true (length front) (length events) less in
        let far : length front + (length events - length front) ≡ length events = omega (arith, low) in
        let further : (more : List Event) × ((in_order header script (length front)).events ++ more ≡ (in_order header script (length front + (length events - length front))).events) =
        goes_further header script (length front) (length events - length front) in (
          further.0,
          ap (λ (t : Turn). t.events ++ further.0) (sym is) ∙ further.1 ∙ ap (λ i. (in_order header script i).events) far ∙ ap (λ (t : Turn). t.events) all.all,
        )
    by false more =
        let low : length events ≤ length front = omega (arith, leb-false (length front) (length events) more) in
        let far : length front ≡ length events + (length front - length events) = omega (arith, low) in
        let turn : Turn = record { events = events; come = all.come; left = [] } in
        let same : turn ≡ record { events = front; come = come; left = left } =
        sym (stays header script turn (length events) (length front - length events) all.all (at_end header script events all)) ∙ ap (in_order header script) (sym far) ∙ is in
        ([], append-nil front ∙ sym (ap (λ (t : Turn). t.events) same))

-- ---- how a loop doesn't end

pub one_script : (text : List ℕ) (a b : Schedule) → schedule_of Script text ≡ Ok a → schedule_of Script text ≡ Ok b → a ≡ b
one_script text a b h k = let e : (let x : Result Schedule ScheduleFault = Ok a in x) ≡ Ok b = sym h ∙ k in cc

pub read_once : (text : List ℕ) (schedule : Schedule) (fault : ScheduleFault) → schedule_of Script text ≡ Ok schedule → schedule_of Script text ≡ Err fault → ⊥
read_once text schedule fault h k = let e : (let x : Result Schedule ScheduleFault = Ok schedule in x) ≡ Err fault = sym h ∙ k in cc

module _ (text : List ℕ) (schedule : Schedule) (old new : Option (List ℕ)) (from now : Traffic) (read : schedule_of Script text ≡ Ok schedule)
    (refused : (marks : List Mark) (told : ReplayFault) → IsRefused schedule marks from now told → ⊥) (full : (marks : List Mark) (told : ReplayFault) → IsFull schedule marks from now told → ⊥)
    (strange : (marks : List Mark) (sent : Sent) → IsStrange schedule marks from now sent → ⊥) where
  over_or_failed : (result : Result ℕ LoopFault) → LoopEnds text old new from now result → IsOverOrFailed result
  over_or_failed (Ok messages) ends = tt
  over_or_failed (Err (Bad line cause)) ends = absurd (read_once text schedule _ read ends.0)
  over_or_failed (Err (Limit line what number)) (inl unread) = absurd (read_once text schedule _ read unread.0)
  over_or_failed (Err (Limit line what number)) (inr (other, says, marks, taken, keeps, inl is)) =
      absurd (refused marks (replay.Limit line what number) (subst (λ (s : Schedule). IsRefused s marks from now (replay.Limit line what number)) (one_script text other schedule says read) is))
  over_or_failed (Err (Limit line what number)) (inr (other, says, marks, taken, keeps, inr is)) =
      absurd (full marks (replay.Limit line what number) (subst (λ (s : Schedule). IsFull s marks from now (replay.Limit line what number)) (one_script text other schedule says read) is))
  over_or_failed (Err (BadEvent line cause)) (other, says, marks, taken, keeps, is) =
      absurd (refused marks (replay.BadEvent line cause) (subst (λ (s : Schedule). IsRefused s marks from now (replay.BadEvent line cause)) (one_script text other schedule says read) is))
  over_or_failed (Err WriteFault) ends = tt
  over_or_failed (Err LinkFault) ends = tt
  over_or_failed (Err (Strange to frame)) (other, says, marks, taken, keeps, is) =
      absurd (strange marks (record { to = to; frame = frame }) (subst (λ (s : Schedule). IsStrange s marks from now (record { to = to; frame = frame })) (one_script text other schedule says read) is))
  over_or_failed (Err NoMemory) ends = tt

-- ---- over a faithful link

module _ (schedule : Schedule) (taken : IsTakenInOrder schedule) (from now : Traffic) (fresh : IsFresh from) (marks : List Mark) where
  not_refused : (told : ReplayFault) → IsRefused schedule marks from now told → ⊥
  not_refused told is =
      let front : (more : List Event) × (loop_events schedule.header is.rounds ++ more ≡ taken.events) =
      is_front schedule.header schedule.events taken.events (loop_events schedule.header is.rounds) (length (arrived is.among.given)) is.among.left taken.in_order (is.among.in_step fresh) in
      let none : (looped schedule is.rounds).refused ≡ None =
      unrefused_front schedule.header (loop_events schedule.header is.rounds) front.0 (ap (λ (es : List Event). (run_of schedule.header es).refused) front.1 ∙ taken.unrefused) in
      let e : Some is.fault ≡ None = sym is.refused ∙ none in
      cc

  not_full : (told : ReplayFault) → IsFull schedule marks from now told → ⊥
  not_full told is =
      let events : List Event = loop_events schedule.header is.rounds in
      let front : (more : List Event) × (events ++ more ≡ taken.events) = is_front schedule.header schedule.events taken.events events (length (arrived is.among.given)) is.among.left taken.in_order (is.among.in_step fresh) in
      let all : length taken.events ≡ length events + length front.0 = sym (ap length front.1) ∙ length-append events front.0 in
      let one : length events ≡ length is.done + 1 = ap length is.events_are ∙ length-append is.done (is.last ∷ []) in
      absurd (omega (arith, all, one, is.full, taken.few))

pub whole_in_order : (text : List ℕ) (schedule : Schedule) (old new : Option (List ℕ)) (from now : Traffic) (result : Result ℕ LoopFault) → schedule_of Script text ≡ Ok schedule → IsTakenInOrder schedule
    → IsFresh from → LoopEnds text old new from now result → IsOverOrFailed result
whole_in_order text schedule old new from now result read taken fresh ends =
    over_or_failed text schedule old new from now read (not_refused schedule taken from now fresh) (not_full schedule taken from now fresh) (λ marks sent is. is.unfaithful fresh) result ends

-- ---- over an honest link

pub whole_as_answered : (text : List ℕ) (schedule : Schedule) (old new : Option (List ℕ)) (from now : Traffic) (result : Result ℕ LoopFault) → schedule_of Script text ≡ Ok schedule
    → IsTakenAsAnswered schedule from now → from.honest ≡ Some true → from.sent ≡ Some [] → LoopEnds text old new from now result → IsOverOrFailed result
whole_as_answered text schedule old new from now result read taken honest sent ends =
    over_or_failed text schedule old new from now read none_refused none_full (λ marks one is. honest_known schedule marks from now one honest sent is) result ends
  where
    none_refused : (marks : List Mark) (told : ReplayFault) → IsRefused schedule marks from now told → ⊥
    none_refused marks told is = let e : Some is.fault ≡ None = sym is.refused ∙ (taken is.rounds _ is.among).1 in cc

    none_full : (marks : List Mark) (told : ReplayFault) → IsFull schedule marks from now told → ⊥
    none_full marks told is =
        let few = (taken is.rounds _ is.among).0 in
        let one : length (loop_events schedule.header is.rounds) ≡ length is.done + 1 = ap length is.events_are ∙ length-append is.done (is.last ∷ []) in
        absurd (omega (arith, few, one, is.full))
