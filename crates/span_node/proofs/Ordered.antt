-- What is true of every loop: its run may run, and how faithful and honest links bear on it.
use Rattle.std.proofs.Common.{◌≡◌, ℕ, zero, suc, ◌+◌, ◌-◌, ◌≤◌, Bool, true, false, List, [], ◌∷◌, ◌++◌, length, refl, sym, ap, ◌∙◌, subst, arith}
use Rattle.std.specs.Prelude.{nat_le, Option, Some, option_map, Ok, Err}
use Rattle.std.specs.List.{All, fold}
use Rattle.std.proofs.lemmas.Bool.{leb-true, leb-false}
use Rattle.std.proofs.lemmas.List.Elements.{All-nil, All-cons, All-append, All-head, All-tail, All-take}
use Rattle.std.proofs.Math.Seq.{take-append_seam}
use Rattle.span_base.specs.Taken.{Appends}
use Rattle.run_marks.specs.declared.mark.Mark.{Mark}
use Rattle.run_marks.specs.Text.{marks_text, messages_line}
use Rattle.world_core.specs.declared.event.Header.{Header}
use Rattle.world_core.specs.declared.event.Event.{Event}
use Rattle.world_core.specs.State.{opening}
use Rattle.world_core.specs.Run.{Run, MayRun}
use Rattle.schedule_text.specs.Laws.{MayAlways, IsSchedule}
use Rattle.schedule_text.specs.Schedules.{Schedule}
use Rattle.schedule_replay.specs.Replays.{run_text, unless_refused}
use Rattle.schedule_replay.proofs.MayRun.{may_run}
use Rattle.frame_link.specs.Frames.{Sent}
use Rattle.span_node.specs.declared.fault.LoopFault.TheVariants.{Strange}
use Rattle.span_node.specs.Traffic.{Traffic, IsFresh}
use Rattle.span_node.specs.Carried.{carried}
use Rattle.span_node.specs.Rounds.{Round, with_delivery, with_round, loop_events, script_of}
use Rattle.span_node.specs.InOrder.{Turn, turned_by, turned, in_order, AreInOrder}
use Rattle.span_node.specs.Loops.{looped, IsStrange, LoopEnds, RunsInOrder}

-- ---- each event may happen

module _ (header : Header) where
  with_one : (events : List Event) (frame : Sent) → All (MayAlways header) events → All (MayAlways header) (with_delivery header events frame)
  unfolding with_delivery
  with_one events frame may = All-append (MayAlways header) events _ may (All-cons (MayAlways header) _ [] (λ store modes. tt) (All-nil (MayAlways header)))

  with_frames : (events : List Event) (frames : List Sent) → All (MayAlways header) events → All (MayAlways header) (fold (with_delivery header) events frames)
  with_frames events [] may = may
  with_frames events (frame ∷ frames) may = with_frames (with_delivery header events frame) frames (with_one events frame may)

  with_rounds : (events : List Event) (rounds : List Round) → All (MayAlways header) events → All (MayAlways header) (script_of rounds) → All (MayAlways header) (fold (with_round header) events rounds)
  unfolding with_round script_of
  with_rounds events [] may script = may
  with_rounds events (round ∷ rounds) may script =
      with_rounds (with_round header events round) rounds
      (with_frames (events ++ round.event ∷ []) round.arrived (All-append (MayAlways header) events (round.event ∷ []) may
      (All-cons (MayAlways header) round.event [] (All-head (MayAlways header) round.event (script_of rounds) script) (All-nil (MayAlways header)))))
      (All-tail (MayAlways header) round.event (script_of rounds) script)

front_of : {A : Type 0} (P : A → Type 0) (xs ys zs : List A) → xs ++ ys ≡ zs → All P zs → All P xs
front_of P xs ys zs is all = subst (All P) (take-append_seam xs ys) (All-take P (length xs) (xs ++ ys) (subst (All P) (sym is) all))

pub may_run_looped : (schedule : Schedule) (rounds : List Round) (left events more : List Event) → IsSchedule schedule → script_of rounds ++ left ≡ schedule.events
    → events ++ more ≡ loop_events schedule.header rounds → MayRun events (opening schedule.header)
unfolding loop_events
may_run_looped schedule rounds left events more is script front =
    let P : Event → Type 0 = MayAlways schedule.header in
    let own : All P (script_of rounds) = front_of P (script_of rounds) left schedule.events script is.events in
    may_run (record { header = schedule.header; events = events }) (record {
      header = is.header;
      events = front_of P events more (loop_events schedule.header rounds) front (with_rounds schedule.header [] rounds (All-nil P) own);
    })

-- ---- honest links

pub honest_known : (schedule : Schedule) (marks : List Mark) (from now : Traffic) (one : Sent) → from.honest ≡ Some true → from.sent ≡ Some [] → IsStrange schedule marks from now one → ⊥
honest_known schedule marks from now one honest sent is =
    let frames : List Sent = carried (looped schedule is.rounds).store.sent in
    let told : now.sent ≡ Some frames = is.among.carries.sent ∙ ap (option_map (λ (b : List Sent). b ++ frames)) sent in
    is.strange (is.honestly frames one (is.among.carries.honest ∙ honest) told refl)

pub never_strange : (text : List ℕ) (old new : Option (List ℕ)) (from now : Traffic) (to : ℕ) (frame : List ℕ) → from.honest ≡ Some true → from.sent ≡ Some []
    → LoopEnds text old new from now (Err (Strange to frame)) → ⊥
never_strange text old new from now to frame honest sent (schedule, read, marks, taken, keeps, is) =
    honest_known schedule marks from now (record { to = to; frame = frame }) honest sent is

-- ---- faithful links

pub runs_in_order : (text : List ℕ) (old new : Option (List ℕ)) (from now : Traffic) (messages : ℕ) → IsFresh from → LoopEnds text old new from now (Ok messages) → RunsInOrder text old new now messages
runs_in_order text old new from now messages fresh (schedule, read, marks, taken, keeps, is) =
    let r : Run = looped schedule is.rounds in
    let same : marks_text marks ++ messages_line messages ≡ run_text r =
    ap (λ (ms : List Mark). marks_text ms ++ messages_line messages) (sym is.marks_are)
    ∙ ap (λ n. marks_text r.marks ++ messages_line n) (sym is.messages_are)
    ∙ ap (λ o. marks_text r.marks ++ unless_refused o (messages_line (length r.store.sent))) (sym is.unrefused) in
    record {
      schedule = schedule;
      read = read;
      events = loop_events schedule.header is.rounds;
      in_order = is.in_order fresh;
      unrefused = is.unrefused;
      taken = subst (Appends old new) same taken;
      messages_are = is.messages_are;
      sent = is.carries.sent ∙ ap (option_map (λ (b : List Sent). b ++ carried r.store.sent)) fresh.sent;
    }

-- a loop that is at its end stays there
pub stays : (header : Header) (script : List Event) (turn : Turn) (n k : ℕ) → in_order header script n ≡ turn → turned header turn ≡ turn → in_order header script (n + k) ≡ turn
unfolding in_order
stays header script turn n zero is end = let same : n + 0 ≡ n = omega arith in ap (in_order header script) same ∙ is
stays header script turn n (suc k) is end =
    let next : n + suc k ≡ suc (n + k) = omega arith in
    ap (in_order header script) next ∙ ap (turned header) (stays header script turn n k is end) ∙ end

pub at_end : (header : Header) (script events : List Event) (is : AreInOrder header script events) → turned header (record { events = events; come = is.come; left = [] }) ≡ record { events = events; come = is.come; left = [] }
unfolding turned
at_end header script events is = ap (turned_by header (record { events = events; come = is.come; left = [] })) is.none_due

no_longer : (header : Header) (script events others : List Event) → AreInOrder header script events → AreInOrder header script others → length events ≤ length others → events ≡ others
no_longer header script events others is are less =
    let turn : Turn = record { events = events; come = is.come; left = [] } in
    let more : length others ≡ length events + (length others - length events) = omega (arith, less) in
    let same : turn ≡ record { events = others; come = are.come; left = [] } =
    sym (stays header script turn (length events) (length others - length events) is.all (at_end header script events is)) ∙ ap (in_order header script) (sym more) ∙ are.all in
    ap (λ (t : Turn). t.events) same

pub one_order : (header : Header) (script events others : List Event) → AreInOrder header script events → AreInOrder header script others → events ≡ others
one_order header script events others is are = by (nat_le (length events) (length others)) refl
  where
    by : (b : Bool) → nat_le (length events) (length others) ≡ b → events ≡ others
    by true less = no_longer header script events others is are (leb-true (length events) (length others) less)
    by false more = sym (no_longer header script others events are is (let low : length others ≤ length events = omega (arith, leb-false (length events) (length others) more) in low))
