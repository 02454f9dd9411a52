-- The script's next event, and the loop before its first.
use Rattle.std.proofs.Common.{◌≡◌, ℕ, ◌+◌, Bool, false, List, [], ◌∷◌, ◌++◌, length, refl, sym, ap, ◌∙◌, subst, arith}
use Rattle.std.specs.Prelude.{Option, Some, None, option_map, Result, Ok, Err}
use Rattle.std.specs.List.{All}
use Rattle.std.specs.Result.{IsErrAnd}
use Rattle.std.proofs.lemmas.List.{append_assoc, append-nil}
use Rattle.std.proofs.lemmas.List.Elements.{All-head, All-tail}
use Rattle.wire_msg.specs.declared.outputs.Post.{Post}
use Rattle.run_marks.specs.declared.mark.Mark.{Mark}
use Rattle.world_core.specs.declared.event.Header.{Header}
use Rattle.world_core.specs.declared.event.Event.{Event}
use Rattle.world_core.specs.declared.event.Event.TheVariants.{Start, Deliver, StopReplica, StopProxy, GiveUp, Publish}
use Rattle.world_core.specs.State.{Store, opening}
use Rattle.world_core.specs.Ends.{Seen}
use Rattle.world_core.specs.Run.{Run, run, run_of, nothing_ran, MayHappen}
use Rattle.schedule_text.specs.declared.setting.Form.TheVariants.{Script}
use Rattle.schedule_text.specs.Given.{Left}
use Rattle.schedule_text.specs.Headers.{begin_line}
use Rattle.schedule_text.specs.Laws.{HasModes, MayAlways, SchedulesMayHappen}
use Rattle.schedule_text.specs.Schedules.{Schedule, schedule_of}
use Rattle.schedule_replay.proofs.Keeps.{opens_modes}
use Rattle.frame_link.specs.Frames.{Sent}
use Rattle.span_node.specs.declared.fault.LoopFault.{LoopFault}
use Rattle.span_node.specs.declared.mail.Mail.{Mail}
use Rattle.span_node.specs.declared.running.Running.{Running}
use Rattle.span_node.specs.Traffic.{Traffic}
use Rattle.span_node.specs.Carried.{carried}
use Rattle.span_node.specs.Rounds.{loop_events, answers_of, script_of, DeliversNothing, IsKnown}
use Rattle.span_node.specs.InOrder.{IsInStep, IsDone}
use Rattle.span_node.specs.Loops.{looped, IsOver}
use Rattle.span_node.specs.Mail.{IsMail}
use Rattle.span_node.specs.Standing.{IsReady, IsResting, IsNext, StandsBy, Stops, GoesOn, Opens}
use Rattle.span_node.proofs.Looping.{opened, events_begun, script_more, count_more}
use Rattle.span_node.proofs.InOrder.{step_event, step_end, step_first}
use Rattle.span_node.proofs.Turning.{carries_as}
use Rattle.span_node.proofs.Undelivered.{scripts_deliver_nothing}

-- ---- the next event

-- an event that delivers nothing delivers nothing unknown
known_always : (event : Event) (sent : ℕ) → DeliversNothing event → IsKnown event sent
known_always (Start proxy key work) sent none = tt
known_always (Deliver message) sent none = absurd none
known_always (StopReplica number) sent none = tt
known_always (StopProxy number) sent none = tt
known_always (GiveUp proxy seq) sent none = tt
known_always (Publish table) sent none = tt

-- the script's next event begins a round
pub begins_round : (schedule : Schedule) (marks : List Mark) (from now : Traffic) (old new : Running) (event : Event) → IsReady old → IsResting schedule marks from now old
    → old.script.events ≡ event ∷ new.script.events → new.script.line ≡ old.script.line + 1 → new.cloud ≡ old.cloud → new.mail ≡ old.mail → IsNext schedule marks from now new event
begins_round schedule marks from now old new event ready is left line cloud mail =
    let sent : carried old.cloud.store.sent ≡ carried new.cloud.store.sent = ap (λ (c : Seen). carried c.store.sent) (sym cloud) in
    let was = is.front.line in
    let one : length (is.rounds ++ opened event ∷ []) ≡ length is.rounds + 1 = count_more is.rounds (opened event) in
    record {
      before = is.rounds;
      last = opened event;
      done = loop_events schedule.header is.rounds;
      events_are = events_begun schedule.header is.rounds event;
      known = known_always event (length new.cloud.store.sent) (All-head DeliversNothing event new.script.events (subst (All DeliversNothing) left ready.undelivered));
      run = record { run_is = is.run.run_is ∙ ap (λ (c : Seen). let r : Run = record { store = c.store; marks = marks; taken = c.events; refused = None } in r) (sym cloud); count = is.run.count ∙ ap (λ (c : Seen). c.events) (sym cloud) };
      front = record {
        script = ap (λ (es : List Event). es ++ new.script.events) (script_more is.rounds (opened event)) ∙ append_assoc (script_of is.rounds) (event ∷ []) new.script.events
            ∙ ap (λ (es : List Event). script_of is.rounds ++ es) (sym left) ∙ is.front.script;
        line = omega (arith, line, was, one);
      };
      all_sent = ap (λ (m : Mail). m.sent) mail ∙ is.all_sent ∙ ap (λ (c : Seen). length c.store.sent) (sym cloud);
      carries = carries_as from now (carried old.cloud.store.sent) (carried new.cloud.store.sent) (answers_of is.rounds) (answers_of is.rounds ++ []) sent (sym (append-nil (answers_of is.rounds))) is.carries;
      in_step = λ fresh.
          let events : List Event = loop_events schedule.header is.rounds in
          let given : List (Option Sent) = answers_of is.rounds in
          subst (λ (gs : List (Option Sent)). IsInStep schedule.header schedule.events (loop_events schedule.header (is.rounds ++ opened event ∷ [])) gs new.script.events) (sym (append-nil given))
          (subst (λ (es : List Event). IsInStep schedule.header schedule.events es given new.script.events) (sym (events_begun schedule.header is.rounds event))
          (step_event schedule.header schedule.events events given event new.script.events (subst (IsDone schedule.header schedule.events events given) left (is.in_step fresh))));
    }

-- no event is left
pub over : (schedule : Schedule) (marks : List Mark) (from now : Traffic) (old new : Running) → IsReady old → IsResting schedule marks from now old → old.script.events ≡ [] → new.cloud ≡ old.cloud
    → IsOver schedule marks from now (length new.cloud.store.sent)
over schedule marks from now old new ready is none cloud =
    let sent : carried old.cloud.store.sent ≡ carried (looped schedule is.rounds).store.sent = sym (ap (λ (r : Run). carried r.store.sent) is.run.run_is) in
    record {
      rounds = is.rounds;
      script = sym (append-nil (script_of is.rounds)) ∙ ap (λ (es : List Event). script_of is.rounds ++ es) (sym none) ∙ is.front.script;
      few = omega (arith, is.run.count, ready.few);
      unrefused = ap (λ (r : Run). r.refused) is.run.run_is;
      marks_are = ap (λ (r : Run). r.marks) is.run.run_is;
      messages_are = ap (λ (r : Run). length r.store.sent) is.run.run_is ∙ ap (λ (c : Seen). length c.store.sent) (sym cloud);
      carries = carries_as from now (carried old.cloud.store.sent) (carried (looped schedule is.rounds).store.sent) (answers_of is.rounds) (answers_of is.rounds) sent refl is.carries;
      in_order = λ fresh. step_end schedule.header schedule.events (loop_events schedule.header is.rounds) (answers_of is.rounds)
          (subst (IsDone schedule.header schedule.events (loop_events schedule.header is.rounds) (answers_of is.rounds)) none (is.in_step fresh));
    }

-- the event may happen
pub may_happen : (running : Running) (event : Event) (rest : List Event) → running.script.events ≡ event ∷ rest → IsReady running → MayHappen running.cloud.store event
may_happen running event rest left ready =
    All-head (MayAlways ready.header) event rest (subst (All (MayAlways ready.header)) left ready.may) running.cloud.store ready.modes

-- the loop is ready for it
pub ready_past : (old new : Running) (event : Event) → IsReady old → old.script.events ≡ event ∷ new.script.events → new.cloud ≡ old.cloud → new.mail ≡ old.mail → IsReady new
ready_past old new event ready left cloud mail = record {
  header = ready.header;
  few = omega (arith, ap (λ (c : Seen). c.events) cloud, ready.few);
  may = All-tail (MayAlways ready.header) event new.script.events (subst (All (MayAlways ready.header)) left ready.may);
  undelivered = All-tail DeliversNothing event new.script.events (subst (All DeliversNothing) left ready.undelivered);
  modes = subst (λ (c : Seen). HasModes ready.header c.store.directory) (sym cloud) ready.modes;
  mail = subst (λ (c : Seen). IsMail new.mail c.store.sent) (sym cloud) (subst (λ (m : Mail). IsMail m old.cloud.store.sent) (sym mail) ready.mail);
}

-- ---- the opening

-- the events that were read, in the store that their header opens, before any message
pub record IsOpened (running : Running) (header : Header) (events : List Event) : Type 0 where
  pub events_are : running.script ≡ record { events = events; line = begin_line header }
  pub store_is : running.cloud.store ≡ opening header
  pub none_taken : running.cloud.events ≡ 0
  pub none_begun : running.begun ≡ false
  pub none_sent : running.mail.sent ≡ 0
  pub mail : IsMail running.mail []

none_at_first : (header : Header) → (opening header).sent ≡ []
unfolding opening
none_at_first header = refl

run_none : (store : Store) → run [] store ≡ nothing_ran store
unfolding run
run_none store = refl

pub nothing_told : {A : Type 0} (before : Option (List A)) → before ≡ option_map (λ b. b ++ []) before
nothing_told None = refl
nothing_told (Some before) = ap Some (sym (append-nil before))

no_events : (header : Header) → loop_events header [] ≡ []
unfolding loop_events
no_events header = refl

rests_opened : (running : Running) (header : Header) (events : List Event) (link : Traffic) → IsOpened running header events → IsResting (record { header = header; events = events }) [] link link running
unfolding script_of answers_of carried
rests_opened running header events link is =
    let none : running.cloud.store.sent ≡ [] = ap (λ (s : Store). s.sent) is.store_is ∙ none_at_first header in
    let begun : run_of header (loop_events header []) ≡ nothing_ran (opening header) = ap (run_of header) (no_events header) ∙ run_none (opening header) in
    let at : running.script.line ≡ begin_line header = ap (λ (l : Left). l.line) is.events_are in
    record {
      rounds = [];
      run = record {
        run_is = begun ∙ ap (λ (s : Store). nothing_ran s) (sym is.store_is)
            ∙ ap (λ (n : ℕ). let r : Run = record { store = running.cloud.store; marks = []; taken = n; refused = None } in r) (sym is.none_taken);
        count = ap length (no_events header) ∙ sym is.none_taken;
      };
      front = record { script = ap (λ (l : Left). l.events) is.events_are; line = omega (arith, at) };
      all_sent = is.none_sent ∙ sym (ap length none);
      carries = record {
        sent = nothing_told link.sent ∙ ap (λ (ps : List Post). option_map (λ (b : List Sent). b ++ carried ps) link.sent) (sym none);
        answers = nothing_told link.answers;
        honest = refl;
        faithful = refl;
      };
      in_step = λ fresh. subst (IsDone header events (loop_events header []) (answers_of [])) (sym (ap (λ (l : Left). l.events) is.events_are))
          (step_first header events (loop_events header []) (answers_of []) (no_events header) refl (ap (λ (r : Run). carried r.store.sent) begun ∙ ap carried (none_at_first header)));
    }

pub opens_so : (running : Running) (header : Header) (events : List Event) → SchedulesMayHappen → (text : List ℕ) (link : Traffic) → schedule_of Script text ≡ Ok (record { header = header; events = events })
    → IsOpened running header events → Opens text link (Ok running)
opens_so running header events may text link read is = (
  record { header = header; events = events },
  read,
  may Script text (record { header = header; events = events }) read,
  subst (λ (b : Bool). StandsBy b (record { header = header; events = events }) [] link link running) (sym is.none_begun) (rests_opened running header events link is),
)

pub opens_ready : (running : Running) (header : Header) (events : List Event) → SchedulesMayHappen → (text : List ℕ) → schedule_of Script text ≡ Ok (record { header = header; events = events })
    → IsOpened running header events → IsReady running
opens_ready running header events may text read is =
    let schedule : Schedule = record { header = header; events = events } in
    let left : running.script.events ≡ events = ap (λ (l : Left). l.events) is.events_are in
    let none : running.cloud.store.sent ≡ [] = ap (λ (s : Store). s.sent) is.store_is ∙ none_at_first header in
    record {
      header = header;
      few = omega (arith, is.none_taken);
      may = subst (All (MayAlways header)) (sym left) (may Script text schedule read).events;
      undelivered = subst (All DeliversNothing) (sym left) (scripts_deliver_nothing text schedule read);
      modes = subst (λ (s : Store). HasModes header s.directory) (sym is.store_is) (opens_modes header);
      mail = subst (IsMail running.mail) (sym none) is.mail;
    }

-- ---- what is told on

pub goes_told : (schedule : Schedule) (marks : List Mark) (from now : Traffic) (running : Running) (result : Result (Option (List Mark)) LoopFault) (told : LoopFault) → IsErrAnd result (λ f. f ≡ told)
    → Stops schedule marks from now told → GoesOn schedule marks from now running result
goes_told schedule marks from now running (Ok next) told is stops = absurd is
goes_told schedule marks from now running (Err fault) told is stops = subst (Stops schedule marks from now) (sym is) stops
