-- How the next event of a loop ends.
use Rattle.std.proofs.Common.{◌≡◌, ℕ, ◌+◌, ◌<◌, ◌≤◌, List, [], ◌∷◌, ◌++◌, length, map, take, inl, inr, refl, sym, ap, ◌∙◌, subst, arith}
use Rattle.std.specs.Prelude.{Option, Some, Ok, Err}
use Rattle.std.proofs.lemmas.List.{append-nil, length-append, map-append, take-append-le}
use Rattle.std.proofs.Math.Seq.{take-append_seam}
use Rattle.std.specs.List.{All}
use Rattle.span_base.specs.declared.words.Cause.{Cause}
use Rattle.span_base.specs.declared.words.What.TheVariants.{Events}
use Rattle.wire_msg.specs.declared.outputs.Post.{Post}
use Rattle.run_marks.specs.declared.mark.Mark.{Mark}
use Rattle.world_core.specs.declared.event.Event.{Event}
use Rattle.world_core.specs.declared.event.StepFault.{StepFault}
use Rattle.world_core.specs.declared.event.StepFault.TheVariants as step
use Rattle.world_core.specs.State.{Store}
use Rattle.world_core.specs.Step.{Happening, Outcome}
use Rattle.world_core.specs.Step as world
use Rattle.world_core.specs.Ends.{Seen}
use Rattle.world_core.specs.InMemory.{Happens, EndsInMemory}
use Rattle.world_core.specs.Run.{Run, run_of}
use Rattle.world_core.proofs.Runs.{going_on}
use Rattle.schedule_text.specs.Given.{Left}
use Rattle.schedule_text.specs.Laws.{HasModes, MayAlways}
use Rattle.schedule_text.specs.Schedules.{Schedule}
use Rattle.schedule_replay.specs.declared.fault.ReplayFault.{ReplayFault}
use Rattle.schedule_replay.specs.declared.fault.ReplayFault.TheVariants as replay
use Rattle.schedule_replay.specs.Replays.{refused_at}
use Rattle.schedule_replay.proofs.Keeps.{keeps_modes}
use Rattle.frame_link.specs.Frames.{Sent}
use Rattle.span_node.specs.declared.fault.LoopFault.{LoopFault}
use Rattle.span_node.specs.declared.fault.LoopFault.TheVariants.{Limit}
use Rattle.span_node.specs.declared.running.Running.{Running}
use Rattle.span_node.specs.Faults.{of_replay}
use Rattle.span_node.specs.Traffic.{Traffic, Carries}
use Rattle.span_node.specs.Carried.{posted, carried}
use Rattle.span_node.specs.Rounds.{Round, loop_events, answers_of, DeliversNothing, IsKnown, so_far}
use Rattle.span_node.specs.InOrder.{IsInStep}
use Rattle.span_node.specs.Loops.{event_limit, looped, last_line, IsIn, IsRefused, IsFull}
use Rattle.span_node.specs.declared.mail.Mail.{Mail}
use Rattle.span_node.specs.Index.{IsIndex}
use Rattle.span_node.specs.Mail.{IsMail}
use Rattle.span_node.specs.Standing.{IsReady, IsFront, IsBegun, IsNext, BeginsWith, Stops}
use Rattle.span_node.proofs.Carrying.{many}
use Rattle.span_node.proofs.Growing.{grows}
use Rattle.span_node.proofs.Looping.{answers_closed, ran_more, ran_on, ran_into}

-- ---- what was carried

pub carries_as : (from now : Traffic) (frames frames' : List Sent) (given given' : List (Option Sent)) → frames ≡ frames' → given ≡ given' → Carries from now frames given → Carries from now frames' given'
carries_as from now frames frames' given given' same more is =
    subst (λ (fs : List Sent). Carries from now fs given') same (subst (λ (gs : List (Option Sent)). Carries from now frames gs) more is)

-- messages that come later stand behind those of before
pub carried_more : (posts more : List Post) → carried (posts ++ more) ≡ carried posts ++ carried more
unfolding carried
carried_more posts more = map-append posted posts more

pub carried_front : (posts more : List Post) → take (length posts) (carried (posts ++ more)) ≡ carried posts
carried_front posts more =
    ap (λ (fs : List Sent). take (length posts) fs) (carried_more posts more)
    ∙ ap (λ (n : ℕ). take n (carried posts ++ carried more)) (sym (many posts))
    ∙ take-append_seam (carried posts) (carried more)

-- the mail stays in order where more was sent
mail_stays : (mail : Mail) (posts more : List Post) → IsMail mail posts → IsMail mail (posts ++ more)
mail_stays mail posts more is =
    let within : mail.sent ≤ length (carried posts) = omega (arith, is.few, many posts) in
    let same : take mail.sent (carried (posts ++ more)) ≡ take mail.sent (carried posts) = ap (take mail.sent) (carried_more posts more) ∙ take-append-le mail.sent (carried posts) (carried more) within in
    record {
      few = omega (arith, is.few, length-append posts more);
      index = subst (IsIndex mail.index) (sym same) is.index;
      buffer = is.buffer;
    }

-- ---- the next event is taken

pub took_next : (schedule : Schedule) (marks more : List Mark) (from now : Traffic) (old new : Running) (event : Event) → IsNext schedule marks from now old event
    → Happens old.cloud new.cloud (world.step old.cloud.store event) more → new.script ≡ old.script → new.mail ≡ old.mail → IsBegun schedule (marks ++ more) from now new
took_next schedule marks more from now old new event is happens script mail =
    let h : Happening = happens.happening in
    let rounds : List Round = is.before ++ is.last ∷ [] in
    let sent : new.cloud.store.sent ≡ old.cloud.store.sent ++ h.posts = ap (λ (s : Store). s.sent) happens.store_is ∙ grows old.cloud.store event h happens.taken in
    let all : new.mail.sent ≡ length old.cloud.store.sent = ap (λ (m : Mail). m.sent) mail ∙ is.all_sent in
    let front : carried old.cloud.store.sent ≡ take new.mail.sent (carried new.cloud.store.sent) =
    sym (ap (λ (n : ℕ). take n (carried new.cloud.store.sent)) all ∙ ap (λ (ps : List Post). take (length old.cloud.store.sent) (carried ps)) sent ∙ carried_front old.cloud.store.sent h.posts) in
    record {
      before = is.before;
      last = is.last;
      run = record {
        run_is = ran_on schedule.header is.done (loop_events schedule.header rounds) event old.cloud new.cloud marks more is.events_are is.run.run_is happens;
        count = ap length is.events_are ∙ length-append is.done (event ∷ []) ∙ ap (λ (n : ℕ). n + 1) is.run.count ∙ sym happens.events_are;
      };
      front = subst (λ (s : Left). IsFront schedule rounds (record new { script = s })) (sym script) (record { script = is.front.script; line = is.front.line });
      carries = carries_as from now (carried old.cloud.store.sent) (take new.mail.sent (carried new.cloud.store.sent)) (answers_of is.before ++ map Some is.last.arrived) (answers_of is.before ++ map Some is.last.arrived) front refl is.carries;
      in_step = λ fresh. subst (λ (s : Left). IsInStep schedule.header schedule.events (loop_events schedule.header rounds) (answers_of is.before ++ map Some is.last.arrived) s.events) (sym script) (is.in_step fresh);
    }

-- what is needed of the loop stays
pub ready_next : (old new : Running) (event : Event) (more : List Mark) → IsReady old → old.cloud.events < event_limit → Happens old.cloud new.cloud (world.step old.cloud.store event) more
    → new.script ≡ old.script → new.mail ≡ old.mail → IsReady new
ready_next old new event more ready few happens script mail =
    let h : Happening = happens.happening in
    let sent : new.cloud.store.sent ≡ old.cloud.store.sent ++ h.posts = ap (λ (s : Store). s.sent) happens.store_is ∙ grows old.cloud.store event h happens.taken in
    let one = happens.events_are in
    record {
      header = ready.header;
      few = omega (arith, few, one);
      may = subst (λ (s : Left). All (MayAlways ready.header) s.events) (sym script) ready.may;
      undelivered = subst (λ (s : Left). All DeliversNothing s.events) (sym script) ready.undelivered;
      modes = subst (λ (s : Store). HasModes ready.header s.directory) (sym happens.store_is) (keeps_modes ready.header old.cloud.store event h happens.taken ready.modes);
      mail = subst (IsMail new.mail) (sym sent) (subst (λ (m : Mail). IsMail m (old.cloud.store.sent ++ h.posts)) (sym mail) (mail_stays old.mail old.cloud.store.sent h.posts ready.mail));
    }

-- ---- the next event isn't taken

among : (schedule : Schedule) (marks : List Mark) (from now : Traffic) (running : Running) (event : Event) (is : IsNext schedule marks from now running event) (sent : List Post) → sent ≡ running.cloud.store.sent
    → IsIn schedule (is.before ++ is.last ∷ []) from now (carried sent) []
among schedule marks from now running event is sent same =
    let given : List (Option Sent) = answers_of is.before ++ map Some is.last.arrived in
    record {
      left = running.script.events;
      script = is.front.script;
      given = given;
      open_round = answers_closed is.before is.last;
      carries = carries_as from now (carried running.cloud.store.sent) (carried sent) given (given ++ []) (ap carried (sym same)) (sym (append-nil given)) is.carries;
      in_step = is.in_step;
    }

-- the event delivers none but one of the messages of the run so far
known_next : (schedule : Schedule) (marks : List Mark) (from now : Traffic) (running : Running) (event : Event) (is : IsNext schedule marks from now running event) → IsKnown event (length (run_of schedule.header is.done).store.sent)
known_next schedule marks from now running event is = subst (λ (r : Run). IsKnown event (length r.store.sent)) (sym is.run.run_is) is.known

refused_next : (schedule : Schedule) (marks : List Mark) (from now : Traffic) (running : Running) (event : Event) (fault : StepFault) → running.cloud.events < event_limit → IsNext schedule marks from now running event
    → world.step running.cloud.store event ≡ Err fault → IsRefused schedule marks from now (refused_at running.script.line fault)
refused_next schedule marks from now running event fault low is refuses =
    let rounds : List Round = is.before ++ is.last ∷ [] in
    let whole : looped schedule rounds ≡ record { store = running.cloud.store; marks = marks; taken = running.cloud.events; refused = Some fault } =
    ran_into schedule.header is.done (loop_events schedule.header rounds) event running.cloud marks fault is.events_are is.run.run_is refuses in
    let one : length (loop_events schedule.header rounds) ≡ length is.done + 1 = ap length is.events_are ∙ length-append is.done (event ∷ []) in
    record {
      rounds = rounds;
      done = is.done;
      last = event;
      events_are = is.events_are;
      few = omega (arith, low, is.run.count, one);
      unrefused = ap (λ (r : Run). r.refused) is.run.run_is;
      known = known_next schedule marks from now running event is;
      fault = fault;
      refused = ap (λ (r : Run). r.refused) whole;
      marks_are = ap (λ (r : Run). r.marks) whole;
      told_is = ap (λ (l : ℕ). refused_at l fault) is.front.line;
      among = among schedule marks from now running event is (looped schedule rounds).store.sent (ap (λ (r : Run). r.store.sent) whole);
    }

-- it would be one too many
pub full_next : (schedule : Schedule) (marks : List Mark) (from now : Traffic) (running : Running) (event : Event) → IsNext schedule marks from now running event
    → running.cloud.events ≡ event_limit → IsFull schedule marks from now (replay.Limit running.script.line Events 1000001)
full_next schedule marks from now running event is full = record {
  rounds = is.before ++ is.last ∷ [];
  done = is.done;
  last = event;
  events_are = is.events_are;
  full = is.run.count ∙ full;
  unrefused = ap (λ (r : Run). r.refused) is.run.run_is;
  known = known_next schedule marks from now running event is;
  marks_are = ap (λ (r : Run). r.marks) is.run.run_is;
  told_is = ap (λ (l : ℕ). let f : ReplayFault = replay.Limit l Events 1000001 in f) is.front.line;
  among = among schedule marks from now running event is (run_of schedule.header is.done).store.sent (ap (λ (r : Run). r.store.sent) is.run.run_is);
}

-- the loop begins with the marks so far, whatever the event does
begins_by : (cloud : Seen) (marks : List Mark) (outcome : Outcome) → (more : List Mark) × ((going_on (so_far cloud marks) outcome).marks ≡ marks ++ more)
begins_by cloud marks (Ok h) = (h.marks, refl)
begins_by cloud marks (Err fault) = ([], sym (append-nil marks))

pub begins_next : (schedule : Schedule) (marks : List Mark) (from now : Traffic) (running : Running) (event : Event) → IsNext schedule marks from now running event → BeginsWith schedule marks
begins_next schedule marks from now running event is =
    let rounds : List Round = is.before ++ is.last ∷ [] in
    let more : (more : List Mark) × ((going_on (so_far running.cloud marks) (world.step running.cloud.store event)).marks ≡ marks ++ more) = begins_by running.cloud marks (world.step running.cloud.store event) in
    record {
      rounds = rounds;
      left = running.script.events;
      script = is.front.script;
      more = more.0;
      marks_are = ap (λ (r : Run). r.marks) (ran_more schedule.header is.done (loop_events schedule.header rounds) event running.cloud marks is.events_are is.run.run_is) ∙ more.1;
    }

never_bad : (line : ℕ) (cause : Cause) (at : ℕ) (fault : StepFault) → replay.Bad line cause ≡ refused_at at fault → ⊥
never_bad line cause at step.NoActor is = absurd (cc)
never_bad line cause at step.NoKey is = absurd (cc)
never_bad line cause at step.WrongMode is = absurd (cc)
never_bad line cause at (step.NoMessage sent) is = absurd (cc)
never_bad line cause at step.NoCall is = absurd (cc)
never_bad line cause at (step.Limit what number) is = absurd (cc)
never_bad line cause at (step.Taker fault) is = absurd (cc)
never_bad line cause at (step.NoMemory error) is = absurd (cc)

never_unwritten : (at : ℕ) (fault : StepFault) → replay.WriteFault ≡ refused_at at fault → ⊥
never_unwritten at step.NoActor is = absurd (cc)
never_unwritten at step.NoKey is = absurd (cc)
never_unwritten at step.WrongMode is = absurd (cc)
never_unwritten at (step.NoMessage sent) is = absurd (cc)
never_unwritten at step.NoCall is = absurd (cc)
never_unwritten at (step.Limit what number) is = absurd (cc)
never_unwritten at (step.Taker fault) is = absurd (cc)
never_unwritten at (step.NoMemory error) is = absurd (cc)

-- how a refused event is told
stops_told : (schedule : Schedule) (marks : List Mark) (from now : Traffic) (told : ReplayFault) → IsRefused schedule marks from now told → Stops schedule marks from now (of_replay told)
stops_told schedule marks from now (replay.Bad line cause) is = absurd (never_bad line cause (last_line schedule is.rounds) is.fault is.told_is)
stops_told schedule marks from now (replay.Limit line what number) is = inl is
stops_told schedule marks from now (replay.BadEvent line cause) is = is
stops_told schedule marks from now replay.WriteFault is = absurd (never_unwritten (last_line schedule is.rounds) is.fault is.told_is)
stops_told schedule marks from now replay.NoMemory is = record { rounds = is.rounds; left = is.among.left; script = is.among.script; more = []; marks_are = is.marks_are ∙ sym (append-nil marks) }

-- the next event isn't taken
pub not_taken : (schedule : Schedule) (marks : List Mark) (from now : Traffic) (running : Running) (event : Event) (after : Seen) (fault : StepFault) → running.cloud.events < event_limit → IsNext schedule marks from now running event
    → EndsInMemory running.cloud after (world.step running.cloud.store event) (Err fault) → Stops schedule marks from now (of_replay (refused_at running.script.line fault))
not_taken schedule marks from now running event after step.NoActor low is ends = stops_told schedule marks from now (refused_at running.script.line step.NoActor) (refused_next schedule marks from now running event step.NoActor low is ends.0)
not_taken schedule marks from now running event after step.NoKey low is ends = stops_told schedule marks from now (refused_at running.script.line step.NoKey) (refused_next schedule marks from now running event step.NoKey low is ends.0)
not_taken schedule marks from now running event after step.WrongMode low is ends = stops_told schedule marks from now (refused_at running.script.line step.WrongMode) (refused_next schedule marks from now running event step.WrongMode low is ends.0)
not_taken schedule marks from now running event after (step.NoMessage sent) low is ends = stops_told schedule marks from now (refused_at running.script.line (step.NoMessage sent)) (refused_next schedule marks from now running event (step.NoMessage sent) low is ends.0)
not_taken schedule marks from now running event after step.NoCall low is ends = stops_told schedule marks from now (refused_at running.script.line step.NoCall) (refused_next schedule marks from now running event step.NoCall low is ends.0)
not_taken schedule marks from now running event after (step.Limit what number) low is ends = stops_told schedule marks from now (refused_at running.script.line (step.Limit what number)) (refused_next schedule marks from now running event (step.Limit what number) low is ends.0)
not_taken schedule marks from now running event after (step.Taker fault) low is ends = absurd ends
not_taken schedule marks from now running event after (step.NoMemory error) low is ends = begins_next schedule marks from now running event is

-- ---- how the take of the next event is told

pub stops_full : (schedule : Schedule) (marks : List Mark) (from now : Traffic) (running : Running) (event : Event) (line : ℕ) (told : LoopFault) → told ≡ Limit line Events 1000001 → line ≡ running.script.line
    → event_limit ≤ running.cloud.events → running.cloud.events ≤ event_limit → IsNext schedule marks from now running event → Stops schedule marks from now told
stops_full schedule marks from now running event line told is at low high next =
    let full : running.cloud.events ≡ event_limit = omega (arith, low, high) in
    subst (Stops schedule marks from now) (sym is)
    (inr (subst (λ (l : ℕ). IsFull schedule marks from now (replay.Limit l Events 1000001)) (sym at) (full_next schedule marks from now running event next full)))

pub stops_not_taken : (schedule : Schedule) (marks : List Mark) (from now : Traffic) (running : Running) (event : Event) (after : Seen) (fault : StepFault) (line : ℕ) (told : LoopFault)
    → told ≡ of_replay (refused_at line fault) → line ≡ running.script.line → running.cloud.events < event_limit → EndsInMemory running.cloud after (world.step running.cloud.store event) (Err fault)
    → IsNext schedule marks from now running event → Stops schedule marks from now told
stops_not_taken schedule marks from now running event after fault line told is at low ends next =
    subst (Stops schedule marks from now) (sym is)
    (subst (λ (l : ℕ). Stops schedule marks from now (of_replay (refused_at l fault))) (sym at) (not_taken schedule marks from now running event after fault low next ends))
