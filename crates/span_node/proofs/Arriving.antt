-- What arrives in a round.
use Rattle.std.proofs.Common.{◌≡◌, ℕ, ◌+◌, ◌<◌, ◌≤◌, Bool, true, false, ◌&&◌, List, [], ◌∷◌, ◌++◌, length, map, take, drop, get_or, slice_get, refl, sym, ap, ◌∙◌, subst, arith}
use Rattle.std.specs.Prelude.{◌==◌, Contains, Option, Some, None, option_map, Result, Ok, Err}
use Rattle.std.specs.Result.{IsErrAnd}
use Rattle.std.specs.Str.{bytes_eq}
use Rattle.std.proofs.lemmas.Bool.{eq-eqb}
use Rattle.std.proofs.lemmas.Slice.Eq.{bytes_eq-Decides}
use Rattle.std.proofs.lemmas.List.{append_assoc, append-nil, take-append-drop, take_all}
use Rattle.std.proofs.lemmas.List.Sums.{fails_before_first}
use Rattle.std.proofs.lemmas.Option.{slice_get_within, get_or_from_slice_get}
use Rattle.run_marks.specs.declared.mark.Mark.{Mark}
use Rattle.world_core.specs.declared.event.Event.{Event}
use Rattle.world_core.specs.declared.event.Event.TheVariants.{Deliver}
use Rattle.world_core.specs.Ends.{Seen}
use Rattle.world_core.specs.Run.{Run}
use Rattle.schedule_text.specs.Given.{Left}
use Rattle.schedule_text.specs.Headers.{begin_line}
use Rattle.schedule_text.specs.Schedules.{Schedule}
use Rattle.frame_link.specs.Frames.{Sent, IsHonest, arrived}
use Rattle.span_node.specs.declared.fault.LoopFault.{LoopFault}
use Rattle.span_node.specs.declared.fault.LoopFault.TheVariants.{Bad, Limit, BadEvent, WriteFault, LinkFault, Strange, NoMemory}
use Rattle.span_node.specs.declared.running.Running.{Running}
use Rattle.span_node.specs.Traffic.{Traffic, Carries, Answered, Goes}
use Rattle.span_node.specs.Carried.{carried, is_same, first_same}
use Rattle.span_node.specs.Rounds.{Round, loop_events, answers_of, script_of}
use Rattle.span_node.specs.InOrder.{Turn, frames_so_far, IsInStep}
use Rattle.span_node.specs.Loops.{event_limit, looped, IsIn, IsUnderWay, IsStrange}
use Rattle.span_node.specs.Mail.{Comes, IsOfLink}
use Rattle.span_node.specs.Standing.{IsBegun, IsResting, IsNext, StandsBy, Stands, BeginsWith, Stops, Arrives}
use Rattle.span_node.proofs.Carrying.{many}
use Rattle.span_node.proofs.Looping.{with_frame, events_brought, delivery_is, script_same, count_same, answers_closed, answers_more}
use Rattle.span_node.proofs.InOrder.{due, step_frame, step_none}
use Rattle.span_node.proofs.Turning.{carries_as}

-- ---- the link

told_one : {A : Type 0} (given : List A) (one : A) (before : Option (List A)) → option_map (λ b. b ++ one ∷ []) (option_map (λ b. b ++ given) before) ≡ option_map (λ b. b ++ (given ++ one ∷ [])) before
told_one given one None = refl
told_one given one (Some before) = ap Some (append_assoc before given (one ∷ []))

-- one answer more was given
carries_one : (from link now : Traffic) (frames : List Sent) (given : List (Option Sent)) (answer : Option Sent) → Carries from link frames given → Answered link now answer → Carries from now frames (given ++ answer ∷ [])
carries_one from link now frames given answer carries answered = record {
  sent = answered.sent ∙ carries.sent;
  answers = answered.answers ∙ ap (option_map (λ b. b ++ answer ∷ [])) carries.answers ∙ told_one given answer from.answers;
  honest = answered.honest ∙ carries.honest;
  faithful = answered.faithful ∙ carries.faithful;
}

-- a frame is itself
same_self : (sent : Sent) → is_same sent sent ≡ true
unfolding is_same
same_self sent = both (sent.to == sent.to) (bytes_eq sent.frame sent.frame) (eq-eqb sent.to sent.to refl) ((bytes_eq-Decides sent.frame sent.frame).1 refl)
  where
    both : (a b : Bool) → a ≡ true → b ≡ true → (a && b) ≡ true
    both true true p q = refl
    both true false p q = q
    both false b p q = p

-- none of the frames is it
not_sent : (frames : List Sent) (sent : Sent) → first_same frames sent ≡ length frames → Contains frames sent → ⊥
unfolding first_same
not_sent frames sent none (k, within, is) =
    let differs : is_same sent (get_or frames k sent) ≡ false = fails_before_first (is_same sent) frames k sent (omega (arith, none, within)) in
    let same : is_same sent (get_or frames k sent) ≡ true = ap (is_same sent) is ∙ same_self sent in
    absurd (cc)

-- and so it isn't one of them, by its number
among_them : (frames : List Sent) (n : ℕ) (sent : Sent) → first_same frames sent ≡ length frames → Some sent ≡ slice_get frames n → ⊥
among_them frames n sent none at = not_sent frames sent none (n, slice_get_within frames n sent (sym at), get_or_from_slice_get frames n sent sent (sym at))

-- ---- the round

module _ (schedule : Schedule) (marks : List Mark) (from : Traffic) where
  pub begun_by : (link : Traffic) (running : Running) → running.begun ≡ true → Stands schedule marks from link running → IsBegun schedule marks from link running
  begun_by link running is stands = subst (λ (b : Bool). StandsBy b schedule marks from link running) is stands

  pub resting_by : (link : Traffic) (running : Running) → running.begun ≡ false → Stands schedule marks from link running → IsResting schedule marks from link running
  resting_by link running is stands = subst (λ (b : Bool). StandsBy b schedule marks from link running) is stands

  pub begins_begun : (link : Traffic) (running : Running) → IsBegun schedule marks from link running → BeginsWith schedule marks
  begins_begun link running is = record {
    rounds = is.before ++ is.last ∷ [];
    left = running.script.events;
    script = is.front.script;
    more = [];
    marks_are = ap (λ (r : Run). r.marks) is.run.run_is ∙ sym (append-nil marks);
  }

  pub begins_resting : (link : Traffic) (running : Running) → IsResting schedule marks from link running → BeginsWith schedule marks
  begins_resting link running is = record {
    rounds = is.rounds;
    left = running.script.events;
    script = is.front.script;
    more = [];
    marks_are = ap (λ (r : Run). r.marks) is.run.run_is ∙ sym (append-nil marks);
  }

  among : (link now : Traffic) (running : Running) (is : IsBegun schedule marks from link running) (frames : List Sent) (more : List (Option Sent))
      → Carries from now frames ((answers_of is.before ++ map Some is.last.arrived) ++ more) → IsIn schedule (is.before ++ is.last ∷ []) from now frames more
  among link now running is frames more carries = record {
    left = running.script.events;
    script = is.front.script;
    given = answers_of is.before ++ map Some is.last.arrived;
    open_round = answers_closed is.before is.last;
    carries = carries;
    in_step = is.in_step;
  }

  -- the link was given the first frames
  under_way : (link now : Traffic) (running : Running) (n : ℕ) → running.cloud.events ≤ event_limit → (is : IsBegun schedule marks from link running)
      → Carries from now (take n (carried running.cloud.store.sent)) (answers_of is.before ++ map Some is.last.arrived) → IsUnderWay schedule marks from now
  under_way link now running n few is carries =
      let given : List (Option Sent) = answers_of is.before ++ map Some is.last.arrived in
      let frames : List Sent = carried running.cloud.store.sent in
      record {
        rounds = is.before ++ is.last ∷ [];
        few = omega (arith, few, is.run.count);
        unrefused = ap (λ (r : Run). r.refused) is.run.run_is;
        marks_are = ap (λ (r : Run). r.marks) is.run.run_is;
        frames = take n frames;
        unsent = drop n frames;
        frames_are = take-append-drop n frames ∙ sym (ap (λ (r : Run). carried r.store.sent) is.run.run_is);
        among = among link now running is (take n frames) [] (carries_as from now (take n frames) (take n frames) given (given ++ []) refl (sym (append-nil given)) carries);
      }

  pub stops_sending : (link now : Traffic) (running : Running) (n : ℕ) (fault : LoopFault) → running.cloud.events ≤ event_limit → IsOfLink fault → IsBegun schedule marks from link running
      → Goes link now (take running.mail.sent (carried running.cloud.store.sent)) (take n (carried running.cloud.store.sent)) → Stops schedule marks from now fault
  stops_sending link now running n LinkFault few of is goes = under_way link now running n few is (goes.on from (answers_of is.before ++ map Some is.last.arrived) is.carries)
  stops_sending link now running n NoMemory few of is goes = begins_begun link running is
  stops_sending link now running n (Bad line cause) few of is goes = absurd of
  stops_sending link now running n (Limit line what number) few of is goes = absurd of
  stops_sending link now running n (BadEvent line cause) few of is goes = absurd of
  stops_sending link now running n WriteFault few of is goes = absurd of
  stops_sending link now running n (Strange to frame) few of is goes = absurd of

  -- nothing arrives: the round is over
  rested : (link mid now : Traffic) (old new : Running) (is : IsBegun schedule marks from link old)
      → Carries from mid (carried old.cloud.store.sent) (answers_of is.before ++ map Some is.last.arrived) → Answered mid now None
      → new.cloud ≡ old.cloud → new.script ≡ old.script → new.mail.sent ≡ length old.cloud.store.sent → IsResting schedule marks from now new
  rested link mid now old new is carries answered cloud script all =
      let rounds : List Round = is.before ++ is.last ∷ [] in
      let given : List (Option Sent) = answers_of is.before ++ map Some is.last.arrived in
      let frames : carried old.cloud.store.sent ≡ carried new.cloud.store.sent = ap (λ (c : Seen). carried c.store.sent) (sym cloud) in
      record {
        rounds = rounds;
        run = record { run_is = is.run.run_is ∙ ap (λ (c : Seen). let r : Run = record { store = c.store; marks = marks; taken = c.events; refused = None } in r) (sym cloud); count = is.run.count ∙ ap (λ (c : Seen). c.events) (sym cloud) };
        front = record { script = ap (λ (s : Left). script_of rounds ++ s.events) script ∙ is.front.script; line = ap (λ (s : Left). s.line) script ∙ is.front.line };
        all_sent = all ∙ ap (λ (c : Seen). length c.store.sent) (sym cloud);
        carries = carries_as from now (carried old.cloud.store.sent) (carried new.cloud.store.sent) (given ++ None ∷ []) (answers_of rounds) frames (answers_closed is.before is.last)
            (carries_one from mid now (carried old.cloud.store.sent) given None carries answered);
        in_step = λ fresh.
            let none : None ≡ slice_get (frames_so_far schedule.header (loop_events schedule.header rounds)) (length (arrived given)) =
            due from mid (carried old.cloud.store.sent) given None fresh carries answered.faithfully ∙ ap (λ (r : Run). slice_get (carried r.store.sent) (length (arrived given))) (sym is.run.run_is) in
            step_none schedule.header schedule.events (loop_events schedule.header rounds) given (answers_of rounds) new.script.events
            (is.in_step fresh ∙ ap (λ (s : Left). let t : Turn = record { events = loop_events schedule.header rounds; come = length (arrived given); left = s.events } in t) (sym script)) none (answers_closed is.before is.last);
      }

  -- one of the messages arrives: its delivery is the next event
  brought : (link mid now : Traffic) (old new : Running) (frame : Sent) (number : ℕ) (is : IsBegun schedule marks from link old)
      → Carries from mid (carried old.cloud.store.sent) (answers_of is.before ++ map Some is.last.arrived) → Answered mid now (Some frame) → first_same (carried old.cloud.store.sent) frame ≡ number
      → number < length (carried old.cloud.store.sent) → new.cloud ≡ old.cloud → new.script ≡ old.script → new.mail.sent ≡ length old.cloud.store.sent → IsNext schedule marks from now new (Deliver number)
  brought link mid now old new frame number is carries answered first within cloud script all =
      let given : List (Option Sent) = answers_of is.before ++ map Some is.last.arrived in
      let done : List Event = loop_events schedule.header (is.before ++ is.last ∷ []) in
      let frames : carried old.cloud.store.sent ≡ carried new.cloud.store.sent = ap (λ (c : Seen). carried c.store.sent) (sym cloud) in
      let all_of : length (carried old.cloud.store.sent) ≡ length new.cloud.store.sent = many old.cloud.store.sent ∙ ap (λ (c : Seen). length c.store.sent) (sym cloud) in
      record {
        before = is.before;
        last = with_frame is.last frame;
        done = done;
        events_are = events_brought schedule.header is.before is.last frame
            ∙ delivery_is schedule.header done frame number (ap (λ (r : Run). first_same (carried r.store.sent) frame) is.run.run_is ∙ first);
        known = omega (arith, within, all_of);
        run = record { run_is = is.run.run_is ∙ ap (λ (c : Seen). let r : Run = record { store = c.store; marks = marks; taken = c.events; refused = None } in r) (sym cloud); count = is.run.count ∙ ap (λ (c : Seen). c.events) (sym cloud) };
        front = record {
          script = ap (λ (es : List Event). es ++ new.script.events) (script_same is.before is.last frame) ∙ ap (λ (s : Left). script_of (is.before ++ is.last ∷ []) ++ s.events) script ∙ is.front.script;
          line = ap (λ (s : Left). s.line) script ∙ is.front.line ∙ ap (λ (n : ℕ). begin_line schedule.header + n) (sym (count_same is.before is.last frame));
        };
        all_sent = all ∙ ap (λ (c : Seen). length c.store.sent) (sym cloud);
        carries = carries_as from now (carried old.cloud.store.sent) (carried new.cloud.store.sent) (given ++ Some frame ∷ []) (answers_of is.before ++ map Some (is.last.arrived ++ frame ∷ [])) frames (answers_more is.before is.last frame)
            (carries_one from mid now (carried old.cloud.store.sent) given (Some frame) carries answered);
        in_step = λ fresh.
            let at : Some frame ≡ slice_get (frames_so_far schedule.header done) (length (arrived given)) =
            due from mid (carried old.cloud.store.sent) given (Some frame) fresh carries answered.faithfully ∙ ap (λ (r : Run). slice_get (carried r.store.sent) (length (arrived given))) (sym is.run.run_is) in
            let now_left : IsInStep schedule.header schedule.events done given new.script.events =
            is.in_step fresh ∙ ap (λ (s : Left). let t : Turn = record { events = done; come = length (arrived given); left = s.events } in t) (sym script) in
            subst (λ (gs : List (Option Sent)). IsInStep schedule.header schedule.events (loop_events schedule.header (is.before ++ with_frame is.last frame ∷ [])) gs new.script.events) (answers_more is.before is.last frame)
            (subst (λ (es : List Event). IsInStep schedule.header schedule.events es (given ++ Some frame ∷ []) new.script.events) (sym (events_brought schedule.header is.before is.last frame))
            (step_frame schedule.header schedule.events done given new.script.events frame now_left at));
      }

  -- a frame arrives that none of the messages is
  meets_strange : (link mid now : Traffic) (old : Running) (frame : Sent) → old.cloud.events ≤ event_limit → (is : IsBegun schedule marks from link old)
      → Carries from mid (carried old.cloud.store.sent) (answers_of is.before ++ map Some is.last.arrived) → Answered mid now (Some frame)
      → first_same (carried old.cloud.store.sent) frame ≡ length (carried old.cloud.store.sent) → IsStrange schedule marks from now frame
  meets_strange link mid now old frame few is carries answered none =
      let given : List (Option Sent) = answers_of is.before ++ map Some is.last.arrived in
      let frames : carried (looped schedule (is.before ++ is.last ∷ [])).store.sent ≡ carried old.cloud.store.sent = ap (λ (r : Run). carried r.store.sent) is.run.run_is in
      record {
        rounds = is.before ++ is.last ∷ [];
        few = omega (arith, few, is.run.count);
        unrefused = ap (λ (r : Run). r.refused) is.run.run_is;
        marks_are = ap (λ (r : Run). r.marks) is.run.run_is;
        strange = λ among. not_sent (carried old.cloud.store.sent) frame none (subst (λ (fs : List Sent). Contains fs frame) frames among);
        honestly = subst (λ (h : Option Bool). IsHonest h now.sent (Some frame)) (sym answered.honest) (subst (λ (s : Option (List Sent)). IsHonest mid.honest s (Some frame)) (sym answered.sent) answered.honestly);
        unfaithful = λ fresh.
            among_them (carried old.cloud.store.sent) (length (arrived given)) frame none (due from mid (carried old.cloud.store.sent) given (Some frame) fresh carries answered.faithfully);
        among = among link now old is (carried (looped schedule (is.before ++ is.last ∷ [])).store.sent) (Some frame ∷ [])
            (carries_as from now (carried old.cloud.store.sent) (carried (looped schedule (is.before ++ is.last ∷ [])).store.sent) (given ++ Some frame ∷ []) (given ++ Some frame ∷ []) (sym frames) refl
            (carries_one from mid now (carried old.cloud.store.sent) given (Some frame) carries answered));
      }

  arrives_by : (link mid now : Traffic) (old new : Running) (result : Result (Option ℕ) LoopFault) → old.cloud.events ≤ event_limit → (is : IsBegun schedule marks from link old)
      → Carries from mid (carried old.cloud.store.sent) (answers_of is.before ++ map Some is.last.arrived) → Comes (carried old.cloud.store.sent) mid now result
      → new.cloud ≡ old.cloud → new.script ≡ old.script → new.mail.sent ≡ length old.cloud.store.sent → Arrives schedule marks from now new result
  arrives_by link mid now old new (Ok None) few is carries comes cloud script all = rested link mid now old new is carries comes cloud script all
  arrives_by link mid now old new (Ok (Some number)) few is carries comes cloud script all = brought link mid now old new comes.frame number is carries comes.answered comes.first comes.sent cloud script all
  arrives_by link mid now old new (Err LinkFault) few is carries comes cloud script all =
      let whole : take (length (carried old.cloud.store.sent)) (carried old.cloud.store.sent) ≡ carried old.cloud.store.sent = take_all (length (carried old.cloud.store.sent)) (carried old.cloud.store.sent) (omega arith) in
      let given : List (Option Sent) = answers_of is.before ++ map Some is.last.arrived in
      under_way link now old (length (carried old.cloud.store.sent)) few is
      (subst (λ (t : Traffic). Carries from t (take (length (carried old.cloud.store.sent)) (carried old.cloud.store.sent)) given) (sym comes)
      (carries_as from mid (carried old.cloud.store.sent) (take (length (carried old.cloud.store.sent)) (carried old.cloud.store.sent)) given given (sym whole) refl carries))
  arrives_by link mid now old new (Err (Strange to frame)) few is carries (answered, none) cloud script all = meets_strange link mid now old (record { to = to; frame = frame }) few is carries answered none
  arrives_by link mid now old new (Err NoMemory) few is carries comes cloud script all = begins_begun link old is
  arrives_by link mid now old new (Err (Bad line cause)) few is carries comes cloud script all = absurd comes
  arrives_by link mid now old new (Err (Limit line what number)) few is carries comes cloud script all = absurd comes
  arrives_by link mid now old new (Err (BadEvent line cause)) few is carries comes cloud script all = absurd comes
  arrives_by link mid now old new (Err WriteFault) few is carries comes cloud script all = absurd comes

  -- what arrives once the link was given all
  pub arrives : (link mid now : Traffic) (old new : Running) (n : ℕ) (result : Result (Option ℕ) LoopFault) → old.cloud.events ≤ event_limit → IsBegun schedule marks from link old
      → Goes link mid (take old.mail.sent (carried old.cloud.store.sent)) (take n (carried old.cloud.store.sent)) → n ≡ length old.cloud.store.sent
      → Comes (carried old.cloud.store.sent) mid now result
      → new.cloud ≡ old.cloud → new.script ≡ old.script → new.mail.sent ≡ n → Arrives schedule marks from now new result
  arrives link mid now old new n result few is goes all comes cloud script sent =
      let given : List (Option Sent) = answers_of is.before ++ map Some is.last.arrived in
      let whole : take n (carried old.cloud.store.sent) ≡ carried old.cloud.store.sent = take_all n (carried old.cloud.store.sent) (omega (arith, all, many old.cloud.store.sent)) in
      arrives_by link mid now old new result few is
      (carries_as from mid (take n (carried old.cloud.store.sent)) (carried old.cloud.store.sent) given given whole refl (goes.on from given is.carries))
      comes cloud script (sent ∙ all)

  pub arrives_told : (now : Traffic) (running : Running) (result : Result (Option ℕ) LoopFault) (told : LoopFault) → IsErrAnd result (λ f. f ≡ told) → Stops schedule marks from now told → Arrives schedule marks from now running result
  arrives_told now running (Ok number) told is stops = absurd is
  arrives_told now running (Err fault) told is stops = subst (Stops schedule marks from now) (sym is) stops
