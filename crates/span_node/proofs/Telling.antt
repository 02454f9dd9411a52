-- The text of a loop, said step by step.
use Rattle.std.proofs.Common.{◌≡◌, ℕ, ◌+◌, ◌-◌, ◌^◌, ◌≤◌, min, arith, List, [], ◌++◌, length, Bool, true, false, inl, inr, refl, sym, ap, ◌∙◌, subst}
use Rattle.std.specs.Prelude.{codes, Option, Some, None, Result, Ok, Err}
use Rattle.std.specs.Result.{IsErrAnd, IsErrOf}
use Rattle.std.proofs.lemmas.Grind.{flat_map-append}
use Rattle.std.proofs.lemmas.List.{append_assoc, append-nil}
use Rattle.span_base.specs.declared.sink.DeviceFault.{DeviceFault}
use Rattle.span_base.specs.declared.sink.DeviceFault.TheVariants as device
use Rattle.span_base.specs.Counts.{Rose}
use Rattle.span_base.specs.Taken.{Appends}
use Rattle.sink_buffer.specs.Said.{IsSaid, IsFrontTaken}
use Rattle.sink_buffer.proofs.Saying.{front_longer}
use Rattle.run_marks.specs.declared.mark.Mark.{Mark}
use Rattle.run_marks.specs.Text.{mark_text, marks_text, messages_line}
use Rattle.world_core.specs.declared.event.StepFault.{StepFault}
use Rattle.world_core.specs.State.{opening}
use Rattle.world_core.specs.Step.{Outcome, step}
use Rattle.world_core.specs.Run.{Run, run_of}
use Rattle.world_core.proofs.Runs.{one_more_by, one_more, run_more}
use Rattle.schedule_text.specs.declared.setting.Form.TheVariants.{Script}
use Rattle.schedule_text.specs.Laws.{IsSchedule}
use Rattle.schedule_text.specs.Schedules.{Schedule, schedule_of}
use Rattle.schedule_replay.specs.declared.fault.ReplayFault.{ReplayFault}
use Rattle.schedule_replay.specs.Replays.{run_text, unless_refused}
use Rattle.span_node.specs.declared.fault.LoopFault.{LoopFault}
use Rattle.span_node.specs.declared.fault.LoopFault.TheVariants.{Bad, Limit, BadEvent, WriteFault, LinkFault, Strange, NoMemory}
use Rattle.span_node.specs.declared.running.Running.{Running}
use Rattle.span_node.specs.Faults.{unwritten}
use Rattle.span_node.specs.Traffic.{Traffic}
use Rattle.span_node.specs.Rounds.{script_of}
use Rattle.span_node.specs.Loops.{looped, IsOver, IsRefused, IsFull, IsCut, LoopEnds}
use Rattle.span_node.specs.Standing.{StandsBy, Stands, BeginsWith, Stops, GoesOn, Opens, IsToldSoFar}
use Rattle.span_node.proofs.Arriving.{begins_begun, begins_resting}
use Rattle.span_node.proofs.Scripting.{nothing_told}
use Rattle.span_node.proofs.Registers.{over_keeps, refused_keeps, full_keeps, under_way_keeps, strange_keeps}

marks_more : (marks more : List Mark) → marks_text (marks ++ more) ≡ marks_text marks ++ marks_text more
marks_more marks more = flat_map-append (λ (m : Mark). mark_text m ++ codes "\n") marks more

-- ---- a loop that goes on or stops begins with the marks so far

begins_stands : (schedule : Schedule) (marks : List Mark) (from link : Traffic) (running : Running) (b : Bool) → StandsBy b schedule marks from link running → BeginsWith schedule marks
begins_stands schedule marks from link running true is = begins_begun schedule marks from link running is
begins_stands schedule marks from link running false is = begins_resting schedule marks from link running is

begins_one : (r : Run) (outcome : Outcome) (refused : Option StepFault) → (more : List Mark) × ((one_more_by r outcome refused).marks ≡ r.marks ++ more)
begins_one r (Ok h) None = (h.marks, refl)
begins_one r (Err fault) None = ([], sym (append-nil r.marks))
begins_one r outcome (Some fault) = ([], sym (append-nil r.marks))

begins_refused : (schedule : Schedule) (marks : List Mark) (from link : Traffic) (told : ReplayFault) → IsRefused schedule marks from link told → BeginsWith schedule marks
begins_refused schedule marks from link told is = record { rounds = is.rounds; left = is.among.left; script = is.among.script; more = []; marks_are = is.marks_are ∙ sym (append-nil marks) }

begins_full : (schedule : Schedule) (marks : List Mark) (from link : Traffic) (told : ReplayFault) → IsFull schedule marks from link told → BeginsWith schedule marks
begins_full schedule marks from link told is =
    let r : Run = run_of schedule.header is.done in
    let more : (more : List Mark) × ((one_more r is.last).marks ≡ r.marks ++ more) = begins_one r (step r.store is.last) r.refused in
    record {
      rounds = is.rounds;
      left = is.among.left;
      script = is.among.script;
      more = more.0;
      marks_are = ap (λ (x : Run). x.marks) (ap (run_of schedule.header) is.events_are ∙ run_more is.done is.last (opening schedule.header))
          ∙ more.1 ∙ ap (λ (ms : List Mark). ms ++ more.0) is.marks_are;
    }

begins_stopped : (schedule : Schedule) (marks : List Mark) (from link : Traffic) (fault : LoopFault) → Stops schedule marks from link fault → BeginsWith schedule marks
begins_stopped schedule marks from link (Limit line what number) (inl is) = begins_refused schedule marks from link _ is
begins_stopped schedule marks from link (Limit line what number) (inr is) = begins_full schedule marks from link _ is
begins_stopped schedule marks from link (BadEvent line cause) is = begins_refused schedule marks from link _ is
begins_stopped schedule marks from link LinkFault is = record { rounds = is.rounds; left = is.among.left; script = is.among.script; more = []; marks_are = is.marks_are ∙ sym (append-nil marks) }
begins_stopped schedule marks from link (Strange to frame) is = record { rounds = is.rounds; left = is.among.left; script = is.among.script; more = []; marks_are = is.marks_are ∙ sym (append-nil marks) }
begins_stopped schedule marks from link NoMemory is = is
begins_stopped schedule marks from link (Bad line cause) is = absurd is
begins_stopped schedule marks from link WriteFault is = absurd is

-- ---- what is said

module _ (text : List ℕ) (old : Option (List ℕ)) (from : Traffic) where
  -- nothing is said yet
  pub told_first : (running : Running) (kept : List ℕ) → kept ≡ [] → Opens text from (Ok running) → IsToldSoFar text old old from from running kept
  told_first running kept none (schedule, read, may, stands) = record {
    schedule = schedule;
    read = read;
    may = may;
    marks = [];
    stands = stands;
    said = subst (λ (k : List ℕ). IsSaid old old k []) (sym none) (record { sent = []; taken = nothing_told old; text_is = refl });
  }

  -- the marks of one event more are said
  pub told_more : (link link' : Traffic) (running running' : Running) (now next : Option (List ℕ)) (kept keeps : List ℕ) (result : Option (List Mark)) (more : List Mark) → result ≡ Some more
      → ((schedule : Schedule) (marks : List Mark) (from : Traffic) → Stands schedule marks from link running → GoesOn schedule marks from link' running' (Ok result))
      → ((said : List ℕ) → IsSaid old now kept said → IsSaid old next keeps (said ++ marks_text more))
      → IsToldSoFar text old now from link running kept → IsToldSoFar text old next from link' running' keeps
  told_more link link' running running' now next kept keeps result more is goes says so = record {
    schedule = so.schedule;
    read = so.read;
    may = so.may;
    marks = so.marks ++ more;
    stands = subst (λ (o : Option (List Mark)). GoesOn so.schedule so.marks from link' running' (Ok o)) is (goes so.schedule so.marks from so.stands);
    said = subst (IsSaid old next keeps) (sym (marks_more so.marks more)) (says (marks_text so.marks) so.said);
  }

  -- a front of the first marks is one of a run's text
  cut_at : (schedule : Schedule) (marks : List Mark) (next : Option (List ℕ)) → schedule_of Script text ≡ Ok schedule → BeginsWith schedule marks → IsFrontTaken old next (marks_text marks) → IsCut text old next
  cut_at schedule marks next read begin front =
      let r : Run = looped schedule begin.rounds in
      let last : List ℕ = unless_refused r.refused (messages_line (length r.store.sent)) in
      let same : marks_text marks ++ (marks_text begin.more ++ last) ≡ run_text r =
      sym (append_assoc (marks_text marks) (marks_text begin.more) last) ∙ ap (λ (t : List ℕ). t ++ last) (sym (marks_more marks begin.more) ∙ ap marks_text (sym begin.marks_are)) in
      record {
        schedule = schedule;
        read = read;
        rounds = begin.rounds;
        left = begin.left;
        script = begin.script;
        front = subst (IsFrontTaken old next) same (front_longer old next (marks_text marks) (marks_text begin.more ++ last) front);
      }

  -- a sink that failed, or found no memory, has taken a front
  cut_by : (link : Traffic) (next : Option (List ℕ)) (fault : DeviceFault) → IsCut text old next → LoopEnds text old next from link (Err (unwritten fault))
  cut_by link next device.Failed cut = cut
  cut_by link next device.NoMemory cut = inr cut

  -- the marks of an event were not passed on
  pub stops_putting : (link link' : Traffic) (running running' : Running) (now next : Option (List ℕ)) (kept : List ℕ) (result : Option (List Mark)) (more : List Mark) (fault : DeviceFault) → result ≡ Some more
      → ((schedule : Schedule) (marks : List Mark) (from : Traffic) → Stands schedule marks from link running → GoesOn schedule marks from link' running' (Ok result))
      → ((said : List ℕ) → IsSaid old now kept said → IsFrontTaken old next (said ++ marks_text more))
      → IsToldSoFar text old now from link running kept → LoopEnds text old next from link' (Err (unwritten fault))
  stops_putting link link' running running' now next kept result more fault is goes says so =
      let marks : List Mark = so.marks ++ more in
      let stands : Stands so.schedule marks from link' running' = subst (λ (o : Option (List Mark)). GoesOn so.schedule so.marks from link' running' (Ok o)) is (goes so.schedule so.marks from so.stands) in
      cut_by link' next fault (cut_at so.schedule marks next so.read (begins_stands so.schedule marks from link' running' running'.begun stands)
      (subst (IsFrontTaken old next) (sym (marks_more so.marks more)) (says (marks_text so.marks) so.said)))

  is_over : (link link' : Traffic) (running running' : Running) (result : Option (List Mark)) (messages : ℕ) (schedule : Schedule) (marks : List Mark) → result ≡ None → messages ≡ length running'.cloud.store.sent
      → ((schedule : Schedule) (marks : List Mark) (from : Traffic) → Stands schedule marks from link running → GoesOn schedule marks from link' running' (Ok result))
      → Stands schedule marks from link running → IsOver schedule marks from link' messages
  is_over link link' running running' result messages schedule marks is sent goes stands =
      subst (IsOver schedule marks from link') (sym sent) (subst (λ (o : Option (List Mark)). GoesOn schedule marks from link' running' (Ok o)) is (goes schedule marks from stands))

  -- the loop is over, and all of it is said
  pub ends_whole : (link link' : Traffic) (running running' : Running) (now next : Option (List ℕ)) (kept : List ℕ) (result : Option (List Mark)) (messages : ℕ) → result ≡ None → messages ≡ length running'.cloud.store.sent
      → ((schedule : Schedule) (marks : List Mark) (from : Traffic) → Stands schedule marks from link running → GoesOn schedule marks from link' running' (Ok result))
      → ((said : List ℕ) → IsSaid old now kept said → Appends old next (said ++ messages_line messages))
      → IsToldSoFar text old now from link running kept → LoopEnds text old next from link' (Ok messages)
  ends_whole link link' running running' now next kept result messages is sent goes says so =
      let over = is_over link link' running running' result messages so.schedule so.marks is sent goes so.stands in
      (so.schedule, so.read, so.marks, says (marks_text so.marks) so.said, over_keeps so.schedule so.may so.marks from link' messages over, over)

  -- the loop is over, and a front of it was taken
  pub stops_closing : (link link' : Traffic) (running running' : Running) (now next : Option (List ℕ)) (kept : List ℕ) (result : Option (List Mark)) (messages : ℕ) (fault : DeviceFault) → result ≡ None → messages ≡ length running'.cloud.store.sent
      → ((schedule : Schedule) (marks : List Mark) (from : Traffic) → Stands schedule marks from link running → GoesOn schedule marks from link' running' (Ok result))
      → ((said : List ℕ) → IsSaid old now kept said → IsFrontTaken old next (said ++ messages_line messages))
      → IsToldSoFar text old now from link running kept → LoopEnds text old next from link' (Err (unwritten fault))
  stops_closing link link' running running' now next kept result messages fault is sent goes says so =
      let over : IsOver so.schedule so.marks from link' messages = is_over link link' running running' result messages so.schedule so.marks is sent goes so.stands in
      let r : Run = looped so.schedule over.rounds in
      let same : marks_text so.marks ++ messages_line messages ≡ run_text r =
      ap (λ (ms : List Mark). marks_text ms ++ messages_line messages) (sym over.marks_are)
      ∙ ap (λ n. marks_text r.marks ++ messages_line n) (sym over.messages_are)
      ∙ ap (λ o. marks_text r.marks ++ unless_refused o (messages_line (length r.store.sent))) (sym over.unrefused) in
      cut_by link' next fault (record {
        schedule = so.schedule;
        read = so.read;
        rounds = over.rounds;
        left = [];
        script = append-nil (script_of over.rounds) ∙ over.script;
        front = subst (IsFrontTaken old next) same (says (marks_text so.marks) so.said);
      })

  ends_told : (link : Traffic) (next : Option (List ℕ)) (schedule : Schedule) (marks : List Mark) (fault : LoopFault) → schedule_of Script text ≡ Ok schedule → IsSchedule schedule → Stops schedule marks from link fault
      → Appends old next (marks_text marks) → LoopEnds text old next from link (Err fault)
  ends_told link next schedule marks fault read may stops taken = by fault stops
    where
      all : Appends old next (marks_text marks ++ [])
      all = subst (Appends old next) (sym (append-nil (marks_text marks))) taken

      by : (fault : LoopFault) → Stops schedule marks from link fault → LoopEnds text old next from link (Err fault)
      by (Limit line what number) (inl is) = inr (schedule, read, marks, all, refused_keeps schedule may marks from link _ is, inl is)
      by (Limit line what number) (inr is) = inr (schedule, read, marks, all, full_keeps schedule may marks from link _ is, inr is)
      by (BadEvent line cause) is = (schedule, read, marks, all, refused_keeps schedule may marks from link _ is, is)
      by LinkFault is = (schedule, read, marks, all, under_way_keeps schedule may marks from link is, is)
      by (Strange to frame) is = (schedule, read, marks, all, strange_keeps schedule may marks from link _ is, is)
      by NoMemory is = inr (cut_at schedule marks next read is (record { sent = marks_text marks; rest = []; taken = taken; text_is = sym (append-nil (marks_text marks)) }))
      by (Bad line cause) is = absurd is
      by WriteFault is = absurd is

  -- the loop stops, and its marks were taken
  pub ends_stopped : (link link' : Traffic) (running running' : Running) (now next : Option (List ℕ)) (kept : List ℕ) (fault : LoopFault)
      → ((schedule : Schedule) (marks : List Mark) (from : Traffic) → Stands schedule marks from link running → GoesOn schedule marks from link' running' (Err fault))
      → ((said : List ℕ) → IsSaid old now kept said → Appends old next said)
      → IsToldSoFar text old now from link running kept → LoopEnds text old next from link' (Err fault)
  ends_stopped link link' running running' now next kept fault goes says so =
      ends_told link' next so.schedule so.marks fault so.read so.may (goes so.schedule so.marks from so.stands) (says (marks_text so.marks) so.said)

  -- the loop stops, and a front of its marks was taken
  pub stops_flushing : (link link' : Traffic) (running running' : Running) (now next : Option (List ℕ)) (kept : List ℕ) (fault : LoopFault) (unflushed : DeviceFault)
      → ((schedule : Schedule) (marks : List Mark) (from : Traffic) → Stands schedule marks from link running → GoesOn schedule marks from link' running' (Err fault))
      → ((said : List ℕ) → IsSaid old now kept said → IsFrontTaken old next said)
      → IsToldSoFar text old now from link running kept → LoopEnds text old next from link' (Err (unwritten unflushed))
  stops_flushing link link' running running' now next kept fault unflushed goes says so =
      cut_by link' next unflushed (cut_at so.schedule so.marks next so.read (begins_stopped so.schedule so.marks from link' fault (goes so.schedule so.marks from so.stands)) (says (marks_text so.marks) so.said))

  -- the text isn't opened
  pub ends_unopened : (fault : LoopFault) → Opens text from (Err fault) → LoopEnds text old old from from (Err fault)
  ends_unopened (Bad line cause) is = (is, refl, refl)
  ends_unopened (Limit line what number) is = inl (is, refl, refl)
  ends_unopened NoMemory is = inl refl
  ends_unopened (BadEvent line cause) is = absurd is
  ends_unopened WriteFault is = absurd is
  ends_unopened LinkFault is = absurd is
  ends_unopened (Strange to frame) is = absurd is

-- what is told on is how it ends
pub ends_by : (text : List ℕ) (old new : Option (List ℕ)) (from now : Traffic) (result : Result ℕ LoopFault) (told : LoopFault)
    → IsErrAnd result (λ f. f ≡ told) → LoopEnds text old new from now (Err told) → LoopEnds text old new from now result
ends_by text old new from now (Ok messages) told is ends = absurd is
ends_by text old new from now (Err f) told is ends = subst (λ (x : LoopFault). LoopEnds text old new from now (Err x)) (sym is) ends

-- ---- whose fault it is

-- a sink's fault is told where its count rose
pub sink_rose : (result : Result ℕ LoopFault) (fault : DeviceFault) (first old new : ℕ) → IsErrAnd result (λ f. f ≡ unwritten fault) → first ≤ old → (IsErrOf {T = Unit {0}} (Err fault) device.Failed → Rose old new)
    → result ≡ Err WriteFault → Rose first new
sink_rose result device.Failed first old new told less rose is = mono first old (2 ^ 64 - 1) new less (rose refl)
  where
    mono : (a b m n : ℕ) → a ≤ b → min (b + 1) m ≤ n → min (a + 1) m ≤ n
    mono a b m n low high = omega (arith, low, high)
sink_rose (Ok messages) device.NoMemory first old new told less rose is = absurd told
sink_rose (Err f) device.NoMemory first old new told less rose is = absurd (cc)

-- and never as the link's
pub sink_told : (X : Type 0) (result : Result ℕ LoopFault) (fault : DeviceFault) → IsErrAnd result (λ f. f ≡ unwritten fault) → result ≡ Err LinkFault → X
sink_told X (Ok messages) fault told is = absurd told
sink_told X (Err f) device.Failed told is = absurd (cc)
sink_told X (Err f) device.NoMemory told is = absurd (cc)

-- a text that isn't opened is the fault of neither
pub unopened : (X : Type 0) (result : Result ℕ LoopFault) (told other : LoopFault) → IsErrAnd result (λ f. f ≡ told) → (IsErrOf {T = Running} (Err told) other → ⊥) → result ≡ Err other → X
unopened X (Ok messages) told other is never same = absurd is
unopened X (Err f) told other is never same = absurd (never (let e : told ≡ other = cc in ap (λ (x : LoopFault). let r : Result Running LoopFault = Err x in r) e))
