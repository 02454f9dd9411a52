-- The text of a run, said step by step.
use Rattle.std.proofs.Common.{◌≡◌, ℕ, List, [], ◌++◌, length, inr, sym, ap, ◌∙◌, subst}
use Rattle.std.specs.Prelude.{codes, Option, Some, None, Result, Ok, Err}
use Rattle.std.specs.Result.{IsErrAnd}
use Rattle.std.proofs.lemmas.Grind.{flat_map-append}
use Rattle.std.proofs.lemmas.List.{append_assoc, append-nil}
use Rattle.span_base.specs.declared.sink.DeviceFault.{DeviceFault}
use Rattle.span_base.specs.declared.sink.DeviceFault.TheVariants as device
use Rattle.span_base.specs.Taken.{Appends}
use Rattle.sink_buffer.specs.Said.{IsSaid, IsFrontTaken}
use Rattle.sink_buffer.proofs.Saying.{front_longer}
use Rattle.run_marks.specs.declared.mark.Mark.{Mark}
use Rattle.run_marks.specs.Text.{mark_text, marks_text, messages_line}
use Rattle.world_core.specs.State.{Store}
use Rattle.world_core.specs.Run.{Run}
use Rattle.world_core.specs.Laws.{KeepsRegisters}
use Rattle.schedule_text.specs.Kept.{KeptSchedule, kept_schedule_of}
use Rattle.schedule_replay.specs.declared.fault.ReplayFault.{ReplayFault}
use Rattle.schedule_replay.specs.declared.fault.ReplayFault.TheVariants.{Bad, Limit, BadEvent, WriteFault, NoMemory}
use Rattle.restart_replay.specs.declared.running.Running.{Running}
use Rattle.schedule_replay.specs.Replays.{run_text, unless_refused, unwritten}
use Rattle.restart_replay.specs.Replays.{restarted, StopsAt, IsCut, RestartEnds}
use Rattle.restart_replay.specs.Standing.{Stands, IsOver, IsRefused, BeginsWith, Goes, IsToldSoFar}
use Rattle.restart_replay.proofs.Going.{begins}

marks_more : (marks more : List Mark) → marks_text (marks ++ more) ≡ marks_text marks ++ marks_text more
marks_more marks more = flat_map-append (λ (m : Mark). mark_text m ++ codes "\n") marks more

-- the run has a next event, or none
pub goes_on : (old new : Running) (next : Option (List Mark)) (more : List Mark) → next ≡ Some more
    → ((schedule : KeptSchedule) (marks : List Mark) → Stands schedule old marks → Goes schedule marks new (Ok next))
    → (schedule : KeptSchedule) (marks : List Mark) → Stands schedule old marks → Stands schedule new (marks ++ more)
goes_on old new next more is goes schedule marks stands = subst (λ (o : Option (List Mark)). Goes schedule marks new (Ok o)) is (goes schedule marks stands)

pub comes_to_end : (old new : Running) (next : Option (List Mark)) → next ≡ None
    → ((schedule : KeptSchedule) (marks : List Mark) → Stands schedule old marks → Goes schedule marks new (Ok next))
    → (schedule : KeptSchedule) (marks : List Mark) → Stands schedule old marks → IsOver schedule new marks
comes_to_end old new next is goes schedule marks stands = subst (λ (o : Option (List Mark)). Goes schedule marks new (Ok o)) is (goes schedule marks stands)

module _ (text : List ℕ) (from : Option (List ℕ)) where
  -- the marks of one event more are said
  pub told_more : (old new : Running) (now next : Option (List ℕ)) (kept keeps : List ℕ) (more : List Mark)
      → ((schedule : KeptSchedule) (marks : List Mark) → Stands schedule old marks → Stands schedule new (marks ++ more))
      → ((said : List ℕ) → IsSaid from now kept said → IsSaid from next keeps (said ++ marks_text more))
      → IsToldSoFar text from now old kept → IsToldSoFar text from next new keeps
  told_more old new now next kept keeps more goes says so = record {
    schedule = so.schedule;
    read = so.read;
    marks = so.marks ++ more;
    stands = goes so.schedule so.marks so.stands;
    said = subst (IsSaid from next keeps) (sym (marks_more so.marks more)) (says (marks_text so.marks) so.said);
  }

  -- a front of the first marks is one of the run's text
  cut_at : (schedule : KeptSchedule) (marks : List Mark) (now : Option (List ℕ)) → kept_schedule_of text ≡ Ok schedule → BeginsWith schedule marks → IsFrontTaken from now (marks_text marks) → IsCut text from now
  cut_at schedule marks now read begin front =
      let r : Run = restarted schedule in
      let last : List ℕ = unless_refused r.refused (messages_line (length r.store.sent)) in
      let same : marks_text marks ++ (marks_text begin.0 ++ last) ≡ run_text r =
      sym (append_assoc (marks_text marks) (marks_text begin.0) last) ∙ ap (λ (t : List ℕ). t ++ last) (sym (marks_more marks begin.0) ∙ ap marks_text (sym begin.1)) in
      (schedule, read, subst (IsFrontTaken from now) same (front_longer from now (marks_text marks) (marks_text begin.0 ++ last) front))

  -- a sink that failed, or found no memory, has taken a front
  cut_by : (now : Option (List ℕ)) (fault : DeviceFault) → IsCut text from now → RestartEnds text from now (Err (unwritten fault))
  cut_by now device.Failed cut = cut
  cut_by now device.NoMemory cut = inr cut

  -- the marks of an event were not passed on
  pub stops_putting : (old new : Running) (now next : Option (List ℕ)) (kept : List ℕ) (more : List Mark) (fault : DeviceFault)
      → ((schedule : KeptSchedule) (marks : List Mark) → Stands schedule old marks → Stands schedule new (marks ++ more))
      → ((said : List ℕ) → IsSaid from now kept said → IsFrontTaken from next (said ++ marks_text more))
      → IsToldSoFar text from now old kept → RestartEnds text from next (Err (unwritten fault))
  stops_putting old new now next kept more fault goes says so =
      let marks : List Mark = so.marks ++ more in
      cut_by next fault (cut_at so.schedule marks next so.read (begins so.schedule new marks (goes so.schedule so.marks so.stands))
      (subst (IsFrontTaken from next) (sym (marks_more so.marks more)) (says (marks_text so.marks) so.said)))

  -- the run is over, and all of it is said
  pub ends_whole : (old new : Running) (now next : Option (List ℕ)) (kept : List ℕ) (messages : ℕ)
      → ((schedule : KeptSchedule) (marks : List Mark) → Stands schedule old marks → IsOver schedule new marks) → messages ≡ length new.store.cloud.store.sent
      → ((said : List ℕ) → IsSaid from now kept said → Appends from next (said ++ messages_line messages))
      → IsToldSoFar text from now old kept → RestartEnds text from next (Ok messages)
  ends_whole old new now next kept messages goes sent says so =
      let is : IsOver so.schedule new so.marks = goes so.schedule so.marks so.stands in
      let many : messages ≡ length (restarted so.schedule).store.sent = sent ∙ ap (λ (s : Store). length s.sent) (sym is.store_is) in
      let same : marks_text so.marks ++ messages_line messages ≡ marks_text (restarted so.schedule).marks ++ messages_line (length (restarted so.schedule).store.sent) =
      ap (λ (n : ℕ). marks_text so.marks ++ messages_line n) many ∙ ap (λ (ms : List Mark). marks_text ms ++ messages_line (length (restarted so.schedule).store.sent)) (sym is.marks_are) in (
        so.schedule,
        so.read,
        record {
          unrefused = is.unrefused;
          taken = subst (Appends from next) same (says (marks_text so.marks) so.said);
          messages_are = many;
          registers = so.stands.registers;
        },
      )

  -- the run is over, and a front of it was taken
  pub stops_closing : (old new : Running) (now next : Option (List ℕ)) (kept : List ℕ) (messages : ℕ) (fault : DeviceFault)
      → ((schedule : KeptSchedule) (marks : List Mark) → Stands schedule old marks → IsOver schedule new marks) → messages ≡ length new.store.cloud.store.sent
      → ((said : List ℕ) → IsSaid from now kept said → IsFrontTaken from next (said ++ messages_line messages))
      → IsToldSoFar text from now old kept → RestartEnds text from next (Err (unwritten fault))
  stops_closing old new now next kept messages fault goes sent says so =
      let is : IsOver so.schedule new so.marks = goes so.schedule so.marks so.stands in
      let r : Run = restarted so.schedule in
      let many : messages ≡ length r.store.sent = sent ∙ ap (λ (s : Store). length s.sent) (sym is.store_is) in
      let same : marks_text so.marks ++ messages_line messages ≡ run_text r =
      ap (λ (n : ℕ). marks_text so.marks ++ messages_line n) many
      ∙ ap (λ (ms : List Mark). marks_text ms ++ messages_line (length r.store.sent)) (sym is.marks_are)
      ∙ ap (λ o. marks_text r.marks ++ unless_refused o (messages_line (length r.store.sent))) (sym is.unrefused) in
      cut_by next fault (so.schedule, so.read, subst (IsFrontTaken from next) same (says (marks_text so.marks) so.said))

  begins_refused : (schedule : KeptSchedule) (marks : List Mark) (running : Running) (fault : ReplayFault) → Goes schedule marks running (Err fault) → BeginsWith schedule marks
  begins_refused schedule marks running (Bad line cause) goes = absurd goes
  begins_refused schedule marks running (Limit line what number) goes = ([], goes.marks_are ∙ sym (append-nil marks))
  begins_refused schedule marks running (BadEvent line cause) goes = ([], goes.marks_are ∙ sym (append-nil marks))
  begins_refused schedule marks running WriteFault goes = absurd goes
  begins_refused schedule marks running NoMemory goes = goes

  -- the run goes no further, and its marks were taken
  stops_told : (schedule : KeptSchedule) (marks : List Mark) (next : Option (List ℕ)) (told : ReplayFault) → KeepsRegisters schedule.header (restarted schedule).marks → Appends from next (marks_text marks) → IsRefused schedule marks told → StopsAt schedule from next told
  stops_told schedule marks next told kept taken is = record {
    fault = is.fault;
    refused = is.refused;
    told_is = is.told_is;
    taken = subst (λ (ms : List Mark). Appends from next (marks_text ms)) (sym is.marks_are) taken;
    registers = kept;
  }

  ends_told : (schedule : KeptSchedule) (marks : List Mark) (running : Running) (next : Option (List ℕ)) (fault : ReplayFault) → kept_schedule_of text ≡ Ok schedule → KeepsRegisters schedule.header (restarted schedule).marks
      → Goes schedule marks running (Err fault) → Appends from next (marks_text marks) → RestartEnds text from next (Err fault)
  ends_told schedule marks running next (Bad line cause) read kept goes taken = absurd goes
  ends_told schedule marks running next (Limit line what number) read kept goes taken = inr (schedule, read, stops_told schedule marks next (Limit line what number) kept taken goes)
  ends_told schedule marks running next (BadEvent line cause) read kept goes taken = (schedule, read, stops_told schedule marks next (BadEvent line cause) kept taken goes)
  ends_told schedule marks running next WriteFault read kept goes taken = absurd goes
  ends_told schedule marks running next NoMemory read kept goes taken =
      inr (cut_at schedule marks next read goes (record { sent = marks_text marks; rest = []; taken = taken; text_is = sym (append-nil (marks_text marks)) }))

  pub ends_refused : (old new : Running) (now next : Option (List ℕ)) (kept : List ℕ) (fault : ReplayFault)
      → ((schedule : KeptSchedule) (marks : List Mark) → Stands schedule old marks → Goes schedule marks new (Err fault))
      → ((said : List ℕ) → IsSaid from now kept said → Appends from next said)
      → IsToldSoFar text from now old kept → RestartEnds text from next (Err fault)
  ends_refused old new now next kept fault goes says so =
      ends_told so.schedule so.marks new next fault so.read so.stands.registers (goes so.schedule so.marks so.stands) (says (marks_text so.marks) so.said)

  -- the run goes no further, and a front of its marks was taken
  pub stops_refused : (old new : Running) (now next : Option (List ℕ)) (kept : List ℕ) (fault : ReplayFault) (device : DeviceFault)
      → ((schedule : KeptSchedule) (marks : List Mark) → Stands schedule old marks → Goes schedule marks new (Err fault))
      → ((said : List ℕ) → IsSaid from now kept said → IsFrontTaken from next said)
      → IsToldSoFar text from now old kept → RestartEnds text from next (Err (unwritten device))
  stops_refused old new now next kept fault device goes says so =
      cut_by next device (cut_at so.schedule so.marks next so.read (begins_refused so.schedule so.marks new fault (goes so.schedule so.marks so.stands)) (says (marks_text so.marks) so.said))

-- what is told on is how it ends
pub ends_by : (text : List ℕ) (from next : Option (List ℕ)) (result : Result ℕ ReplayFault) (told : ReplayFault)
    → IsErrAnd result (λ f. f ≡ told) → RestartEnds text from next (Err told) → RestartEnds text from next result
ends_by text from next (Ok messages) told is ends = absurd is
ends_by text from next (Err f) told is ends = subst (λ (x : ReplayFault). RestartEnds text from next (Err x)) (sym is) ends
