-- What a replay and an audit may answer is decided by the bytes of the file.
use Rattle.std.proofs.Common.{◌≡◌, inl, inr, ℕ, ◌<◌, ◌≤◌, List, ◌++◌, length, Option, Some, None, Ok, Err, refl, sym, ap, ◌∙◌, subst, arith}
use Rattle.std.specs.Prelude.{◌⊎◌, Result, count_by}
use Rattle.std.proofs.lemmas.List.{append_cancel_left}
use Rattle.span_base.specs.Files.{Files, file_of}
use Rattle.span_base.specs.declared.words.Cause.{Cause}
use Rattle.span_base.specs.declared.words.What.{What}
use Rattle.span_base.specs.declared.words.What.TheVariants.{Bytes}
use Rattle.span_base.specs.Taken.{Appends}
use Rattle.run_marks.specs.declared.mark.Mark.{Mark}
use Rattle.run_marks.specs.Text.{marks_text, messages_line}
use Rattle.register_order.specs.Clauses.{BreaksNone}
use Rattle.register_order.specs.Order.{effects_of}
use Rattle.register_order.specs.Laws.{UnbrokenLogsAreRegisters}
use Rattle.schedule_text.specs.declared.setting.Form.TheVariants.{Plain}
use Rattle.schedule_text.specs.declared.fault.ScheduleFault.{ScheduleFault}
use Rattle.schedule_text.specs.Schedules.{Schedule, schedule_of}
use Rattle.schedule_replay.specs.declared.fault.ReplayFault.{ReplayFault}
use Rattle.schedule_replay.specs.Replays.{replayed, IsScheduled, StopsAt}
use Rattle.history_audit.specs.declared.fault.Clause.{Clause}
use Rattle.history_audit.specs.declared.fault.AuditFault.TheVariants as fault
use Rattle.history_audit.specs.declared.summary.Summary.{Summary}
use Rattle.history_audit.specs.Texts.{LogFault, log_says}
use Rattle.history_audit.specs.Audited.{IsUnbroken, IsBroken, OneAnswer}
use Rattle.history_audit.specs.Summed.{begins_register, keys_of}
use Rattle.log_law.specs.Laws.{ReplayedLogsAreReadBack, ReplayedLogsBreakNothing}
use Rattle.span_top.specs.declared.status.Status.{Status}
use Rattle.span_top.specs.declared.status.Status.TheVariants as status
use Rattle.span_top.specs.WholeFile.{FileIs, IsBytesLimit}
use Rattle.span_top.specs.Words.{Asked, a_replay, an_audit, command_of}
use Rattle.span_top.specs.Audited.{AuditEnds, IsRefused, IsLinesLimit}
use Rattle.span_top.specs.Replayed.{ReplayCommandEnds}
use Rattle.span_node.specs.Traffic.{Traffic}
use Rattle.span_top.specs.Spans.{Ends, SpanEnds, IsDoneOrFailed}
use Rattle.span_top.specs.ReplayLaws.{WholeRunsAreReplayed, UnbrokenLogsAreAudited, WasReplayed, PassesAudit, ReplaysPassTheAudit}

-- a file has one list of bytes
pub one_file : (name : List ℕ) (files : Files) (a b : List ℕ) → file_of name files ≡ Some a → file_of name files ≡ Some b → a ≡ b
one_file name files a b h k = let e : Some a ≡ Some b = sym h ∙ k in cc

pub no_file : (name : List ℕ) (files : Files) (bytes : List ℕ) → file_of name files ≡ Some bytes → file_of name files ≡ None → ⊥
no_file name files bytes h k = let e : Some bytes ≡ None = sym h ∙ k in cc

pub not_longer : (name : List ℕ) (files : Files) (bytes : List ℕ) (limit line : ℕ) (what : What) (number : ℕ) → file_of name files ≡ Some bytes → length bytes ≤ limit → IsBytesLimit (Some files) name limit line what number → ⊥
not_longer name files bytes limit line what number held within is =
    let same : is.longer.bytes ≡ bytes = one_file name files is.longer.bytes bytes is.longer.held held in
    let above : limit < length bytes = subst (λ (b : List ℕ). limit < length b) same is.longer.above in
    omega (arith, within, above)

one_schedule : (bytes : List ℕ) (a b : Schedule) → schedule_of Plain bytes ≡ Ok a → schedule_of Plain bytes ≡ Ok b → a ≡ b
one_schedule bytes a b h k = let e : (let x : Result Schedule ScheduleFault = Ok a in x) ≡ Ok b = sym h ∙ k in cc

-- the text is that of a schedule
read_once : (bytes : List ℕ) (schedule : Schedule) (fault : ScheduleFault) → schedule_of Plain bytes ≡ Ok schedule → schedule_of Plain bytes ≡ Err fault → ⊥
read_once bytes schedule fault h k = let e : (let x : Result Schedule ScheduleFault = Ok schedule in x) ≡ Err fault = sym h ∙ k in cc

-- and its run refuses nothing
stops_nowhere : (bytes : List ℕ) (schedule : Schedule) (old new : Option (List ℕ)) (told : ReplayFault) → schedule_of Plain bytes ≡ Ok schedule → (replayed schedule).refused ≡ None → IsScheduled bytes (λ s. StopsAt s old new told) → ⊥
stops_nowhere bytes schedule old new told says whole is =
    let same : is.0 ≡ schedule = one_schedule bytes is.0 schedule is.1 says in
    let none : (replayed is.0).refused ≡ None = ap (λ (s : Schedule). (replayed s).refused) same ∙ whole in
    let some = is.2.refused in
    let e : Some is.2.fault ≡ None = sym some ∙ none in
    cc

-- what a replay of the file may answer
module _ (name : List ℕ) (files : Files) (bytes : List ℕ) (schedule : Schedule) (held : file_of name files ≡ Some bytes) (within : length bytes ≤ 67108864) (says : schedule_of Plain bytes ≡ Ok schedule) (whole : (replayed schedule).refused ≡ None) where
  of_bytes : (Is : List ℕ → Type 0) → FileIs (Some files) name 67108864 Is → Is bytes
  of_bytes Is is = subst Is (one_file name files is.bytes bytes is.held held) is.is

  replay_answers : (old new : Option (List ℕ)) (s : Status) → ReplayCommandEnds (Some files) name old new s → IsDoneOrFailed s
  replay_answers old new status.Done ends = tt
  replay_answers old new status.NoMemory ends = tt
  replay_answers old new status.Usage ends = absurd ends
  replay_answers old new (status.Absent file) ends = absurd (no_file name files bytes held ends.1)
  replay_answers old new (status.BadInput file line cause) ends = absurd (read_once bytes schedule _ says (of_bytes _ ends.1).0)
  replay_answers old new (status.NoPolicy set) ends = absurd ends
  replay_answers old new (status.Budget set) ends = absurd ends
  replay_answers old new (status.Refused line cause) ends = absurd ends
  replay_answers old new (status.BadEvent line cause) ends = absurd (stops_nowhere bytes schedule old new _ says whole (of_bytes _ ends))
  replay_answers old new status.ReadFault ends = tt
  replay_answers old new status.WriteFault ends = tt
  replay_answers old new (status.TooLarge file line what number) ends = elim ends.1 as (λ _. ⊥) [
    | inl long ↦ not_longer name files bytes 67108864 line what number held within long.0
    | inr is ↦ elim (of_bytes _ is) as (λ _. ⊥) [ inl unread ↦ read_once bytes schedule _ says unread.0 | inr stops ↦ stops_nowhere bytes schedule old new _ says whole stops ]
  ]
  replay_answers old new status.LinkFault ends = absurd ends
  replay_answers old new (status.Strange to frame) ends = absurd ends

-- what the words ask for
pub asked : (words : List (List ℕ)) (what : Asked) (files : Option Files) (old new : Option (List ℕ)) (from now : Traffic) (s : Status) → command_of words ≡ Some what → SpanEnds words files old new from now s → Ends (Some what) files old new from now s
asked words what files old new from now s is ends = subst (λ (o : Option Asked). Ends o files old new from now s) is ends

pub whole_runs : WholeRunsAreReplayed
whole_runs words files schedule old new from now s asks ends =
    replay_answers asks.name files asks.bytes schedule asks.held asks.within asks.says asks.unrefused old new s (asked words (a_replay asks.name) (Some files) old new from now s asks.words_are ends).0

-- ---- the audit

one_log : (bytes : List ℕ) (marks : List Mark) (fault : LogFault) → log_says bytes ≡ Ok marks → log_says bytes ≡ Err fault → ⊥
one_log bytes marks fault h k = let e : (let x : Result (List Mark) LogFault = Ok marks in x) ≡ Err fault = sym h ∙ k in cc

-- what an audit tells of a log
abbrev sums_of : List Mark → Summary
sums_of marks = record { calls = count_by begins_register marks; counted = length (effects_of marks); keys = length (keys_of marks) }

unbroken : UnbrokenLogsAreRegisters → (bytes : List ℕ) (marks : List Mark) → log_says bytes ≡ Ok marks → BreaksNone marks → IsUnbroken bytes (sums_of marks)
unbroken registers bytes marks says kept = record { marks = marks; says = says; kept = kept; register = registers marks kept; sums = record { calls = refl; counted = refl; keys = refl } }

not_broken : OneAnswer → UnbrokenLogsAreRegisters → (bytes : List ℕ) (marks : List Mark) (line : ℕ) (broken : Clause) → log_says bytes ≡ Ok marks → BreaksNone marks → IsBroken bytes line broken → ⊥
not_broken alike registers bytes marks line broken says kept is =
    let e = alike bytes (Ok (sums_of marks)) (Err (fault.Broken line broken)) (unbroken registers bytes marks says kept) is tt tt in
    cc

module _ (alike : OneAnswer) (registers : UnbrokenLogsAreRegisters) (name : List ℕ) (files : Files) (bytes : List ℕ) (marks : List Mark) (held : file_of name files ≡ Some bytes) (says : log_says bytes ≡ Ok marks) (kept : BreaksNone marks) where
  of_log : (Is : List ℕ → Type 0) → FileIs (Some files) name 268435456 Is → Is bytes
  of_log Is is = subst Is (one_file name files is.bytes bytes is.held held) is.is

  not_refused : (line : ℕ) (told : Cause) → IsRefused line told bytes → ⊥
  not_refused line told is = not_broken alike registers bytes marks line is.0 says kept is.1

  -- the limit that a log passes is that on its bytes
  by_bytes : (line : ℕ) (what : What) (number : ℕ) → IsBytesLimit (Some files) name 268435456 line what number ⊎ IsLinesLimit (Some files) name line what number → (line ≡ 0) × (what ≡ Bytes) × (268435456 < length bytes)
  by_bytes line what number (inl is) =
      let same : is.longer.bytes ≡ bytes = one_file name files is.longer.bytes bytes is.longer.held held in
      (is.line_is, is.what_is, subst (λ (b : List ℕ). 268435456 < length b) same is.longer.above)
  by_bytes line what number (inr is) = absurd (one_log bytes marks _ says (of_log _ is.log))

  audit_answers : (old new : Option (List ℕ)) (s : Status) → AuditEnds (Some files) name old new s → PassesAudit bytes s
  audit_answers old new status.Done ends = tt
  audit_answers old new status.NoMemory ends = tt
  audit_answers old new status.Usage ends = absurd ends
  audit_answers old new (status.Absent file) ends = absurd (no_file name files bytes held ends.1)
  audit_answers old new (status.BadInput file line told) ends = absurd (one_log bytes marks _ says (of_log _ ends.2))
  audit_answers old new (status.NoPolicy set) ends = absurd ends
  audit_answers old new (status.Budget set) ends = absurd ends
  audit_answers old new (status.Refused line told) ends = absurd (not_refused line told (of_log _ ends.0))
  audit_answers old new (status.BadEvent line cause) ends = absurd ends
  audit_answers old new status.ReadFault ends = tt
  audit_answers old new status.WriteFault ends = tt
  audit_answers old new (status.TooLarge file line what number) ends = by_bytes line what number ends.1
  audit_answers old new status.LinkFault ends = absurd ends
  audit_answers old new (status.Strange to frame) ends = absurd ends

-- within the limit nothing is left but that all was done
short_passes : (bytes : List ℕ) (s : Status) → length bytes ≤ 268435456 → PassesAudit bytes s → IsDoneOrFailed s
short_passes bytes status.Done within passes = passes
short_passes bytes status.NoMemory within passes = passes
short_passes bytes status.Usage within passes = passes
short_passes bytes (status.Absent file) within passes = passes
short_passes bytes (status.BadInput file line told) within passes = passes
short_passes bytes (status.NoPolicy set) within passes = passes
short_passes bytes (status.Budget set) within passes = passes
short_passes bytes (status.Refused line told) within passes = passes
short_passes bytes (status.BadEvent line cause) within passes = passes
short_passes bytes status.ReadFault within passes = passes
short_passes bytes status.WriteFault within passes = passes
short_passes bytes (status.TooLarge file line what number) within passes = let above = passes.2 in absurd (omega (arith, within, above))
short_passes bytes status.LinkFault within passes = passes
short_passes bytes (status.Strange to frame) within passes = passes

pub unbroken_logs : OneAnswer → UnbrokenLogsAreRegisters → UnbrokenLogsAreAudited
unbroken_logs alike registers words files marks old new from now s asks ends =
    short_passes asks.bytes s asks.within
    (audit_answers alike registers asks.name files asks.bytes marks asks.held asks.says asks.unbroken old new s (asked words (an_audit asks.name) (Some files) old new from now s asks.words_are ends).0)

-- ---- what a replay wrote

-- the text of a whole run
record IsRunText (text : List ℕ) : Type 0 where
  bytes : List ℕ
  schedule : Schedule
  read : schedule_of Plain bytes ≡ Ok schedule
  text_is : text ≡ marks_text (replayed schedule).marks ++ messages_line (length (replayed schedule).store.sent)

appended : (before text whole : List ℕ) → Appends (Some before) (Some (before ++ text)) whole → text ≡ whole
appended before text whole h = let e : before ++ text ≡ before ++ whole = cc in append_cancel_left before text whole e

run_text_of : (text : List ℕ) → WasReplayed text → IsRunText text
run_text_of text was =
    let ends : ReplayCommandEnds was.files was.name (Some was.before) (Some (was.before ++ text)) status.Done = (asked was.words (a_replay was.name) was.files (Some was.before) (Some (was.before ++ text)) was.from was.now status.Done was.words_are was.done).0 in
    let file = ends.1 in
    let run = file.is in
    record { bytes = file.bytes; schedule = run.0; read = run.1; text_is = appended was.before text _ run.2.taken }

pub replays_pass : OneAnswer → UnbrokenLogsAreRegisters → ReplayedLogsAreReadBack → ReplayedLogsBreakNothing → ReplaysPassTheAudit
replays_pass alike registers back kept text was words log files old new from now s is held ends =
    let run : IsRunText text = run_text_of text was in
    let says : log_says text ≡ Ok (replayed run.schedule).marks = ap log_says run.text_is ∙ back run.bytes run.schedule run.read in
    audit_answers alike registers log files text (replayed run.schedule).marks held says (kept run.bytes run.schedule run.read) old new s (asked words (an_audit log) (Some files) old new from now s is ends).0
