-- What a loop may answer is decided by the bytes of its file and by its link.
use Rattle.std.proofs.Common.{◌≡◌, inl, inr, ℕ, ◌≤◌, true, List, [], length, Option, Some, Ok, Err, subst}
use Rattle.std.specs.Prelude.{Result}
use Rattle.span_base.specs.Files.{Files, file_of}
use Rattle.schedule_text.specs.declared.setting.Form.TheVariants.{Script}
use Rattle.schedule_text.specs.Schedules.{Schedule, schedule_of}
use Rattle.span_node.specs.declared.fault.LoopFault.{LoopFault}
use Rattle.span_node.specs.declared.fault.LoopFault.TheVariants as fault
use Rattle.frame_link.specs.Frames.{Sent}
use Rattle.span_node.specs.Traffic.{Traffic, IsFresh}
use Rattle.span_node.specs.Meeting as meeting
use Rattle.span_node.specs.Loops.{LoopEnds}
use Rattle.span_node.specs.WholeLoops.{IsTakenInOrder, IsTakenAsAnswered, IsOverOrFailed}
use Rattle.span_top.specs.declared.status.Status.{Status}
use Rattle.span_top.specs.declared.status.Status.TheVariants as status
use Rattle.span_top.specs.WholeFile.{FileIs}
use Rattle.span_top.specs.Words.{a_loop}
use Rattle.span_top.specs.Looped.{LoopCommandEnds}
use Rattle.span_top.specs.LoopLaws.{IsLoopedOrFailed, WholeScriptsAreRun, HonestLoopsAreRun, IsStrangeOrFailed, StrangeFramesAreTold}
use Rattle.span_top.proofs.ReplayLaws.{one_file, no_file, not_longer, asked}

module _ (name : List ℕ) (files : Files) (bytes : List ℕ) (held : file_of name files ≡ Some bytes) (within : length bytes ≤ 67108864) (old new : Option (List ℕ)) (from now : Traffic) where
  -- what running the file's bytes may answer
  of_bytes : (Is : Result ℕ LoopFault → Type 0) → ((result : Result ℕ LoopFault) → LoopEnds bytes old new from now result → Is result)
      → (result : Result ℕ LoopFault) → FileIs (Some files) name 67108864 (λ b. LoopEnds b old new from now result) → Is result
  of_bytes Is so result is = so result (subst (λ (b : List ℕ). LoopEnds b old new from now result) (one_file name files is.bytes bytes is.held held) is.is)

  -- what a loop of the file may answer, where running its bytes goes to the end but for the outside
  loop_answers : ((result : Result ℕ LoopFault) → LoopEnds bytes old new from now result → IsOverOrFailed result) → (s : Status) → LoopCommandEnds (Some files) name old new from now s → IsLoopedOrFailed s
  loop_answers whole status.Done ends = tt
  loop_answers whole status.NoMemory ends = tt
  loop_answers whole status.Usage ends = absurd ends
  loop_answers whole (status.Absent file) ends = absurd (no_file name files bytes held ends.1)
  loop_answers whole (status.BadInput file line cause) ends = absurd (of_bytes IsOverOrFailed whole (Err (fault.Bad line cause)) ends.1)
  loop_answers whole (status.NoPolicy set) ends = absurd ends
  loop_answers whole (status.Budget set) ends = absurd ends
  loop_answers whole (status.Refused line cause) ends = absurd ends
  loop_answers whole (status.BadEvent line cause) ends = absurd (of_bytes IsOverOrFailed whole (Err (fault.BadEvent line cause)) ends)
  loop_answers whole status.ReadFault ends = tt
  loop_answers whole status.WriteFault ends = tt
  loop_answers whole status.LinkFault ends = tt
  loop_answers whole (status.TooLarge file line what number) ends = elim ends.1 as (λ _. ⊥) [
    | inl long ↦ not_longer name files bytes 67108864 line what number held within long.0
    | inr is ↦ of_bytes IsOverOrFailed whole (Err (fault.Limit line what number)) is
  ]
  loop_answers whole (status.Strange to frame) ends = absurd (of_bytes IsOverOrFailed whole (Err (fault.Strange to frame)) ends)

  -- and where a strange frame is told
  strange_answers : (sent : Sent) → ((result : Result ℕ LoopFault) → LoopEnds bytes old new from now result → meeting.IsStrangeOrFailed sent result)
      → (s : Status) → LoopCommandEnds (Some files) name old new from now s → IsStrangeOrFailed sent s
  strange_answers sent told status.Done ends = absurd (of_bytes (meeting.IsStrangeOrFailed sent) told (Ok ends.0) ends.1)
  strange_answers sent told status.NoMemory ends = tt
  strange_answers sent told status.Usage ends = absurd ends
  strange_answers sent told (status.Absent file) ends = absurd (no_file name files bytes held ends.1)
  strange_answers sent told (status.BadInput file line cause) ends = absurd (of_bytes (meeting.IsStrangeOrFailed sent) told (Err (fault.Bad line cause)) ends.1)
  strange_answers sent told (status.NoPolicy set) ends = absurd ends
  strange_answers sent told (status.Budget set) ends = absurd ends
  strange_answers sent told (status.Refused line cause) ends = absurd ends
  strange_answers sent told (status.BadEvent line cause) ends = absurd (of_bytes (meeting.IsStrangeOrFailed sent) told (Err (fault.BadEvent line cause)) ends)
  strange_answers sent told status.ReadFault ends = tt
  strange_answers sent told status.WriteFault ends = tt
  strange_answers sent told status.LinkFault ends = absurd (of_bytes (meeting.IsStrangeOrFailed sent) told (Err fault.LinkFault) ends)
  strange_answers sent told (status.TooLarge file line what number) ends = elim ends.1 as (λ _. ⊥) [
    | inl long ↦ not_longer name files bytes 67108864 line what number held within long.0
    | inr is ↦ of_bytes (meeting.IsStrangeOrFailed sent) told (Err (fault.Limit line what number)) is
  ]
  strange_answers sent told (status.Strange to frame) ends = of_bytes (meeting.IsStrangeOrFailed sent) told (Err (fault.Strange to frame)) ends

pub whole_scripts : ((text : List ℕ) (schedule : Schedule) (old new : Option (List ℕ)) (from now : Traffic) (result : Result ℕ LoopFault) → schedule_of Script text ≡ Ok schedule → IsTakenInOrder schedule
    → IsFresh from → LoopEnds text old new from now result → IsOverOrFailed result) → WholeScriptsAreRun
whole_scripts whole words files script old new from now s asks taken fresh ends =
    loop_answers asks.name files asks.bytes asks.held asks.within old new from now (λ result is. whole asks.bytes script old new from now result asks.says taken fresh is) s
    (asked words (a_loop asks.name) (Some files) old new from now s asks.words_are ends)

pub honest_loops : ((text : List ℕ) (schedule : Schedule) (old new : Option (List ℕ)) (from now : Traffic) (result : Result ℕ LoopFault) → schedule_of Script text ≡ Ok schedule → IsTakenAsAnswered schedule from now
    → from.honest ≡ Some true → from.sent ≡ Some [] → LoopEnds text old new from now result → IsOverOrFailed result) → HonestLoopsAreRun
honest_loops whole words files script old new from now s asks taken honest sent ends =
    loop_answers asks.name files asks.bytes asks.held asks.within old new from now (λ result is. whole asks.bytes script old new from now result asks.says taken honest sent is) s
    (asked words (a_loop asks.name) (Some files) old new from now s asks.words_are ends)

pub strange_frames : ((text : List ℕ) (schedule : Schedule) (old new : Option (List ℕ)) (from now : Traffic) (sent : Sent) (result : Result ℕ LoopFault) → schedule_of Script text ≡ Ok schedule
    → meeting.IsMet schedule from now sent → LoopEnds text old new from now result → meeting.IsStrangeOrFailed sent result) → StrangeFramesAreTold
strange_frames told words files script old new from now sent s asks met ends =
    strange_answers asks.name files asks.bytes asks.held asks.within old new from now sent (λ result is. told asks.bytes script old new from now sent result asks.says met is) s
    (asked words (a_loop asks.name) (Some files) old new from now s asks.words_are ends)
