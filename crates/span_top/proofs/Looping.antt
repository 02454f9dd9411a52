-- How running a script over a link makes the endings of `loop`.
use Rattle.std.proofs.Common.{◌≡◌, ℕ, ◌≤◌, inl, inr, List, length, Option, Result, Ok, Err, refl, subst, arith}
use Rattle.span_base.specs.Files.{Files}
use Rattle.span_base.specs.declared.words.Cause.{Cause}
use Rattle.span_base.specs.declared.words.What.{What}
use Rattle.span_node.specs.Traffic.{Traffic}
use Rattle.span_node.specs.Loops.{LoopEnds}
use Rattle.span_node.specs.declared.fault.LoopFault.{LoopFault}
use Rattle.span_node.specs.declared.fault.LoopFault.TheVariants as fault
use Rattle.span_top.specs.declared.status.Status.{Status}
use Rattle.span_top.specs.declared.status.Status.TheVariants as status
use Rattle.span_top.specs.WholeFile.{Holds, ReadsFile}
use Rattle.span_top.specs.Looped.{LoopsFile, LoopCommandEnds, BytesLooped}

scripted : (files : Option Files) (name bytes : List ℕ) (old new : Option (List ℕ)) (from now : Traffic) (result : Result ℕ LoopFault) → Holds files name bytes → length bytes ≤ 67108864 → LoopEnds bytes old new from now result → LoopsFile files name old new from now result
scripted files name bytes old new from now result held within is = record { bytes = bytes; held = held; within = within; is = is }

pub loops : (bytes : List ℕ) (old new : Option (List ℕ)) (from now : Traffic) (messages : ℕ) → LoopEnds bytes old new from now (Ok messages) → BytesLooped bytes old new from now status.Done
loops bytes old new from now messages is files name held within = (messages, scripted files name bytes old new from now (Ok messages) held within is)

pub loops_bad : (bytes : List ℕ) (old new : Option (List ℕ)) (from now : Traffic) (line : ℕ) (cause : Cause) → LoopEnds bytes old new from now (Err (fault.Bad line cause)) → BytesLooped bytes old new from now (status.BadInput 0 line cause)
loops_bad bytes old new from now line cause is files name held within = (refl, scripted files name bytes old new from now (Err (fault.Bad line cause)) held within is)

pub loops_above : (bytes : List ℕ) (old new : Option (List ℕ)) (from now : Traffic) (line : ℕ) (what : What) (number : ℕ) → LoopEnds bytes old new from now (Err (fault.Limit line what number)) → BytesLooped bytes old new from now (status.TooLarge 0 line what number)
loops_above bytes old new from now line what number is files name held within = (refl, inr (scripted files name bytes old new from now (Err (fault.Limit line what number)) held within is))

pub loops_to : (bytes : List ℕ) (old new : Option (List ℕ)) (from now : Traffic) (line : ℕ) (cause : Cause) → LoopEnds bytes old new from now (Err (fault.BadEvent line cause)) → BytesLooped bytes old new from now (status.BadEvent line cause)
loops_to bytes old new from now line cause is files name held within = scripted files name bytes old new from now (Err (fault.BadEvent line cause)) held within is

pub loops_unwritten : (bytes : List ℕ) (old new : Option (List ℕ)) (from now : Traffic) → LoopEnds bytes old new from now (Err fault.WriteFault) → BytesLooped bytes old new from now status.WriteFault
loops_unwritten bytes old new from now is files name held within = scripted files name bytes old new from now (Err fault.WriteFault) held within is

pub loops_uncarried : (bytes : List ℕ) (old new : Option (List ℕ)) (from now : Traffic) → LoopEnds bytes old new from now (Err fault.LinkFault) → BytesLooped bytes old new from now status.LinkFault
loops_uncarried bytes old new from now is files name held within = scripted files name bytes old new from now (Err fault.LinkFault) held within is

pub loops_strange : (bytes : List ℕ) (old new : Option (List ℕ)) (from now : Traffic) (to : ℕ) (frame : List ℕ) → LoopEnds bytes old new from now (Err (fault.Strange to frame)) → BytesLooped bytes old new from now (status.Strange to frame)
loops_strange bytes old new from now to frame is files name held within = scripted files name bytes old new from now (Err (fault.Strange to frame)) held within is

pub loops_in_want : (bytes : List ℕ) (old new : Option (List ℕ)) (from now : Traffic) → LoopEnds bytes old new from now (Err fault.NoMemory) → BytesLooped bytes old new from now status.NoMemory
loops_in_want bytes old new from now is files name held within = inr (scripted files name bytes old new from now (Err fault.NoMemory) held within is)

-- a script that isn't read ends `loop` as its file is refused
pub loops_none : (files : Option Files) (name : List ℕ) (old : Option (List ℕ)) (from : Traffic) (s : Status) → ReadsFile files name 67108864 (Err s) → LoopCommandEnds files name old old from from s
loops_none files name old from status.Done refused = absurd refused
loops_none files name old from status.NoMemory refused = inl (refl, refl)
loops_none files name old from status.Usage refused = absurd refused
loops_none files name old from (status.Absent file) refused = (refused.0, refused.1, (refl, refl))
loops_none files name old from (status.BadInput file line cause) refused = absurd refused
loops_none files name old from (status.NoPolicy set) refused = absurd refused
loops_none files name old from (status.Budget set) refused = absurd refused
loops_none files name old from (status.Refused line cause) refused = absurd refused
loops_none files name old from (status.BadEvent line cause) refused = absurd refused
loops_none files name old from status.ReadFault refused = (refl, refl)
loops_none files name old from status.WriteFault refused = absurd refused
loops_none files name old from status.LinkFault refused = absurd refused
loops_none files name old from (status.TooLarge file line what number) refused = (refused.0, inl (refused.1, (refl, refl)))
loops_none files name old from (status.Strange to frame) refused = absurd refused

pub loops_read : (files : Option Files) (name bytes : List ℕ) (old new : Option (List ℕ)) (from now : Traffic) (s : Status) → ReadsFile files name 67108864 (Ok bytes) → BytesLooped bytes old new from now s → LoopCommandEnds files name old new from now s
loops_read files name bytes old new from now s held ends = ends files name held.0 held.1

-- `loop` never answers that its words are of no command, nor that a second file isn't there
pub loops_usage : (files : Option Files) (name : List ℕ) (old new : Option (List ℕ)) (from now : Traffic) (s : Status) → LoopCommandEnds files name old new from now s → s ≡ status.Usage → ⊥
loops_usage files name old new from now s ends same = subst (LoopCommandEnds files name old new from now) same ends

pub loops_second : (files : Option Files) (name : List ℕ) (old new : Option (List ℕ)) (from now : Traffic) (s : Status) → LoopCommandEnds files name old new from now s → s ≡ status.Absent 1 → ⊥
loops_second files name old new from now s ends same = absurd (let h : 1 ≡ 0 = (subst (LoopCommandEnds files name old new from now) same ends).0 in omega (arith, h))

pub ruleset looped = (loops, loops_bad, loops_above, loops_to, loops_unwritten, loops_uncarried, loops_strange, loops_in_want)

pub ruleset ends = (loops_none, loops_read)

pub ruleset never = (loops_usage, loops_second)
