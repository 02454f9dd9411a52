-- What `loop` does with a file, a sink and a link.
use Rattle.std.specs.Prelude.{◌≡◌, ℕ, ◌≤◌, ◌⊎◌, List, length, Option, None, Result, Ok, Err}
use Rattle.span_base.specs.Files.{Files}
use Rattle.span_node.specs.Traffic.{Traffic}
use Rattle.span_node.specs.Loops.{LoopEnds}
use Rattle.span_node.specs.declared.fault.LoopFault.{LoopFault}
use Rattle.span_node.specs.declared.fault.LoopFault.TheVariants as fault
use Rattle.span_top.specs.declared.status.Status.{Status}
use Rattle.span_top.specs.declared.status.Status.TheVariants.{Done, NoMemory, Absent, BadInput, BadEvent, ReadFault, WriteFault, LinkFault, TooLarge, Strange}
use Rattle.span_top.specs.WholeFile.{Holds, Lacks, FileIs, IsBytesLimit}
use Rattle.span_top.specs.Planned.{TakesNothing}

-- the sink took nothing, and the link wasn't asked
abbrev pub DoesNothing : Option (List ℕ) → Option (List ℕ) → Traffic → Traffic → Type 0
DoesNothing old new from now = TakesNothing old new × (now ≡ from)

-- a link that tells nothing
abbrev pub untold : Traffic
untold = record { sent = None; answers = None; honest = None; faithful = None }

-- the named file has at most 67,108,864 bytes, and running them over the link ends so
abbrev pub LoopsFile : Option Files → List ℕ → Option (List ℕ) → Option (List ℕ) → Traffic → Traffic → Result ℕ LoopFault → Type 0
LoopsFile files name old new from now result = FileIs files name 67108864 (λ bytes. LoopEnds bytes old new from now result)

-- how `loop` ends with a named file, what the sink took, and what the link told before and tells
abbrev pub LoopCommandEnds : Option Files → List ℕ → Option (List ℕ) → Option (List ℕ) → Traffic → Traffic → Status → Type 0
LoopCommandEnds files name old new from now Done = (messages : ℕ) × LoopsFile files name old new from now (Ok messages)
LoopCommandEnds files name old new from now NoMemory = DoesNothing old new from now ⊎ LoopsFile files name old new from now (Err fault.NoMemory)
LoopCommandEnds files name old new from now (Absent file) = (file ≡ 0) × Lacks files name × DoesNothing old new from now
LoopCommandEnds files name old new from now (BadInput file line cause) = (file ≡ 0) × LoopsFile files name old new from now (Err (fault.Bad line cause))
LoopCommandEnds files name old new from now (BadEvent line cause) = LoopsFile files name old new from now (Err (fault.BadEvent line cause))
LoopCommandEnds files name old new from now ReadFault = DoesNothing old new from now
LoopCommandEnds files name old new from now WriteFault = LoopsFile files name old new from now (Err fault.WriteFault)
LoopCommandEnds files name old new from now LinkFault = LoopsFile files name old new from now (Err fault.LinkFault)
LoopCommandEnds files name old new from now (TooLarge file line what number) =
    (file ≡ 0)
    × ((IsBytesLimit files name 67108864 line what number × DoesNothing old new from now)
    ⊎ LoopsFile files name old new from now (Err (fault.Limit line what number)))
LoopCommandEnds files name old new from now (Strange to frame) = LoopsFile files name old new from now (Err (fault.Strange to frame))
LoopCommandEnds files name old new from now other = ⊥

-- how running these bytes over a link ends, where they are within the limit
abbrev pub BytesLooped : List ℕ → Option (List ℕ) → Option (List ℕ) → Traffic → Traffic → Status → Type 0
BytesLooped bytes old new from now status =
    (files : Option Files) (name : List ℕ) → Holds files name bytes → length bytes ≤ 67108864 → LoopCommandEnds files name old new from now status
