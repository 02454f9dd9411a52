-- What is told of the faults of a loop's parts.
use Rattle.std.specs.Prelude.{ℕ, ◌≡◌, List}
use Rattle.span_base.specs.declared.sink.DeviceFault.{DeviceFault}
use Rattle.span_base.specs.declared.sink.DeviceFault.TheVariants as device
use Rattle.schedule_text.specs.declared.fault.ScheduleFault.{ScheduleFault}
use Rattle.schedule_text.specs.declared.fault.ScheduleFault.TheVariants as reading
use Rattle.schedule_replay.specs.declared.fault.ReplayFault.{ReplayFault}
use Rattle.schedule_replay.specs.declared.fault.ReplayFault.TheVariants as replay
use Rattle.span_node.specs.declared.fault.LoopFault.{LoopFault}
use Rattle.span_node.specs.declared.fault.LoopFault.TheVariants.{Bad, Limit, BadEvent, WriteFault, LinkFault, Strange, NoMemory}

-- what is told of a text that isn't read
abbrev pub unread : ScheduleFault → LoopFault
unread (reading.Bad line cause) = Bad line cause
unread (reading.Limit line what number) = Limit line what number
unread (reading.NoMemory error) = NoMemory

-- what is told of a fault that a replay tells too
abbrev pub of_replay : ReplayFault → LoopFault
of_replay (replay.Bad line cause) = Bad line cause
of_replay (replay.Limit line what number) = Limit line what number
of_replay (replay.BadEvent line cause) = BadEvent line cause
of_replay replay.WriteFault = WriteFault
of_replay replay.NoMemory = NoMemory

-- what is told of a sink that doesn't take a text
abbrev pub unwritten : DeviceFault → LoopFault
unwritten device.Failed = WriteFault
unwritten device.NoMemory = NoMemory

-- what is told of a link that carries nothing
abbrev pub uncarried : DeviceFault → LoopFault
uncarried device.Failed = LinkFault
uncarried device.NoMemory = NoMemory

-- only the store or memory is at fault
abbrev pub IsOfStore : LoopFault → Type 0
IsOfStore (Limit line what number) = Unit {0}
IsOfStore (BadEvent line cause) = Unit {0}
IsOfStore NoMemory = Unit {0}
IsOfStore _ = ⊥

-- the frame is told as strange, unless memory lacks
abbrev pub IsToldStrange : LoopFault → ℕ → List ℕ → Type 0
IsToldStrange (Strange to frame) to' frame' = (to ≡ to') × (frame ≡ frame')
IsToldStrange NoMemory to frame = Unit {0}
IsToldStrange _ to frame = ⊥
