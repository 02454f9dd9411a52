use Rattle.std.proofs.Common.{◌≡◌, map, take}
use Rattle.std.specs.List.{filter}
use Rattle.joint_placement.specs.Capacity.{load_entry, is_load}
use Rattle.joint_placement.proofs.capacity.load_entries.Given as goal

abbrev pub invariant-loop-load : goal.invariant-loop-load
invariant-loop-load l = l.entries.items ≡ map load_entry (filter is_load (take l.load-index l.loads))
