use Rattle.std.proofs.Common.{◌≡◌, ℕ, ◌≤◌, map}
use Rattle.std.specs.List.{range_with_len}
use Rattle.epoch_directory.specs.Tables.{listed, policy_after}
use Rattle.epoch_directory.proofs.directory.Directory.next_table.Given as goal

abbrev pub invariant-loop-number : goal.invariant-loop-number
invariant-loop-number l =
    (l.policies.items ≡ map (policy_after l.self l.initial.table.items) (range_with_len 0 l.number)) × ((set : ℕ) → l.number ≤ set → listed l.table.items set ≡ listed l.initial.table.items set)
