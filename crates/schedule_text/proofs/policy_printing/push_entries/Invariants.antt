use Rattle.std.proofs.Common.{◌≡◌, ◌++◌, take, string_bytes}
use Rattle.std.specs.List.{flat_map}
use Rattle.std.specs.Prelude.{codes}
use Rattle.schedule_text.specs.Printed.{spaced, entry_words}
use Rattle.schedule_text.proofs.policy_printing.push_entries.Given as goal

abbrev pub invariant-loop-entry : goal.invariant-loop-entry
invariant-loop-entry l = string_bytes l.text ≡ string_bytes l.fn.text ++ flat_map (λ entry. codes " ;" ++ spaced (entry_words entry)) (take l.entry-index l.table)
