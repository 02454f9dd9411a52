use Rattle.std.proofs.Common.{◌≡◌, ◌++◌, take, string_bytes}
use Rattle.std.specs.List.{flat_map}
use Rattle.schedule_text.specs.Printed.{set_text}
use Rattle.schedule_text.proofs.printing.push_sets.Given as goal

abbrev pub invariant-loop-policy : goal.invariant-loop-policy
invariant-loop-policy l = string_bytes l.text ≡ string_bytes l.fn.text ++ flat_map set_text (take l.policy-index l.sets)
