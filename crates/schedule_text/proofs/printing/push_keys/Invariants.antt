use Rattle.std.proofs.Common.{◌≡◌, ◌++◌, take, string_bytes}
use Rattle.std.specs.List.{flat_map}
use Rattle.schedule_text.specs.Printed.{key_text}
use Rattle.schedule_text.proofs.printing.push_keys.Given as goal

abbrev pub invariant-loop-set : goal.invariant-loop-set
invariant-loop-set l = string_bytes l.text ≡ string_bytes l.fn.text ++ flat_map key_text (take l.set-index l.keys)
