use Rattle.std.proofs.Common.{◌≡◌, ◌∷◌, ◌++◌, take, string_bytes}
use Rattle.std.specs.List.{flat_map}
use Rattle.schedule_text.specs.Printed.{near_text}
use Rattle.schedule_text.proofs.policy_printing.push_nears.Given as goal

abbrev pub invariant-loop-near : goal.invariant-loop-near
invariant-loop-near l = string_bytes l.text ≡ string_bytes l.fn.text ++ flat_map (λ near. 32 ∷ near_text near) (take l.near-index l.primary)
