use Rattle.std.proofs.Common.{◌≡◌, ◌∷◌, ◌++◌, take, string_bytes}
use Rattle.std.specs.List.{flat_map}
use Rattle.schedule_text.specs.Printed.{quorum_text}
use Rattle.schedule_text.proofs.policy_printing.push_quorums.Given as goal

abbrev pub invariant-loop-quorum : goal.invariant-loop-quorum
invariant-loop-quorum l = string_bytes l.text ≡ string_bytes l.fn.text ++ flat_map (λ q. 32 ∷ quorum_text q) (take l.quorum-index l.members)
