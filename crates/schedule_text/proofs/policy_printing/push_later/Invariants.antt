use Rattle.std.proofs.Common.{◌≡◌, ◌∷◌, ◌++◌, take, string_bytes}
use Rattle.std.specs.List.{flat_map}
use Rattle.std.specs.Fmt.{decimal}
use Rattle.schedule_text.proofs.policy_printing.push_later.Given as goal

abbrev pub invariant-loop-hop : goal.invariant-loop-hop
invariant-loop-hop l = string_bytes l.text ≡ string_bytes l.fn.text ++ flat_map (λ hop. 44 ∷ decimal hop.parent.0) (take l.hop-index l.hops)
