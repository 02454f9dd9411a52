use Rattle.std.proofs.Common.{◌≡◌, ◌++◌, take, string_bytes}
use Rattle.std.specs.List.{flat_map}
use Rattle.schedule_text.specs.Printed.{proxy_text}
use Rattle.schedule_text.proofs.printing.push_proxies.Given as goal

abbrev pub invariant-loop-at : goal.invariant-loop-at
invariant-loop-at l = string_bytes l.text ≡ string_bytes l.fn.text ++ flat_map proxy_text (take l.at-index l.proxies)
