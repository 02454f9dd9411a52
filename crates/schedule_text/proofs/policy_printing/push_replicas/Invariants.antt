use Rattle.std.proofs.Common.{◌≡◌, ◌++◌, string_bytes}
use Rattle.span_base.specs.DcSet.{centres_below}
use Rattle.schedule_text.specs.Printed.{commas}
use Rattle.schedule_text.proofs.Joining.{has_some}
use Rattle.schedule_text.proofs.policy_printing.push_replicas.Given as goal

abbrev pub invariant-loop-d : goal.invariant-loop-d
invariant-loop-d l = (string_bytes l.text ≡ string_bytes l.fn.text ++ commas (centres_below l.set l.d)) × (l.some ≡ has_some (centres_below l.set l.d))
