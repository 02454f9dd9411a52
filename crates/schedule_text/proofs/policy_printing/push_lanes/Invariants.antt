use Rattle.std.proofs.Common.{◌≡◌, ◌++◌, drop, string_bytes}
use Rattle.schedule_text.specs.Printed.{spaced, lane_words}
use Rattle.schedule_text.proofs.policy_printing.push_lanes.Given as goal

abbrev pub invariant-loop-near : goal.invariant-loop-near
invariant-loop-near l =
    string_bytes l.text ++ spaced (lane_words l.count l.rest (drop l.near-index l.primary)) ≡ string_bytes l.fn.text ++ spaced (lane_words l.count l.hops l.primary)
