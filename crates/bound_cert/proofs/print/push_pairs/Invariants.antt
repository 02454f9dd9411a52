use Rattle.std.proofs.Common.{◌≡◌, ◌++◌, take, string_bytes}
use Rattle.bound_cert.specs.Text.{pairs_text}
use Rattle.bound_cert.proofs.print.push_pairs.Given as goal

abbrev pub invariant-loop-pair : goal.invariant-loop-pair
invariant-loop-pair l = string_bytes l.text ≡ string_bytes l.fn.text ++ pairs_text (take l.pair-index l.pairs)
