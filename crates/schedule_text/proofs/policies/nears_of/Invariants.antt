use Rattle.std.proofs.Common.{◌≡◌, [], Ok}
use Rattle.schedule_text.specs.Pieces.{bytes, entry, beyond}
use Rattle.schedule_text.specs.Policies.{nears_from}
use Rattle.schedule_text.proofs.policies.nears_of.Given as goal

abbrev pub invariant-loop-word : goal.invariant-loop-word
invariant-loop-word l =
    (nears_from l.room l.nears (entry l.words) ≡ nears_from 8 (Ok []) (entry l.fn.words)) × (beyond l.words ≡ beyond l.fn.words)

abbrev pub decreases-loop-word : goal.decreases-loop-word
decreases-loop-word l = bytes l.words.rest
