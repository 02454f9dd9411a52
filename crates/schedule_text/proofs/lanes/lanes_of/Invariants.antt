use Rattle.std.proofs.Common.{◌≡◌, [], Ok}
use Rattle.schedule_text.specs.Words.{split_at}
use Rattle.schedule_text.specs.Pieces.{bytes, entry, beyond}
use Rattle.schedule_text.specs.Policies.{lanes_from}
use Rattle.schedule_text.proofs.lanes.lanes_of.Given as goal

abbrev pub invariant-loop-word : goal.invariant-loop-word
invariant-loop-word l =
    (lanes_from l.replicas (split_at 44 l.children) l.room l.lanes (entry l.words) ≡ lanes_from l.replicas (split_at 44 l.children) 8 (Ok (record { nears = []; hops = [] })) (entry l.fn.words))
    × (beyond l.words ≡ beyond l.fn.words)

abbrev pub decreases-loop-word : goal.decreases-loop-word
decreases-loop-word l = bytes l.words.rest
