-- The words of the modes.
use Rattle.std.specs.Prelude.{ℕ, List, codes}
use Rattle.workload.specs.declared.rules.Mode.{Mode}
use Rattle.workload.specs.declared.rules.Mode.TheVariants.{Direct, Relay, Strong}

-- the word of a mode
abbrev pub word_of : Mode → List ℕ
word_of Direct = codes "direct"
word_of Relay = codes "relay"
word_of Strong = codes "strong"
