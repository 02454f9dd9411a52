use Rattle.std.specs.Prelude.{ℕ, ◌≡◌, ◌<◌, ◌^◌, List, [], ◌∷◌, ◌++◌, take, codes, All}
use Rattle.std.specs.Fmt.{decimal}
use Rattle.bound_cert.specs.declared.leaves.Pair.{Pair}
use Rattle.bound_cert.specs.declared.leaves.Line.{Line}
use Rattle.bound_cert.specs.declared.leaves.Line.TheVariants.{Branch, Close}

-- a space, the row, a colon and the multiplier
abbrev pub pair_text : Pair → List ℕ
pair_text pair = codes " " ++ decimal pair.row ++ codes ":" ++ decimal pair.mult

-- the texts of the pairs, one after another
abbrev pub pairs_text : List Pair → List ℕ
pairs_text [] = []
pairs_text (pair ∷ pairs) = pair_text pair ++ pairs_text pairs

-- the text of a line, without its line feed
abbrev pub line_text : Line → List ℕ
line_text (Branch var) = codes "b " ++ decimal var
line_text (Close end) = codes "l " ++ decimal end.s ++ pairs_text end.pairs

-- a multiplier that a line can spell: one of at most 38 digits
abbrev pub IsSpelled : Pair → Type 0
IsSpelled pair = pair.mult < 10 ^ 38

-- the line's multipliers are ones that a line can spell
abbrev pub HasShortMultipliers : Line → Type 0
HasShortMultipliers (Branch var) = Unit {0}
HasShortMultipliers (Close end) = All IsSpelled end.pairs

-- the bytes are the old ones and then a front of this piece
abbrev pub AddsFront : List ℕ → List ℕ → List ℕ → Type 0
AddsFront old new piece = (n : ℕ) × (new ≡ old ++ take n piece)
