use Rattle.bound_cert.specs.declared.leaves.Leaf.{Leaf}
use Rattle.dual_ascent.specs.declared.leaves.Source.{Source}
use Rattle.dual_ascent.specs.declared.leaves.Source.TheVariants.{Ascent, OneRow}

-- the leaf that is given
abbrev pub given_leaf : Source → Leaf → Leaf → Leaf
given_leaf Ascent ascended one_row = ascended
given_leaf OneRow ascended one_row = one_row
