-- A joint plan that was worked out by hand.
use Rattle.std.specs.Prelude.{List, ℕ, ◌++◌, codes}
use Rattle.joint_placement.specs.Examples.{all_in_x}
use Rattle.joint_plan.specs.Endings.{Ending, complete}

-- one replica and one machine in `x`
abbrev pub ending_in_x : Ending
ending_in_x = complete 1178 all_in_x

-- its lines behind the tree
abbrev pub text_in_x : List ℕ
text_in_x =
    codes "result complete 1178\n"
    ++ codes "set s\n"
    ++ codes "replicas x\n"
    ++ codes "primary x x\n"
    ++ codes "machines x 1\n"
    ++ codes "machines y 0\n"
