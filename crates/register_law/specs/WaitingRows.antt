-- Small schedules that leave a call waiting.
use Rattle.std.specs.Prelude.{List, [], ◌∷◌, ◌++◌}
use Rattle.run_marks.specs.declared.mark.Work.TheVariants as w
use Rattle.world_core.specs.declared.event.Event.{Event}
use Rattle.world_core.specs.declared.event.Event.TheVariants.{Start}
use Rattle.world_core.specs.Rows.{hi, cc_value, again, deliveries}

-- one replica has said Yes
abbrev pub one_yes : List Event
one_yes = Start 0 0 (w.Write hi) ∷ deliveries (0 ∷ 3 ∷ [])

-- two have
abbrev pub two_yes : List Event
two_yes = Start 0 0 (w.Write hi) ∷ deliveries (0 ∷ 1 ∷ 3 ∷ 4 ∷ [])

-- an epoch was opened, and two replicas that are frozen have answered Gone
abbrev pub two_gone : List Event
two_gone =
    again ∷ Start 0 0 w.Move ∷ deliveries (0 ∷ 1 ∷ 2 ∷ 3 ∷ 5 ∷ 6 ∷ 7 ∷ 8 ∷ 10 ∷ 11 ∷ 12 ∷ 13 ∷ [])
    ++ Start 1 0 (w.Write cc_value) ∷ deliveries (14 ∷ 15 ∷ 17 ∷ 18 ∷ [])
