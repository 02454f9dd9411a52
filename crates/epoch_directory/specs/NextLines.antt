-- What a line of a table has to be, by itself. Only inner contracts cite it.
use Rattle.std.specs.Prelude.{◌≡◌, ◌<◌, false}
use Rattle.span_base.specs.Policy.{IsSoundPolicy}
use Rattle.epoch_directory.specs.declared.table.SetPolicy.{SetPolicy}
use Rattle.epoch_directory.specs.State.{State, policy_in, set_count, is_strong_set, HasSameMode}

-- the set exists, the policy has the mode of its first one, and an eventual set's is sound
pub record IsNextLine (state : State) (line : SetPolicy) : Type 0 where
  pub exists : line.set.0 < set_count state
  pub mode : HasSameMode (policy_in state 1 line.set.0) line.policy
  pub sound : is_strong_set state line.set.0 ≡ false → IsSoundPolicy line.policy
