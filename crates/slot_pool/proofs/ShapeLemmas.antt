-- How many levels so many slots need.
use Rattle.std.proofs.Common.{◌≡◌, ℕ, ◌≤◌}
use Rattle.slot_pool.specs.Nodes.{first_below}

-- the first node below so many levels, which are no more than the nodes
pub record IsShape (levels first : ℕ) : Type 0 where
  pub first_node : first ≡ first_below levels
  pub positive : 1 ≤ first
  pub few_levels : levels ≤ first
  pub small : first ≤ 70000000
