-- The limits of rules and demands.
use Rattle.std.specs.Prelude.{◌^◌, ◌≤◌}
use Rattle.workload.specs.declared.rules.SetRule.{SetRule}
use Rattle.workload.specs.declared.rules.Demand.{Demand}

-- the numbers of a set's rule are within their limits
pub record IsRuleWithin (rule : SetRule) : Type 0 where
  pub f : rule.f ≤ 3
  pub read_slo : rule.read_slo ≤ 10 ^ 6
  pub write_slo : rule.write_slo ≤ 10 ^ 6
  pub stored : rule.stored ≤ 10 ^ 12
  pub object : rule.object ≤ 10 ^ 5
  pub some_provider : 1 ≤ rule.providers
  pub providers : rule.providers ≤ 16

-- the counts of a demand are within their limits
pub record AreCountsWithin (demand : Demand) : Type 0 where
  pub gets : demand.gets ≤ 10 ^ 9
  pub puts : demand.puts ≤ 10 ^ 9
