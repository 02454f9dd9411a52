use Rattle.slo_rules.proofs.AllowedPolicies.{allowed_names}
use Rattle.planner.proofs.Endings.{allowed_fits}
use Rattle.planner.proofs.part.best_policy.Goals as goal

pub returns-in_ok-decode-in-Some-clause-names : goal.returns-in_ok-decode-in-Some-clause-names
returns-in_ok-decode-in-Some-clause-names c = allowed_names _ _ _ c.centre_count-centres.ensures.complete c.requires.set c.in_ok-decode-in-Some.ensures.allowed

pub returns-in_ok-decode-in-Some-clause-fits : goal.returns-in_ok-decode-in-Some-clause-fits
returns-in_ok-decode-in-Some-clause-fits c = allowed_fits _ _ _ c.in_ok-decode-in-Some.ensures.allowed
