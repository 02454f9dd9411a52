use Rattle.std.proofs.Common.{◌≡◌, ◌<◌, length, None, rules, arith}
use Rattle.slo_rules.specs.Rules.{first_broken_rule}
use Rattle.slo_rules.proofs.AllowedPolicies.{allowed_names}
use Rattle.slo_rules.proofs.tests.printed_policy_is_read.Goals as goal

pub push_policy-requires : goal.push_policy-requires
push_policy-requires g c =
    let inside : 0 < length c.in_ok-world.world.sets = omega arith in
    let allowed : first_broken_rule c.in_ok-world.world 0 c.in_ok-policy.policy ≡ None = search rules in
    allowed_names c.in_ok-world.world 0 c.in_ok-policy.policy c.centre_count-count.ensures.complete inside allowed
