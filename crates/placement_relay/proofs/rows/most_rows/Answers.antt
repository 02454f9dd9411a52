use Rattle.std.proofs.Common.{◌≡◌, ◌+◌, ◌*◌, length, sym, ap, ◌∙◌, arith}
use Rattle.workload.specs.World.{centre_count, rule_of}
use Rattle.workload.specs.declared.rules.SetRule.{SetRule}
use Rattle.workload.specs.declared.rules.Mode.TheVariants as mode
use Rattle.placement_relay.proofs.RowCounts.{direct-rows, relay-rows}
use Rattle.placement_relay.proofs.rows.most_rows.Goals as goal

pub returns-in-Direct : goal.returns-in-Direct
returns-in-Direct c =
    let w = c.args.world.now in
    let is : (rule_of w c.args.set.0).mode ≡ mode.Direct = sym (ap (λ (r : SetRule). r.mode) c.rule.ensures.rule) ∙ c.in-Direct.is in
    let n : c.from-centres.result ≡ centre_count w = omega arith in
    let k = length c.members-members.result.now in
    omega (arith, n, direct-rows w c.args.set.0 is, ap (λ ms. length ms * (3 + centre_count w)) c.members-members.ensures.members, ap (λ n. k * (3 + n)) n)

pub returns-in-Relay : goal.returns-in-Relay
returns-in-Relay c =
    let w = c.args.world.now in
    let is : (rule_of w c.args.set.0).mode ≡ mode.Relay = sym (ap (λ (r : SetRule). r.mode) c.rule.ensures.rule) ∙ c.in-Relay.is in
    let n : c.from-centres.result ≡ centre_count w = omega arith in
    let k = length c.members-members.result.now in
    omega (arith, n, relay-rows w c.args.set.0 is, ap (λ ms. length ms * (3 + 3 * centre_count w + centre_count w * centre_count w)) c.members-members.ensures.members, ap (λ n. k * (3 + 3 * n + n * n)) n)
