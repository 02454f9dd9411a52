use Rattle.std.proofs.Common.{◌≡◌, ◌+◌, ◌*◌, ◌<◌, ◌≤◌, ◌∙◌, true, false, length, sym, ap, arith}
use Rattle.std.proofs.lemmas.Nat.{mul-le}
use Rattle.span_base.specs.declared.policy.Near.{Near}
use Rattle.workload.specs.World.{centre_count, rule_of, members_of}
use Rattle.slo_rules.specs.Rules.{is_read_near}
use Rattle.zero_one.specs.Rows.{bit_of}
use Rattle.placement_relay.specs.Reading.{h}
use Rattle.placement_relay.specs.Placed.{or_first}
use Rattle.placement_rows.proofs.Loops.{search_hit, search_far, search_miss}
use Rattle.placement_relay.proofs.decoding.chosen_primary.Goals as goal
use Rattle.placement_relay.proofs.decoding.chosen_primary.Goals.{else-is_read_near-via-then-is_read_near+else-x-first, else-is_read_near-via-else-is_read_near}

pub bounds-x-first : goal.bounds-x-first
bounds-x-first c =
    let n = centre_count c.args.world.now in
    let block : (c.args.a + 1) * n ≤ length (members_of c.args.world.now c.args.set.0) * n = mul-le (c.args.a + 1) n (length (members_of c.args.world.now c.args.set.0)) n (omega arith) (omega arith) in
    omega (arith, c.requires.bits, block)

pub returns-then-x-first : goal.returns-then-x-first
returns-then-x-first c =
    let w = c.args.world.now in
    let at : c.from-first.result + c.from.result ≡ h w c.args.a c.loop-d.d = omega arith in
    let is : bit_of c.args.x.now (h w c.args.a c.loop-d.d) ≡ true = sym (ap (bit_of c.args.x.now) at) ∙ c.if-x-first.true in
    let low : c.loop-d.d < centre_count w = omega arith in
    let found = search_hit (λ d. bit_of c.args.x.now (h w c.args.a d)) (is_read_near w (rule_of w c.args.set.0) c.args.member.now.dc.0) c.loop-d.d (centre_count w) low (sym (c.is_read_near.ensures ∙ ap (λ r. is_read_near w r c.args.member.now.dc.0 c.loop-d.d) c.rule-rule.ensures.rule) ∙ c.if-is_read_near.true) is in
    ap (λ at. let r : Near = record { member = c.args.member.now.dc; at = record { 0 = at } } in r) (sym (ap or_first (c.loop-d.invariant ∙ found)))

pub loop-d-preserved : goal.loop-d-preserved
loop-d-preserved c =
    let w = c.args.world.now in
    let low : c.loop-d.d < centre_count w = omega arith in
    elim c.else-is_read_near.branch [
      | else-is_read_near-via-then-is_read_near+else-x-first b ↦
          let at : c.from-first.result + b.from.result ≡ h w c.args.a c.loop-d.d = omega arith in
          let is : bit_of c.args.x.now (h w c.args.a c.loop-d.d) ≡ false = sym (ap (bit_of c.args.x.now) at) ∙ b.if-x-first.false in
          c.loop-d.invariant ∙ search_miss (λ d. bit_of c.args.x.now (h w c.args.a d)) (is_read_near w (rule_of w c.args.set.0) c.args.member.now.dc.0) c.loop-d.d (centre_count w) low is
      | else-is_read_near-via-else-is_read_near b ↦
          c.loop-d.invariant ∙ search_far (λ d. bit_of c.args.x.now (h w c.args.a d)) (is_read_near w (rule_of w c.args.set.0) c.args.member.now.dc.0) c.loop-d.d (centre_count w) low (sym (c.is_read_near.ensures ∙ ap (λ r. is_read_near w r c.args.member.now.dc.0 c.loop-d.d) c.rule-rule.ensures.rule) ∙ b.if-is_read_near.false)
    ]
