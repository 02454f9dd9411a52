use Rattle.std.proofs.Common.{◌≡◌, ◌∙◌, ap, arith}
use Rattle.span_base.specs.declared.dc_set.DcSet.{DcSet}
use Rattle.span_base.specs.declared.ids.DcId.{DcId}
use Rattle.span_base.specs.declared.policy.Quorum.{Quorum}
use Rattle.workload.specs.World.{rule_of}
use Rattle.slo_rules.specs.Rules.{is_read_near, is_write_near}
use Rattle.placement_strong.specs.Variables.{member_at, g_var, w_var}
use Rattle.placement_rows.specs.Centres.{read_near, write_near, set_of_centres}
use Rattle.placement_strong.specs.Placed.{chosen_read, chosen_write}
use Rattle.placement_strong.proofs.CentreSets.{chosen_places}
use Rattle.placement_strong.proofs.Sizes.{read-room, write-room}
use Rattle.placement_strong.proofs.decoding.chosen_quorum.Goals as goal

pub chosen-read-requires-clause-bits : goal.chosen-read-requires-clause-bits
chosen-read-requires-clause-bits c = omega (arith, read-room c.args.world.now c.args.set.0 c.args.a c.requires.number, c.requires.bits)

pub chosen-write-requires-clause-bits : goal.chosen-write-requires-clause-bits
chosen-write-requires-clause-bits c = omega (arith, write-room c.args.world.now c.args.set.0 c.args.a c.requires.number, c.requires.bits)

pub returns : goal.returns
returns c =
    let w = c.args.world.now in
    let set = c.args.set.0 in
    let few = c.requires.strong.complete.few_centres in
    let m = member_at w set c.args.a in
    let read : c.chosen-read.result ≡ chosen_read w set c.args.x.now c.args.a =
    c.chosen-read.ensures
    ∙ ap set_of_centres (chosen_places w few (is_read_near w (rule_of w set) m.dc.0) c.args.x.now c.first_read.result (g_var w c.args.a) c.read_near-reading.result (c.read_near-reading.ensures.set ∙ ap (λ m. set_of_centres (read_near w set m)) c.member_at-member.ensures.member) (λ d. omega arith)) in
    let write : c.chosen-write.result ≡ chosen_write w set c.args.x.now c.args.a =
    c.chosen-write.ensures
    ∙ ap set_of_centres (chosen_places w few (is_write_near w (rule_of w set) m.dc.0) c.args.x.now c.first_write.result (w_var w set c.args.a) c.write_near-writing.result (c.write_near-writing.ensures.set ∙ ap (λ m. set_of_centres (write_near w set m)) c.member_at-member.ensures.member) (λ d. omega arith)) in
    ap (λ (m' : DcId). let q : Quorum = record { dc = m'; read = c.chosen-read.result; write = c.chosen-write.result } in q) (ap (λ d. d.dc) c.member_at-member.ensures.member)
    ∙ ap (λ (s : DcSet). let q : Quorum = record { dc = m.dc; read = s; write = c.chosen-write.result } in q) read
    ∙ ap (λ (s : DcSet). let q : Quorum = record { dc = m.dc; read = chosen_read w set c.args.x.now c.args.a; write = s } in q) write
