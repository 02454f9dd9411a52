use Rattle.std.proofs.Common.{List, ◌++◌, string_bytes, ap, ◌∙◌}
use Rattle.std.specs.List.{flat_map}
use Rattle.span_base.specs.declared.policy.Near.{Near}
use Rattle.span_base.specs.declared.policy.Hop.{Hop}
use Rattle.span_base.specs.declared.policy.Quorum.{Quorum}
use Rattle.slo_rules.specs.PolicyText.{replicas_line, primary_line, hop_line, quorum_line, ended}
use Rattle.slo_rules.proofs.PolicyTexts.{on_ok, direct_text, relay_text, strong_text}
use Rattle.slo_rules.proofs.policy_text.push_policy.Goals as goal

pub returns-in-Direct : goal.returns-in-Direct
returns-in-Direct c =
    let w = c.args.world.now in
    on_ok c.push_primaries.result (λ added.
    direct_text w c.args.policy.now c.in-Direct.f c.in-Direct.replicas c.in-Direct.primary _ (string_bytes c.push_replicas.new.text) _ c.in-Direct.is
    (c.in_ok-push_replicas.ensures ∙ ap (λ r. string_bytes c.args.text.now ++ ended (replicas_line w r)) c.replicas.ensures)
    (added ∙ ap (λ (ns : List Near). string_bytes c.push_replicas.new.text ++ flat_map (λ x. ended (primary_line w x)) ns) c.as_slice.ensures))
    c.push_primaries.ensures

pub returns-in_ok-push_primaries-in-Relay : goal.returns-in_ok-push_primaries-in-Relay
returns-in_ok-push_primaries-in-Relay c =
    let w = c.args.world.now in
    on_ok c.push_hops.result (λ added.
    relay_text w c.args.policy.now c.in-Relay.f c.in-Relay.replicas c.in-Relay.primary c.in-Relay.parent _ (string_bytes c.push_replicas.new.text) (string_bytes c.push_primaries-in-Relay.new.text) _ c.in-Relay.is
    (c.in_ok-push_replicas.ensures ∙ ap (λ r. string_bytes c.args.text.now ++ ended (replicas_line w r)) c.replicas.ensures)
    (c.in_ok-push_primaries-in-Relay.ensures ∙ ap (λ (ns : List Near). string_bytes c.push_replicas.new.text ++ flat_map (λ x. ended (primary_line w x)) ns) c.as_slice-in-Relay.ensures)
    (added ∙ ap (λ (hs : List Hop). string_bytes c.push_primaries-in-Relay.new.text ++ flat_map (λ x. ended (hop_line w x)) hs) c.as_slice-in-Relay-2.ensures))
    c.push_hops.ensures

pub returns-in-Strong : goal.returns-in-Strong
returns-in-Strong c =
    let w = c.args.world.now in
    on_ok c.push_quorums.result (λ added.
    strong_text w c.args.policy.now c.in-Strong.f c.in-Strong.replicas c.in-Strong.members _ (string_bytes c.push_replicas.new.text) _ c.in-Strong.is
    (c.in_ok-push_replicas.ensures ∙ ap (λ r. string_bytes c.args.text.now ++ ended (replicas_line w r)) c.replicas.ensures)
    (added ∙ ap (λ (qs : List Quorum). string_bytes c.push_replicas.new.text ++ flat_map (λ x. ended (quorum_line w x)) qs) c.as_slice-in-Strong.ensures))
    c.push_quorums.ensures
