-- The text of a policy, kind by kind.
use Rattle.std.proofs.Common.{◌≡◌, ℕ, List, ◌++◌, map, sym, ap, ◌∙◌, append_assoc}
use Rattle.std.specs.List.{flat_map}
use Rattle.std.specs.Prelude.{Result, Ok, Err, OnOk}
use Rattle.std.proofs.lemmas.List.Folds.{flat_map-map}
use Rattle.std.proofs.lemmas.Grind.{flat_map-append}
use Rattle.span_base.specs.declared.dc_set.DcSet.{DcSet}
use Rattle.span_base.specs.declared.policy.Policy.{Policy}
use Rattle.span_base.specs.declared.policy.Policy.TheVariants.{Direct, Relay, Strong}
use Rattle.span_base.specs.declared.policy.Near.{Near}
use Rattle.span_base.specs.declared.policy.Hop.{Hop}
use Rattle.span_base.specs.declared.policy.Quorum.{Quorum}
use Rattle.span_base.specs.PolicyParts.{replicas_of}
use Rattle.workload.specs.World.{Lists}
use Rattle.slo_rules.specs.PolicyText.{replicas_line, primary_line, hop_line, quorum_line, ended, policy_text}

-- what follows from success follows where there is one
pub on_ok : {T E A B : Type 0} (r : Result T E) → (A → B) → OnOk r A → OnOk r B
on_ok (Ok x) f a = f a
on_ok (Err e) f a = tt

-- the line of the replicas and then others
begun : (old first line more new : List ℕ) → first ≡ old ++ line → new ≡ first ++ more → new ≡ old ++ (line ++ more)
begun old first line more new a b = b ∙ ap (λ t. t ++ more) a ∙ append_assoc old line more

pub direct_text : (w : Lists) (p : Policy) (f : ℕ) (replicas : DcSet) (primary : List Near) (old first new : List ℕ) → p ≡ Direct f replicas primary
    → first ≡ old ++ ended (replicas_line w (replicas_of p)) → new ≡ first ++ flat_map (λ x. ended (primary_line w x)) primary → new ≡ old ++ policy_text w p
direct_text w p f replicas primary old first new is a b =
    begun old first (ended (replicas_line w replicas)) (flat_map ended (map (primary_line w) primary)) new
    (a ∙ ap (λ q. old ++ ended (replicas_line w (replicas_of q))) is)
    (b ∙ ap (λ t. first ++ t) (sym (flat_map-map ended (primary_line w) primary)))
    ∙ ap (λ q. old ++ policy_text w q) (sym is)

pub relay_text : (w : Lists) (p : Policy) (f : ℕ) (replicas : DcSet) (primary : List Near) (hops : List Hop) (old first second new : List ℕ) → p ≡ Relay f replicas primary hops
    → first ≡ old ++ ended (replicas_line w (replicas_of p)) → second ≡ first ++ flat_map (λ x. ended (primary_line w x)) primary
    → new ≡ second ++ flat_map (λ x. ended (hop_line w x)) hops → new ≡ old ++ policy_text w p
relay_text w p f replicas primary hops old first second new is a b c =
    begun old first (ended (replicas_line w replicas)) (flat_map ended (map (primary_line w) primary ++ map (hop_line w) hops)) new
    (a ∙ ap (λ q. old ++ ended (replicas_line w (replicas_of q))) is)
    (c ∙ ap (λ t. t ++ flat_map (λ x. ended (hop_line w x)) hops) b
    ∙ append_assoc first (flat_map (λ x. ended (primary_line w x)) primary) (flat_map (λ x. ended (hop_line w x)) hops)
    ∙ ap (λ t. first ++ (t ++ flat_map (λ x. ended (hop_line w x)) hops)) (sym (flat_map-map ended (primary_line w) primary))
    ∙ ap (λ t. first ++ (flat_map ended (map (primary_line w) primary) ++ t)) (sym (flat_map-map ended (hop_line w) hops))
    ∙ ap (λ t. first ++ t) (sym (flat_map-append ended (map (primary_line w) primary) (map (hop_line w) hops))))
    ∙ ap (λ q. old ++ policy_text w q) (sym is)

pub strong_text : (w : Lists) (p : Policy) (f : ℕ) (replicas : DcSet) (members : List Quorum) (old first new : List ℕ) → p ≡ Strong f replicas members
    → first ≡ old ++ ended (replicas_line w (replicas_of p)) → new ≡ first ++ flat_map (λ x. ended (quorum_line w x)) members → new ≡ old ++ policy_text w p
strong_text w p f replicas members old first new is a b =
    begun old first (ended (replicas_line w replicas)) (flat_map ended (map (quorum_line w) members)) new
    (a ∙ ap (λ q. old ++ ended (replicas_line w (replicas_of q))) is)
    (b ∙ ap (λ t. first ++ t) (sym (flat_map-map ended (quorum_line w) members)))
    ∙ ap (λ q. old ++ policy_text w q) (sym is)
