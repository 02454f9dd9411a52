use Rattle.std.proofs.Common.{◌≡◌, ℕ, List, ◌∷◌, ◌++◌, sym, ap, ◌∙◌, string_bytes}
use Rattle.std.specs.Prelude.{codes}
use Rattle.workload.specs.World.{centre_count}
use Rattle.slo_rules.proofs.ProviderNames.{below-lies_below}
use Rattle.workload.specs.World.{name_of}
use Rattle.slo_rules.proofs.Texts.{centres_first, centres_with, centres_without, centres_last}
use Rattle.slo_rules.proofs.policy_text.push_names.Goals as goal
use Rattle.slo_rules.proofs.policy_text.push_names.Goals.{then-has+in_ok-write, else-has}

pub loop-d-init : goal.loop-d-init
loop-d-init c = centres_first (λ dc. codes " " ++ name_of c.args.world.now dc) c.args.set (string_bytes c.args.text.now)

pub name-requires : goal.name-requires
name-requires c = below-lies_below (centre_count c.args.world.now) c.args.set c.loop-d.d c.requires (sym c.has.ensures.member ∙ c.if-has.true)

pub loop-d-preserved : goal.loop-d-preserved
loop-d-preserved c =
    let f : ℕ → List ℕ = λ dc. codes " " ++ name_of c.args.world.now dc in
    elim c.if-has.branch [
      | then-has+in_ok-write w ↦
          let grown : string_bytes c.if-has.text ≡ string_bytes c.loop-d.text ++ f c.loop-d.d =
          ap string_bytes w.text-is ∙ w.in_ok-write.ensures.bytes ∙ ap (λ (n : List ℕ). string_bytes c.loop-d.text ++ 32 ∷ n) (w.as_str-name.ensures ∙ w.name.ensures) in
          centres_with f c.args.set c.loop-d.d (string_bytes c.loop-d.text) (string_bytes c.if-has.text) _ c.loop-d-test.true (sym c.has.ensures.member ∙ w.if-has.true) c.loop-d.invariant grown
      | else-has w ↦
          centres_without f c.args.set c.loop-d.d (string_bytes c.if-has.text) _ c.loop-d-test.true (sym c.has.ensures.member ∙ w.if-has.false) (rw w.text-is c.loop-d.invariant)
    ]

pub returns : goal.returns
returns c = centres_last (λ dc. codes " " ++ name_of c.args.world.now dc) c.args.set c.loop-d.d (string_bytes c.loop-d.text) _ c.loop-d-test.false c.loop-d.invariant
