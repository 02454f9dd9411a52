use Rattle.std.proofs.Common.{rules, ◌≡◌, ◌<◌, ◌^◌, ap, sym, ◌∙◌, eq-eqb}
use Rattle.std.proofs.lemmas.Bool.{eqb-true}
use Rattle.span_base.specs.DcSet.{has, bits_of}
use Rattle.span_base.proofs.Sets.{same_set, same_bits}
use Rattle.span_base.proofs.quorum.is_union.Goals as goal

pub returns : goal.returns
returns c =
    let low : bits_of c.args.replicas < 2 ^ 16 = search rules in
    let high : bits_of c.asked_by.result < 2 ^ 16 = search rules in (
      λ h d.
          let bits : bits_of c.args.replicas ≡ bits_of c.asked_by.result = eqb-true _ _ (sym c.eq.ensures ∙ h) in
          ap (λ s. has s d) (same_bits c.args.replicas c.asked_by.result bits) ∙ c.asked_by.ensures d,
      λ union.
          c.eq.ensures
          ∙ eq-eqb _ _ (ap bits_of (same_set c.args.replicas c.asked_by.result low high (λ d _. union d ∙ sym (c.asked_by.ensures d)))),
    )
