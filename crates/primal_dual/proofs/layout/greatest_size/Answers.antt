use Rattle.std.proofs.Common.{◌≡◌, ℕ, List, length, ◌<◌, arith, get_or, inl, inr}
use Rattle.std.proofs.lemmas.Bool.{cases_lt}
use Rattle.std.proofs.lemmas.List.{get_or_default}
use Rattle.primal_dual.proofs.Terms.{part_size}
use Rattle.primal_dual.specs.declared.table.Span.{Span}
use Rattle.primal_dual.proofs.layout.greatest_size.Goals as goal

pub size_of-requires : goal.size_of-requires
size_of-requires c =
    let span : Span = get_or c.args.spans.now c.loop-span.span-index (record { begin = 0; end = 0 }) in
    omega (arith, part_size c.args.terms.now span.begin span.end, c.requires.light)

read_at : (spans : List Span) (k i : ℕ) (d e : Span) → k ≡ i → i < length spans → get_or spans k d ≡ get_or spans i e
read_at spans k i d e is inside = rw is (get_or_default spans i d e inside)

pub loop-span-preserved : goal.loop-span-preserved
loop-span-preserved c =
    let span : Span = get_or c.args.spans.now c.loop-span.span-index (record { begin = 0; end = 0 }) in
    let here = c.size_of.ensures in
    let small = part_size c.args.terms.now span.begin span.end in
    record {
      sized = λ k d low high.
          elim (cases_lt k c.loop-span.span-index) [
            | inl before ↦ omega (arith, c.loop-span.invariant.sized k d low before)
            | inr not ↦
                let place : k ≡ c.loop-span.span-index = omega arith in
                let same = read_at c.args.spans.now k c.loop-span.span-index d (record { begin = 0; end = 0 }) place c.loop-span-test.true in
                rw same (omega (arith, here))
          ];
      least = omega arith;
      greatest = omega (arith, small, c.requires.light, here);
    }
