use Rattle.std.proofs.Common.{refl, ap, [], ◌++◌, sym, subst}
use Rattle.shelf_lines.specs.Lines.{Begins, Kept}
use Rattle.shelf_lines.proofs.Bytes.{Begins-nothing}
use Rattle.plan_check.proofs.lines.PlanLines.make.Goals as goal

pub returns : goal.returns
returns c = (λ files name. record {
  given = record {
    count = ap (λ (k : Kept). k.given) c.in_ok-make.ensures;
    front = subst (λ (k : Kept). Begins files name ([] ++ k.ahead)) (sym c.in_ok-make.ensures) (Begins-nothing files name);
  };
  number = refl;
})
