use Rattle.std.proofs.Common.{◌<◌, arith, length-append, ◌∷◌, []}
use Rattle.std.proofs.lemmas.List.Elements.{All-push}
use Rattle.primal_dual.specs.Parts.{IsSize}
use Rattle.primal_dual.proofs.lines.Lines.make.Goals as goal

pub loop-line-preserved : goal.loop-line-preserved
loop-line-preserved c =
    let inside : c.loop-line.line < c.args.table.lines = (let n = c.len-count.ensures.same in let h = c.loop-line-test.true in omega arith) in
    let size = c.max-size.result in
    record {
      couples = c.add_line.ensures.couples c.args.table.lines c.args.table.others inside c.terms-terms.ensures.known c.loop-line.invariant.couples;
      long = c.add_line.ensures.long c.args.table.lines inside c.loop-line.invariant.long;
      count = rw c.in_ok-push.ensures.items (omega (arith, length-append c.loop-line.sizes.items (size ∷ []), c.loop-line.invariant.count));
      sized = rw c.in_ok-push.ensures.items (All-push (IsSize c.args.table.size) c.loop-line.sizes.items size c.loop-line.invariant.sized (let is = c.size_of.ensures in let max = c.max-size.ensures in let t = c.terms-terms.ensures in record { least = omega arith; most = omega (arith, t.size, t.least); light = omega (arith, t.light) }));
    }
