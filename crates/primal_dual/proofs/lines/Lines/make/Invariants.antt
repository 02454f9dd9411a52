use Rattle.std.proofs.Common.{◌≡◌, ◌<◌, length}
use Rattle.std.specs.List.{All}
use Rattle.primal_dual.specs.Parts.{IsCouple, IsSize}
use Rattle.primal_dual.proofs.lines.Lines.make.Given as goal

abbrev pub invariant-loop-line : goal.invariant-loop-line
invariant-loop-line l =
    record {
      couples : All (IsCouple l.fn.table.lines l.fn.table.others) l.couples.items;
      long : All (λ one. one.line < l.fn.table.lines) l.long.items;
      count : length l.sizes.items ≡ l.line;
      sized : All (IsSize l.fn.table.size) l.sizes.items;
    }
