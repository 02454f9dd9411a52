use Rattle.std.proofs.Common.{refl}
use Rattle.std.proofs.lemmas.List.{take_rest}
use Rattle.schedule_text.proofs.Cuts.{lines_on, lines_last, lines_over}
use Rattle.schedule_text.proofs.lines.Lines.next.Goals as goal

pub returns-then-is_empty-clause-line : goal.returns-then-is_empty-clause-line
returns-then-is_empty-clause-line c =
    (lines_over c.args.self.now.text.now _ c.args.self.now.at (take_rest c.args.self.now.text.now c.args.self.now.at) c.if-is_empty.ensures, refl)

pub returns-in-Some-clause-line : goal.returns-in-Some-clause-line
returns-in-Some-clause-line c =
    lines_on c.args.self.now.text.now _ c.args.self.now.at c.in-Some.end (take_rest c.args.self.now.text.now c.args.self.now.at) c.in-Some.ensures.0 c.in-Some.ensures.1

pub returns-in-None-clause-line : goal.returns-in-None-clause-line
returns-in-None-clause-line c =
    lines_last c.args.self.now.text.now _ c.args.self.now.at (take_rest c.args.self.now.text.now c.args.self.now.at) c.if-is_empty.ensures c.in-None.ensures
