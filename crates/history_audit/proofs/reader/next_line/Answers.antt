use Rattle.history_audit.proofs.CutLines.{no_lines, lines_found, shorter_found, lines_left, nothing_left}
use Rattle.history_audit.proofs.reader.next_line.Goals as goal

pub returns-then-is_empty-clause-lines : goal.returns-then-is_empty-clause-lines
returns-then-is_empty-clause-lines c = no_lines c.args.text.now c.if-is_empty.ensures

pub returns-then-is_some-clause-lines : goal.returns-then-is_some-clause-lines
returns-then-is_some-clause-lines c = lines_found c.args.text.now c.cut-found.result c.cut-found.ensures c.if-is_some.ensures

pub returns-then-is_some-clause-shorter : goal.returns-then-is_some-clause-shorter
returns-then-is_some-clause-shorter c = shorter_found c.args.text.now c.cut-found.result c.cut-found.ensures

pub returns-clause-lines : goal.returns-clause-lines
returns-clause-lines c =
    rw (nothing_left c.args.text.now) (lines_left c.args.text.now c.cut-found.result c.if-is_empty.ensures c.cut-found.ensures c.if-is_some.ensures)
