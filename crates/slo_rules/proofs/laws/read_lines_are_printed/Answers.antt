use Rattle.slo_rules.proofs.Reprinted.{reprinted}
use Rattle.slo_rules.proofs.laws.read_lines_are_printed.Goals as goal

pub returns : goal.returns
returns c = reprinted
