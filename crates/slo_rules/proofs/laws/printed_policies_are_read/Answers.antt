use Rattle.slo_rules.proofs.ReadBack.{reads_back}
use Rattle.slo_rules.proofs.laws.printed_policies_are_read.Goals as goal

pub returns : goal.returns
returns c = reads_back
