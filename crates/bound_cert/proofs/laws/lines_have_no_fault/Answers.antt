use Rattle.bound_cert.proofs.NoFault.{no_fault}
use Rattle.bound_cert.proofs.laws.lines_have_no_fault.Goals as goal

pub returns : goal.returns
returns c = no_fault
