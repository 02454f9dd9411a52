use Rattle.bound_cert.proofs.OneReading.{one_reading}
use Rattle.bound_cert.proofs.laws.lines_have_one_reading.Goals as goal

pub returns : goal.returns
returns c = one_reading
