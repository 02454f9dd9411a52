use Rattle.replica_journal.proofs.Crashes.{crashed_image, crashed_alone}
use Rattle.replica_journal.proofs.laws.crashes_keep_an_image.Goals as goal

pub returns-clause-was : goal.returns-clause-was
returns-clause-was c = crashed_image

pub returns-clause-alone : goal.returns-clause-alone
returns-clause-alone c = crashed_alone
