use Rattle.std.proofs.Common.{◌≡◌, ◌∷◌, Some, subst}
use Rattle.csv.specs.Records.{fields_of}
use Rattle.world_text.specs.Steps.{IsDue}
use Rattle.world_text.specs.Judged.{judged}
use Rattle.world_text.specs.ReadWorld.{read_from}
use Rattle.world_text.proofs.FieldTests.{texts}
use Rattle.world_text.proofs.Taking.{refused_from, told}
use Rattle.world_text.proofs.draft.Draft.take_row.Goals as goal

pub returns-clause-fault : goal.returns-clause-fault
returns-clause-fault c = λ more.
    let row = fields_of c.args.row.now in
    let is : texts c.as_slice.result.now ≡ row = rw c.as_slice.ensures.value c.in_ok-fields.ensures in
    let due = subst (λ r. IsDue (judged c.args.self.now r) c.in-Err.refusal) is c.in-Err.ensures.fault in
    rw c.at.ensures
    (told (read_from c.args.line c.args.self.now (Some row ∷ more)) c.args.line (judged c.args.self.now row) c.in-Err.refusal
    (λ fault h. refused_from c.args.line c.args.self.now fault (Some row) more h) due)
