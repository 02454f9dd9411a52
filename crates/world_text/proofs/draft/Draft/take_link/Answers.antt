use Rattle.std.proofs.Common.{◌≢◌, length, ◌<◌, ◌≤◌, sym, arith, rules}
use Rattle.std.proofs.lemmas.Result.{err_from_is_err_and}
use Rattle.world_text.proofs.FieldTests.{field, texts, texts_length, four_fields}
use Rattle.world_text.proofs.LinkSteps.{link_fields, link_from, link_to, link_fare, link_refused, link_taken}
use Rattle.world_text.proofs.Adding.{link_ok, link_err}
use Rattle.world_text.proofs.draft.Draft.take_link.Goals as goal
use Rattle.world_text.proofs.draft.Draft.take_link.Goals.{in_default-via-then-fields-lt4, in_default-via-else-fields-lt4+else-fields-lt5}

pub returns-in_default-clause-fault : goal.returns-in_default-clause-fault
returns-in_default-clause-fault c =
    let fs = c.args.fields.now in
    let other : length (texts fs) ≢ 4 =
    elim c.in_default.branch [
      | in_default-via-then-fields-lt4 w ↦ λ e. absurd (let short : length fs < 4 = search rules in omega (arith, e, texts_length fs))
      | in_default-via-else-fields-lt4+else-fields-lt5 w ↦ λ e. absurd (let long : 5 ≤ length fs = search rules in omega (arith, e, texts_length fs))
    ] in
    rw c.bad.ensures (link_fields c.args.self.now (texts fs) other)

pub returns-in_err-from-clause-fault : goal.returns-in_err-from-clause-fault
returns-in_err-from-clause-fault c =
    let fs = c.args.fields.now in
    let all = four_fields fs c.in-len4.len_at_least c.in-len4.len_below in
    let p = err_from_is_err_and c.from_residual.result c.from_residual.ensures.1 in
    rw (p.1, p.2) (link_from c.args.self.now (texts fs) (field fs 0) (field fs 1) (field fs 2) (field fs 3) c.in_err-from.field-0.0 all c.in_err-from.ensures.name)

pub returns-in_err-to-clause-fault : goal.returns-in_err-to-clause-fault
returns-in_err-to-clause-fault c =
    let fs = c.args.fields.now in
    let all = four_fields fs c.in-len4.len_at_least c.in-len4.len_below in
    let p = err_from_is_err_and c.from_residual-in_err-to.result c.from_residual-in_err-to.ensures.1 in
    rw (p.1, p.2) (link_to c.args.self.now (texts fs) (field fs 0) (field fs 1) (field fs 2) (field fs 3) c.in_ok-from.from c.in_err-to.field-0.0 all c.in_ok-from.ensures.name c.in_err-to.ensures.name)

pub returns-in_err-fare-clause-fault : goal.returns-in_err-fare-clause-fault
returns-in_err-fare-clause-fault c =
    let fs = c.args.fields.now in
    let all = four_fields fs c.in-len4.len_at_least c.in-len4.len_below in
    let p = err_from_is_err_and c.from_residual-in_err-fare.result c.from_residual-in_err-fare.ensures.1 in
    rw (p.1, p.2) (link_fare c.args.self.now (texts fs) (field fs 0) (field fs 1) (field fs 2) (field fs 3) c.in_ok-from.from c.in_ok-to.to c.in_err-fare.field-0.0 all c.in_ok-from.ensures.name c.in_ok-to.ensures.name (sym c.in_err-fare.ensures.fare))

pub returns-in_err-add_link-clause-fault : goal.returns-in_err-add_link-clause-fault
returns-in_err-add_link-clause-fault c =
    let fs = c.args.fields.now in
    let all = four_fields fs c.in-len4.len_at_least c.in-len4.len_below in
    let p = err_from_is_err_and c.from_residual-in_err-add_link.result c.from_residual-in_err-add_link.ensures.1 in
    let due = link_err c.args.self.now.tables c.in_ok-from.from c.in_ok-to.to c.in_ok-fare.fare c.in_err-add_link.field-0.0 c.in_ok-fare.ensures.within c.in_err-add_link.ensures.fault in
    rw (p.1, p.2) (link_refused c.args.self.now (texts fs) (field fs 0) (field fs 1) (field fs 2) (field fs 3) c.in_ok-from.from c.in_ok-to.to c.in_ok-fare.fare _ all c.in_ok-from.ensures.name c.in_ok-to.ensures.name (sym c.in_ok-fare.ensures.fare) due)

pub returns-clause-ok : goal.returns-clause-ok
returns-clause-ok c =
    let fs = c.args.fields.now in
    let all = four_fields fs c.in-len4.len_at_least c.in-len4.len_below in
    let added = link_ok c.args.self.now.tables c.add_link.new.self c.in_ok-from.from c.in_ok-to.to c.in_ok-fare.fare c.in_ok-fare.ensures.within c.in_ok-add_link.ensures.ok c.in_ok-add_link.ensures.added in
    link_taken c.args.self.now (texts fs) (field fs 0) (field fs 1) (field fs 2) (field fs 3) c.in_ok-from.from c.in_ok-to.to c.in_ok-fare.fare c.add_link.new.self all c.in_ok-from.ensures.name c.in_ok-to.ensures.name (sym c.in_ok-fare.ensures.fare) added.0

pub returns-clause-in_centres : goal.returns-clause-in_centres
returns-clause-in_centres c =
    let added = link_ok c.args.self.now.tables c.add_link.new.self c.in_ok-from.from c.in_ok-to.to c.in_ok-fare.fare c.in_ok-fare.ensures.within c.in_ok-add_link.ensures.ok c.in_ok-add_link.ensures.added in
    rw added.1 c.requires
