use Rattle.std.proofs.Common.{◌≢◌, ◌∙◌, Ok, length, ◌<◌, ◌≤◌, sym, ap, arith, rules}
use Rattle.std.proofs.lemmas.Result.{err_from_is_err_and}
use Rattle.price_tables.specs.declared.prices.Centre.{Centre}
use Rattle.world_text.proofs.FieldTests.{field, texts, texts_length, five_fields}
use Rattle.world_text.proofs.DcSteps.{dc_fields, dc_name, dc_provider, dc_price, dc_refused, dc_taken}
use Rattle.world_text.proofs.Adding.{centre_ok, centre_err}
use Rattle.world_text.proofs.draft.Draft.take_dc.Goals as goal
use Rattle.world_text.proofs.draft.Draft.take_dc.Goals.{in_default-via-then-fields-lt5, in_default-via-else-fields-lt5+else-fields-lt6}

pub returns-in_default-clause-fault : goal.returns-in_default-clause-fault
returns-in_default-clause-fault c =
    let fs = c.args.fields.now in
    let other : length (texts fs) ≢ 5 =
    elim c.in_default.branch [
      | in_default-via-then-fields-lt5 w ↦ λ e. absurd (let short : length fs < 5 = search rules in omega (arith, e, texts_length fs))
      | in_default-via-else-fields-lt5+else-fields-lt6 w ↦ λ e. absurd (let long : 6 ≤ length fs = search rules in omega (arith, e, texts_length fs))
    ] in
    rw c.bad.ensures (dc_fields c.args.self.now (texts fs) other)

pub returns-in_err-name-clause-fault : goal.returns-in_err-name-clause-fault
returns-in_err-name-clause-fault c =
    let fs = c.args.fields.now in
    let all = five_fields fs c.in-len5.len_at_least c.in-len5.len_below in
    let p = err_from_is_err_and c.from_residual.result c.from_residual.ensures.1 in
    rw (p.1, p.2) (dc_name c.args.self.now (texts fs) (field fs 0) (field fs 1) (field fs 2) (field fs 3) (field fs 4) c.in_err-name.field-0.0 all c.in_err-name.ensures.name)

pub returns-in_err-provider-clause-fault : goal.returns-in_err-provider-clause-fault
returns-in_err-provider-clause-fault c =
    let fs = c.args.fields.now in
    let all = five_fields fs c.in-len5.len_at_least c.in-len5.len_below in
    let p = err_from_is_err_and c.from_residual-in_err-provider.result c.from_residual-in_err-provider.ensures.1 in
    rw (p.1, p.2) (dc_provider c.args.self.now (texts fs) (field fs 0) (field fs 1) (field fs 2) (field fs 3) (field fs 4) c.in_ok-name.name c.in_err-provider.field-0.0 all c.in_ok-name.ensures.name c.in_err-provider.ensures.name)

pub returns-in_err-price-clause-fault : goal.returns-in_err-price-clause-fault
returns-in_err-price-clause-fault c =
    let fs = c.args.fields.now in
    let all = five_fields fs c.in-len5.len_at_least c.in-len5.len_below in
    let p = err_from_is_err_and c.from_residual-in_err-price.result c.from_residual-in_err-price.ensures.1 in
    rw (p.1, p.2) (dc_price c.args.self.now (texts fs) (field fs 0) (field fs 1) (field fs 2) (field fs 3) (field fs 4) c.in_ok-name.name c.in_ok-provider.provider c.in_err-price.field-0.0 all c.in_ok-name.ensures.name c.in_ok-provider.ensures.name (sym c.in_err-price.ensures.price))

pub returns-in_err-add_dc-clause-fault : goal.returns-in_err-add_dc-clause-fault
returns-in_err-add_dc-clause-fault c =
    let fs = c.args.fields.now in
    let all = five_fields fs c.in-len5.len_at_least c.in-len5.len_below in
    let made : Centre = record { name = c.in_ok-name.name; provider = c.in_ok-provider.provider; price = c.in_ok-price.price } in
    let p = err_from_is_err_and c.from_residual-in_err-add_dc.result c.from_residual-in_err-add_dc.ensures.1 in
    let due = centre_err c.args.self.now.tables made c.in_err-add_dc.field-0.0 c.in_ok-price.ensures.within c.in_err-add_dc.ensures.fault in
    rw (p.1, p.2) (dc_refused c.args.self.now (texts fs) (field fs 0) (field fs 1) (field fs 2) (field fs 3) (field fs 4) c.in_ok-name.name c.in_ok-provider.provider c.in_ok-price.price _ all c.in_ok-name.ensures.name c.in_ok-provider.ensures.name (sym c.in_ok-price.ensures.price) due)

pub returns-clause-ok : goal.returns-clause-ok
returns-clause-ok c =
    let fs = c.args.fields.now in
    let all = five_fields fs c.in-len5.len_at_least c.in-len5.len_below in
    let made : Centre = record { name = c.in_ok-name.name; provider = c.in_ok-provider.provider; price = c.in_ok-price.price } in
    let added = centre_ok c.args.self.now.tables made c.in_ok-price.ensures.within c.in_ok-add_dc.ensures.ok.0 ∙ ap Ok (sym c.in_ok-add_dc.ensures.added) in
    dc_taken c.args.self.now (texts fs) (field fs 0) (field fs 1) (field fs 2) (field fs 3) (field fs 4) c.in_ok-name.name c.in_ok-provider.provider c.in_ok-price.price c.add_dc.new.self all c.in_ok-name.ensures.name c.in_ok-provider.ensures.name (sym c.in_ok-price.ensures.price) added
