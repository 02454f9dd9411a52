use Rattle.std.proofs.Common.{◌∙◌, ◌-◌, Ok, length, take, drop, ◌<◌, sym, ap, arith, rules}
use Rattle.std.proofs.lemmas.Result.{err_from_is_err_and}
use Rattle.price_tables.specs.Tables.{count_of}
use Rattle.world_text.proofs.FieldTests.{field, texts, texts_length, seven_fields_up}
use Rattle.world_text.proofs.ProviderFields.{eight_fields, other_fields, few_fields}
use Rattle.world_text.proofs.SetSteps.{set_fields, set_name, set_rule, set_refused, set_taken}
use Rattle.world_text.proofs.Adding.{set_ok, set_err, one_more_set}
use Rattle.world_text.proofs.draft.Draft.take_set.Goals as goal

pub returns-in_default-clause-fault : goal.returns-in_default-clause-fault
returns-in_default-clause-fault c =
    let fs = c.args.fields.now in
    let short : length fs < 7 = search rules in
    let few : length (texts fs) < 7 = omega (arith, texts_length fs) in
    rw c.bad.ensures (set_fields c.args.version c.args.self.now (texts fs) (few_fields c.args.version (texts fs) few))

pub returns-in_default-providers_field-clause-fault : goal.returns-in_default-providers_field-clause-fault
returns-in_default-providers_field-clause-fault c =
    let fs = c.args.fields.now in
    let v = c.args.version in
    let rest = texts (take (length fs - 7) (drop 7 fs)) in
    let seven = seven_fields_up fs c.in-len7-up.len_at_least in
    rw c.bad-in_default-providers_field.ensures (set_fields v c.args.self.now (texts fs) (other_fields v (texts fs) rest (field fs 0) (field fs 1) (field fs 2) (field fs 3) (field fs 4) (field fs 5) (field fs 6) seven c.in_default-providers_field.ensures.none))

pub returns-in_err-name-clause-fault : goal.returns-in_err-name-clause-fault
returns-in_err-name-clause-fault c =
    let fs = c.args.fields.now in
    let v = c.args.version in
    let rest = texts (take (length fs - 7) (drop 7 fs)) in
    let seven = seven_fields_up fs c.in-len7-up.len_at_least in
    let all = eight_fields v (texts fs) rest (field fs 0) (field fs 1) (field fs 2) (field fs 3) (field fs 4) (field fs 5) (field fs 6) c.in-Some.providers.now seven c.in-Some.ensures.some in
    let p = err_from_is_err_and c.from_residual.result c.from_residual.ensures.1 in
    rw (p.1, p.2) (set_name v c.args.self.now (texts fs) (field fs 0) (field fs 1) (field fs 2) (field fs 3) (field fs 4) (field fs 5) (field fs 6) c.in-Some.providers.now c.in_err-name.field-0.0 all c.in_err-name.ensures.name)

pub returns-in_err-rule-clause-fault : goal.returns-in_err-rule-clause-fault
returns-in_err-rule-clause-fault c =
    let fs = c.args.fields.now in
    let v = c.args.version in
    let rest = texts (take (length fs - 7) (drop 7 fs)) in
    let seven = seven_fields_up fs c.in-len7-up.len_at_least in
    let all = eight_fields v (texts fs) rest (field fs 0) (field fs 1) (field fs 2) (field fs 3) (field fs 4) (field fs 5) (field fs 6) c.in-Some.providers.now seven c.in-Some.ensures.some in
    let p = err_from_is_err_and c.from_residual-in_err-rule.result c.from_residual-in_err-rule.ensures.1 in
    rw (p.1, p.2) (set_rule v c.args.self.now (texts fs) (field fs 0) (field fs 1) (field fs 2) (field fs 3) (field fs 4) (field fs 5) (field fs 6) c.in-Some.providers.now c.in_ok-name.name c.in_err-rule.field-0.0 all c.in_ok-name.ensures.name (sym c.in_err-rule.ensures.rule))

pub returns-in_err-add_set-clause-fault : goal.returns-in_err-add_set-clause-fault
returns-in_err-add_set-clause-fault c =
    let fs = c.args.fields.now in
    let v = c.args.version in
    let rest = texts (take (length fs - 7) (drop 7 fs)) in
    let seven = seven_fields_up fs c.in-len7-up.len_at_least in
    let all = eight_fields v (texts fs) rest (field fs 0) (field fs 1) (field fs 2) (field fs 3) (field fs 4) (field fs 5) (field fs 6) c.in-Some.providers.now seven c.in-Some.ensures.some in
    let p = err_from_is_err_and c.from_residual-in_err-add_set.result c.from_residual-in_err-add_set.ensures.1 in
    let due = set_err c.args.self.now.load c.in_ok-name.name c.in_ok-rule.rule c.in_err-add_set.field-0.0 c.in_ok-rule.ensures.within c.in_err-add_set.ensures.fault in
    rw (p.1, p.2) (set_refused v c.args.self.now (texts fs) (field fs 0) (field fs 1) (field fs 2) (field fs 3) (field fs 4) (field fs 5) (field fs 6) c.in-Some.providers.now c.in_ok-name.name c.in_ok-rule.rule _ all c.in_ok-name.ensures.name (sym c.in_ok-rule.ensures.rule) due)

pub returns-clause-ok : goal.returns-clause-ok
returns-clause-ok c =
    let fs = c.args.fields.now in
    let v = c.args.version in
    let rest = texts (take (length fs - 7) (drop 7 fs)) in
    let seven = seven_fields_up fs c.in-len7-up.len_at_least in
    let all = eight_fields v (texts fs) rest (field fs 0) (field fs 1) (field fs 2) (field fs 3) (field fs 4) (field fs 5) (field fs 6) c.in-Some.providers.now seven c.in-Some.ensures.some in
    let added = set_ok c.args.self.now.load c.in_ok-name.name c.in_ok-rule.rule c.in_ok-rule.ensures.within c.in_ok-add_set.ensures.ok.0 ∙ ap Ok (sym c.in_ok-add_set.ensures.added) in
    set_taken v c.args.self.now (texts fs) (field fs 0) (field fs 1) (field fs 2) (field fs 3) (field fs 4) (field fs 5) (field fs 6) c.in-Some.providers.now c.in_ok-name.name c.in_ok-rule.rule c.add_set.new.self all c.in_ok-name.ensures.name (sym c.in_ok-rule.ensures.rule) added

pub returns-clause-in_centres : goal.returns-clause-in_centres
returns-clause-in_centres c =
    rw c.in_ok-add_set.ensures.added (one_more_set (count_of c.args.self.now.tables) c.args.self.now.load c.in_ok-name.name c.in_ok-rule.rule c.requires)
