use Rattle.std.proofs.Common.{◌∙◌, ◌-◌, Ok, length, take, drop, sym, ap, subst}
use Rattle.std.specs.Prelude.{IfErr}
use Rattle.std.proofs.lemmas.Result.{err_from_is_err_and, on_ok_weaker}
use Rattle.world_text.specs.declared.kinds.Kind.TheVariants as kind
use Rattle.world_text.specs.Steps.{IsDue}
use Rattle.world_text.proofs.FieldTests.{field, texts, no_fields, one_field_up}
use Rattle.world_text.proofs.AnySteps.{first_is, no_kind, kind_unknown, kind_is}
use Rattle.world_text.proofs.draft.Draft.take.Goals as goal

pub returns-in_default-clause-ok : goal.returns-in_default-clause-ok
returns-in_default-clause-ok c =
    let same = first_is c.args.self.now (texts c.args.fields.now) c.in_default.is in
    on_ok_weaker c.open.result (λ h. same ∙ h) c.open.ensures.ok

pub returns-in_default-clause-fault : goal.returns-in_default-clause-fault
returns-in_default-clause-fault c =
    let same = first_is c.args.self.now (texts c.args.fields.now) c.in_default.is in
    subst (λ due. IfErr c.open.result (IsDue due)) (sym same) c.open.ensures.fault

pub returns-in_default-fields-clause-fault : goal.returns-in_default-fields-clause-fault
returns-in_default-fields-clause-fault c =
    let fs = c.args.fields.now in
    rw c.bad.ensures (no_kind c.args.self.now c.in-Some.version (texts fs) c.in-Some.is (no_fields fs c.in_default-fields.len_below))

pub returns-in_err-kind_of-clause-fault : goal.returns-in_err-kind_of-clause-fault
returns-in_err-kind_of-clause-fault c =
    let fs = c.args.fields.now in
    let all = one_field_up fs c.in-len1-up.len_at_least in
    let p = err_from_is_err_and c.from_residual.result c.from_residual.ensures.1 in
    rw (p.1, p.2) (kind_unknown c.args.self.now c.in-Some.version (texts fs) (field fs 0) (texts (take (length fs - 1) (drop 1 fs))) c.in_err-kind_of.field-0.0 c.in-Some.is all (sym c.in_err-kind_of.ensures))

pub returns-in-Centre-clause-ok : goal.returns-in-Centre-clause-ok
returns-in-Centre-clause-ok c =
    let fs = c.args.fields.now in
    let all = one_field_up fs c.in-len1-up.len_at_least in
    let same = kind_is c.args.self.now c.in-Some.version (texts fs) (field fs 0) (texts (take (length fs - 1) (drop 1 fs))) kind.Centre c.in-Some.is all (sym c.in_ok-kind_of.ensures ∙ ap Ok c.in-Centre.is) in
    on_ok_weaker c.take_dc.result (λ h. same ∙ h) c.take_dc.ensures.ok

pub returns-in-Centre-clause-fault : goal.returns-in-Centre-clause-fault
returns-in-Centre-clause-fault c =
    let fs = c.args.fields.now in
    let all = one_field_up fs c.in-len1-up.len_at_least in
    let same = kind_is c.args.self.now c.in-Some.version (texts fs) (field fs 0) (texts (take (length fs - 1) (drop 1 fs))) kind.Centre c.in-Some.is all (sym c.in_ok-kind_of.ensures ∙ ap Ok c.in-Centre.is) in
    subst (λ due. IfErr c.take_dc.result (IsDue due)) (sym same) c.take_dc.ensures.fault

pub returns-in-Link-clause-ok : goal.returns-in-Link-clause-ok
returns-in-Link-clause-ok c =
    let fs = c.args.fields.now in
    let all = one_field_up fs c.in-len1-up.len_at_least in
    let same = kind_is c.args.self.now c.in-Some.version (texts fs) (field fs 0) (texts (take (length fs - 1) (drop 1 fs))) kind.Link c.in-Some.is all (sym c.in_ok-kind_of.ensures ∙ ap Ok c.in-Link.is) in
    on_ok_weaker c.take_link.result (λ h. same ∙ h) c.take_link.ensures.ok

pub returns-in-Link-clause-fault : goal.returns-in-Link-clause-fault
returns-in-Link-clause-fault c =
    let fs = c.args.fields.now in
    let all = one_field_up fs c.in-len1-up.len_at_least in
    let same = kind_is c.args.self.now c.in-Some.version (texts fs) (field fs 0) (texts (take (length fs - 1) (drop 1 fs))) kind.Link c.in-Some.is all (sym c.in_ok-kind_of.ensures ∙ ap Ok c.in-Link.is) in
    subst (λ due. IfErr c.take_link.result (IsDue due)) (sym same) c.take_link.ensures.fault

pub returns-in-Set-clause-ok : goal.returns-in-Set-clause-ok
returns-in-Set-clause-ok c =
    let fs = c.args.fields.now in
    let all = one_field_up fs c.in-len1-up.len_at_least in
    let same = kind_is c.args.self.now c.in-Some.version (texts fs) (field fs 0) (texts (take (length fs - 1) (drop 1 fs))) kind.Set c.in-Some.is all (sym c.in_ok-kind_of.ensures ∙ ap Ok c.in-Set.is) in
    on_ok_weaker c.take_set.result (λ h. same ∙ h) c.take_set.ensures.ok

pub returns-in-Set-clause-fault : goal.returns-in-Set-clause-fault
returns-in-Set-clause-fault c =
    let fs = c.args.fields.now in
    let all = one_field_up fs c.in-len1-up.len_at_least in
    let same = kind_is c.args.self.now c.in-Some.version (texts fs) (field fs 0) (texts (take (length fs - 1) (drop 1 fs))) kind.Set c.in-Some.is all (sym c.in_ok-kind_of.ensures ∙ ap Ok c.in-Set.is) in
    subst (λ due. IfErr c.take_set.result (IsDue due)) (sym same) c.take_set.ensures.fault

pub returns-in-Use-clause-ok : goal.returns-in-Use-clause-ok
returns-in-Use-clause-ok c =
    let fs = c.args.fields.now in
    let all = one_field_up fs c.in-len1-up.len_at_least in
    let same = kind_is c.args.self.now c.in-Some.version (texts fs) (field fs 0) (texts (take (length fs - 1) (drop 1 fs))) kind.Use c.in-Some.is all (sym c.in_ok-kind_of.ensures ∙ ap Ok c.in-Use.is) in
    on_ok_weaker c.take_use.result (λ h. same ∙ h) c.take_use.ensures.ok

pub returns-in-Use-clause-fault : goal.returns-in-Use-clause-fault
returns-in-Use-clause-fault c =
    let fs = c.args.fields.now in
    let all = one_field_up fs c.in-len1-up.len_at_least in
    let same = kind_is c.args.self.now c.in-Some.version (texts fs) (field fs 0) (texts (take (length fs - 1) (drop 1 fs))) kind.Use c.in-Some.is all (sym c.in_ok-kind_of.ensures ∙ ap Ok c.in-Use.is) in
    subst (λ due. IfErr c.take_use.result (IsDue due)) (sym same) c.take_use.ensures.fault
