use Rattle.std.proofs.Common.{◌≡◌, SFits, w64, Some, option_map, sym, ap, ◌∙◌}
use Rattle.std.proofs.Math.Facts.{to_z-of_z}
use Rattle.std.specs.Fmt.{signed_decimal}
use Rattle.toml.specs.View.{view}
use Rattle.world_text.proofs.Members.{text_is, number_is}
use Rattle.world_text.proofs.toml_tables.field_at.Goals as goal

pub returns-in_err-value_at-in-Text : goal.returns-in_err-value_at-in-Text
returns-in_err-value_at-in-Text c = rw (c.from_residual.ensures, c.in-Text.is, ← c.in_err-value_at-in-Text.ensures)

pub returns-in_err-as_str-in-Text : goal.returns-in_err-as_str-in-Text
returns-in_err-as_str-in-Text c =
    rw (c.from_residual-in_err-as_str-in-Text.ensures, c.in-Text.is, ← c.in_ok-value_at-in-Text.ensures)
    (c.in_err-as_str-in-Text.ensures ∙ sym (text_is (view c.in_ok-value_at-in-Text.field-0.now)))

pub returns-in_err-value_at-in-Number : goal.returns-in_err-value_at-in-Number
returns-in_err-value_at-in-Number c = rw (c.from_residual-in_err-value_at-in-Number.ensures, c.in-Number.is, ← c.in_err-value_at-in-Number.ensures)

pub returns-in_err-number-in-Number : goal.returns-in_err-number-in-Number
returns-in_err-number-in-Number c =
    rw (c.from_residual-in_err-number-in-Number.ensures, c.in-Number.is, ← c.in_ok-value_at-in-Number.ensures)
    (ap (option_map signed_decimal) c.in_err-number-in-Number.ensures ∙ sym (number_is (view c.in_ok-value_at-in-Number.field-0.now)))

pub returns-in_ok-number-in-Number : goal.returns-in_ok-number-in-Number
returns-in_ok-number-in-Number c =
    let z = c.in_ok-number-in-Number.number in
    let was : c.as_integer.result ≡ Some z = c.in_ok-number-in-Number.was in
    let known = rw was at c.as_integer.type_inv in
    let fits : SFits w64 z = assumption known in
    let text : c.as_bytes-in-Number.result.now ≡ signed_decimal z = c.as_bytes-in-Number.ensures.value ∙ c.format.ensures.text ∙ ap signed_decimal (to_z-of_z fits) in
    rw (c.in-Number.is, ← c.in_ok-value_at-in-Number.ensures, text)
    (ap (option_map signed_decimal) c.in_ok-number-in-Number.ensures ∙ sym (number_is (view c.in_ok-value_at-in-Number.field-0.now)))
