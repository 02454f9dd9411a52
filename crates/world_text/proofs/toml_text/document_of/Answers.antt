use Rattle.std.proofs.Common.{◌≡◌, Bool, true, false, List, ℕ, IsUtf8, Err, refl}
use Rattle.std.proofs.lemmas.Str.{IsUtf8-from_is_utf8, is_utf8-from_IsUtf8}
use Rattle.std.specs.Str.{is_utf8}
use Rattle.span_base.specs.declared.words.Cause.TheVariants as cause
use Rattle.world_text.specs.declared.fault.Fault.TheVariants.{Bad}
use Rattle.world_text.specs.Toml.{toml_says}
use Rattle.world_text.proofs.toml_text.document_of.Goals as goal

no_text : (bytes : List ℕ) → ¬ IsUtf8 bytes → toml_says bytes ≡ Err (0, Bad cause.Toml)
no_text bytes none = by (is_utf8 bytes) refl
  where
    by : (b : Bool) → is_utf8 bytes ≡ b → toml_says bytes ≡ Err (0, Bad cause.Toml)
    by true e = absurd (none (IsUtf8-from_is_utf8 bytes e))
    by false e = rw e refl

pub returns-in_default-clause-fault : goal.returns-in_default-clause-fault
returns-in_default-clause-fault c = rw c.whole.ensures (no_text c.args.text.now c.in_default.ensures.cases.0)

pub returns-in-Ok-table_from_str-clause-document : goal.returns-in-Ok-table_from_str-clause-document
returns-in-Ok-table_from_str-clause-document c =
    let utf8 : is_utf8 c.args.text.now ≡ true = is_utf8-from_IsUtf8 c.args.text.now c.in-Ok.ensures.cases.1 in
    let parsed = rw c.in-Ok.ensures.cases.0 at c.in-Ok-table_from_str.ensures.ok in
    rw (utf8, parsed) refl
