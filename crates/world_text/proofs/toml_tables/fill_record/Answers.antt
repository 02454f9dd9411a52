use Rattle.std.proofs.Common.{◌≡◌, [], ◌∷◌, ◌++◌, map, sym, ◌∙◌, ap}
use Rattle.csv.specs.Records.{fields_of}
use Rattle.toml.specs.View.{view, table_view}
use Rattle.world_text.specs.Toml.{key_count, fields_at, kind_word}
use Rattle.world_text.specs.Taken.{key_of}
use Rattle.world_text.proofs.Members.{entry_is, key_count-view}
use Rattle.world_text.proofs.Filling.{other_count, same_count, joined, left_none, left_one, left_all}
use Rattle.world_text.proofs.toml_tables.fill_record.Goals as goal

pub returns-then-len-keys : goal.returns-then-len-keys
returns-then-len-keys c =
    let t = table_view c.in-Some.table.now in
    let entry = entry_is c.args.version c.args.kind (view c.args.value.now) t (sym c.in-Some.ensures) in
    let counted : c.len.result ≡ key_count t = c.len.ensures.len ∙ sym (key_count-view c.in-Some.table.now.entries) in
    entry ∙ other_count c.args.version c.args.kind t c.len.result c.keys_of-keys.result.now counted c.keys_of-keys.ensures c.if-len-keys.true

pub loop-key-init : goal.loop-key-init
loop-key-init c =
    let t = table_view c.in-Some.table.now in
    let entry = entry_is c.args.version c.args.kind (view c.args.value.now) t (sym c.in-Some.ensures) in
    let counted : c.len.result ≡ key_count t = c.len.ensures.len ∙ sym (key_count-view c.in-Some.table.now.entries) in
    let whole = same_count c.args.version c.args.kind t c.len.result c.keys_of-keys.result.now counted c.keys_of-keys.ensures c.if-len-keys.false in
    let word = c.as_bytes.ensures.value ∙ c.word.ensures in
    let row : fields_of c.push_field.new.self ≡ kind_word c.args.kind ∷ [] = rw (c.clear.ensures.fields, c.clear.ensures.partial, word) at c.in_ok-push_field.ensures.fields in
    record {
      fields = entry ∙ whole ∙ ap (λ front. joined front (fields_at t (map key_of c.keys_of-keys.result.now))) (sym row);
      partial = c.in_ok-push_field.ensures.partial;
    }

pub returns-in_default-field_at : goal.returns-in_default-field_at
returns-in_default-field_at c =
    c.loop-key.invariant.fields
    ∙ left_none (table_view c.in-Some.table.now) (fields_of c.loop-key.row) c.keys_of-keys.result.now c.loop-key.key-index c.loop-key-test.true c.in_default-field_at.ensures

pub loop-key-preserved : goal.loop-key-preserved
loop-key-preserved c =
    let t = table_view c.in-Some.table.now in
    let keys = c.keys_of-keys.result.now in
    let i = c.loop-key.key-index in
    let more = left_one t (fields_of c.loop-key.row) keys i c.in-Some-field_at.field.now c.loop-key-test.true c.in-Some-field_at.ensures in
    let row : fields_of c.push_field-in-loop-key.new.self ≡ fields_of c.loop-key.row ++ c.in-Some-field_at.field.now ∷ [] =
    rw c.loop-key.invariant.partial at c.in_ok-push_field-2.ensures.fields in
    record {
      fields = rw row (c.loop-key.invariant.fields ∙ more);
      partial = c.in_ok-push_field-2.ensures.partial;
    }

pub returns : goal.returns
returns c =
    c.loop-key.invariant.fields
    ∙ left_all (table_view c.in-Some.table.now) (fields_of c.loop-key.row) c.keys_of-keys.result.now c.loop-key.key-index c.loop-key-test.false
